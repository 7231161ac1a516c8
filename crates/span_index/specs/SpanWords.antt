-- Spans with their owners, in the order in which they were put.
use Rattle.std.specs.Prelude.{ℕ, Bool, ◌==◌, ◌&&◌, not, nat_lt, if◌then◌else◌, List, [], ◌∷◌, map}
use Rattle.std.specs.List.{filter, list_any}
use Rattle.subscript_keys.specs.declared.span.Span.{Span}
use Rattle.end_words.specs.Runs.{contains, meets, same_span}
use Rattle.span_index.specs.declared.owned.Owned.{Owned}
use Rattle.span_index.specs.declared.numbered.Numbered.{Numbered}
use Rattle.span_index.specs.declared.found.Found.{Found}
use Rattle.span_index.specs.declared.found.Found.TheVariants.{Nowhere, Once, Often}

-- without the number
abbrev pub owned_of : Numbered → Owned
owned_of x = record { owner = x.owner; span = x.span }

-- one more by its number
abbrev pub put_in : Numbered → List Numbered → List Numbered
put_in x [] = x ∷ []
put_in x (y ∷ ys) = if nat_lt y.number x.number then y ∷ put_in x ys else x ∷ y ∷ ys

-- in the order of their numbers
abbrev pub in_order : List Numbered → List Numbered
in_order [] = []
in_order (x ∷ xs) = put_in x (in_order xs)

-- what was put, in its order
abbrev pub owned_in : List Numbered → List Owned
owned_in xs = map owned_of (in_order xs)

-- the owner's, of this very span
abbrev pub is_owned_at : ℕ → Span → Owned → Bool
is_owned_at owner span x = x.owner == owner && same_span x.span span

-- one of the spans meets it
abbrev pub is_touched : List Span → Owned → Bool
is_touched spans x = list_any (meets x.span) spans

-- none does
abbrev pub is_untouched : List Span → Owned → Bool
is_untouched spans x = not (is_touched spans x)

-- those that meet one of the spans
abbrev pub touched : List Span → List Owned → List Owned
touched spans xs = filter (is_touched spans) xs

-- those that stay
abbrev pub untouched : List Span → List Owned → List Owned
untouched spans xs = filter (is_untouched spans) xs

-- another owner's
abbrev pub is_of_other : ℕ → Owned → Bool
is_of_other owner x = not (x.owner == owner)

-- without those of an owner
abbrev pub without_owner : ℕ → List Owned → List Owned
without_owner owner xs = filter (is_of_other owner) xs

-- it holds the key
abbrev pub holds : List ℕ → Owned → Bool
holds key x = contains x.span key

-- none, the only one's owner, or more than one
abbrev pub found_of : List Owned → Found
found_of [] = Nowhere
found_of (x ∷ []) = Once x.owner
found_of (x ∷ y ∷ ys) = Often
