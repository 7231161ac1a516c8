-- Spans that follow one another by their begins and by their ends alike.
use Rattle.std.specs.Prelude.{◌≡◌, ◌≤◌, ◌-◌, ◌++◌, ℕ, Bool, true, false, not, ⊤, List, [], ◌∷◌, length, take, drop}
use Rattle.std.specs.List.{AllByRecursion, AllWithin, filter, list_any}
use Rattle.std.specs.Ordering.{is_lt, is_gt}
use Rattle.plain_orders.specs.PairMap.{key_cmp}
use Rattle.subscript_keys.specs.declared.span.Span.{Span}
use Rattle.end_words.specs.Runs.{contains, meets}
use Rattle.span_index.specs.declared.numbered.Numbered.{Numbered}

-- it begins before the key
abbrev pub begins_before : List ℕ → Numbered → Bool
begins_before key x = is_lt (key_cmp x.span.lo key)

-- it begins at or before the key
abbrev pub begins_by : List ℕ → Numbered → Bool
begins_by key x = not (is_gt (key_cmp x.span.lo key))

-- it ends before the key
abbrev pub ends_before : List ℕ → Numbered → Bool
ends_before key x = is_lt (key_cmp x.span.hi key)

-- it ends at or before the key
abbrev pub ends_by : List ℕ → Numbered → Bool
ends_by key x = not (is_gt (key_cmp x.span.hi key))

-- some byte string is in the span
abbrev pub is_full : Span → Bool
is_full span = is_lt (key_cmp span.lo span.hi)

-- neither its begin nor its end is behind the other's
abbrev pub IsBefore : Numbered → Numbered → Type 0
IsBefore x y = (is_gt (key_cmp x.span.lo y.span.lo) ≡ false) × (is_gt (key_cmp x.span.hi y.span.hi) ≡ false)

-- each is before all that follow it
abbrev pub Rises : List Numbered → Type 0
Rises [] = ⊤
Rises (x ∷ xs) = AllByRecursion (IsBefore x) xs × Rises xs

-- none is empty
abbrev pub AllFull : List Numbered → Type 0
AllFull xs = AllByRecursion (λ x. is_full x.span ≡ true) xs

-- the first so many pass the test, and no others
abbrev pub IsFront : (Numbered → Bool) → List Numbered → ℕ → Type 0
IsFront test xs n = (n ≤ length xs) × AllWithin (λ x. test x ≡ true) xs 0 n × AllWithin (λ x. test x ≡ false) xs n (length xs)

-- what passes the test stands from the first place up to the last
pub record IsRange (test : Numbered → Bool) (xs : List Numbered) (first last : ℕ) : Type 0 where
  pub order : first ≤ last
  pub fits : last ≤ length xs
  pub inside : filter test xs ≡ take (last - first) (drop first xs)
  pub outside : filter (λ x. not (test x)) xs ≡ take first xs ++ drop last xs

-- it meets the span
abbrev pub meets_it : Span → Numbered → Bool
meets_it span x = meets x.span span

-- it holds the key
abbrev pub holds_it : List ℕ → Numbered → Bool
holds_it key x = contains x.span key

-- one of the spans meets it
abbrev pub touches : List Span → Numbered → Bool
touches spans x = list_any (meets x.span) spans

-- none does
abbrev pub stays : List Span → Numbered → Bool
stays spans x = not (touches spans x)
