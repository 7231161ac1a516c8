-- Notes as spans of their sessions: a test of one is the test of the other.
use Rattle.std.proofs.Common.{◌≡◌, ℕ, Bool, true, false, cond, ◌||◌, List, [], ◌∷◌, ◌++◌, filter, map, refl, sym, ap, ◌∙◌}
use Rattle.std.specs.List.{list_any}
use Rattle.span_index.specs.declared.owned.Owned.{Owned}
use Rattle.span_index.specs.declared.numbered.Numbered.{Numbered}
use Rattle.span_index.specs.SpanWords.{is_owned_at, owned_of}
use Rattle.subscript_keys.specs.declared.span.Span.{Span}
use Rattle.block_holders.specs.HolderWords.{is_noted, is_noted_at, with_noted}
use Rattle.block_holders.specs.declared.noted.Noted.{Noted}
use Rattle.block_holders.specs.Notes.{noted_of, noted_at}

module _ (t : Noted → Bool) where
  abbrev pub owned_passes : Owned → Bool
  owned_passes x = t (noted_of x)

  pub filter-noted : (xs : List Owned) → filter t (map noted_of xs) ≡ map noted_of (filter owned_passes xs)
  filter-noted [] = refl
  filter-noted (x ∷ xs) = elim (t (noted_of x)) as (λ b. cond b (noted_of x ∷ filter t (map noted_of xs)) (filter t (map noted_of xs)) ≡ map noted_of (cond b (x ∷ filter owned_passes xs) (filter owned_passes xs))) [
    | true ↦ ap (λ ys. noted_of x ∷ ys) (filter-noted xs)
    | false ↦ filter-noted xs
  ]

  pub any-noted : (xs : List Owned) → list_any t (map noted_of xs) ≡ list_any owned_passes xs
  any-noted [] = refl
  any-noted (x ∷ xs) = ap (λ b. t (noted_of x) || b) (any-noted xs)

pub map-noted : (xs : List Numbered) → map noted_at xs ≡ map noted_of (map owned_of xs)
map-noted [] = refl
map-noted (x ∷ xs) = ap (λ ys. noted_at x ∷ ys) (map-noted xs)

pub map-noted-push : (xs : List Owned) (x : Owned) → map noted_of (xs ++ x ∷ []) ≡ map noted_of xs ++ noted_of x ∷ []
map-noted-push [] x = refl
map-noted-push (y ∷ xs) x = ap (λ ys. noted_of y ∷ ys) (map-noted-push xs x)

module _ (session : ℕ) (span : Span) (notes : List Owned) where
  -- a span that is there isn't noted again
  pub there-noted : true ≡ list_any (is_owned_at session span) notes → map noted_of notes ≡ with_noted session span (map noted_of notes)
  there-noted e = let there : is_noted session span (map noted_of notes) ≡ true = any-noted (is_noted_at session span) notes ∙ sym e in rw there refl

  -- one that isn't there goes behind the others
  pub put-noted : false ≡ list_any (is_owned_at session span) notes → map noted_of (notes ++ record { owner = session; span = span } ∷ []) ≡ with_noted session span (map noted_of notes)
  put-noted e =
      let none : is_noted session span (map noted_of notes) ≡ false = any-noted (is_noted_at session span) notes ∙ sym e in
      rw none (map-noted-push notes (record { owner = session; span = span }))
