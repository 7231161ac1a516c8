-- What `Span::meets` and `Span::contains` answer are the words on runs.
use Rattle.std.proofs.Common.{◌≡◌, ◌≢◌, ◌↔◌, Bool, true, false, not, ℕ, List, refl, ap}
use Rattle.std.specs.Ordering.{nat_cmp, is_lt, is_gt}
use Rattle.std.specs.Cmp.Lexicographic.{slice_cmp}
use Rattle.std.specs.declared.cmp.Ordering.{Ordering}
use Rattle.std.specs.declared.cmp.Ordering.TheVariants.{Less, Equal, Greater}
use Rattle.std.proofs.lemmas.Bool.{and_parts, and_from}
use Rattle.subscript_keys.specs.declared.span.Span.{Span}
use Rattle.subscript_keys.specs.Span.{IsIn, Meet}
use Rattle.subscript_keys.proofs.SpansMeet.{meet-tests}
use Rattle.end_words.specs.Runs.{contains, meets}

-- two tests that decide one fact
same_tests : (r t : Bool) → (r ≡ true → t ≡ true) → (t ≡ true → r ≡ true) → r ≡ t
same_tests true true there back = refl
same_tests true false there back = let e = there refl in cc
same_tests false true there back = let e = back refl in cc
same_tests false false there back = refl

not_above : (o : Ordering) → o ≢ Greater → not (is_gt o) ≡ true
not_above Less h = refl
not_above Equal h = refl
not_above Greater h = absurd (h refl)

is_not_above : (o : Ordering) → not (is_gt o) ≡ true → o ≢ Greater
is_not_above Less e g = cc
is_not_above Equal e g = cc
is_not_above Greater e g = cc

is_below : (o : Ordering) → is_lt o ≡ true → o ≡ Less
is_below Less e = refl
is_below Equal e = cc
is_below Greater e = cc

-- some byte string is in both spans
pub meets_is : (r : Bool) (a b : Span) → (r ≡ true) ↔ Meet a.lo a.hi b.lo b.hi → r ≡ meets a b
meets_is r a b h =
    let tests = meet-tests a.lo a.hi b.lo b.hi in
    same_tests r (meets a b) (λ e. tests.1 (h.0 e)) (λ e. h.1 (tests.0 e))

contains_from : (s : Span) (key : List ℕ) → IsIn s.lo s.hi key → contains s key ≡ true
contains_from s key h = and_from _ _ (not_above (slice_cmp nat_cmp s.lo key) h.from) (ap is_lt h.to)

is_in_from : (s : Span) (key : List ℕ) → contains s key ≡ true → IsIn s.lo s.hi key
is_in_from s key e =
    let parts = and_parts _ _ e in
    record { from = is_not_above (slice_cmp nat_cmp s.lo key) parts.0; to = is_below (slice_cmp nat_cmp key s.hi) parts.1 }

-- the key is in the span
pub contains_is : (r : Bool) (s : Span) (key : List ℕ) → (r ≡ true) ↔ IsIn s.lo s.hi key → r ≡ contains s key
contains_is r s key h = same_tests r (contains s key) (λ e. contains_from s key (h.0 e)) (λ e. h.1 (is_in_from s key e))
