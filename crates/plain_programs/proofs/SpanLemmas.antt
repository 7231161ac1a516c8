-- Byte strings against the end of the span of a node and its descendants.
use Rattle.std.proofs.Common.{◌≡◌, ℕ, List, [], ◌∷◌, ◌++◌, refl, ap, sym, ◌∙◌, Bool, true, false, length, drop, nat_eq, nat_lt, ◌&&◌, zero, suc, ◌<◌, get_or, drop-cons, cond, arith, ◌↔◌}
use Rattle.std.specs.declared.cmp.Ordering.{Ordering}
use Rattle.std.specs.declared.cmp.Ordering.TheVariants.{Less, Equal, Greater}
use Rattle.std.specs.Ordering.{nat_cmp, ordering_then, is_lt, is_ge}
use Rattle.std.specs.Cmp.Lexicographic.{slice_cmp}
use Rattle.std.specs.List.{starts_with}
use Rattle.std.proofs.lemmas.Bool.{eqb-true, eq-eqb, and_parts, false≢true}
use Rattle.subscript_keys.proofs.Orders.{nat_cmp-eq}
use Rattle.subscript_keys.specs.Span.{Meet, span_lo, span_hi}
use Rattle.subscript_keys.proofs.SpansMeet.{crossing-from, meet-from}
use Rattle.subscript_keys.proofs.Ties.{same_numbers}

-- what begins with the node goes on against the byte FF
pub end-under : (k l : List ℕ) → starts_with nat_eq l k ≡ true → slice_cmp nat_cmp l (k ++ 0xFF ∷ []) ≡ slice_cmp nat_cmp (drop (length k) l) (0xFF ∷ [])
end-under [] l h = refl
end-under (x ∷ k) [] h = absurd (false≢true h)
end-under (x ∷ k) (y ∷ l) h =
    let p = and_parts (nat_eq x y) (starts_with nat_eq l k) h in
    ap (λ o. ordering_then o (slice_cmp nat_cmp l (k ++ 0xFF ∷ []))) (nat_cmp-eq y x (sym (eqb-true x y p.0))) ∙ end-under k l p.1

-- what doesn't compares as with the node
pub end-apart : (k l : List ℕ) → starts_with nat_eq l k ≡ false → slice_cmp nat_cmp l (k ++ 0xFF ∷ []) ≡ slice_cmp nat_cmp l k
end-apart [] l h = absurd (false≢true (sym h))
end-apart (x ∷ k) [] h = refl
end-apart (x ∷ k) (y ∷ l) h = go (nat_cmp y x) refl (λ e. end-apart k l e)
  where
    tail : (a b : Bool) → (a && b) ≡ false → a ≡ true → b ≡ false
    tail true b e t = e
    tail false b e t = absurd (false≢true t)

    go : (o : Ordering) → nat_cmp y x ≡ o → (starts_with nat_eq l k ≡ false → slice_cmp nat_cmp l (k ++ 0xFF ∷ []) ≡ slice_cmp nat_cmp l k) → ordering_then (nat_cmp y x) (slice_cmp nat_cmp l (k ++ 0xFF ∷ [])) ≡ ordering_then (nat_cmp y x) (slice_cmp nat_cmp l k)
    go Less e more = rw e refl
    go Greater e more = rw e refl
    go Equal e more = ap (ordering_then (nat_cmp y x)) (more (tail (nat_eq x y) (starts_with nat_eq l k) h (eq-eqb x y (sym (same_numbers y x e)))))

nothing_left : (l : List ℕ) (n : ℕ) → length l ≡ n → drop n l ≡ []
nothing_left [] zero h = refl
nothing_left [] (suc n) h = refl
nothing_left (x ∷ l) zero h = absurd (omega arith)
nothing_left (x ∷ l) (suc n) h = nothing_left l n (omega arith)

not_below : (bs : List ℕ) → is_lt (slice_cmp nat_cmp bs []) ≡ false
not_below [] = refl
not_below (b ∷ bs) = refl

decided : (t u : Bool) (r : Ordering) → is_lt r ≡ false → is_lt (ordering_then (cond t Less (cond u Equal Greater)) r) ≡ t
decided true u r h = refl
decided false true r h = h
decided false false r h = refl

first_decides : (b : ℕ) (bs : List ℕ) → is_lt (slice_cmp nat_cmp (b ∷ bs) (0xFF ∷ [])) ≡ nat_lt b 0xFF
first_decides b bs = decided (nat_lt b 0xFF) (nat_eq b 0xFF) (slice_cmp nat_cmp bs []) (not_below bs)

-- bytes before the end of the node's span, as three tests say it
pub apart_before : (l k : List ℕ) → starts_with nat_eq l k ≡ false → is_lt (slice_cmp nat_cmp l k) ≡ is_lt (slice_cmp nat_cmp l (k ++ 0xFF ∷ []))
apart_before l k h = ap is_lt (sym (end-apart k l h))

pub equal_before : (l k : List ℕ) → starts_with nat_eq l k ≡ true → length l ≡ length k → true ≡ is_lt (slice_cmp nat_cmp l (k ++ 0xFF ∷ []))
equal_before l k h e = ap is_lt (ap (λ r. slice_cmp nat_cmp r (0xFF ∷ [])) (sym (nothing_left l (length k) e)) ∙ sym (end-under k l h))

pub longer_before : (l k : List ℕ) → starts_with nat_eq l k ≡ true → length k < length l → nat_lt (get_or l (length k) 0) 0xFF ≡ is_lt (slice_cmp nat_cmp l (k ++ 0xFF ∷ []))
longer_before l k h e =
    sym (first_decides (get_or l (length k) 0) (drop (suc (length k)) l))
    ∙ ap is_lt (ap (λ r. slice_cmp nat_cmp r (0xFF ∷ [])) (sym (drop-cons l (length k) 0 e)) ∙ sym (end-under k l h))

own_end : (k : List ℕ) → slice_cmp nat_cmp k (k ++ 0xFF ∷ []) ≡ Less
own_end [] = refl
own_end (x ∷ k) = ap (λ o. ordering_then o (slice_cmp nat_cmp k (k ++ 0xFF ∷ []))) (nat_cmp-eq x x refl) ∙ own_end k

less_from_lt : (o : Ordering) → is_lt o ≡ true → o ≡ Less
less_from_lt Less h = refl
less_from_lt Equal h = absurd (false≢true h)
less_from_lt Greater h = absurd (false≢true h)

less_from_ge : (o : Ordering) → is_ge o ≡ false → o ≡ Less
less_from_ge Less h = refl
less_from_ge Equal h = absurd (false≢true (sym h))
less_from_ge Greater h = absurd (false≢true (sym h))

-- a span with nothing in it meets none
pub empty_span : (lo hi lo' hi' : List ℕ) → is_ge (slice_cmp nat_cmp lo' hi') ≡ true → Meet lo hi lo' hi' → false ≡ true
empty_span lo hi lo' hi' h m = sym (ap is_ge (crossing-from lo hi lo' hi' m).second) ∙ h

-- nor does one that ends before the other begins
pub span_behind : (lo hi lo' hi' : List ℕ) → is_ge (slice_cmp nat_cmp lo hi') ≡ true → Meet lo hi lo' hi' → false ≡ true
span_behind lo hi lo' hi' h m = sym (ap is_ge (crossing-from lo hi lo' hi' m).there) ∙ h

-- else the span of a node and its descendants meets it where it begins before the end of that span
pub node_span_meets : (node lo hi : List ℕ) (b : Bool) → is_ge (slice_cmp nat_cmp lo hi) ≡ false → is_ge (slice_cmp nat_cmp node hi) ≡ false → b ≡ is_lt (slice_cmp nat_cmp lo (span_hi node)) → (b ≡ true) ↔ Meet (span_lo node) (span_hi node) lo hi
node_span_meets node lo hi b some before e = (
  λ t. meet-from node (span_hi node) lo hi (record { first = own_end node; second = less_from_ge (slice_cmp nat_cmp lo hi) some; there = less_from_ge (slice_cmp nat_cmp node hi) before; back = less_from_lt (slice_cmp nat_cmp lo (span_hi node)) (sym e ∙ t) }),
  λ m. e ∙ ap is_lt (crossing-from node (span_hi node) lo hi m).back,
)
