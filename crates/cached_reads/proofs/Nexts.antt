-- A walk for the next subscript finds the key of the first pair below the parent and behind the subscript.
use Rattle.std.proofs.Common.{◌≡◌, ℕ, Bool, true, false, not, if◌then◌else◌, ◌&&◌, List, [], ◌∷◌}
use Rattle.std.proofs.Common.{◌++◌, length, Option, Some, None, refl, sym, ◌∙◌, ap, subst, nat_lt}
use Rattle.std.specs.Prelude.{IfSome}
use Rattle.std.specs.Ordering.{is_lt, is_gt}
use Rattle.std.proofs.lemmas.Bool.{false≢true, and_from, and_parts, lt-ltb, ltb-true}
use Rattle.std.proofs.lemmas.List.{append-nil}
use Rattle.subscript_keys.specs.declared.span.Span.{Span}
use Rattle.subscript_keys.specs.declared.sub.Sub.{Sub}
use Rattle.subscript_keys.specs.Key.{IsKey, IsSub, key_of, sub_bytes}
use Rattle.subscript_keys.specs.Span.{IsIn, span_lo, span_hi}
use Rattle.subscript_keys.proofs.Spans.{span-holds}
use Rattle.plain_orders.specs.Answers.{is_behind, next_key}
use Rattle.plain_orders.specs.Keys.{HasKeys}
use Rattle.plain_orders.specs.PairMap.{Map, key_cmp, is_below, is_in, is_under}
use Rattle.plain_orders.proofs.Locality.{is_in_span}
use Rattle.plain_orders.proofs.NodeKeys.{child_key, under_in, under_is}
use Rattle.app_rules.specs.Reading.{next_start}
use Rattle.cached_reads.proofs.Fronts.{after_zero, below_more, longer, past_all}
use Rattle.cached_reads.proofs.Orders.{lt, lt_le, lt_then, lt_trans, no_both}
use Rattle.cached_reads.proofs.Walks.{between}

-- a key in a node's span begins with the node's
in_under : (node key : List ℕ) → IsKey node → IsKey key → IsIn (span_lo node) (span_hi node) key → is_under node key ≡ true
in_under node key (a, p, e) (b, q, f) inside =
    let from : IsIn (span_lo (key_of a)) (span_hi (key_of a)) (key_of b) = rw (e, f) inside in
    rw (sym e, sym f) ((under_is a b p q).1 ((span-holds a b p q).0 from))

-- bytes are below themselves with more
lt_more : (n : List ℕ) (x : ℕ) (u : List ℕ) → lt n (n ++ x ∷ u)
lt_more n x u = ap is_lt (below_more n x u)

same_tests : (r t : Bool) → (r ≡ true → t ≡ true) → (t ≡ true → r ≡ true) → r ≡ t
same_tests true true there back = refl
same_tests true false there back = absurd (false≢true (there refl))
same_tests false true there back = absurd (false≢true (back refl))
same_tests false false there back = refl

-- what isn't true is false
no_true : (b : Bool) → (b ≡ true → ⊥) → b ≡ false
no_true true f = absurd (f refl)
no_true false f = refl

module _ (parent : List ℕ) (is_key : IsKey parent) where
  -- a pair that is in the parent's span and above the parent is below it
  below_is : (k : List ℕ) → IsKey k → lt parent k → lt k (span_hi parent) → is_below parent k ≡ true
  below_is k key above low =
      let inside : is_in (between parent (span_hi parent)) (k, []) ≡ true =
      and_from (not (is_gt (key_cmp parent k))) (is_lt (key_cmp k (span_hi parent))) (lt_le parent k above) low in
      let under : is_under parent k ≡ true = in_under parent k is_key key (is_in_span (between parent (span_hi parent)) (k, []) inside) in
      and_from (is_under parent k) (nat_lt (length parent) (length k)) under (lt-ltb (length parent) (length k) (longer parent k under above))

  -- one that begins with the parent ends before the parent's span
  ends_in : (k : List ℕ) → IsKey k → is_under parent k ≡ true → lt k (span_hi parent)
  ends_in k key under = ap is_lt (under_in parent k is_key key under).to

  -- the pairs that a next may find are those of a span
  next_in : (sub : Option Sub) → IfSome sub IsSub → (k : List ℕ) → IsKey k
      → (is_below parent k && is_behind parent sub k) ≡ is_in (between (next_start parent sub) (span_hi parent)) (k, [])
  next_in None form k key = same_tests (is_below parent k && true) (is_in (between (next_start parent None) (span_hi parent)) (k, [])) there back
    where
      there : (is_below parent k && true) ≡ true → is_in (between (parent ++ 0 ∷ []) (span_hi parent)) (k, []) ≡ true
      there e =
          let below = (and_parts (is_below parent k) true e).0 in
          let parts = and_parts (is_under parent k) (nat_lt (length parent) (length k)) below in
          and_from (not (is_gt (key_cmp (parent ++ 0 ∷ []) k))) (is_lt (key_cmp k (span_hi parent)))
          (after_zero parent k parts.0 (ltb-true (length parent) (length k) parts.1)) (ends_in k key parts.0)

      back : is_in (between (parent ++ 0 ∷ []) (span_hi parent)) (k, []) ≡ true → (is_below parent k && true) ≡ true
      back e =
          let parts = and_parts (not (is_gt (key_cmp (parent ++ 0 ∷ []) k))) (is_lt (key_cmp k (span_hi parent))) e in
          and_from (is_below parent k) true (below_is k key (lt_then parent (parent ++ 0 ∷ []) k (lt_more parent 0 []) parts.0) parts.1) refl
  next_in (Some sub) form k key =
      same_tests (is_below parent k && is_behind parent (Some sub) k) (is_in (between (span_hi child) (span_hi parent)) (k, [])) there back
    where
      child : List ℕ
      child = parent ++ sub_bytes sub

      child_is : IsKey child
      child_is = child_key parent sub is_key form

      there : (is_below parent k && is_behind parent (Some sub) k) ≡ true → is_in (between (span_hi child) (span_hi parent)) (k, []) ≡ true
      there e =
          let parts = and_parts (is_below parent k) (is_behind parent (Some sub) k) e in
          let below = and_parts (is_under parent k) (nat_lt (length parent) (length k)) parts.0 in
          let behind = and_parts (is_lt (key_cmp child k)) (not (is_under child k)) parts.1 in
          and_from (not (is_gt (key_cmp (span_hi child) k))) (is_lt (key_cmp k (span_hi parent)))
          (lt_le (span_hi child) k (past_all child k (0xFF ∷ []) behind.0 (not_from (is_under child k) behind.1))) (ends_in k key below.0)
        where
          not_from : (b : Bool) → not b ≡ true → b ≡ false
          not_from true e = absurd (false≢true e)
          not_from false e = refl

      back : is_in (between (span_hi child) (span_hi parent)) (k, []) ≡ true → (is_below parent k && is_behind parent (Some sub) k) ≡ true
      back e =
          let parts = and_parts (not (is_gt (key_cmp (span_hi child) k))) (is_lt (key_cmp k (span_hi parent))) e in
          let above : lt child k = lt_then child (span_hi child) k (lt_more child 0xFF []) parts.0 in
          let apart : is_under child k ≡ false =
          no_true (is_under child k) (λ under. no_both k (span_hi child) (ap is_lt (under_in child k child_is key under).to) parts.0) in
          and_from (is_below parent k) (is_behind parent (Some sub) k) (below_is k key (parent_below above) parts.1)
          (and_from (is_lt (key_cmp child k)) (not (is_under child k)) above (ap not apart))
        where
          parent_below : lt child k → lt parent k
          parent_below above = go (sub_bytes sub) above
            where
              go : (u : List ℕ) → lt (parent ++ u) k → lt parent k
              go [] low = subst (λ (n : List ℕ). lt n k) (append-nil parent) low
              go (x ∷ u) low = lt_trans parent (parent ++ x ∷ u) k (lt_more parent x u) low

-- the first key in a span
abbrev pub first_in : Span → Map → Option (List ℕ)
first_in s [] = None
first_in s (p ∷ ps) = if is_in s p then Some p.0 else first_in s ps

-- so a next is the first key in it
pub next_first : (parent : List ℕ) (sub : Option Sub) → IsKey parent → IfSome sub IsSub → (m : Map) → HasKeys m
    → next_key m parent sub ≡ first_in (between (next_start parent sub) (span_hi parent)) m
next_first parent sub is_key form [] h = refl
next_first parent sub is_key form (p ∷ ps) h =
    ap (λ b. if b then Some p.0 else next_key ps parent sub) (next_in parent is_key sub form p.0 h.0)
    ∙ ap (λ o. if is_in (between (next_start parent sub) (span_hi parent)) p then Some p.0 else o) (next_first parent sub is_key form ps h.1)
