-- The first key of a span in the run that a walk found is the first one in the map.
use Rattle.std.proofs.Common.{◌≡◌, ℕ, suc, Bool, true, false, cond, not, if◌then◌else◌, ◌||◌, List, []}
use Rattle.std.proofs.Common.{◌∷◌, length, Option, Some, None, take, filter, refl, sym, ◌∙◌, ap, subst}
use Rattle.std.specs.Prelude.{IfSome}
use Rattle.std.specs.List.{list_any, AllByRecursion}
use Rattle.std.specs.Ordering.{is_lt, is_gt}
use Rattle.std.proofs.lemmas.Bool.{false≢true, and_from, and_parts}
use Rattle.subscript_keys.specs.declared.run.Run.{Run}
use Rattle.subscript_keys.specs.declared.span.Span.{Span}
use Rattle.subscript_keys.specs.declared.sub.Sub.{Sub}
use Rattle.subscript_keys.specs.Key.{IsKey, IsSub}
use Rattle.subscript_keys.specs.Span.{span_hi}
use Rattle.plain_orders.specs.declared.entry.Entry.{Entry}
use Rattle.plain_orders.specs.Answers.{next_key, IsSubIn}
use Rattle.plain_orders.specs.Fold.{fold}
use Rattle.plain_orders.specs.Keys.{HasKeys}
use Rattle.plain_orders.specs.Ordered.{IsOrdered}
use Rattle.plain_orders.specs.PairMap.{Map, key_cmp, is_in, within, IsBeforeAll, IsRising}
use Rattle.plain_orders.proofs.FrontLemmas.{ordered-take}
use Rattle.plain_orders.proofs.OrderKeys.{ordered_keys}
use Rattle.plain_orders.proofs.RisingLemmas.{before_behind, fold_rises}
use Rattle.end_words.specs.Runs.{contains, pairs_of}
use Rattle.app_rules.specs.Reading.{Walked, Needs, Finds, Ends, walks, holds_from, is_from, next_start}
use Rattle.cached_reads.specs.Laws.{AreTrueAt}
use Rattle.cached_reads.specs.Walks.{TellsNext}
use Rattle.cached_reads.proofs.Nexts.{first_in, next_first}
use Rattle.cached_reads.proofs.Orders.{le, lt, lt_le, le_trans, lt_then, lt_trans, not_lt, no_both}
use Rattle.cached_reads.proofs.Walks.{between, NoneIn, Went, from_start}

-- a key before all of a rising map is below each
all_above : (key : List ℕ) (m : Map) → IsRising m → IsBeforeAll key m → AllByRecursion (λ q. lt key q.0) m
all_above key [] r b = tt
all_above key (p ∷ ps) r b = (ap is_lt b, all_above key ps r.1 (before_behind key p.0 ps b r.0))

-- some of the pairs
some_keys : (P : List ℕ × List ℕ → Type 0) (f : List ℕ × List ℕ → Bool) (m : Map) → AllByRecursion P m → AllByRecursion P (filter f m)
some_keys P f [] all = tt
some_keys P f (p ∷ ps) all = go (f p) (some_keys P f ps all.1)
  where
    go : (b : Bool) → AllByRecursion P (filter f ps) → AllByRecursion P (cond b (p ∷ filter f ps) (filter f ps))
    go true more = (all.0, more)
    go false more = more

-- a span with none of them has no first one
none_first : (s : Span) (m : Map) → AllByRecursion (λ q. is_in s q ≡ false) m → first_in s m ≡ None
none_first s [] none = refl
none_first s (p ∷ ps) none = ap (λ b. if b then Some p.0 else first_in s ps) none.0 ∙ none_first s ps none.1

module _ (start end : List ℕ) where
  -- a span in which none is from its start on has none
  none_from : (m : Map) → NoneIn (is_from start) m (between start end) → AllByRecursion (λ q. is_in (between start end) q ≡ false) m
  none_from [] none = tt
  none_from (p ∷ ps) none = (go (is_in (between start end) p) refl, none_from ps none.1)
    where
      go : (b : Bool) → is_in (between start end) p ≡ b → is_in (between start end) p ≡ false
      go true e = absurd (false≢true (sym (none.0 e) ∙ (and_parts (not (is_gt (key_cmp start p.0))) (is_lt (key_cmp p.0 end)) e).0))
      go false e = e

  -- what is not below the end is not in it
  past_end : (key : List ℕ) (m : Map) → le end key → AllByRecursion (λ q. lt key q.0) m → AllByRecursion (λ q. is_in (between start end) q ≡ false) m
  past_end key [] low above = tt
  past_end key (p ∷ ps) low above = (go (is_in (between start end) p) refl, past_end key ps low above.1)
    where
      go : (b : Bool) → is_in (between start end) p ≡ b → is_in (between start end) p ≡ false
      go true e =
          let below : lt p.0 end = (and_parts (not (is_gt (key_cmp start p.0))) (is_lt (key_cmp p.0 end)) e).1 in
          absurd (no_both key p.0 above.0 (lt_le p.0 key (lt_then p.0 end key below low)))
      go false e = e

  -- of pairs from the start on none is before the run
  none_before : (s : Span) (at : List ℕ) → contains s at ≡ true → (m : Map) → NoneIn (is_from start) m (between start at)
      → AllByRecursion (λ q. is_from start q ≡ true → le s.lo q.0) m
  none_before s at has [] none = tt
  none_before s at has (p ∷ ps) none = (λ from. go from (is_lt (key_cmp p.0 at)) refl, none_before s at has ps none.1)
    where
      go : is_from start p ≡ true → (b : Bool) → is_lt (key_cmp p.0 at) ≡ b → le s.lo p.0
      go from true below = absurd (false≢true (sym (none.0 (and_from (not (is_gt (key_cmp start p.0))) (is_lt (key_cmp p.0 at)) from below)) ∙ from))
      go from false above = le_trans s.lo at p.0 (and_parts (not (is_gt (key_cmp s.lo at))) (is_lt (key_cmp at s.hi)) has).0 (not_lt p.0 at above)

  module _ (s : Span) where
    -- where a span has a pair above a key, the key is below its end
    some_above : (key : List ℕ) (m : Map) → AllByRecursion (λ q. lt key q.0) m → list_any (is_from start) (within m s) ≡ true → lt key s.hi
    some_above key [] above e = absurd (false≢true e)
    some_above key (p ∷ ps) above e = go (is_in s p) refl (some_above key ps above.1) e
      where
        go : (b : Bool) → is_in s p ≡ b → (list_any (is_from start) (within ps s) ≡ true → lt key s.hi)
            → list_any (is_from start) (cond b (p ∷ within ps s) (within ps s)) ≡ true → lt key s.hi
        go true is more e = lt_trans key p.0 s.hi above.0 (and_parts (not (is_gt (key_cmp s.lo p.0))) (is_lt (key_cmp p.0 s.hi)) is).1
        go false is more e = more e

    first_same : (m : Map) → IsRising m → AllByRecursion (λ q. is_from start q ≡ true → le s.lo q.0) m → list_any (is_from start) (within m s) ≡ true
        → first_in (between start end) (within m s) ≡ first_in (between start end) m
    first_same [] r low e = refl
    first_same (p ∷ ps) r low e = go (first_same ps r.1 low.1) (is_in s p) refl (is_in (between start end) p) refl e
      where
        above : AllByRecursion (λ q. lt p.0 q.0) ps
        above = all_above p.0 ps r.1 r.0

        -- a pair from the start on that is not in the span is not below the end
        behind : is_from start p ≡ true → is_in (between start end) p ≡ false → le end p.0
        behind from out = by (is_lt (key_cmp p.0 end)) refl
          where
            by : (b : Bool) → is_lt (key_cmp p.0 end) ≡ b → le end p.0
            by true below = absurd (false≢true (sym out ∙ and_from (not (is_gt (key_cmp start p.0))) (is_lt (key_cmp p.0 end)) from below))
            by false not_below = not_lt p.0 end not_below

        nothing : le end p.0 → first_in (between start end) (within ps s) ≡ first_in (between start end) ps
        nothing low =
            let none : AllByRecursion (λ q. is_in (between start end) q ≡ false) ps = past_end p.0 ps low above in
            none_first (between start end) (within ps s) (some_keys (λ q. is_in (between start end) q ≡ false) (is_in s) ps none)
            ∙ sym (none_first (between start end) ps none)

        past : (f : Bool) → is_from start p ≡ f → is_in (between start end) p ≡ false
            → (list_any (is_from start) (within ps s) ≡ true → first_in (between start end) (within ps s) ≡ first_in (between start end) ps)
            → (f || list_any (is_from start) (within ps s)) ≡ true
            → first_in (between start end) (within ps s) ≡ first_in (between start end) ps
        past true from out more e = nothing (behind from out)
        past false from out more e = more e

        go : (list_any (is_from start) (within ps s) ≡ true → first_in (between start end) (within ps s) ≡ first_in (between start end) ps)
            → (b : Bool) → is_in s p ≡ b → (c : Bool) → is_in (between start end) p ≡ c
            → list_any (is_from start) (cond b (p ∷ within ps s) (within ps s)) ≡ true
            → first_in (between start end) (cond b (p ∷ within ps s) (within ps s)) ≡ (if c then Some p.0 else first_in (between start end) ps)
        go more true here true is e = ap (λ b. if b then Some p.0 else first_in (between start end) (within ps s)) is
        go more true here false is e =
            ap (λ b. if b then Some p.0 else first_in (between start end) (within ps s)) is ∙ past (is_from start p) refl is more e
        go more false out true is e =
            let parts = and_parts (not (is_gt (key_cmp start p.0))) (is_lt (key_cmp p.0 end)) is in
            absurd (false≢true (sym out ∙ and_from (not (is_gt (key_cmp s.lo p.0))) (is_lt (key_cmp p.0 s.hi)) (low.0 parts.0) (some_above p.0 ps above e)))
        go more false out false is e = more e

-- by where the walk ends
tells : (es : List Entry) (parent : List ℕ) (sub : Option Sub) → IsKey parent → IfSome sub IsSub → HasKeys (fold es).pairs → (x : Walked)
    → Went (fold es).pairs (is_from (next_start parent sub)) (next_start parent sub) (span_hi parent) x → TellsNext x es parent sub
tells es parent sub is_key form keys (Needs needed) went = tt
tells es parent sub is_key form keys (Finds run) went = λ found its. subst (λ o. IsSubIn parent o found) same its
  where
    m : Map
    m = (fold es).pairs

    start : List ℕ
    start = next_start parent sub

    same : next_key (pairs_of run) parent sub ≡ next_key m parent sub
    same =
        ap (λ (x : Map). next_key x parent sub) went.its
        ∙ next_first parent sub is_key form (within m run.span) (some_keys (λ p. IsKey p.0) (is_in run.span) m keys)
        ∙ first_same start (span_hi parent) run.span m (fold_rises es) (none_before start (span_hi parent) run.span went.at went.covered m went.before)
        (ap (λ (x : Map). list_any (is_from start) x) (sym went.its) ∙ went.some)
        ∙ sym (next_first parent sub is_key form m keys)
tells es parent sub is_key form keys Ends went = λ found its. subst (λ o. IsSubIn parent o found) same its
  where
    same : None ≡ next_key (fold es).pairs parent sub
    same =
        sym (next_first parent sub is_key form (fold es).pairs keys
        ∙ none_first (between (next_start parent sub) (span_hi parent)) (fold es).pairs
        (none_from (next_start parent sub) (span_hi parent) (fold es).pairs went))

-- So the walk finds the next subscript.
pub walks_tell_next : (es : List Entry) (n : ℕ) (runs : List Run) (parent : List ℕ) (sub : Option Sub) → IsOrdered es → AreTrueAt es n runs
    → IsKey parent → IfSome sub IsSub
    → TellsNext (walks (holds_from (next_start parent sub)) (span_hi parent) (next_start parent sub) runs).walked (take n es) parent sub
walks_tell_next es n runs parent sub ordered all is_key form =
    tells (take n es) parent sub is_key form (ordered_keys (take n es) (ordered-take es n ordered))
    (walks (holds_from start) (span_hi parent) start runs).walked
    (from_start (fold (take n es)).pairs (is_from start) (holds_from start) (λ run. refl) start (span_hi parent) (suc (length runs)) runs all)
  where
    start : List ℕ
    start = next_start parent sub
