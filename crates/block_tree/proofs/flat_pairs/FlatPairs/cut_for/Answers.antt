use Rattle.std.proofs.Common.{◌≡◌, ◌≤◌, ◌+◌, ◌∙◌, ◌∷◌, [], List, ℕ, None, true, false, length, subst, sym, ap, arith, rules, not}
use Rattle.std.specs.Ordering.{is_gt, is_lt}
use Rattle.std.specs.Prelude.{nat_lt}
use Rattle.std.proofs.lemmas.Bool.{and_from}
use Rattle.std.proofs.lemmas.Result.{IfOk-weaker}
use Rattle.subscript_keys.specs.declared.span.Span.{Span}
use Rattle.end_words.specs.Runs.{contains}
use Rattle.plain_orders.specs.PairMap.{Map, IsRising, key_cmp, within}
use Rattle.block_tree.specs.FlatWords.{AreShort, IsEdge, StandsAt, size_between}
use Rattle.block_tree.specs.TreeWords.{end_of_keys, size, size_of}
use Rattle.block_tree.proofs.FlatLemmas.{behind_edge, few_bytes, next_is_short, first_edge, edge_on, edge_cut, last_cut, last_fits, none_left, not_above, not_full}
use Rattle.block_tree.proofs.SpanTests.{rising_from_sorted}
use Rattle.block_tree.proofs.flat_pairs.FlatPairs.cut_for.Goals.{in-Some-last, then-is_full+else-lt+in_ok-lo, else-is_full, in_default, in-Some-last-2+then-is_full-2+else-lt-2+in_ok-lo-2, in-Some-last-2+else-is_full-2, in_default-last}
use Rattle.block_tree.proofs.flat_pairs.FlatPairs.cut_for.Goals as goal

pub overflow_add-before : goal.overflow_add-before
overflow_add-before c =
    let m = c.into_iter-next-iterator.result in
    let all : m ≡ c.self.inside.pairs.entries = c.into_iter-next-iterator.ensures.into_iter_gives ∙ c.iter-next-items.ensures.rest in
    let at = behind_edge m c.loop-next.next-iterator c.loop-next.lo c.loop-next.before c.loop-next.last c.in-Some-last.edge c.in-Some-last.bytes c.loop-next.invariant.stands c.in-Some-last.is in
    let few = few_bytes m c.loop-next.next-iterator c.loop-next.lo c.loop-next.before c.in-Some-last.edge.now c.in-Some-last.bytes (subst AreShort (sym all) c.self.invariant) at in
    omega (arith, few)

pub is_full-requires : goal.is_full-requires
is_full-requires c =
    let m = c.into_iter-next-iterator.result in
    let all : m ≡ c.self.inside.pairs.entries = c.into_iter-next-iterator.ensures.into_iter_gives ∙ c.iter-next-items.ensures.rest in
    let at = behind_edge m c.loop-next.next-iterator c.loop-next.lo c.loop-next.before c.loop-next.last c.in-Some-last.edge c.in-Some-last.bytes c.loop-next.invariant.stands c.in-Some-last.is in
    let few = few_bytes m c.loop-next.next-iterator c.loop-next.lo c.loop-next.before c.in-Some-last.edge.now c.in-Some-last.bytes (subst AreShort (sym all) c.self.invariant) at in
    omega (arith, few)

pub overflow_add-before-in-Some-last : goal.overflow_add-before-in-Some-last
overflow_add-before-in-Some-last c =
    let m = c.into_iter-next-iterator.result in
    let all : m ≡ c.self.inside.pairs.entries = c.into_iter-next-iterator.ensures.into_iter_gives ∙ c.iter-next-items.ensures.rest in
    let at = behind_edge m c.loop-next.next-iterator c.loop-next.lo c.loop-next.before c.loop-next.last c.in-Some-last.edge c.in-Some-last.bytes c.loop-next.invariant.stands c.in-Some-last.is in
    let few = few_bytes m c.loop-next.next-iterator c.loop-next.lo c.loop-next.before c.in-Some-last.edge.now c.in-Some-last.bytes (subst AreShort (sym all) c.self.invariant) at in
    elim c.if-is_full.branch [ then-is_full+else-lt+in_ok-lo w ↦ omega (arith, few, w.before-is) | else-is_full w ↦ omega (arith, few, w.before-is) ]

pub size_of-requires-clause-key : goal.size_of-requires-clause-key
size_of-requires-clause-key c =
    let m = c.into_iter-next-iterator.result in
    let all : m ≡ c.self.inside.pairs.entries = c.into_iter-next-iterator.ensures.into_iter_gives ∙ c.iter-next-items.ensures.rest in
    (next_is_short m c.next.new.self c.loop-next.lo c.loop-next.before c.loop-next.last (c.in-Some.next.now, c.in-Some.value.now) (subst AreShort (sym all) c.self.invariant)
    (subst (λ (r : Map). StandsAt m r c.loop-next.lo c.loop-next.before c.loop-next.last) c.in-Some.ensures.steps c.loop-next.invariant.stands)).key

pub size_of-requires-clause-value : goal.size_of-requires-clause-value
size_of-requires-clause-value c =
    let m = c.into_iter-next-iterator.result in
    let all : m ≡ c.self.inside.pairs.entries = c.into_iter-next-iterator.ensures.into_iter_gives ∙ c.iter-next-items.ensures.rest in
    (next_is_short m c.next.new.self c.loop-next.lo c.loop-next.before c.loop-next.last (c.in-Some.next.now, c.in-Some.value.now) (subst AreShort (sym all) c.self.invariant)
    (subst (λ (r : Map). StandsAt m r c.loop-next.lo c.loop-next.before c.loop-next.last) c.in-Some.ensures.steps c.loop-next.invariant.stands)).value

pub overflow_add-before-in-Some-last-2 : goal.overflow_add-before-in-Some-last-2
overflow_add-before-in-Some-last-2 c =
    let m = c.into_iter-next-iterator.result in
    let all : m ≡ c.self.inside.pairs.entries = c.into_iter-next-iterator.ensures.into_iter_gives ∙ c.iter-next-items.ensures.rest in
    let at = behind_edge m c.loop-next.next-iterator c.loop-next.lo c.loop-next.before c.loop-next.last c.in-Some-last-2.edge c.in-Some-last-2.bytes c.loop-next.invariant.stands c.in-Some-last-2.is in
    let few = few_bytes m c.loop-next.next-iterator c.loop-next.lo c.loop-next.before c.in-Some-last-2.edge.now c.in-Some-last-2.bytes (subst AreShort (sym all) c.self.invariant) at in
    omega (arith, few)

pub is_full-requires-in-Some-last-2 : goal.is_full-requires-in-Some-last-2
is_full-requires-in-Some-last-2 c =
    let m = c.into_iter-next-iterator.result in
    let all : m ≡ c.self.inside.pairs.entries = c.into_iter-next-iterator.ensures.into_iter_gives ∙ c.iter-next-items.ensures.rest in
    let at = behind_edge m c.loop-next.next-iterator c.loop-next.lo c.loop-next.before c.loop-next.last c.in-Some-last-2.edge c.in-Some-last-2.bytes c.loop-next.invariant.stands c.in-Some-last-2.is in
    let few = few_bytes m c.loop-next.next-iterator c.loop-next.lo c.loop-next.before c.in-Some-last-2.edge.now c.in-Some-last-2.bytes (subst AreShort (sym all) c.self.invariant) at in
    omega (arith, few)

pub loop-next-preserved : goal.loop-next-preserved
loop-next-preserved c =
    let m = c.into_iter-next-iterator.result in
    let all : m ≡ c.self.inside.pairs.entries = c.into_iter-next-iterator.ensures.into_iter_gives ∙ c.iter-next-items.ensures.rest in
    let rises : IsRising m = subst IsRising (sym all) (rising_from_sorted c.self.inside.pairs.entries c.iter-next-items.ensures.ordered) in
    let short : AreShort m = subst AreShort (sym all) c.self.invariant in
    let rest = c.next.new.self in
    let next : List ℕ × List ℕ = (c.in-Some.next.now, c.in-Some.value.now) in
    let lo = c.loop-next.lo in
    let before = c.loop-next.before in
    let stood : StandsAt m (next ∷ rest) lo before c.loop-next.last =
    subst (λ (r : Map). StandsAt m r lo before c.loop-next.last) c.in-Some.ensures.steps c.loop-next.invariant.stands in
    let both : IsEdge m rest c.match-last.lo c.match-last.before next.0 (size_of next) × (is_gt (key_cmp c.match-last.lo c.args.key.now) ≡ false) =
    elim c.match-last.branch [
      | in-Some-last w ↦
          let at = behind_edge m (next ∷ rest) lo before c.loop-next.last w.in-Some-last.edge w.in-Some-last.bytes stood w.in-Some-last.is in
          elim w.if-is_full.branch [
            | then-is_full+else-lt+in_ok-lo v ↦
                let there : c.match-last.lo ≡ w.in-Some-last.edge.now = search rules in
                let counted : c.match-last.before ≡ 0 + w.in-Some-last.bytes = search rules in
                let not_below : is_gt (key_cmp w.in-Some-last.edge.now c.args.key.now) ≡ false = not_above c.args.key.now w.in-Some-last.edge.now (search rules) in
                rw (there, counted) (edge_cut m rises short next rest lo before w.in-Some-last.edge.now w.in-Some-last.bytes at, not_below)
            | else-is_full v ↦
                let there : c.match-last.lo ≡ lo = search rules in
                let counted : c.match-last.before ≡ before + w.in-Some-last.bytes = search rules in
                let fits : 7 + length lo + length next.0 + (before + w.in-Some-last.bytes) ≤ 8192 =
                not_full (7 + length lo + length next.0 + (before + w.in-Some-last.bytes)) (sym w.is_full.ensures ∙ v.if-is_full.false) in
                rw (there, counted) (edge_on m rises short next rest lo before w.in-Some-last.edge.now w.in-Some-last.bytes at fits, c.loop-next.invariant.below)
          ]
      | in_default w ↦
          let there : c.match-last.lo ≡ lo = search rules in
          let counted : c.match-last.before ≡ before = search rules in
          let none : c.loop-next.last ≡ None = search rules in
          rw (there, counted) (first_edge m rises short next rest lo before (subst (StandsAt m (next ∷ rest) lo before) none stood), c.loop-next.invariant.below)
    ] in
    record { can = tt; ends = tt; stands = rw c.size_of.ensures both.0; below = both.1 }

-- the run that is left begins at or before the key, and fits a block
left : (c : goal.After-drop-lo-inside-2)
    → (is_gt (key_cmp c.match-last-2.lo c.args.key.now) ≡ false)
    × (7 + length c.match-last-2.lo + length end_of_keys + size_between c.into_iter-next-iterator.result c.match-last-2.lo end_of_keys ≤ 8192)
left c =
    let m = c.into_iter-next-iterator.result in
    let all : m ≡ c.self.inside.pairs.entries = c.into_iter-next-iterator.ensures.into_iter_gives ∙ c.iter-next-items.ensures.rest in
    let rises : IsRising m = subst IsRising (sym all) (rising_from_sorted c.self.inside.pairs.entries c.iter-next-items.ensures.ordered) in
    let short : AreShort m = subst AreShort (sym all) c.self.invariant in
    let lo = c.loop-next.lo in
    let before = c.loop-next.before in
    let stood : StandsAt m [] lo before c.loop-next.last =
    subst (λ (r : Map). StandsAt m r lo before c.loop-next.last) c.in-None.ensures.steps.0 c.loop-next.invariant.stands in
    elim c.match-last-2.branch [
      | in-Some-last-2+then-is_full-2+else-lt-2+in_ok-lo-2 w ↦
          let at = behind_edge m [] lo before c.loop-next.last w.in-Some-last-2.edge w.in-Some-last-2.bytes stood w.in-Some-last-2.is in
          let there : c.match-last-2.lo ≡ w.in-Some-last-2.edge.now = search rules in
          rw there (not_above c.args.key.now w.in-Some-last-2.edge.now (search rules), last_cut m rises short lo before w.in-Some-last-2.edge.now w.in-Some-last-2.bytes at)
      | in-Some-last-2+else-is_full-2 w ↦
          let at = behind_edge m [] lo before c.loop-next.last w.in-Some-last-2.edge w.in-Some-last-2.bytes stood w.in-Some-last-2.is in
          let there : c.match-last-2.lo ≡ lo = search rules in
          let fits : 7 + length lo + length end_of_keys + (before + w.in-Some-last-2.bytes) ≤ 8192 =
          not_full (7 + length lo + length end_of_keys + (before + w.in-Some-last-2.bytes))
          (ap (λ (k : List ℕ). nat_lt 8192 (7 + length lo + length k + (before + w.in-Some-last-2.bytes))) (sym c.requires.end)
          ∙ sym w.is_full-in-Some-last-2.ensures ∙ w.if-is_full-2.false) in
          rw there (c.loop-next.invariant.below, last_fits m rises short lo before w.in-Some-last-2.edge.now w.in-Some-last-2.bytes at fits)
      | in_default-last w ↦
          let there : c.match-last-2.lo ≡ lo = search rules in
          let none : c.loop-next.last ≡ None = search rules in
          rw there (c.loop-next.invariant.below, none_left m rises short lo before (subst (StandsAt m [] lo before) none stood))
    ]

pub returns-clause-holds : goal.returns-clause-holds
returns-clause-holds c =
    IfOk-weaker c.span_of-2.result _ _
    (λ span is.
    subst (λ (s : Span). contains s c.args.key.now ≡ true) (sym is)
    (and_from _ _ (ap not (left c).0) (ap (λ (k : List ℕ). is_lt (key_cmp c.args.key.now k)) c.requires.end ∙ ap is_lt c.requires.below)))
    c.span_of-2.ensures

pub returns-clause-fits : goal.returns-clause-fits
returns-clause-fits c =
    let m = c.into_iter-next-iterator.result in
    let all : m ≡ c.args.self.now = c.into_iter-next-iterator.ensures.into_iter_gives ∙ c.iter-next-items.ensures.rest ∙ c.self.view_is in
    IfOk-weaker c.span_of-2.result _ _
    (λ span is.
    subst (λ (s : Span). 7 + length s.lo + length s.hi + size (within c.args.self.now s) ≤ 8192) (sym is)
    (subst (λ (k : List ℕ). 7 + length c.match-last-2.lo + length k + size_between c.args.self.now c.match-last-2.lo k ≤ 8192) (sym c.requires.end)
    (subst (λ (q : Map). 7 + length c.match-last-2.lo + length end_of_keys + size_between q c.match-last-2.lo end_of_keys ≤ 8192) all (left c).1)))
    c.span_of-2.ensures
