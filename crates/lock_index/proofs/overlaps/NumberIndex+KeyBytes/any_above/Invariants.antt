use Rattle.lock_index.proofs.NameLemmas.{AfterFronts}
use Rattle.lock_index.proofs.overlaps.NumberIndex+KeyBytes.any_above.Given as goal

abbrev pub invariant-loop-shorter : goal.invariant-loop-shorter
invariant-loop-shorter g l = AfterFronts l.name (g.T.NumberTest.passes l.test) l.self l._shorter l.bytes.items
