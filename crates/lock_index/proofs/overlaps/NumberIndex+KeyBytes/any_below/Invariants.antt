use Rattle.lock_index.proofs.NameLemmas.{IsLeft}
use Rattle.lock_index.proofs.overlaps.NumberIndex+KeyBytes.any_below.Given as goal

abbrev pub invariant-loop-key : goal.invariant-loop-key
invariant-loop-key g l = IsLeft l.name (g.T.NumberTest.passes l.test) l.self l.key-iterator
