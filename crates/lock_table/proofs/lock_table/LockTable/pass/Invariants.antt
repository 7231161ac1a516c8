use Rattle.lock_table.proofs.PassLemmas.{AfterTurns}
use Rattle.lock_table.proofs.lock_table.LockTable.pass.Given as goal

abbrev pub invariant-loop-turn : goal.invariant-loop-turn
invariant-loop-turn l = AfterTurns l.initial.self l.at l._turn l.self l.grants l.place
