use Rattle.std.proofs.Common.{◌+◌, ◌++◌, List}
use Rattle.plain_orders.specs.declared.entry.Entry.{Entry}
use Rattle.journal_bench.specs.Written.{IsWritten}
use Rattle.journal_bench.proofs.updates.Given as goal

abbrev pub invariant-loop-place : goal.invariant-loop-place
invariant-loop-place l = (list : List Entry) → IsWritten list l.from → IsWritten (list ++ l.part.items) (l.from + l.place)
