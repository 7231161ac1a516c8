use Rattle.std.proofs.Common.{◌≡◌, take}
use Rattle.std.specs.List.{sum_by}
use Rattle.lock_table.specs.Counts.{count_in}
use Rattle.lock_table.specs.HoldIndex.{weight_at}
use Rattle.lock_table.proofs.holds.Holds.count.Given as goal

abbrev pub invariant-loop-number : goal.invariant-loop-number
invariant-loop-number l = l.total ≡ sum_by (weight_at (count_in l.who l.name l.mode) l.self-inside.rows.entries) (take l.number-index l.numbers)
