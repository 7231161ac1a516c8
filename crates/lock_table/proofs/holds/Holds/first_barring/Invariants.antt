use Rattle.std.proofs.Common.{◌≡◌}
use Rattle.std.specs.List.{find}
use Rattle.lock_table.specs.LockWords.{is_barred}
use Rattle.lock_table.proofs.holds.Holds.first_barring.Given as goal

abbrev pub invariant-loop-hold : goal.invariant-loop-hold
invariant-loop-hold l = find (is_barred l.who l.name l.mode) l.hold-iterator ≡ find (is_barred l.who l.name l.mode) l.self
