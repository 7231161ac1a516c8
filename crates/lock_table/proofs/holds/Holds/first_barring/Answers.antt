use Rattle.std.proofs.Common.{◌≡◌, false, rules, sym}
use Rattle.std.specs.List.{list_any}
use Rattle.lock_table.specs.LockWords.{is_barred}
use Rattle.lock_table.proofs.HoldLemmas.{none_passes}
use Rattle.lock_table.proofs.holds.Holds.first_barring.Goals as goal

pub returns-then-not-bars : goal.returns-then-not-bars
returns-then-not-bars c =
    let none : list_any (is_barred c.args.who c.args.name.now c.args.mode) c.args.self.now ≡ false = search rules in
    sym (none_passes (is_barred c.args.who c.args.name.now c.args.mode) c.args.self.now none)
