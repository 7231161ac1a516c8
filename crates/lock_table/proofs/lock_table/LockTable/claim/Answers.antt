use Rattle.std.proofs.Common.{◌≡◌, false, None, rules, subst}
use Rattle.std.specs.List.{find, list_any}
use Rattle.lock_table.specs.LockWords.{Locks, is_barred}
use Rattle.lock_table.proofs.HoldLemmas.{none_found}
use Rattle.lock_table.proofs.lock_table.LockTable.claim.Goals as goal

pub returns-in-Ok-None-clause-free : goal.returns-in-Ok-None-clause-free
returns-in-Ok-None-clause-free c =
    let none : find (is_barred c.args.hold.who c.args.hold.name c.args.hold.mode) c.self.inside.holds ≡ None = search rules in
    let bars = subst (λ (l : Locks). list_any (is_barred c.args.hold.who c.args.hold.name c.args.hold.mode) l.holds ≡ false) c.self.view_is (none_found (is_barred c.args.hold.who c.args.hold.name c.args.hold.mode) c.self.inside.holds none) in
    search rules
