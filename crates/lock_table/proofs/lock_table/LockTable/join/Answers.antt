use Rattle.std.proofs.Common.{◌+◌, ◌^◌, ◌<◌, sym, subst}
use Rattle.lock_table.specs.LockWords.{Locks}
use Rattle.lock_table.specs.Counts.{total_count}
use Rattle.lock_table.proofs.CountLemmas.{fit_raised}
use Rattle.lock_table.proofs.lock_table.LockTable.join.Goals as goal

pub invariant_of-self-2 : goal.invariant_of-self-2
invariant_of-self-2 c =
    let room = subst (λ (l : Locks). total_count c.args.hold.who c.args.hold.name c.args.hold.mode l.holds l.requests + c.args.hold.count < 2 ^ 32) (sym c.self.view_is) c.requires.room in
    rw c.in_ok-raise.ensures.ok (fit_raised c.args.hold.who c.args.hold.name c.args.hold.mode c.args.hold.count c.args.hold.at c.self.inside.holds c.self.inside.requests.items c.self.invariant room)
