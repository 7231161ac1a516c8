use Rattle.std.proofs.Common.{◌+◌, ◌^◌, ◌<◌, sym, subst}
use Rattle.lock_table.specs.LockWords.{Locks}
use Rattle.lock_table.specs.Counts.{total_count}
use Rattle.lock_table.proofs.CountLemmas.{fit_pushed, fit_raised}
use Rattle.lock_table.proofs.lock_table.LockTable.ask.Goals as goal

pub invariant_of-self-then-must_wait : goal.invariant_of-self-then-must_wait
invariant_of-self-then-must_wait c =
    let room = subst (λ (l : Locks). total_count c.args.request.who c.args.request.name c.args.request.mode l.holds l.requests + 1 < 2 ^ 32) (sym c.self.view_is) c.requires.room in
    rw c.in_ok-push.ensures.items (fit_pushed c.self.inside.holds c.self.inside.requests.items c.args.request c.self.invariant room)

pub invariant_of-self-2 : goal.invariant_of-self-2
invariant_of-self-2 c =
    let room = subst (λ (l : Locks). total_count c.args.request.who c.args.request.name c.args.request.mode l.holds l.requests + 1 < 2 ^ 32) (sym c.self.view_is) c.requires.room in
    rw c.in_ok-grant.ensures.holds (fit_raised c.args.request.who c.args.request.name c.args.request.mode 1 c.args.at c.self.inside.holds c.self.inside.requests.items c.self.invariant room)
