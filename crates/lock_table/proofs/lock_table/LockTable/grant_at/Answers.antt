use Rattle.std.proofs.Common.{◌≡◌, ◌<◌, length, get_or, rules, sym, subst}
use Rattle.lock_table.specs.declared.rows.Request.{Request}
use Rattle.lock_table.specs.LockWords.{Locks}
use Rattle.lock_table.proofs.CountLemmas.{room_to_grant, fit_granted}
use Rattle.lock_table.proofs.lock_table.LockTable.grant_at.Goals as goal

pub grant-requires : goal.grant-requires
grant-requires c =
    let copied : c.in_ok-request.request ≡ c.index.result.now = search rules in
    let same = subst (λ (r : Request). r ≡ get_or c.self.inside.requests.items c.args.place r) (sym copied) c.index.ensures in
    let there = subst (λ (l : Locks). c.args.place < length l.requests) (sym c.self.view_is) c.requires in
    room_to_grant c.self.inside.holds c.self.inside.requests.items c.args.place c.in_ok-request.request c.self.invariant there same

pub invariant_of-self-2 : goal.invariant_of-self-2
invariant_of-self-2 c =
    let copied : c.in_ok-request.request ≡ c.index.result.now = search rules in
    let same = subst (λ (r : Request). r ≡ get_or c.self.inside.requests.items c.args.place r) (sym copied) c.index.ensures in
    let there = subst (λ (l : Locks). c.args.place < length l.requests) (sym c.self.view_is) c.requires in
    rw (c.in_ok-grant.ensures.holds, c.remove.ensures.items)
    (fit_granted c.args.at c.self.inside.holds c.self.inside.requests.items c.args.place c.in_ok-request.request c.self.invariant there same)
