use Rattle.std.proofs.Common.{◌≤◌, length, map, take, slice_set, sym, ap, subst}
use Rattle.outer_link.specs.ServerState.{ServerState}
use Rattle.outer_link.specs.TableState.{TableState, IsSound, NoneWaits, conn_told}
use Rattle.outer_link.proofs.TableSteps.{server_at, kept_see, told_see}
use Rattle.outer_link.proofs.conn_table.ConnTable.see.Goals as goal

pub invariant_of-self : goal.invariant_of-self
invariant_of-self c =
    let t = c.self.inside in
    let at = server_at t.servers.items t.conns.items c.args.self.now.told c.args.server c.index_mut-server.result.now
    (ap (λ (x : TableState). x.told) c.self.view_is) c.requires.server c.index_mut-server.ensures.value in
    let within : c.args.seen ≤ length (map (conn_told t.servers.items) t.conns.items) =
    subst (λ (x : TableState). c.args.seen ≤ length x.told.conns) (sym c.self.view_is) c.requires.within in
    let none : NoneWaits c.args.server (take c.args.seen (map (conn_told t.servers.items) t.conns.items)) =
    subst (λ (x : TableState). NoneWaits c.args.server (take c.args.seen x.told.conns)) (sym c.self.view_is) c.requires.none in
    subst (λ (w : ServerState). IsSound t.apps (slice_set t.servers.items c.args.server w) t.conns.items) (sym c.see.ensures)
    (kept_see t.apps t.servers.items t.conns.items c.args.server c.args.seen c.index_mut-server.result.now c.self.invariant at within none)

pub returns : goal.returns
returns c =
    let t = c.self.inside in
    let at = server_at t.servers.items t.conns.items c.args.self.now.told c.args.server c.index_mut-server.result.now
    (ap (λ (x : TableState). x.told) c.self.view_is) c.requires.server c.index_mut-server.ensures.value in
    rw (← c.self.view_is, c.see.ensures)
    (ap (λ x. let y : TableState = record { apps = t.apps; told = x } in y) (told_see t.servers.items t.conns.items c.args.server c.args.seen c.index_mut-server.result.now at))
