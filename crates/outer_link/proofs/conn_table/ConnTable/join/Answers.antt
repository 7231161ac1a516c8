use Rattle.std.proofs.Common.{◌<◌, slice_set, sym, ap, subst}
use Rattle.outer_link.specs.ServerState.{ServerState}
use Rattle.outer_link.specs.TableState.{TableState, IsSound}
use Rattle.outer_link.proofs.TableSteps.{server_at, pair_within, kept_join, told_join}
use Rattle.outer_link.proofs.conn_table.ConnTable.join.Goals as goal

pub invariant_of-self : goal.invariant_of-self
invariant_of-self c =
    let t = c.self.inside in
    let at = server_at t.servers.items t.conns.items c.args.self.now.told c.args.server c.index_mut-server.result.now
    (ap (λ (x : TableState). x.told) c.self.view_is) c.requires.server c.index_mut-server.ensures.value in
    let pair = pair_within t.apps t.servers.items t.conns.items c.args.app c.args.server c.index_mut-server.result.now c.self.invariant at
    (subst (λ n. c.args.app < n) (sym (ap (λ (x : TableState). x.apps) c.self.view_is)) c.requires.app) in
    subst (λ (w : ServerState). IsSound t.apps (slice_set t.servers.items c.args.server w) t.conns.items) (sym c.join.ensures)
    (kept_join t.apps t.servers.items t.conns.items c.args.app c.args.server c.index_mut-server.result.now pair c.self.invariant at)

pub returns : goal.returns
returns c =
    let t = c.self.inside in
    let at = server_at t.servers.items t.conns.items c.args.self.now.told c.args.server c.index_mut-server.result.now
    (ap (λ (x : TableState). x.told) c.self.view_is) c.requires.server c.index_mut-server.ensures.value in
    let pair = pair_within t.apps t.servers.items t.conns.items c.args.app c.args.server c.index_mut-server.result.now c.self.invariant at
    (subst (λ n. c.args.app < n) (sym (ap (λ (x : TableState). x.apps) c.self.view_is)) c.requires.app) in
    rw (← c.self.view_is, c.join.ensures)
    (ap (λ x. let y : TableState = record { apps = t.apps; told = x } in y) (told_join t.servers.items t.conns.items c.args.app c.args.server c.index_mut-server.result.now pair at))
