use Rattle.std.proofs.Common.{◌≡◌, ◌∙◌, length, slice_set, sym, ap, subst, rules}
use Rattle.outer_link.specs.ServerState.{ServerState, shut_server}
use Rattle.outer_link.specs.TableState.{TableState, IsSound}
use Rattle.outer_link.proofs.TableSteps.{server_at, kept_shut, told_shut}
use Rattle.outer_link.proofs.conn_table.ConnTable.shut.Goals as goal

pub invariant_of-self : goal.invariant_of-self
invariant_of-self c =
    let t = c.self.inside in
    let at = server_at t.servers.items t.conns.items c.args.self.now.told c.args.server c.index_mut-server.result.now
    (ap (λ (x : TableState). x.told) c.self.view_is) c.requires c.index_mut-server.ensures.value in
    let made : c.len-made.result ≡ length t.conns.items = search rules in
    let as_made = c.shut.ensures ∙ ap (shut_server c.index_mut-server.result.now) made in
    subst (λ (w : ServerState). IsSound t.apps (slice_set t.servers.items c.args.server w) t.conns.items) (sym as_made)
    (kept_shut t.apps t.servers.items t.conns.items c.args.server c.index_mut-server.result.now c.self.invariant at)

pub returns : goal.returns
returns c =
    let t = c.self.inside in
    let at = server_at t.servers.items t.conns.items c.args.self.now.told c.args.server c.index_mut-server.result.now
    (ap (λ (x : TableState). x.told) c.self.view_is) c.requires c.index_mut-server.ensures.value in
    let made : c.len-made.result ≡ length t.conns.items = search rules in
    let as_made = c.shut.ensures ∙ ap (shut_server c.index_mut-server.result.now) made in
    rw (← c.self.view_is, as_made)
    (ap (λ x. let y : TableState = record { apps = t.apps; told = x } in y) (told_shut t.servers.items t.conns.items c.args.server c.index_mut-server.result.now at c.self.invariant.made))
