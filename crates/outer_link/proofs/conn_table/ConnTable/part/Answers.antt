use Rattle.std.proofs.Common.{◌≡◌, true, ◌<◌, ◌∙◌, length, slice_set, sym, ap, subst, rules}
use Rattle.outer_link.specs.ServerState.{ServerState, parted_server}
use Rattle.outer_link.specs.TableState.{TableState, IsSound, told_of}
use Rattle.outer_link.specs.Told.{is_parted}
use Rattle.outer_link.proofs.TableSteps.{server_at, pair_within, parted_apart, kept_part, told_part}
use Rattle.outer_link.proofs.conn_table.ConnTable.part.Goals as goal

pub invariant_of-self : goal.invariant_of-self
invariant_of-self c =
    let t = c.self.inside in
    let at = server_at t.servers.items t.conns.items c.args.self.now.told c.args.server c.index_mut-server.result.now
    (ap (λ (x : TableState). x.told) c.self.view_is) c.requires.server c.index_mut-server.ensures.value in
    let pair = pair_within t.apps t.servers.items t.conns.items c.args.app c.args.server c.index_mut-server.result.now c.self.invariant at
    (subst (λ n. c.args.app < n) (sym (ap (λ (x : TableState). x.apps) c.self.view_is)) c.requires.app) in
    let made : c.len-made.result ≡ length t.conns.items = search rules in
    let as_made = c.part.ensures ∙ ap (parted_server c.index_mut-server.result.now c.args.app) made in
    subst (λ (w : ServerState). IsSound t.apps (slice_set t.servers.items c.args.server w) t.conns.items) (sym as_made)
    (kept_part t.apps t.servers.items t.conns.items c.args.app c.args.server c.index_mut-server.result.now pair c.self.invariant at)

pub returns-clause-next : goal.returns-clause-next
returns-clause-next c =
    let t = c.self.inside in
    let at = server_at t.servers.items t.conns.items c.args.self.now.told c.args.server c.index_mut-server.result.now
    (ap (λ (x : TableState). x.told) c.self.view_is) c.requires.server c.index_mut-server.ensures.value in
    let pair = pair_within t.apps t.servers.items t.conns.items c.args.app c.args.server c.index_mut-server.result.now c.self.invariant at
    (subst (λ n. c.args.app < n) (sym (ap (λ (x : TableState). x.apps) c.self.view_is)) c.requires.app) in
    let made : c.len-made.result ≡ length t.conns.items = search rules in
    let as_made = c.part.ensures ∙ ap (parted_server c.index_mut-server.result.now c.args.app) made in
    rw (← c.self.view_is, as_made)
    (ap (λ x. let y : TableState = record { apps = t.apps; told = x } in y) (told_part t.servers.items t.conns.items c.args.app c.args.server c.index_mut-server.result.now pair at c.self.invariant.made))

pub returns-clause-apart : goal.returns-clause-apart
returns-clause-apart c =
    let t = c.self.inside in
    let at = server_at t.servers.items t.conns.items c.args.self.now.told c.args.server c.index_mut-server.result.now
    (ap (λ (x : TableState). x.told) c.self.view_is) c.requires.server c.index_mut-server.ensures.value in
    let pair = pair_within t.apps t.servers.items t.conns.items c.args.app c.args.server c.index_mut-server.result.now c.self.invariant at
    (subst (λ n. c.args.app < n) (sym (ap (λ (x : TableState). x.apps) c.self.view_is)) c.requires.app) in
    let made : c.len-made.result ≡ length t.conns.items = search rules in
    let as_made = c.part.ensures ∙ ap (parted_server c.index_mut-server.result.now c.args.app) made in
    subst (λ (w : ServerState). is_parted (told_of (slice_set t.servers.items c.args.server w) t.conns.items) c.args.app c.args.server ≡ true) (sym as_made)
    (parted_apart t.servers.items t.conns.items c.args.app c.args.server (length t.conns.items) c.index_mut-server.result.now pair at)
