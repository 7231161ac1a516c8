use Rattle.std.proofs.Common.{◌≡◌, ◌∙◌, ◌-◌, ap, subst, get_or, drop, take, length, None, Some}
use Rattle.std.proofs.lemmas.List.{take_rest}
use Rattle.outer_link.specs.TableState.{TableState}
use Rattle.outer_link.proofs.PositionSteps.{next_first}
use Rattle.outer_link.proofs.TableSteps.{server_at}
use Rattle.outer_link.proofs.conn_table.ConnTable.next_waiting.Goals as goal

pub returns-in-None-clause-next : goal.returns-in-None-clause-next
returns-in-None-clause-next c =
    let t = c.self.inside in
    let is = ap (λ (x : TableState). x.told) c.self.view_is in
    let same = c.as_slice-servers.ensures.value in
    let read : c.index-servers-server.result ≡ get_or t.servers.items c.args.server c.index-servers-server.result =
    subst (λ xs. c.index-servers-server.result ≡ get_or xs c.args.server c.index-servers-server.result) same c.index-servers-server.is in
    let at = server_at t.servers.items t.conns.items c.args.self.now.told c.args.server c.index-servers-server.result is c.requires read in
    let rest : take (length c.deref.result.now - c.seen-seen.result) (drop c.seen-seen.result c.deref.result.now) ≡ drop c.seen-seen.result t.conns.items =
    take_rest c.deref.result.now c.seen-seen.result ∙ ap (drop c.seen-seen.result) c.deref.ensures.value in
    next_first t.apps t.servers.items c.as_slice-servers.result.now t.conns.items _ c.args.self.now.told c.args.server c.seen-seen.result
    c.index-servers-server.result None c.self.invariant is at c.seen-seen.ensures same rest c.in-None.ensures

pub returns-in-Some-clause-next : goal.returns-in-Some-clause-next
returns-in-Some-clause-next c =
    let t = c.self.inside in
    let is = ap (λ (x : TableState). x.told) c.self.view_is in
    let same = c.as_slice-servers.ensures.value in
    let read : c.index-servers-server.result ≡ get_or t.servers.items c.args.server c.index-servers-server.result =
    subst (λ xs. c.index-servers-server.result ≡ get_or xs c.args.server c.index-servers-server.result) same c.index-servers-server.is in
    let at = server_at t.servers.items t.conns.items c.args.self.now.told c.args.server c.index-servers-server.result is c.requires read in
    let rest : take (length c.deref.result.now - c.seen-seen.result) (drop c.seen-seen.result c.deref.result.now) ≡ drop c.seen-seen.result t.conns.items =
    take_rest c.deref.result.now c.seen-seen.result ∙ ap (drop c.seen-seen.result) c.deref.ensures.value in
    next_first t.apps t.servers.items c.as_slice-servers.result.now t.conns.items _ c.args.self.now.told c.args.server c.seen-seen.result
    c.index-servers-server.result (Some c.in-Some.place) c.self.invariant is at c.seen-seen.ensures same rest c.in-Some.ensures
