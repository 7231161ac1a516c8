use Rattle.std.proofs.Common.{◌≡◌, ◌<◌, ◌^◌, ap, refl, length, rules, arith}
use Rattle.outer_link.specs.TableState.{TableState}
use Rattle.outer_link.proofs.SoundSteps.{kept_more}
use Rattle.outer_link.proofs.TableSteps.{told_connect}
use Rattle.outer_link.proofs.conn_table.ConnTable.connect.Goals as goal

pub invariant_of-self-2 : goal.invariant_of-self-2
invariant_of-self-2 c =
    let t = c.self.inside in
    let made : c.len-made.result ≡ length t.conns.items = search rules in
    let room : length t.conns.items < 2 ^ 32 = omega (arith, c.in-Ok.ensures.0) in
    rw c.in_ok-push.ensures.items (kept_more t.apps t.servers.items t.conns.items _ c.self.invariant made room)

pub returns-clause-ok : goal.returns-clause-ok
returns-clause-ok c =
    let t = c.self.inside in
    let made : c.len-made.result ≡ length t.conns.items = search rules in
    rw (← c.self.view_is, c.in_ok-push.ensures.items)
    (ap (λ x. let y : TableState = record { apps = t.apps; told = x } in y)
    (told_connect t.apps t.servers.items t.conns.items c.args.app c.args.server _ c.self.invariant refl refl made refl refl c.new.ensures))
