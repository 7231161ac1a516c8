use Rattle.std.proofs.Common.{ap, refl, true, false, ◌==◌}
use Rattle.std.proofs.lemmas.Bool.{and_right}
use Rattle.outer_link.specs.TableState.{TableState}
use Rattle.outer_link.specs.Told.{accepted_conn}
use Rattle.outer_link.proofs.SoundSteps.{kept_conn}
use Rattle.outer_link.proofs.TableSteps.{conn_at, told_conn}
use Rattle.outer_link.proofs.conn_table.ConnTable.mark_accepted.Goals as goal

pub invariant_of-self : goal.invariant_of-self
invariant_of-self c =
    let t = c.self.inside in
    let at = conn_at t.servers.items t.conns.items c.args.self.now.told c.args.number c.index_mut.result.now
    (ap (λ (x : TableState). x.told) c.self.view_is) c.requires c.index_mut.ensures.value in
    kept_conn t.apps t.servers.items t.conns.items c.args.number c.index_mut.result.now (record c.index_mut.result.now { is_accepted = true }) c.self.invariant at refl
    (λ n _. and_right (c.index_mut.result.now.server == n) false refl)

pub returns : goal.returns
returns c =
    let t = c.self.inside in
    let at = conn_at t.servers.items t.conns.items c.args.self.now.told c.args.number c.index_mut.result.now
    (ap (λ (x : TableState). x.told) c.self.view_is) c.requires c.index_mut.ensures.value in
    rw (← c.self.view_is)
    (ap (λ x. let y : TableState = record { apps = t.apps; told = x } in y)
    (told_conn t.servers.items t.conns.items c.args.number c.index_mut.result.now (record c.index_mut.result.now { is_accepted = true }) accepted_conn at refl))
