use Rattle.std.proofs.Common.{ap, refl, true, ◌==◌}
use Rattle.outer_link.specs.TableState.{TableState}
use Rattle.outer_link.specs.Told.{cut_conn}
use Rattle.outer_link.proofs.SoundSteps.{kept_conn}
use Rattle.outer_link.proofs.TableSteps.{conn_at, told_conn, cut_waits}
use Rattle.outer_link.proofs.conn_table.ConnTable.cut.Goals as goal

pub invariant_of-self : goal.invariant_of-self
invariant_of-self c =
    let t = c.self.inside in
    let at = conn_at t.servers.items t.conns.items c.args.self.now.told c.args.conn c.index_mut.result.now
    (ap (λ (x : TableState). x.told) c.self.view_is) c.requires c.index_mut.ensures.value in
    kept_conn t.apps t.servers.items t.conns.items c.args.conn c.index_mut.result.now (record c.index_mut.result.now { is_cut = true }) c.self.invariant at refl
    (λ n _. cut_waits (c.index_mut.result.now.server == n) c.index_mut.result.now.is_accepted)

pub returns : goal.returns
returns c =
    let t = c.self.inside in
    let at = conn_at t.servers.items t.conns.items c.args.self.now.told c.args.conn c.index_mut.result.now
    (ap (λ (x : TableState). x.told) c.self.view_is) c.requires c.index_mut.ensures.value in
    rw (← c.self.view_is)
    (ap (λ x. let y : TableState = record { apps = t.apps; told = x } in y)
    (told_conn t.servers.items t.conns.items c.args.conn c.index_mut.result.now (record c.index_mut.result.now { is_cut = true }) cut_conn at refl))
