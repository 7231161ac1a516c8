use Rattle.std.proofs.Common.{◌≡◌, ◌∙◌, ap, refl, false, sym}
use Rattle.std.proofs.lemmas.Result.{on_ok_weaker}
use Rattle.outer_link.specs.Lines.{put_into}
use Rattle.outer_link.specs.TableState.{TableState, told_of}
use Rattle.outer_link.specs.Told.{is_cut_at}
use Rattle.outer_link.proofs.SoundSteps.{kept_conn}
use Rattle.outer_link.proofs.TableSteps.{conn_at, put_on_cut, told_put}
use Rattle.outer_link.proofs.conn_table.ConnTable.put.Goals as goal

pub returns-then-is_cut_at-clause-ok : goal.returns-then-is_cut_at-clause-ok
returns-then-is_cut_at-clause-ok c =
    let now = c.args.self.now in
    ap (λ x. let y : TableState = record { apps = now.apps; told = x } in y)
    (sym (put_on_cut now.told c.args.conn c.args.end c.args.part.now (sym c.is_cut_at.ensures ∙ c.if-is_cut_at.true)))

pub invariant_of-self : goal.invariant_of-self
invariant_of-self c =
    let t = c.self.inside in
    let at = conn_at t.servers.items t.conns.items c.args.self.now.told c.args.conn c.index_mut-conn.result.now
    (ap (λ (x : TableState). x.told) c.self.view_is) c.requires c.index_mut-conn.ensures.value in
    kept_conn t.apps t.servers.items t.conns.items c.args.conn c.index_mut-conn.result.now (record c.index_mut-conn.result.now { lines = c.put.new.self })
    c.self.invariant at refl (λ n e. e)

pub returns-clause-ok : goal.returns-clause-ok
returns-clause-ok c =
    let t = c.self.inside in
    let at = conn_at t.servers.items t.conns.items c.args.self.now.told c.args.conn c.index_mut-conn.result.now
    (ap (λ (x : TableState). x.told) c.self.view_is) c.requires c.index_mut-conn.ensures.value in
    let open' : is_cut_at (told_of t.servers.items t.conns.items) c.args.conn ≡ false =
    ap (λ (x : TableState). is_cut_at x.told c.args.conn) c.self.view_is ∙ sym c.is_cut_at.ensures ∙ c.if-is_cut_at.false in
    on_ok_weaker c.put.result
    (λ (e : c.put.new.self ≡ put_into c.index_mut-conn.result.now.lines c.args.end c.args.part.now).
    rw (← c.self.view_is, e)
    (ap (λ x. let y : TableState = record { apps = t.apps; told = x } in y)
    (told_put t.servers.items t.conns.items c.args.conn c.index_mut-conn.result.now c.args.end c.args.part.now at open')))
    c.put.ensures.ok
