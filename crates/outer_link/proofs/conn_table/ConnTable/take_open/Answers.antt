use Rattle.std.proofs.Common.{◌≡◌, ◌∙◌, ap, refl, false, length, min, take, sym}
use Rattle.outer_link.specs.TableState.{TableState, told_of}
use Rattle.outer_link.specs.Told.{is_cut_at, undelivered}
use Rattle.outer_link.proofs.SoundSteps.{kept_conn}
use Rattle.outer_link.proofs.TableSteps.{conn_at, left_at, told_take}
use Rattle.outer_link.proofs.conn_table.ConnTable.take_open.Goals as goal

pub invariant_of-self : goal.invariant_of-self
invariant_of-self c =
    let t = c.self.inside in
    let at = conn_at t.servers.items t.conns.items c.args.self.now.told c.args.conn c.index_mut-conn.result.now
    (ap (λ (x : TableState). x.told) c.self.view_is) c.requires.known c.index_mut-conn.ensures.value in
    kept_conn t.apps t.servers.items t.conns.items c.args.conn c.index_mut-conn.result.now (record c.index_mut-conn.result.now { lines = c.take.new.self })
    c.self.invariant at refl (λ n e. e)

pub returns-clause-count : goal.returns-clause-count
returns-clause-count c =
    let t = c.self.inside in
    let at = conn_at t.servers.items t.conns.items c.args.self.now.told c.args.conn c.index_mut-conn.result.now
    (ap (λ (x : TableState). x.told) c.self.view_is) c.requires.known c.index_mut-conn.ensures.value in
    let open' : is_cut_at (told_of t.servers.items t.conns.items) c.args.conn ≡ false =
    ap (λ (x : TableState). is_cut_at x.told c.args.conn) c.self.view_is ∙ c.requires.uncut in
    let there = ap (λ (x : TableState). undelivered x.told c.args.conn c.args.end) (sym c.self.view_is)
    ∙ left_at t.servers.items t.conns.items c.args.conn c.index_mut-conn.result.now c.args.end at open' in
    c.take.ensures.count ∙ ap (λ u. min (length u) (length c.args.buf.now)) (sym there)

pub returns-clause-bytes : goal.returns-clause-bytes
returns-clause-bytes c =
    let t = c.self.inside in
    let at = conn_at t.servers.items t.conns.items c.args.self.now.told c.args.conn c.index_mut-conn.result.now
    (ap (λ (x : TableState). x.told) c.self.view_is) c.requires.known c.index_mut-conn.ensures.value in
    let open' : is_cut_at (told_of t.servers.items t.conns.items) c.args.conn ≡ false =
    ap (λ (x : TableState). is_cut_at x.told c.args.conn) c.self.view_is ∙ c.requires.uncut in
    let there = ap (λ (x : TableState). undelivered x.told c.args.conn c.args.end) (sym c.self.view_is)
    ∙ left_at t.servers.items t.conns.items c.args.conn c.index_mut-conn.result.now c.args.end at open' in
    c.take.ensures.bytes ∙ ap (take c.take.result) (sym there)

pub returns-clause-next : goal.returns-clause-next
returns-clause-next c =
    let t = c.self.inside in
    let at = conn_at t.servers.items t.conns.items c.args.self.now.told c.args.conn c.index_mut-conn.result.now
    (ap (λ (x : TableState). x.told) c.self.view_is) c.requires.known c.index_mut-conn.ensures.value in
    rw (← c.self.view_is, c.take.ensures.lines)
    (ap (λ x. let y : TableState = record { apps = t.apps; told = x } in y)
    (told_take t.servers.items t.conns.items c.args.conn c.index_mut-conn.result.now c.args.end c.take.result at))
