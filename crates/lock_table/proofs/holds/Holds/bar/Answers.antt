use Rattle.lock_index.proofs.KeyLemmas.{ok_same}
use Rattle.lock_table.proofs.IndexLemmas.{bars_beside}
use Rattle.lock_table.proofs.holds.Holds.bar.Goals as goal

pub returns : goal.returns
returns c =
    rw (← c.self.view_is)
    (ok_same c.any_beside.result _ _ (bars_beside c.args.who c.args.name.now c.args.mode c.self.inside.next c.self.inside.names c.self.inside.rows.entries c.self.invariant) c.any_beside.ensures)
