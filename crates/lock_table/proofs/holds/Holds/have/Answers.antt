use Rattle.std.proofs.Common.{◌∙◌, ap}
use Rattle.std.specs.List.{find}
use Rattle.std.specs.Option.{is_some}
use Rattle.lock_index.specs.IndexWords.{passes_at}
use Rattle.lock_table.specs.LockWords.{is_lane}
use Rattle.lock_table.proofs.HoldLemmas.{some_number}
use Rattle.lock_table.proofs.IndexLemmas.{lane_found}
use Rattle.lock_table.proofs.holds.Holds.have.Goals as goal

pub returns : goal.returns
returns c =
    rw (← c.self.view_is)
    (c.is_some.ensures
    ∙ ap is_some (c.lane_number.ensures
    ∙ ap (find (passes_at (is_lane c.args.who c.args.name.now c.args.mode) c.self.inside.rows.entries)) c.numbers.ensures
    ∙ lane_found c.args.who c.args.name.now c.args.mode c.self.inside.next c.self.inside.names c.self.inside.rows.entries c.self.invariant)
    ∙ some_number (is_lane c.args.who c.args.name.now c.args.mode) c.self.inside.rows.entries)
