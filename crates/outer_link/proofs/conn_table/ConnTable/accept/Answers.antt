use Rattle.std.proofs.Common.{◌+◌, arith, sym, subst}
use Rattle.std.specs.Prelude.{take}
use Rattle.outer_link.specs.TableState.{TableState, NoneWaits}
use Rattle.outer_link.specs.Told.{accepted_conn}
use Rattle.outer_link.proofs.ListSteps.{length_changed}
use Rattle.outer_link.proofs.PositionSteps.{none_waits, none_waits_now}
use Rattle.outer_link.proofs.conn_table.ConnTable.accept.Goals as goal

pub see-requires-clause-none : goal.see-requires-clause-none
see-requires-clause-none c = none_waits c.args.server c.len-seen.result c.args.self.now.told.conns (sym c.in-None.ensures.next)

pub see-requires-in-Some-clause-within : goal.see-requires-in-Some-clause-within
see-requires-in-Some-clause-within c =
    let facts = none_waits_now c.args.server c.in-Some.number c.args.self.now.told.conns (sym c.in-Some.ensures.next) in
    let within = facts.0 in
    rw (c.mark_accepted.ensures, length_changed accepted_conn c.in-Some.number c.args.self.now.told.conns) (omega arith)

pub see-requires-in-Some-clause-none : goal.see-requires-in-Some-clause-none
see-requires-in-Some-clause-none c =
    subst (λ (t : TableState). NoneWaits c.args.server (take (c.in-Some.number + 1) t.told.conns)) (sym c.mark_accepted.ensures)
    (none_waits_now c.args.server c.in-Some.number c.args.self.now.told.conns (sym c.in-Some.ensures.next)).1
