use Rattle.lock_table.specs.LockWords.{is_hold_elsewhere, is_request_elsewhere}
use Rattle.lock_table.proofs.CountLemmas.{fit_filtered}
use Rattle.lock_table.proofs.lock_table.LockTable.drop_session.Goals as goal

pub invariant_of-self : goal.invariant_of-self
invariant_of-self c =
    rw (c.drop_session.ensures, c.drop_session-2.ensures)
    (fit_filtered (is_hold_elsewhere c.args.session) (is_request_elsewhere c.args.session) c.self.inside.holds c.self.inside.requests.items c.self.invariant)

pub returns-clause-err : goal.returns-clause-err
returns-clause-err c = rw (← c.self.view_is, ← c.drop_session.ensures, ← c.drop_session-2.ensures, ← c.drop_session-3.ensures) c.pass.ensures.err
