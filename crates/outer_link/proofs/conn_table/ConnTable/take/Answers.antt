use Rattle.outer_link.proofs.TableSteps.{take_none}
use Rattle.outer_link.proofs.conn_table.ConnTable.take.Goals as goal

pub returns-in-0-clause-told : goal.returns-in-0-clause-told
returns-in-0-clause-told c =
    rw (c.take_open.ensures.next, c.in-0.is) (take_none c.args.self.now.told c.args.conn c.args.end)
