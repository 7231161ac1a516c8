use Rattle.outer_link.proofs.TableSteps.{told_fresh}
use Rattle.outer_link.proofs.conn_table.ConnTable.new.Goals as goal

pub returns-clause-told : goal.returns-clause-told
returns-clause-told c = rw (c.in_ok-fresh_servers.ensures, c.new.ensures.items) (told_fresh c.args.apps c.args.servers)
