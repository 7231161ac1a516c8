use Rattle.std.proofs.Common.{rules}
use Rattle.ecp_messages.proofs.FieldsTaken.{no-count}
use Rattle.ecp_messages.proofs.field_takers.take_count.Goals as goal

pub returns-then-count-eq0-clause-none : goal.returns-then-count-eq0-clause-none
returns-then-count-eq0-clause-none c = no-count c.in_ok-count.count c.args.bytes.now c.in_ok-count.rest.now (search rules) (search rules)
