use Rattle.std.proofs.Common.{rules}
use Rattle.field_bytes.proofs.PrefixFree.{no_list}
use Rattle.field_bytes.proofs.list_fields.take_list.Goals as goal

pub returns-then-rest-count-clause-none : goal.returns-then-rest-count-clause-none
returns-then-rest-count-clause-none c = no_list c.args.bytes.now c.in-Some.rest.now c.in-Some.count c.in-Some.ensures.range c.in-Some.ensures.some (search rules)
