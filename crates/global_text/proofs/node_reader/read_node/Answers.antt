use Rattle.std.proofs.Common.{rules}
use Rattle.global_text.proofs.NodeEnds.{stop_fault}
use Rattle.global_text.proofs.node_reader.read_node.Goals as goal

pub returns-in-Err-clause-err : goal.returns-in-Err-clause-err
returns-in-Err-clause-err c = stop_fault c.args.text.now c.in_ok-name.field-0 c.in-Err.error (search rules) (search rules)
