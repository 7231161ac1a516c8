use Rattle.global_text.proofs.StringReads.{read-at}
use Rattle.global_text.proofs.value_reader.read_value.Goals as goal

pub returns-in-Ok-clause-ok : goal.returns-in-Ok-clause-ok
returns-in-Ok-clause-ok c = read-at c.from_vec.result c.in-Ok.string.items c.args.text.now c.in-Ok.rest.now c.from_vec.ensures c.in-Ok.ensures.ok
