use Rattle.transcript.proofs.PartLemmas.{node_has_forms}
use Rattle.transcript.proofs.key_printer.node_of.Goals as goal

pub returns-in-Ok-clause-forms : goal.returns-in-Ok-clause-forms
returns-in-Ok-clause-forms c = node_has_forms c.in-Ok.node c.in-Ok.ensures.ok.0
