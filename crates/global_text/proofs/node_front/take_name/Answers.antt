use Rattle.std.proofs.Common.{refl}
use Rattle.std.proofs.lemmas.Bool.{iff_false}
use Rattle.global_text.proofs.NodeParts.{no-name}
use Rattle.global_text.proofs.node_front.take_name.Goals as goal

pub returns-clause-none : goal.returns-clause-none
returns-clause-none c = (
  λ t. no-name c.args.text.now c.split_name.result.0.now c.split_name.result.1.now c.split_name.ensures.whole c.split_name.ensures.bytes c.split_name.ensures.rest (iff_false c.is_name.ensures c.if-is_name.false),
  λ none. refl,
)
