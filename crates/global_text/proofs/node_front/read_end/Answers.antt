use Rattle.std.proofs.Common.{List, ℕ, sym, subst}
use Rattle.global_text.specs.Nodes.{ReadsParts}
use Rattle.global_text.proofs.NodeParts.{parts-shorter}
use Rattle.global_text.proofs.NodeEnds.{read-to}
use Rattle.global_text.proofs.node_front.read_end.Goals as goal

pub overflow_sub-result : goal.overflow_sub-result
overflow_sub-result c =
    let P : List ℕ → Type 0 = λ t. ReadsParts c.args.name.now c.read_subs.new.subs t c.in_ok-after.after.now in
    parts-shorter c.args.name.now c.args.text.now c.in_ok-after.after.now c.read_subs.new.subs (subst P (sym c.requires.stands) c.in_ok-after.ensures.ok)

pub returns-clause-read : goal.returns-clause-read
returns-clause-read c =
    read-to c.args.text.now c.args.name.now c.args.rest.now c.in_ok-after.after.now c.read_subs.new.subs c.requires.stands c.in_ok-after.ensures.ok
