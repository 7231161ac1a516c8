use Rattle.std.proofs.Common.{rules, sym, subst}
use Rattle.std.proofs.lemmas.Bool.{iff_false}
use Rattle.subscript_keys.specs.Key.{HasEmpty}
use Rattle.subscript_keys.proofs.KeyForms.{node_from_bytes}
use Rattle.subscript_keys.proofs.encoder.encode.Goals as goal

pub returns-clause-node : goal.returns-clause-node
returns-clause-node c =
    node_from_bytes c.args.node.now c.in_ok-bytes.bytes.items c.requires.name c.requires.subs (λ e. iff_false c.has_empty.ensures c.if-has_empty.false (subst HasEmpty (sym c.as_slice.ensures) e)) (search rules) (search rules)
