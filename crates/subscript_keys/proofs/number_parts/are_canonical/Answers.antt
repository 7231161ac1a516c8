use Rattle.std.proofs.Common.{arith}
use Rattle.subscript_keys.proofs.TextParts.{canonical_from}
use Rattle.subscript_keys.proofs.number_parts.are_canonical.Goals as goal

pub returns-then-begins_above_zero : goal.returns-then-begins_above_zero
returns-then-begins_above_zero c =
    canonical_from c.args.whole.now c.args.fraction.now c.ends_above_zero.result c.requires.whole c.requires.fraction (omega arith) (omega arith) (c.begins_above_zero.ensures.0 c.if-begins_above_zero.true) c.ends_above_zero.ensures
