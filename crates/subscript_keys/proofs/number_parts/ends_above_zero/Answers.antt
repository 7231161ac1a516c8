use Rattle.std.proofs.Common.{arith}
use Rattle.subscript_keys.proofs.TextParts.{ends-test}
use Rattle.subscript_keys.proofs.number_parts.ends_above_zero.Goals as goal

pub returns-in-len1-up : goal.returns-in-len1-up
returns-in-len1-up c = ends-test c.args.digits.now c.requires (omega arith)
