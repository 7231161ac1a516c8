use Rattle.std.proofs.Common.{arith}
use Rattle.std.proofs.lemmas.Int.{ints}
use Rattle.subscript_keys.proofs.NumberBytes.{number_is_short}
use Rattle.subscript_keys.proofs.sub_writer.put_negative.Goals as goal

pub lowered-requires-clause-low : goal.lowered-requires-clause-low
lowered-requires-clause-low c = omega (arith, ints, number_is_short c.args.number.now c.requires)

pub lowered-requires-clause-high : goal.lowered-requires-clause-high
lowered-requires-clause-high c = omega (arith, ints, number_is_short c.args.number.now c.requires)
