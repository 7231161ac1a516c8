use Rattle.std.proofs.Common.{arith}
use Rattle.std.proofs.lemmas.Int.{ints}
use Rattle.subscript_keys.proofs.NumberBytes.{number_is_short}
use Rattle.subscript_keys.proofs.sub_writer.put_positive.Goals as goal

pub raised-requires-clause-low : goal.raised-requires-clause-low
raised-requires-clause-low c = omega (arith, ints, number_is_short c.args.number.now c.requires)

pub raised-requires-clause-high : goal.raised-requires-clause-high
raised-requires-clause-high c = omega (arith, ints, number_is_short c.args.number.now c.requires)
