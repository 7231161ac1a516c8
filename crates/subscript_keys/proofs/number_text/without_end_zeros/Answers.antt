use Rattle.std.proofs.Common.{arith, ◌<◌, ◌≡◌, ◌%◌}
use Rattle.subscript_keys.proofs.Fractions.{length-digits-step}
use Rattle.subscript_keys.proofs.DigitTurns.{zero-turn}
use Rattle.subscript_keys.proofs.number_text.without_end_zeros.Goals as goal

pub loop-rest-preserved : goal.loop-rest-preserved
loop-rest-preserved c =
    let above : 0 < c.loop-rest.rest = c.loop-rest.invariant.above in
    let zero : c.loop-rest.rest % 10 ≡ 0 = omega arith in
    record {
      above = omega arith;
      zeros = zero-turn c.loop-rest.rest c.args.number above zero c.loop-rest.invariant.shorter c.loop-rest.invariant.zeros;
      shorter = omega (arith, length-digits-step c.loop-rest.rest above, c.loop-rest.invariant.shorter);
    }
