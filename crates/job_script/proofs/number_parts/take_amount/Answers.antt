use Rattle.std.proofs.Common.{◌≡◌, ◌≢◌, ◌≤◌, ◌^◌, [], unsigned_abs, rules, arith}
use Rattle.job_script.proofs.NumberLemmas.{amount_high}
use Rattle.job_script.proofs.number_parts.take_amount.Goals as goal

pub returns-then-unsigned_abs-ge-NUMBER_LIMIT-clause-err : goal.returns-then-unsigned_abs-ge-NUMBER_LIMIT-clause-err
returns-then-unsigned_abs-ge-NUMBER_LIMIT-clause-err c =
    let some : c.args.text.now ≢ [] = search rules in
    let value : c.unsigned_abs.result ≡ unsigned_abs c.in-Some.amount = search rules in
    let out : 10 ^ 18 ≤ unsigned_abs c.in-Some.amount = omega (arith, value, c.if-unsigned_abs-ge-NUMBER_LIMIT.true) in
    amount_high c.args.text.now c.split_word.result.0.now c.in-Some.amount some c.split_word.ensures.first c.in-Some.ensures.some.0 c.in-Some.ensures.some.1 out
