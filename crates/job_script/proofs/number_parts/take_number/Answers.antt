use Rattle.std.proofs.Common.{◌≢◌, ◌<◌, ◌^◌, [], rules, arith}
use Rattle.job_script.proofs.NumberLemmas.{number_low, number_high}
use Rattle.job_script.proofs.number_parts.take_number.Goals as goal

pub returns-then-number-least-clause-err : goal.returns-then-number-least-clause-err
returns-then-number-least-clause-err c =
    let some : c.args.text.now ≢ [] = search rules in
    let most : c.args.most < 2 ^ 64 = omega arith in
    number_low c.args.text.now c.split_word.result.0.now c.args.least c.args.most c.in-Some.number some c.split_word.ensures.first c.in-Some.ensures.some.0 c.in-Some.ensures.some.1 most c.if-number-least.true

pub returns-then-most-number-clause-err : goal.returns-then-most-number-clause-err
returns-then-most-number-clause-err c =
    let some : c.args.text.now ≢ [] = search rules in
    let most : c.args.most < 2 ^ 64 = omega arith in
    number_high c.args.text.now c.split_word.result.0.now c.args.least c.args.most c.in-Some.number some c.split_word.ensures.first c.in-Some.ensures.some.0 c.in-Some.ensures.some.1 most c.if-most-number.true
