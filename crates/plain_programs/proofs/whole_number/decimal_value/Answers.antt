use lib.Signed.{mag}
use Rattle.std.proofs.Common.{◌<◌, ◌^◌, rules}
use Rattle.plain_programs.proofs.NumberLemmas.{integer_text-signed}
use Rattle.plain_programs.proofs.whole_number.decimal_value.Goals as goal

pub returns : goal.returns
returns c =
    let small : mag c.args.number < 2 ^ 63 = search rules in
    let e = integer_text-signed c.args.number small in
    rw e (search rules)
