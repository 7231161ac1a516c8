use Rattle.std.proofs.Common.{◌≡◌, ◌++◌, rules}
use Rattle.field_bytes.specs.Fields.{list_bytes, IsShortList, NoneAhead}
use Rattle.block_bytes.proofs.OneRun.{no_other_end}
use Rattle.block_bytes.proofs.block_reader.take_span.Goals as goal

pub returns-in_err-hi-clause-none : goal.returns-in_err-hi-clause-none
returns-in_err-hi-clause-none c =
    let short : IsShortList c.in_ok-lo.lo.now = search rules in
    let stands : c.args.bytes.now ≡ list_bytes c.in_ok-lo.lo.now ++ c.in_ok-lo.rest.now = search rules in
    let none : NoneAhead list_bytes IsShortList c.in_ok-lo.rest.now = search rules in
    λ _. no_other_end c.args.bytes.now c.in_ok-lo.rest.now c.in_ok-lo.lo.now short stands none
