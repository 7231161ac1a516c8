use Rattle.std.proofs.Common.{◌≡◌, ◌++◌, rules}
use Rattle.field_bytes.specs.Fields.{list_bytes, IsShortList, NoneAhead}
use Rattle.block_bytes.proofs.OneRun.{no_value}
use Rattle.block_bytes.proofs.block_reader.take_pair.Goals as goal

pub returns-in_err-value-clause-none : goal.returns-in_err-value-clause-none
returns-in_err-value-clause-none c =
    let short : IsShortList c.in_ok-key.key.now = search rules in
    let stands : c.args.bytes.now ≡ list_bytes c.in_ok-key.key.now ++ c.in_ok-key.rest.now = search rules in
    let none : NoneAhead list_bytes IsShortList c.in_ok-key.rest.now = search rules in
    λ _. no_value c.args.bytes.now c.in_ok-key.rest.now c.in_ok-key.key.now short stands none
