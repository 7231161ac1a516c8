use Rattle.std.proofs.Common.{◌<◌, length, arith, rules}
use Rattle.std.proofs.lemmas.Bool.Decides.{nat_tests}
use Rattle.journal_disk.proofs.RecordRows.{reading_stops}
use Rattle.journal_disk.proofs.batch_reader.take_records.Goals as goal

pub returns-in_err-rest-clause-refused : goal.returns-in_err-rest-clause-refused
returns-in_err-rest-clause-refused c =
    let some : 0 < length c.loop-rest.rest.now = grind (arith, nat_tests) in
    λ same. reading_stops c.args.list.now c.loop-rest.list c.args.bytes.now c.loop-rest.rest.now c.loop-rest.invariant some (c.in_err-rest.ensures.none (search rules))
