use Rattle.std.proofs.Common.{rules}
use Rattle.journal_disk.specs.Reading.{TakesBody, NoBodyAhead}
use Rattle.journal_disk.proofs.BatchRows.{no_body_no_batch, other_records_no_batch}
use Rattle.journal_disk.proofs.batch_reader.take_batch.Goals as goal

pub returns-in_err-records-clause-none : goal.returns-in_err-records-clause-none
returns-in_err-records-clause-none c =
    let none : NoBodyAhead c.args.bytes.now = search rules in
    λ _. no_body_no_batch c.args.list.now c.args.bytes.now none

pub returns-in_err-take_records-clause-none : goal.returns-in_err-take_records-clause-none
returns-in_err-take_records-clause-none c =
    let takes : TakesBody c.args.bytes.now c.in_ok-records.records.now c.in_ok-records.after.now = search rules in
    λ e. other_records_no_batch c.args.list.now c.args.bytes.now c.in_ok-records.records.now c.in_ok-records.after.now takes (c.in_err-take_records.ensures.refused (search rules))
