use Rattle.std.proofs.Common.{◌≡◌, ◌-◌, length, refl, rules}
use Rattle.journal_disk.proofs.BatchRows.{batches_next, batches_stop}
use Rattle.journal_disk.proofs.journal_reader.read_batches.Goals as goal

pub loop-rest-preserved : goal.loop-rest-preserved
loop-rest-preserved c =
    batches_next c.args.bytes.now c.loop-rest.list c.take_batch.new.list c.loop-rest.rest.now _ c.in-Ok.after.now c.loop-rest.invariant c.loop-rest-test.true refl c.in-Ok.ensures.some

pub returns-in-Err-NotARecord-clause-not_a_journal : goal.returns-in-Err-NotARecord-clause-not_a_journal
returns-in-Err-NotARecord-clause-not_a_journal c =
    let none = c.in-Err-NotARecord.ensures.none (search rules) in
    λ place e.
    let here : place ≡ length c.args.bytes.now - length c.loop-rest.rest.now = cc in
    batches_stop c.args.bytes.now c.loop-rest.list c.loop-rest.rest.now _ place c.loop-rest.invariant c.loop-rest-test.true refl none here
