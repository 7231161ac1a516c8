use Rattle.std.proofs.Common.{rules}
use Rattle.journal_records.specs.Records.{NoItemAhead}
use Rattle.journal_records.proofs.NoRecord.{no_w, no_job, no_txn}
use Rattle.journal_records.proofs.item_head.take_item_head.Goals as goal

pub returns-in_err-w-clause-none : goal.returns-in_err-w-clause-none
returns-in_err-w-clause-none c =
    let none : NoItemAhead c.args.bytes.now = no_w c.args.bytes.now c.in_ok-session.rest.now c.in_ok-session.session c.in_ok-session.ensures.range c.in_ok-session.ensures.some c.in_err-w.ensures.none in
    search rules

pub returns-in_err-job-clause-none : goal.returns-in_err-job-clause-none
returns-in_err-job-clause-none c =
    let none : NoItemAhead c.args.bytes.now = no_job c.args.bytes.now c.in_ok-session.rest.now c.in_ok-w.rest.now c.in_ok-session.session c.in_ok-w.w c.in_ok-session.ensures.range c.in_ok-w.ensures.range c.in_ok-session.ensures.some c.in_ok-w.ensures.some c.in_err-job.ensures.none in
    search rules

pub returns-in_err-txn-clause-none : goal.returns-in_err-txn-clause-none
returns-in_err-txn-clause-none c =
    let none : NoItemAhead c.args.bytes.now = no_txn c.args.bytes.now c.in_ok-session.rest.now c.in_ok-w.rest.now c.in_ok-job.rest.now c.in_ok-session.session c.in_ok-w.w c.in_ok-job.job c.in_ok-session.ensures.range c.in_ok-w.ensures.range c.in_ok-job.ensures.range c.in_ok-session.ensures.some c.in_ok-w.ensures.some c.in_ok-job.ensures.some c.in_err-txn.ensures.none in
    search rules
