use Rattle.std.proofs.Common.{◌≡◌, ◌++◌, rules}
use Rattle.std.proofs.lemmas.Bool.{iff_false}
use Rattle.field_bytes.specs.Fields.{op_bytes, IsOpField, NoneAhead}
use Rattle.journal_records.specs.Records.{item_bytes, IsItem}
use Rattle.journal_records.proofs.NoRecord.{no_op, other_op}
use Rattle.journal_records.proofs.entry_reader.take_update.Goals as goal

pub returns-in_err-op-clause-none : goal.returns-in_err-op-clause-none
returns-in_err-op-clause-none c =
    let head = c.in_ok-head.head in
    let range : IsItem head.session head.w head.job head.txn = search rules in
    let stands : c.args.bytes.now ≡ item_bytes head.session head.w head.job head.txn ++ c.in_ok-head.rest.now = search rules in
    λ e.
    let none : NoneAhead op_bytes IsOpField c.in_ok-head.rest.now = search rules in
    no_op c.args.bytes.now c.in_ok-head.rest.now head.session head.w head.job head.txn range stands none

pub returns-then-not-is_record_op-clause-none : goal.returns-then-not-is_record_op-clause-none
returns-then-not-is_record_op-clause-none c =
    let head = c.in_ok-head.head in
    let range : IsItem head.session head.w head.job head.txn = search rules in
    let stands : c.args.bytes.now ≡ item_bytes head.session head.w head.job head.txn ++ c.in_ok-head.rest.now = search rules in
    λ _. other_op c.args.bytes.now c.in_ok-head.rest.now c.in_ok-op.rest.now head.session head.w head.job head.txn c.in_ok-op.op range stands c.in_ok-op.ensures.some c.in_ok-op.ensures.field (iff_false c.is_record_op.ensures c.if-not-is_record_op.true)
