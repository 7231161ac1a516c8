use Rattle.std.proofs.Common.{rules}
use Rattle.ecp_messages.specs.declared.message_error.MessageError.TheVariants.{BadField}
use Rattle.ecp_messages.specs.Downs.{down_row, down_frame_bytes, IsDownFrame}
use Rattle.ecp_messages.proofs.Frames.{seq-holds, seq-fails, some-left}
use Rattle.ecp_messages.proofs.Readings.{reads-handed}
use Rattle.ecp_messages.proofs.FrameReads.{short-body, no-frame, unknown-head, wrong-seq, frame-stands, is-frame}
use Rattle.ecp_messages.proofs.DownTable.{down_kinds, down-table}
use Rattle.ecp_messages.proofs.DownFrames.{down_seq, down_ack, down_message}
use Rattle.ecp_messages.proofs.down_decoder.read_down.Goals as goal

pub returns-in_err-head : goal.returns-in_err-head
returns-in_err-head c =
    let short = short-body down_row down_seq down_ack down_message c.args.body.now (search rules) in
    reads-handed down_frame_bytes IsDownFrame _ c.args.body.now c.from_residual.result BadField (search rules) (λ e. absurd cc) (λ e. short) (λ e. absurd cc)

pub returns-in_err-message : goal.returns-in_err-message
returns-in_err-message c =
    let head = c.in_ok-head.head in
    let rest = c.in_ok-head.rest.now in
    let answers = c.in_err-message.ensures in
    reads-handed down_frame_bytes IsDownFrame _ c.args.body.now c.from_residual-in_err-message.result c.in_err-message.field-0.0 (search rules) (λ e. unknown-head down_row head.seq head.ack head.kind c.args.body.now rest (search rules) (answers.bad_kind (search rules))) (λ e. no-frame down_row down_seq down_ack down_message head.seq head.ack head.kind c.args.body.now rest (search rules) (search rules) (search rules) (answers.known (search rules)) (answers.bad_field (search rules))) (λ e. answers.left_over (search rules))

pub returns-then-not-has_seq : goal.returns-then-not-has_seq
returns-then-not-has_seq c =
    let head = c.in_ok-head.head in
    wrong-seq down_row down_kinds down_seq down_ack down_message down-table head.seq head.ack head.kind c.args.body.now c.in_ok-head.rest.now c.in_ok-message.message c.in_ok-message.rest.now (search rules) (search rules) (search rules) c.in_ok-message.ensures.some (seq-fails c.has_seq.result c.is_numbered.result _ head.seq c.has_seq.ensures c.if-not-has_seq.true c.is_numbered.ensures)

pub returns-then-not-is_empty : goal.returns-then-not-is_empty
returns-then-not-is_empty c =
    let head = c.in_ok-head.head in
    let ahead = c.in_ok-message.ensures.some in
    record {
      frame = record { seq = head.seq; ack = head.ack; message = c.in_ok-message.message };
      rest = c.in_ok-message.rest.now;
      formed = is-frame down_row head.seq head.ack head.kind c.in_ok-head.rest.now c.in_ok-message.message c.in_ok-message.rest.now (search rules) (search rules) ahead (seq-holds c.has_seq.result c.is_numbered.result _ head.seq c.has_seq.ensures c.if-not-has_seq.false c.is_numbered.ensures);
      more = some-left c.is_empty.result c.in_ok-message.rest.now c.is_empty.ensures c.if-not-is_empty.true;
      whole = frame-stands down_row head.seq head.ack head.kind c.args.body.now c.in_ok-head.rest.now c.in_ok-message.message c.in_ok-message.rest.now (search rules) ahead;
    }
