use Rattle.ecp_messages.specs.Ups.{up_frame_bytes, IsUpFrame}
use Rattle.ecp_messages.proofs.Readings.{reads-again, reads-bad_kind, reads-bad_field, reads-left_over}
use Rattle.ecp_messages.proofs.UpFrames.{up-are_read}
use Rattle.ecp_messages.proofs.up_decoder.decode_up.Goals as goal

pub returns-clause-again : goal.returns-clause-again
returns-clause-again c = reads-again up_frame_bytes IsUpFrame _ c.args.body.now _ (up-are_read c.args.body.now) c.read_up.ensures

pub returns-clause-bad_kind : goal.returns-clause-bad_kind
returns-clause-bad_kind c = reads-bad_kind up_frame_bytes IsUpFrame _ c.args.body.now _ (up-are_read c.args.body.now) c.read_up.ensures

pub returns-clause-bad_field : goal.returns-clause-bad_field
returns-clause-bad_field c = reads-bad_field up_frame_bytes IsUpFrame _ c.args.body.now _ (up-are_read c.args.body.now) c.read_up.ensures

pub returns-clause-left_over : goal.returns-clause-left_over
returns-clause-left_over c = reads-left_over up_frame_bytes IsUpFrame _ c.args.body.now _ (up-are_read c.args.body.now) c.read_up.ensures
