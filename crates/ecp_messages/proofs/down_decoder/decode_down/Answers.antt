use Rattle.ecp_messages.specs.Downs.{down_frame_bytes, IsDownFrame}
use Rattle.ecp_messages.proofs.Readings.{reads-again, reads-bad_kind, reads-bad_field, reads-left_over}
use Rattle.ecp_messages.proofs.DownFrames.{down-are_read}
use Rattle.ecp_messages.proofs.down_decoder.decode_down.Goals as goal

pub returns-clause-again : goal.returns-clause-again
returns-clause-again c = reads-again down_frame_bytes IsDownFrame _ c.args.body.now _ (down-are_read c.args.body.now) c.read_down.ensures

pub returns-clause-bad_kind : goal.returns-clause-bad_kind
returns-clause-bad_kind c = reads-bad_kind down_frame_bytes IsDownFrame _ c.args.body.now _ (down-are_read c.args.body.now) c.read_down.ensures

pub returns-clause-bad_field : goal.returns-clause-bad_field
returns-clause-bad_field c = reads-bad_field down_frame_bytes IsDownFrame _ c.args.body.now _ (down-are_read c.args.body.now) c.read_down.ensures

pub returns-clause-left_over : goal.returns-clause-left_over
returns-clause-left_over c = reads-left_over down_frame_bytes IsDownFrame _ c.args.body.now _ (down-are_read c.args.body.now) c.read_down.ensures
