-- The frames from a data server.
use Rattle.std.proofs.Common.{◌≡◌, ℕ, List}
use Rattle.field_bytes.specs.Fields.{IsPrefixFree}
use Rattle.ecp_messages.specs.declared.down.Down.{Down}
use Rattle.ecp_messages.specs.declared.down.DownFrame.{DownFrame}
use Rattle.ecp_messages.specs.Taking.{HasUnknownKind}
use Rattle.ecp_messages.specs.Downs.{down_row, down_frame_bytes, IsDownFrame}
use Rattle.ecp_messages.proofs.Readings.{AreRead}
use Rattle.ecp_messages.proofs.DownTable.{down_kinds, down-table}
use Rattle.ecp_messages.proofs.FrameReads.{AreFrames, frames-free, frames-are_read}

abbrev pub down_seq : DownFrame → ℕ
down_seq f = f.seq

abbrev pub down_ack : DownFrame → ℕ
down_ack f = f.ack

abbrev pub down_message : DownFrame → Down
down_message f = f.message

one-frame : (f g : DownFrame) → f.seq ≡ g.seq → f.ack ≡ g.ack → f.message ≡ g.message → f ≡ g
one-frame f g a b c = let whole : ◌≡◌ {A = DownFrame} (record { seq = f.seq; ack = f.ack; message = f.message }) (record { seq = g.seq; ack = g.ack; message = g.message }) = cc in whole

down-frames : AreFrames down_row down_kinds down_seq down_ack down_message
down-frames = record { table = down-table; one = one-frame }

pub down-free : IsPrefixFree down_frame_bytes IsDownFrame
down-free = frames-free down_row down_kinds down_seq down_ack down_message down-frames

pub down-are_read : (body : List ℕ) → AreRead down_frame_bytes IsDownFrame (HasUnknownKind down_row body) body
down-are_read body = frames-are_read down_row down_kinds down_seq down_ack down_message down-frames body
