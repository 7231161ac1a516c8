-- The frames from an application server.
use Rattle.std.proofs.Common.{◌≡◌, ℕ, List}
use Rattle.field_bytes.specs.Fields.{IsPrefixFree}
use Rattle.ecp_messages.specs.declared.up.Up.{Up}
use Rattle.ecp_messages.specs.declared.up.UpFrame.{UpFrame}
use Rattle.ecp_messages.specs.Taking.{HasUnknownKind}
use Rattle.ecp_messages.specs.Ups.{up_row, up_frame_bytes, IsUpFrame}
use Rattle.ecp_messages.proofs.Readings.{AreRead}
use Rattle.ecp_messages.proofs.UpTable.{up_kinds, up-table}
use Rattle.ecp_messages.proofs.FrameReads.{AreFrames, frames-free, frames-are_read}

abbrev pub up_seq : UpFrame → ℕ
up_seq f = f.seq

abbrev pub up_ack : UpFrame → ℕ
up_ack f = f.ack

abbrev pub up_message : UpFrame → Up
up_message f = f.message

one-frame : (f g : UpFrame) → f.seq ≡ g.seq → f.ack ≡ g.ack → f.message ≡ g.message → f ≡ g
one-frame f g a b c = let whole : ◌≡◌ {A = UpFrame} (record { seq = f.seq; ack = f.ack; message = f.message }) (record { seq = g.seq; ack = g.ack; message = g.message }) = cc in whole

up-frames : AreFrames up_row up_kinds up_seq up_ack up_message
up-frames = record { table = up-table; one = one-frame }

pub up-free : IsPrefixFree up_frame_bytes IsUpFrame
up-free = frames-free up_row up_kinds up_seq up_ack up_message up-frames

pub up-are_read : (body : List ℕ) → AreRead up_frame_bytes IsUpFrame (HasUnknownKind up_row body) body
up-are_read body = frames-are_read up_row up_kinds up_seq up_ack up_message up-frames body
