-- The table of the messages from a data server to an application server.
use Rattle.std.specs.Prelude.{ℕ, List, [], ◌∷◌}
use Rattle.ecp_messages.specs.declared.down.Down.{Down}
use Rattle.ecp_messages.specs.declared.down.Down.TheVariants.{Welcome, Reset, Block, Drop, Ack, Grant, Answer, Normal, Bare}
use Rattle.ecp_messages.specs.declared.down.DownFrame.{DownFrame}
use Rattle.ecp_messages.specs.Rows.{KindRow, IsFrame, frame_bytes, keeps_sum, numbered, unnumbered}
use Rattle.ecp_messages.specs.Rows.Field.{U16, U32, U64, I64, Told, FrontOf, Part}

-- the table
abbrev pub down_row : Down → KindRow
down_row (Welcome session epoch kept front taken) = unnumbered 0x81 (U64 session ∷ U32 epoch ∷ U64 kept ∷ FrontOf front ∷ U64 taken ∷ [])
down_row (Reset session at) = unnumbered 0x82 (U64 session ∷ U64 at ∷ [])
down_row (Block front block) = numbered 0x83 (FrontOf front ∷ Part block ∷ [])
down_row (Drop front lo hi) = numbered 0x84 (FrontOf front ∷ Part lo ∷ Part hi ∷ [])
down_row (Ack front) = numbered 0x85 (FrontOf front ∷ [])
down_row (Grant front ticket at) = numbered 0x86 (FrontOf front ∷ U32 ticket ∷ U64 at ∷ [])
down_row (Answer front about job number at sum) = record (numbered 0x87 (FrontOf front ∷ Told about ∷ U16 job ∷ U64 number ∷ U64 at ∷ I64 sum ∷ [])) { sum_kept = keeps_sum about sum }
down_row (Normal front) = numbered 0x88 (FrontOf front ∷ [])
down_row Bare = unnumbered 0x7F []

-- the bytes of a frame
abbrev pub down_frame_bytes : DownFrame → List ℕ
down_frame_bytes f = frame_bytes f.seq f.ack (down_row f.message)

-- a well-formed frame
abbrev pub IsDownFrame : DownFrame → Type 0
IsDownFrame f = IsFrame f.seq f.ack (down_row f.message)
