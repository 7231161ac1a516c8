-- The table of the messages from an application server to a data server.
use Rattle.std.specs.Prelude.{ℕ, List, [], ◌∷◌}
use Rattle.ecp_messages.specs.declared.up.Up.{Up}
use Rattle.ecp_messages.specs.declared.up.Up.TheVariants.{Hello, Recover, Update, Add, Fetch, Ask, Unlock, Cancel, Commit, Rollback, Sync, Done, Claim, Bare}
use Rattle.ecp_messages.specs.declared.up.UpFrame.{UpFrame}
use Rattle.ecp_messages.specs.Rows.{KindRow, IsFrame, frame_bytes, numbered, unnumbered}
use Rattle.ecp_messages.specs.Rows.Field.{Version, U8, U16, U32, U64, I64, Count, Held, Wanted, Key, Sought, Change}

-- the table
abbrev pub up_row : Up → KindRow
up_row (Hello app dial) = unnumbered 0x01 (Version ∷ U8 app ∷ U32 dial ∷ [])
up_row (Recover app session epoch taken dial) = unnumbered 0x02 (U8 app ∷ U64 session ∷ U32 epoch ∷ U64 taken ∷ U32 dial ∷ [])
up_row (Update w job txn op) = numbered 0x03 (U64 w ∷ U16 job ∷ U32 txn ∷ Change op ∷ [])
up_row (Add w job key amount) = numbered 0x04 (U64 w ∷ U16 job ∷ Key key ∷ I64 amount ∷ [])
up_row (Fetch key) = numbered 0x05 (Sought key ∷ [])
up_row (Ask ticket job mode key) = numbered 0x06 (U32 ticket ∷ U16 job ∷ Held mode ∷ Key key ∷ [])
up_row (Unlock job mode key) = numbered 0x07 (U16 job ∷ Held mode ∷ Key key ∷ [])
up_row (Cancel ticket) = numbered 0x08 (U32 ticket ∷ [])
up_row (Commit w job txn wanted) = numbered 0x09 (U64 w ∷ U16 job ∷ U32 txn ∷ Wanted wanted ∷ [])
up_row (Rollback w job txn) = numbered 0x0A (U64 w ∷ U16 job ∷ U32 txn ∷ [])
up_row (Sync ticket) = numbered 0x0B (U32 ticket ∷ [])
up_row Done = numbered 0x0C []
up_row (Claim job mode count at key) = numbered 0x0D (U16 job ∷ Held mode ∷ Count count ∷ U64 at ∷ Key key ∷ [])
up_row Bare = unnumbered 0x7F []

-- the bytes of a frame
abbrev pub up_frame_bytes : UpFrame → List ℕ
up_frame_bytes f = frame_bytes f.seq f.ack (up_row f.message)

-- a well-formed frame
abbrev pub IsUpFrame : UpFrame → Type 0
IsUpFrame f = IsFrame f.seq f.ack (up_row f.message)
