-- Rows of the tables of messages: a kind, whether it is numbered, and fields.
use Rattle.std.specs.Prelude.{◌≡◌, ℕ, ◌≤◌, List, [], ◌∷◌, ◌++◌, length, ℤ, pos, Bool, true, false, IsTrue}
use Rattle.std.specs.List.{AllByRecursion}
use Rattle.std.specs.Ordering.{nat_cmp, int_eq}
use Rattle.std.specs.Cmp.Lexicographic.{slice_cmp}
use Rattle.std.specs.declared.cmp.Ordering.TheVariants.{Less}
use Rattle.field_bytes.specs.Fields.{u8_bytes, u16_bytes, u32_bytes, u64_bytes, i64_bytes, list_bytes, op_bytes, IsU8, IsU16, IsU32, IsU64, IsI64, IsShortList, IsKeyField, IsOpField}
use Rattle.plain_orders.specs.declared.op.Op.{Op}
use Rattle.plain_orders.specs.declared.op.Op.TheVariants.{Set, Kill, Add}
use Rattle.plain_orders.specs.declared.mode.Mode.{Mode}
use Rattle.plain_orders.specs.declared.mode.Mode.TheVariants.{Exclusive, Shared}
use Rattle.ecp_messages.specs.declared.front.Front.{Front}
use Rattle.ecp_messages.specs.declared.about.About.{About}
use Rattle.ecp_messages.specs.declared.about.About.TheVariants.{Counted, NotWhole, Range, Committed, RolledBack, Synced}

-- a field of a message, by its kind
pub data Field : Type 0 where
  Version : Field
  U8 : (n : ℕ) → Field
  U16 : (n : ℕ) → Field
  U32 : (n : ℕ) → Field
  U64 : (n : ℕ) → Field
  I64 : (z : ℤ) → Field
  Count : (n : ℕ) → Field
  Held : (mode : Mode) → Field
  Wanted : (wanted : Bool) → Field
  Told : (about : About) → Field
  FrontOf : (front : Front) → Field
  Part : (bytes : List ℕ) → Field
  Key : (key : List ℕ) → Field
  Sought : (key : List ℕ) → Field
  Change : (op : Op) → Field

-- 1 exclusive, 2 shared
abbrev pub mode_number : Mode → ℕ
mode_number Exclusive = 1
mode_number Shared = 2

-- 1 where an Answer is wanted
abbrev pub wanted_number : Bool → ℕ
wanted_number false = 0
wanted_number true = 1

-- from 1 in this order
abbrev pub about_number : About → ℕ
about_number Counted = 1
about_number NotWhole = 2
about_number Range = 3
about_number Committed = 4
about_number RolledBack = 5
about_number Synced = 6

-- a mode in one byte
unfoldable pub mode_bytes : Mode → List ℕ
mode_bytes mode = u8_bytes (mode_number mode)

-- whether an Answer is wanted, in one byte
unfoldable pub wanted_bytes : Bool → List ℕ
wanted_bytes wanted = u8_bytes (wanted_number wanted)

-- what an Answer tells, in one byte
unfoldable pub about_bytes : About → List ℕ
about_bytes about = u8_bytes (about_number about)

-- n, w and s in eight bytes each
unfoldable pub front_bytes : Front → List ℕ
front_bytes front = u64_bytes front.n ++ (u64_bytes front.w ++ u64_bytes front.s)

-- the bytes of a field
abbrev pub field_bytes : Field → List ℕ
field_bytes Version = u8_bytes 1
field_bytes (U8 n) = u8_bytes n
field_bytes (U16 n) = u16_bytes n
field_bytes (U32 n) = u32_bytes n
field_bytes (U64 n) = u64_bytes n
field_bytes (I64 z) = i64_bytes z
field_bytes (Count n) = u32_bytes n
field_bytes (Held mode) = mode_bytes mode
field_bytes (Wanted wanted) = wanted_bytes wanted
field_bytes (Told about) = about_bytes about
field_bytes (FrontOf front) = front_bytes front
field_bytes (Part bytes) = list_bytes bytes
field_bytes (Key key) = list_bytes key
field_bytes (Sought key) = list_bytes key
field_bytes (Change op) = op_bytes op

-- what fits four bytes, and is not 0
abbrev pub IsCount : ℕ → Type 0
IsCount n = IsU32 n × (1 ≤ n)

-- each number fits eight bytes
pub record IsFront (front : Front) : Type 0 where
  pub n_fits : IsU64 front.n
  pub w_fits : IsU64 front.w
  pub s_fits : IsU64 front.s

-- what a Fetch names: some bytes that stand below the byte FF
pub record IsSought (key : List ℕ) : Type 0 where
  pub some : 1 ≤ length key
  pub below : slice_cmp nat_cmp key (0xFF ∷ []) ≡ Less
  pub short : IsShortList key

-- a Set or a Kill whose parts stand in fields
abbrev pub IsChange : Op → Type 0
IsChange (Set key value) = IsOpField (Set key value)
IsChange (Kill key) = IsOpField (Kill key)
IsChange (Add key amount) = ⊥

-- the field is within its range
abbrev pub IsField : Field → Type 0
IsField Version = Unit {0}
IsField (U8 n) = IsU8 n
IsField (U16 n) = IsU16 n
IsField (U32 n) = IsU32 n
IsField (U64 n) = IsU64 n
IsField (I64 z) = IsI64 z
IsField (Count n) = IsCount n
IsField (Held mode) = Unit {0}
IsField (Wanted wanted) = Unit {0}
IsField (Told about) = Unit {0}
IsField (FrontOf front) = IsFront front
IsField (Part bytes) = IsShortList bytes
IsField (Key key) = IsKeyField key
IsField (Sought key) = IsSought key
IsField (Change op) = IsChange op

-- fields one after another
abbrev pub fields_bytes : List Field → List ℕ
fields_bytes [] = []
fields_bytes (f ∷ fs) = field_bytes f ++ fields_bytes fs

-- a row: the kind, whether the message is numbered, its fields, and whether it keeps the table's rule on sums
pub record KindRow : Type 0 where
  pub kind : ℕ
  pub numbered : Bool
  pub fields : List Field
  pub sum_kept : Bool

-- rows with no sum, of messages without a number
abbrev pub unnumbered : ℕ → List Field → KindRow
unnumbered kind fields = record { kind = kind; numbered = false; fields = fields; sum_kept = true }

-- and those of numbered messages
abbrev pub numbered : ℕ → List Field → KindRow
numbered kind fields = record { kind = kind; numbered = true; fields = fields; sum_kept = true }

-- a sum other than 0 is told only of what was counted
abbrev pub keeps_sum : About → ℤ → Bool
keeps_sum Counted sum = true
keeps_sum about sum = int_eq sum (pos 0)

-- a message: its kind, then its fields
abbrev pub row_bytes : KindRow → List ℕ
row_bytes row = row.kind ∷ fields_bytes row.fields

-- the 17 bytes in front of the fields: the number, the count of what was taken, the kind
unfoldable pub head_bytes : ℕ → ℕ → ℕ → List ℕ
head_bytes seq ack kind = u64_bytes seq ++ (u64_bytes ack ++ u8_bytes kind)

-- a frame
abbrev pub frame_bytes : ℕ → ℕ → KindRow → List ℕ
frame_bytes seq ack row = head_bytes seq ack row.kind ++ fields_bytes row.fields

-- numbered messages have numbers from 1, the others 0
abbrev pub HasSeq : Bool → ℕ → Type 0
HasSeq true seq = 1 ≤ seq
HasSeq false seq = seq ≡ 0

-- a frame whose number, fields and sum are as the table asks
pub record IsFrame (seq ack : ℕ) (row : KindRow) : Type 0 where
  pub seq_fits : IsU64 seq
  pub ack_fits : IsU64 ack
  pub numbered : HasSeq row.numbered seq
  pub fields : AllByRecursion IsField row.fields
  pub sum : IsTrue row.sum_kept
