-- The bytes of an entry's record, and which entries have one.
use Rattle.std.specs.Prelude.{◌≡◌, ◌≢◌, ℕ, ◌<◌, List, ◌∷◌, ◌++◌, unsigned_abs}
use Rattle.subscript_keys.specs.declared.limits.TheConstants.{NUMBER_LIMIT}
use Rattle.plain_orders.specs.declared.op.Op.{Op}
use Rattle.plain_orders.specs.declared.op.Op.TheVariants.{Set, Kill, Add}
use Rattle.plain_orders.specs.declared.entry.Entry.{Entry}
use Rattle.plain_orders.specs.declared.entry.Entry.TheVariants.{Epoch, Opened, Closed, Update, Commit, Rollback}
use Rattle.field_bytes.specs.Fields.{u8_bytes, u16_bytes, u32_bytes, u64_bytes, op_bytes, IsU8, IsU16, IsU32, IsU64, IsShortList, IsKeyField, NoneAhead}

-- what names an item: its session, its running number, its job, its transaction
unfoldable pub item_bytes : ℕ → ℕ → ℕ → ℕ → List ℕ
item_bytes session w job txn = u64_bytes session ++ (u64_bytes w ++ (u16_bytes job ++ u32_bytes txn))

-- a record: the kind of the entry and what it holds
abbrev pub entry_bytes : Entry → List ℕ
entry_bytes (Epoch number) = 1 ∷ u32_bytes number
entry_bytes (Opened session app) = 2 ∷ u64_bytes session ++ u8_bytes app
entry_bytes (Closed session) = 3 ∷ u64_bytes session
entry_bytes (Update session w job txn op) = 4 ∷ item_bytes session w job txn ++ op_bytes op
entry_bytes (Commit session w job txn) = 5 ∷ item_bytes session w job txn
entry_bytes (Rollback session w job txn) = 6 ∷ item_bytes session w job txn

-- the four numbers of an item stand in their fields
abbrev pub IsItem : ℕ → ℕ → ℕ → ℕ → Type 0
IsItem session w job txn = IsU64 session × IsU64 w × IsU16 job × IsU32 txn

-- an operation's parts stand in fields, and an increment is in no transaction and of at most DIGIT_LIMIT digits
abbrev pub IsRecordOp : ℕ → Op → Type 0
IsRecordOp txn (Set key value) = IsKeyField key × IsShortList value
IsRecordOp txn (Kill key) = IsKeyField key
IsRecordOp txn (Add key amount) = IsKeyField key × (txn ≡ 0) × (unsigned_abs amount < NUMBER_LIMIT)

-- an entry that is no Update, or one with such an operation
abbrev pub HasRecordOp : Entry → Type 0
HasRecordOp (Epoch number) = Unit {0}
HasRecordOp (Opened session app) = Unit {0}
HasRecordOp (Closed session) = Unit {0}
HasRecordOp (Update session w job txn op) = IsRecordOp txn op
HasRecordOp (Commit session w job txn) = Unit {0}
HasRecordOp (Rollback session w job txn) = Unit {0}

-- an entry that has a record: its numbers and its operation stand in their fields
abbrev pub IsRecord : Entry → Type 0
IsRecord (Epoch number) = IsU32 number
IsRecord (Opened session app) = IsU64 session × IsU8 app
IsRecord (Closed session) = IsU64 session
IsRecord (Update session w job txn op) = IsItem session w job txn × IsRecordOp txn op
IsRecord (Commit session w job txn) = IsItem session w job txn
IsRecord (Rollback session w job txn) = IsItem session w job txn

-- bytes begin with no record
abbrev pub NoRecordAhead : List ℕ → Type 0
NoRecordAhead bytes = NoneAhead entry_bytes IsRecord bytes

-- bytes begin with no item's four numbers
abbrev pub NoItemAhead : List ℕ → Type 0
NoItemAhead bytes = (session w job txn : ℕ) (rest : List ℕ) → IsItem session w job txn → bytes ≢ item_bytes session w job txn ++ rest
