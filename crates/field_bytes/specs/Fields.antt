-- The bytes of fields; whole numbers with the greatest byte first.
use Rattle.std.specs.Prelude.{◌≡◌, ◌≢◌, ℕ, ◌^◌, ◌<◌, List, [], ◌∷◌, ◌++◌, length, ℤ, FitsSigned}
use Rattle.std.specs.Int.{w16, w32, w64, to_be_bytes, cast_unsigned}
use Rattle.subscript_keys.specs.Key.{IsKey}
use Rattle.plain_orders.specs.declared.op.Op.{Op}
use Rattle.plain_orders.specs.declared.op.Op.TheVariants.{Set, Kill, Add}

-- a number of one byte
abbrev pub u8_bytes : ℕ → List ℕ
u8_bytes n = n ∷ []

-- of two bytes, the greatest first
unfoldable pub u16_bytes : ℕ → List ℕ
u16_bytes n = to_be_bytes w16 n

-- of four
unfoldable pub u32_bytes : ℕ → List ℕ
u32_bytes n = to_be_bytes w32 n

-- of eight
unfoldable pub u64_bytes : ℕ → List ℕ
u64_bytes n = to_be_bytes w64 n

-- a number with a sign in eight bytes: its two's complement, the greatest byte first
unfoldable pub i64_bytes : ℤ → List ℕ
i64_bytes z = to_be_bytes w64 (cast_unsigned w64 z)

-- bytes behind their count
unfoldable pub list_bytes : List ℕ → List ℕ
list_bytes xs = u16_bytes (length xs) ++ xs

-- an operation: its kind, its key, and what is set or added
abbrev pub op_bytes : Op → List ℕ
op_bytes (Set key value) = 1 ∷ list_bytes key ++ list_bytes value
op_bytes (Kill key) = 2 ∷ list_bytes key
op_bytes (Add key amount) = 3 ∷ list_bytes key ++ i64_bytes amount

-- what fits one byte
abbrev pub IsU8 : ℕ → Type 0
IsU8 n = n < 2 ^ 8

-- two bytes
abbrev pub IsU16 : ℕ → Type 0
IsU16 n = n < 2 ^ 16

-- four
abbrev pub IsU32 : ℕ → Type 0
IsU32 n = n < 2 ^ 32

-- eight
abbrev pub IsU64 : ℕ → Type 0
IsU64 n = n < 2 ^ 64

-- eight with a sign
abbrev pub IsI64 : ℤ → Type 0
IsI64 z = FitsSigned w64 z

-- bytes whose count fits two bytes
abbrev pub IsShortList : List ℕ → Type 0
IsShortList xs = length xs < 2 ^ 16

-- the key of some node, and short
abbrev pub IsKeyField : List ℕ → Type 0
IsKeyField key = IsKey key × IsShortList key

-- an operation whose parts stand in fields
abbrev pub IsOpField : Op → Type 0
IsOpField (Set key value) = IsKeyField key × IsShortList value
IsOpField (Kill key) = IsKeyField key
IsOpField (Add key amount) = IsKeyField key × IsI64 amount

-- the same, but the keys may be any short bytes
abbrev pub HasShortLists : Op → Type 0
HasShortLists (Set key value) = IsShortList key × IsShortList value
HasShortLists (Kill key) = IsShortList key
HasShortLists (Add key amount) = IsShortList key

-- bytes begin with no such field
abbrev pub NoneAhead : {A : Type 0} → (A → List ℕ) → (A → Type 0) → List ℕ → Type 0
NoneAhead {A} bytes_of May bytes = (x : A) (rest : List ℕ) → May x → bytes ≢ bytes_of x ++ rest

-- bytes that begin with such a field do so in one way
abbrev pub IsPrefixFree : {A : Type 0} → (A → List ℕ) → (A → Type 0) → Type 0
IsPrefixFree {A} bytes_of May = (x y : A) (r s : List ℕ) → May x → May y → bytes_of x ++ r ≡ bytes_of y ++ s → (x ≡ y) × (r ≡ s)

-- these bytes, and maybe more behind them
abbrev pub BeginsAs : List ℕ → List ℕ → Type 0
BeginsAs front bytes = (rest : List ℕ) × (bytes ≡ front ++ rest)
