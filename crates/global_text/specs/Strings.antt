-- Strings as they are written: a canonical number bare, any string in quotes.
use Rattle.std.specs.Prelude.{◌≡◌, ◌≢◌, ◌⊎◌, ℕ, ◌+◌, ◌/◌, ◌%◌, ◌<◌, ◌==◌, nat_lt, if◌then◌else◌, List, [], ◌∷◌, ◌++◌}
use Rattle.global_text.specs.declared.room.Room.{Room}
use Rattle.global_text.specs.Rooms.{HasRoom}
use Rattle.global_text.specs.Numbers.{BeginsOtherwise, IsNumber, is_number_byte}

-- a hexadecimal digit, in lower case
abbrev pub hex_digit : ℕ → ℕ
hex_digit n = if nat_lt n 10 then n + 48 else n + 87

-- a byte that stands for itself in quotes: any but LF, a quote and a backslash
abbrev pub IsPlain : ℕ → Type 0
IsPlain b = (b ≢ 10) × (b ≢ 34) × (b ≢ 92)

-- an item of a quoted string, for one byte: "" for a quote, \\ for a backslash, \hh for any, or the byte itself
abbrev pub IsItem : ℕ → List ℕ → Type 0
IsItem b item =
    ((b ≡ 34) × (item ≡ 34 ∷ 34 ∷ []))
    ⊎ (((b ≡ 92) × (item ≡ 92 ∷ 92 ∷ []))
    ⊎ (((b < 256) × (item ≡ 92 ∷ hex_digit (b / 16) ∷ hex_digit (b % 16) ∷ []))
    ⊎ (IsPlain b × (item ≡ b ∷ []))))

-- one item for each byte of a string
abbrev pub AreItems : List ℕ → List ℕ → Type 0
AreItems [] items = items ≡ []
AreItems (b ∷ bytes) items = (item : List ℕ) × (more : List ℕ) × IsItem b item × AreItems bytes more × (items ≡ item ++ more)

-- no item stands here
abbrev pub NoItem : List ℕ → Type 0
NoItem text = (b : ℕ) (item rest : List ℕ) → IsItem b item → text ≢ item ++ rest

-- a text begins with a quote and the items of a string, and rest follows
abbrev pub BeginsQuoted : List ℕ → List ℕ → List ℕ → Type 0
BeginsQuoted string text rest = (items : List ℕ) × AreItems string items × (text ≡ 34 ∷ (items ++ rest))

-- the quote after the items isn't doubled
abbrev pub ReadsQuoted : List ℕ → List ℕ → List ℕ → Type 0
ReadsQuoted string text rest = BeginsQuoted string text (34 ∷ rest) × BeginsOtherwise (λ b. b == 34) rest

-- a canonical number, and all digits, points and minus signs that follow belong to it
abbrev pub ReadsBare : List ℕ → List ℕ → List ℕ → Type 0
ReadsBare string text rest = IsNumber string × (text ≡ string ++ rest) × BeginsOtherwise is_number_byte rest

-- a text begins with a spelling of the string, and rest follows
abbrev pub ReadsString : List ℕ → List ℕ → List ℕ → Type 0
ReadsString string text rest = ReadsBare string text rest ⊎ ReadsQuoted string text rest

-- the text ends here, or its line does
abbrev pub IsLineEnd : List ℕ → Type 0
IsLineEnd [] = Unit {0}
IsLineEnd (b ∷ bytes) = b ≡ 10

-- the quoted string doesn't end, and has room so far
abbrev pub IsUnclosed : Room → List ℕ → Type 0
IsUnclosed room text = (string : List ℕ) × (rest : List ℕ) × BeginsQuoted string text rest × IsLineEnd rest × HasRoom room string

-- a backslash begins no item, and the string has room so far
abbrev pub HasBadItem : Room → List ℕ → Type 0
HasBadItem room text = (string : List ℕ) × (rest : List ℕ) × BeginsQuoted string text (92 ∷ rest) × NoItem (92 ∷ rest) × HasRoom room string

-- neither a quote nor a canonical number stands here
pub record NoString (text : List ℕ) : Type 0 where
  pub no_quote : BeginsOtherwise (λ b. b == 34) text
  pub no_number : (string rest : List ℕ) → ReadsBare string text rest → ⊥

-- the text begins with no string
abbrev pub IsBad : Room → List ℕ → Type 0
IsBad room text = NoString text ⊎ HasBadItem room text

-- a bare number has no room, or the items that stand here have none
abbrev pub IsTooLong : Room → List ℕ → Type 0
IsTooLong room text = (string : List ℕ) × (rest : List ℕ) × (ReadsBare string text rest ⊎ BeginsQuoted string text rest) × (HasRoom room string → ⊥)
