-- How many bytes of a string have room, as it is read from the left.
use Rattle.std.specs.Prelude.{◌⊎◌, ℕ, ◌+◌, ◌≤◌, List, length}
use Rattle.subscript_keys.specs.declared.limits.TheConstants.{DIGIT_LIMIT, KEY_LIMIT, VALUE_LIMIT}
use Rattle.subscript_keys.specs.Key.{text_bytes}
use Rattle.global_text.specs.declared.room.Room.{Room}
use Rattle.global_text.specs.declared.room.Room.TheVariants.{Value, Sub}
use Rattle.global_text.specs.Numbers.{Every, is_number_byte}

-- a string that may turn out to be the number of a subscript: a sign and a point at most beside its digits
abbrev pub MayBeNumber : List ℕ → Type 0
MayBeNumber string = Every is_number_byte string × (length string ≤ DIGIT_LIMIT + 2)

-- a value has its limit; a key has room for what is read of a subscript where it has for that much as a text; what may be a number is measured at its end
abbrev pub HasRoom : Room → List ℕ → Type 0
HasRoom Value string = length string ≤ VALUE_LIMIT
HasRoom (Sub key) string = MayBeNumber string ⊎ (key + length (text_bytes string) ≤ KEY_LIMIT)

-- how many bytes a string has at most that has room
abbrev pub room_limit : Room → ℕ
room_limit Value = VALUE_LIMIT
room_limit (Sub key) = KEY_LIMIT
