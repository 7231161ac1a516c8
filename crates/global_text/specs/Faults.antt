-- Why a text begins with no string, no value or no node.
use Rattle.std.specs.Prelude.{◌≡◌, ◌≢◌, ◌⊎◌, ℕ, ◌+◌, ◌<◌, ◌==◌, List, [], ◌∷◌, ◌++◌}
use Rattle.std.specs.Char.{is_ascii_alphanumeric}
use Rattle.subscript_keys.specs.declared.sub.Sub.{Sub}
use Rattle.subscript_keys.specs.declared.limits.TheConstants.{KEY_LIMIT}
use Rattle.subscript_keys.specs.Key.{IsName}
use Rattle.global_text.specs.Numbers.{BeginsOtherwise}
use Rattle.global_text.specs.Nodes.{ReadsSub, sub_size, key_length, BeforeSub, BehindSub}
use Rattle.global_text.specs.declared.room.Room.{Room}
use Rattle.global_text.specs.declared.room.Room.TheVariants.{Value, Sub as SubRoom}
use Rattle.global_text.specs.declared.string_error.StringError.{StringError}
use Rattle.global_text.specs.declared.string_error.StringError.TheVariants.{Bad, Unclosed, TooLong, Memory}
use Rattle.global_text.specs.declared.text_error.TextError.{TextError}
use Rattle.global_text.specs.declared.text_error.TextError.TheVariants.{NoCaret, BadName, BadSubscript, Unclosed as UnclosedText, KeyTooLong, BadValue, ValueTooLong, Memory as NoMemory}
use Rattle.global_text.specs.Strings.{IsLineEnd, IsUnclosed, IsBad, IsTooLong}

-- what each fault of a string says; the fault is the first from the left
abbrev pub HasStringFault : Room → List ℕ → StringError → Type 0
HasStringFault room text Bad = IsBad room text
HasStringFault room text Unclosed = IsUnclosed room text
HasStringFault room text TooLong = IsTooLong room text
HasStringFault room text (Memory error) = Unit {0}

-- what each refusal of a value says
abbrev pub HasValueFault : List ℕ → TextError → Type 0
HasValueFault text UnclosedText = IsUnclosed Value text
HasValueFault text BadValue = IsBad Value text
HasValueFault text ValueTooLong = IsTooLong Value text
HasValueFault text (NoMemory error) = Unit {0}
HasValueFault text NoCaret = ⊥
HasValueFault text BadName = ⊥
HasValueFault text BadSubscript = ⊥
HasValueFault text KeyTooLong = ⊥

-- out of memory
abbrev pub IsMemory : TextError → Type 0
IsMemory (NoMemory error) = Unit {0}
IsMemory NoCaret = ⊥
IsMemory BadName = ⊥
IsMemory BadSubscript = ⊥
IsMemory UnclosedText = ⊥
IsMemory KeyTooLong = ⊥
IsMemory BadValue = ⊥
IsMemory ValueTooLong = ⊥

-- what each refusal says where a subscript must stand, after a key of this length
abbrev pub HasSubFault : ℕ → List ℕ → TextError → Type 0
HasSubFault key text UnclosedText = IsLineEnd text ⊎ IsUnclosed (SubRoom key) text
HasSubFault key text BadSubscript = (IsLineEnd text → ⊥) × IsBad (SubRoom key) text
HasSubFault key text KeyTooLong = IsTooLong (SubRoom key) text ⊎ ((sub : Sub) × (rest : List ℕ) × ReadsSub sub text rest × (KEY_LIMIT < key + sub_size sub))
HasSubFault key text (NoMemory error) = Unit {0}
HasSubFault key text NoCaret = ⊥
HasSubFault key text BadName = ⊥
HasSubFault key text BadValue = ⊥
HasSubFault key text ValueTooLong = ⊥

-- a byte stands here that is neither a comma, a parenthesis nor the line's end
abbrev pub NoMark : List ℕ → Type 0
NoMark [] = ⊥
NoMark (b ∷ bytes) = (b ≢ 44) × (b ≢ 41) × (b ≢ 10)

-- and after a subscript
abbrev pub HasMarkFault : List ℕ → TextError → Type 0
HasMarkFault text UnclosedText = IsLineEnd text
HasMarkFault text BadSubscript = NoMark text
HasMarkFault text NoCaret = ⊥
HasMarkFault text BadName = ⊥
HasMarkFault text KeyTooLong = ⊥
HasMarkFault text BadValue = ⊥
HasMarkFault text ValueTooLong = ⊥
HasMarkFault text (NoMemory error) = ⊥

-- after a name and these subscripts, which are read, the next one or the byte after the last has this fault
abbrev pub StopsBehind : List ℕ → List ℕ → List Sub → TextError → Type 0
StopsBehind text name subs error =
    (rest : List ℕ) × ((BeforeSub text name subs rest × HasSubFault (key_length name subs) rest error) ⊎ (BehindSub text name subs rest × HasMarkFault rest error))

-- the subscripts have a fault, and all before it is read
abbrev pub HasListFault : List ℕ → TextError → Type 0
HasListFault text error = (name : List ℕ) × (subs : List Sub) × StopsBehind text name subs error

-- no letter follows the caret, or more than GLOBAL_NAME_LIMIT letters and digits
abbrev pub HasBadName : List ℕ → Type 0
HasBadName text = (behind : List ℕ) × (text ≡ 94 ∷ behind) × ((name rest : List ℕ) → IsName name → BeginsOtherwise is_ascii_alphanumeric rest → behind ≢ name ++ rest)

-- what each refusal of a caret and a name says
abbrev pub HasGlobalFault : List ℕ → TextError → Type 0
HasGlobalFault text NoCaret = BeginsOtherwise (λ b. b == 94) text
HasGlobalFault text BadName = HasBadName text
HasGlobalFault text (NoMemory error) = Unit {0}
HasGlobalFault text BadSubscript = ⊥
HasGlobalFault text UnclosedText = ⊥
HasGlobalFault text KeyTooLong = ⊥
HasGlobalFault text BadValue = ⊥
HasGlobalFault text ValueTooLong = ⊥

-- what each refusal of a node says
abbrev pub HasNodeFault : List ℕ → TextError → Type 0
HasNodeFault text NoCaret = BeginsOtherwise (λ b. b == 94) text
HasNodeFault text BadName = HasBadName text
HasNodeFault text BadSubscript = HasListFault text BadSubscript
HasNodeFault text UnclosedText = HasListFault text UnclosedText
HasNodeFault text KeyTooLong = HasListFault text KeyTooLong
HasNodeFault text (NoMemory error) = Unit {0}
HasNodeFault text BadValue = ⊥
HasNodeFault text ValueTooLong = ⊥

-- two refusals are one, unless one of them is out of memory
abbrev pub AreOne : TextError → TextError → Type 0
AreOne error other = IsMemory error ⊎ (IsMemory other ⊎ (error ≡ other))
