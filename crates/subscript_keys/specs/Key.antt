-- Nodes and their keys.
use Rattle.std.specs.Prelude.{◌≡◌, ◌≢◌, ◌⊎◌, ℕ, ◌+◌, ◌-◌, ◌<◌, ◌≤◌, ◌==◌, if◌then◌else◌, List, [], ◌∷◌, ◌++◌, map, length, ℤ, true, false, IsTrue}
use Rattle.std.specs.List.{AllByRecursion}
use Rattle.std.specs.Char.{is_ascii_alphabetic, is_ascii_alphanumeric}
use Rattle.subscript_keys.specs.declared.decimal.Decimal.{Decimal}
use Rattle.subscript_keys.specs.declared.sub.Sub.{Sub}
use Rattle.subscript_keys.specs.declared.sub.Sub.TheVariants.{Num, Text}
use Rattle.subscript_keys.specs.declared.node.Node.{Node}
use Rattle.subscript_keys.specs.declared.limits.TheConstants.{GLOBAL_NAME_LIMIT, KEY_LIMIT}
use Rattle.subscript_keys.specs.Decimal.{digits, plus, minus, IsDecimal, IsShort, IsNumberText}

-- a negative number: the tag 10, 40 minus x, 0A minus d for each digit d, 0B
unfoldable pub negative_bytes : ℤ → List ℕ → List ℕ
negative_bytes x ds = 0x10 ∷ minus 0x40 x ∷ map (λ d. 0x0A - d) ds ++ 0x0B ∷ []

-- a positive number: the tag 30, 40 plus x, d plus 1 for each digit d, 00
unfoldable pub positive_bytes : ℤ → List ℕ → List ℕ
positive_bytes x ds = 0x30 ∷ plus 0x40 x ∷ map (λ d. d + 1) ds ++ 0 ∷ []

-- a number in a key; zero is 20
unfoldable pub decimal_bytes : Decimal → List ℕ
decimal_bytes d = if d.digits == 0 then 0x20 ∷ [] else (if d.negative then negative_bytes d.exponent (digits d.digits) else positive_bytes d.exponent (digits d.digits))

-- each 00 written 00 FF
abbrev pub escaped : List ℕ → List ℕ
escaped [] = []
escaped (c ∷ cs) = if c == 0 then 0 ∷ 0xFF ∷ escaped cs else c ∷ escaped cs

-- a text in a key: the tag 40, its bytes with each 00 escaped, 00 01
unfoldable pub text_bytes : List ℕ → List ℕ
text_bytes text = 0x40 ∷ escaped text ++ 0 ∷ 1 ∷ []

-- a subscript in a key
abbrev pub sub_bytes : Sub → List ℕ
sub_bytes (Num d) = decimal_bytes d
sub_bytes (Text text) = text_bytes text

-- subscripts one after another
abbrev pub subs_bytes : List Sub → List ℕ
subs_bytes [] = []
subs_bytes (s ∷ ss) = sub_bytes s ++ subs_bytes ss

-- the key of a node: its name, the byte 00, its subscripts
unfoldable pub key_of : Node → List ℕ
key_of node = node.name ++ 0 ∷ subs_bytes node.subs

-- a letter, then letters and digits; at most GLOBAL_NAME_LIMIT bytes
abbrev pub IsName : List ℕ → Type 0
IsName [] = ⊥
IsName (c ∷ cs) = IsTrue (is_ascii_alphabetic c) × AllByRecursion (λ b. IsTrue (is_ascii_alphanumeric b)) cs × (length cs < GLOBAL_NAME_LIMIT)

-- each of them is a byte
abbrev pub AreBytes : List ℕ → Type 0
AreBytes cs = AllByRecursion (λ c. c < 256) cs

-- a subscript that is no number: some bytes
pub record IsText (text : List ℕ) : Type 0 where
  pub some : text ≢ []
  pub no_number : IsNumberText text → ⊥
  pub bytes : AreBytes text

-- a number within its ranges, or a text
abbrev pub IsSub : Sub → Type 0
IsSub (Num d) = IsDecimal d
IsSub (Text text) = IsText text

-- a node whose name and subscripts have their forms
pub record IsNode (node : Node) : Type 0 where
  pub name : IsName node.name
  pub subs : AllByRecursion IsSub node.subs

-- the key of some node
abbrev pub IsKey : List ℕ → Type 0
IsKey key = (node : Node) × IsNode node × (key_of node ≡ key)

-- at most KEY_LIMIT bytes
abbrev pub IsWithinLimit : List ℕ → Type 0
IsWithinLimit key = length key ≤ KEY_LIMIT

-- a subscript that may still be the empty text: a number within its ranges, or a text that is none
abbrev pub HasForm : Sub → Type 0
HasForm (Num d) = IsDecimal d
HasForm (Text text) = IsNumberText text → ⊥

-- some subscript is the empty text
abbrev pub HasEmpty : List Sub → Type 0
HasEmpty [] = ⊥
HasEmpty (s ∷ ss) = (s ≡ Text []) ⊎ HasEmpty ss

-- bytes of digits, raised or lowered
abbrev pub ArePlaces : List ℕ → Type 0
ArePlaces bs = AllByRecursion (λ b. (1 ≤ b) × (b ≤ 10)) bs

-- no byte of a digit comes first
abbrev pub BeginsWithNoPlace : List ℕ → Type 0
BeginsWithNoPlace [] = Unit {0}
BeginsWithNoPlace (b ∷ bs) = (1 ≤ b) × (b ≤ 10) → ⊥

-- the positive number that an exponent's byte and the bytes of digits stand for
pub record IsPositive (d : Decimal) (exponent : ℕ) (places : List ℕ) : Type 0 where
  pub short : IsShort d
  pub sign : d.negative ≡ false
  pub exponent_byte : plus 0x40 d.exponent ≡ exponent
  pub digit_bytes : map (λ n. n + 1) (digits d.digits) ≡ places

-- and the negative number
pub record IsNegative (d : Decimal) (exponent : ℕ) (places : List ℕ) : Type 0 where
  pub short : IsShort d
  pub sign : d.negative ≡ true
  pub exponent_byte : minus 0x40 d.exponent ≡ exponent
  pub digit_bytes : map (λ n. 0x0A - n) (digits d.digits) ≡ places
