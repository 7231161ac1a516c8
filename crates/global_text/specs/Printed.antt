-- The one printed spelling of strings.
use Rattle.std.specs.Prelude.{◌≡◌, ◌⊎◌, ℕ, ◌/◌, ◌%◌, ◌==◌, ◌&&◌, nat_le, if◌then◌else◌, List, [], ◌∷◌, ◌++◌}
use Rattle.std.specs.List.{flat_map}
use Rattle.subscript_keys.specs.Decimal.{IsNumberText}
use Rattle.global_text.specs.Strings.{hex_digit}

-- a byte in quotes: a quote or a backslash is doubled, 20 to 7E stand for themselves, others are \hh
abbrev pub quoted_byte : ℕ → List ℕ
quoted_byte b =
    if b == 34 then 34 ∷ 34 ∷ []
    else (if b == 92 then 92 ∷ 92 ∷ [] else (if nat_le 32 b && nat_le b 126 then b ∷ [] else 92 ∷ hex_digit (b / 16) ∷ hex_digit (b % 16) ∷ []))

-- a string in quotes
abbrev pub quoted : List ℕ → List ℕ
quoted string = 34 ∷ (flat_map quoted_byte string ++ 34 ∷ [])

-- a canonical number of at most DIGIT_LIMIT digits stands bare, any other string in quotes
abbrev pub IsPrinted : List ℕ → List ℕ → Type 0
IsPrinted string text = (IsNumberText string × (text ≡ string)) ⊎ ((IsNumberText string → ⊥) × (text ≡ quoted string))

-- the text after the old one has this form
abbrev pub Appends : (List ℕ → Type 0) → List ℕ → List ℕ → Type 0
Appends HasForm before after = (text : List ℕ) × HasForm text × (after ≡ before ++ text)
