-- Numbers of at most DIGIT_LIMIT digits: their digits, their canonical texts and their values.
use Rattle.std.specs.Prelude.{◌≡◌, ◌≢◌, ◌⊎◌, ℕ, suc, ◌+◌, ◌-◌, ◌*◌, ◌^◌, ◌%◌, ◌<◌, ◌≤◌, ◌==◌, Bool, true, false, if◌then◌else◌, List, [], ◌∷◌, ◌++◌, map, length, take, drop, replicate, ℤ, pos, negsuc, neg_ℤ}
use Rattle.std.specs.List.{AllByRecursion}
use Rattle.std.specs.Int.Digits.{digits_of}
use Rattle.subscript_keys.specs.declared.decimal.Decimal.{Decimal}
use Rattle.subscript_keys.specs.declared.limits.TheConstants.{DIGIT_LIMIT}

-- the decimal digits of a number, the highest first; 0 has none
unfoldable pub digits : ℕ → List ℕ
digits n = digits_of 10 n

-- n + x, where that is not below 0
abbrev pub plus : ℕ → ℤ → ℕ
plus n (pos x) = n + x
plus n (negsuc x) = n - suc x

-- n - x, where that is not below 0
abbrev pub minus : ℕ → ℤ → ℕ
minus n (pos x) = n - x
minus n (negsuc x) = n + suc x

-- of 0.d1d2d3.. times 10 to the power x: the digits before the point, filled up with zeros
unfoldable pub whole_digits : List ℕ → ℤ → List ℕ
whole_digits ds (pos x) = take x ds ++ replicate (x - length ds) 0
whole_digits ds (negsuc x) = []

-- and the digits after the point
unfoldable pub fraction_digits : List ℕ → ℤ → List ℕ
fraction_digits ds (pos x) = drop x ds
fraction_digits ds (negsuc x) = replicate (suc x) 0 ++ ds

-- the characters of digits
abbrev pub digit_text : List ℕ → List ℕ
digit_text ds = map (λ d. d + 48) ds

-- a minus sign or nothing
abbrev pub sign_text : Bool → List ℕ
sign_text true = 45 ∷ []
sign_text false = []

-- a point and the digits after it, or nothing
abbrev pub fraction_text : List ℕ → List ℕ
fraction_text [] = []
fraction_text (d ∷ ds) = 46 ∷ digit_text (d ∷ ds)

-- the text of a sign, the digits before the point and those after it
abbrev pub number_text : Bool → List ℕ → List ℕ → List ℕ
number_text negative whole fraction = sign_text negative ++ digit_text whole ++ fraction_text fraction

-- decimal digits
abbrev pub AreDigits : List ℕ → Type 0
AreDigits ds = AllByRecursion (λ d. d < 10) ds

-- the first one is not 0
abbrev pub BeginsAboveZero : List ℕ → Type 0
BeginsAboveZero [] = Unit {0}
BeginsAboveZero (d ∷ ds) = d ≢ 0

-- the last one is not 0
abbrev pub EndsAboveZero : List ℕ → Type 0
EndsAboveZero [] = Unit {0}
EndsAboveZero (d ∷ []) = d ≢ 0
EndsAboveZero (d ∷ e ∷ ds) = EndsAboveZero (e ∷ ds)

-- digits before and after the point of a canonical number: no leading zero, no zero before the point,
-- no trailing zero after it, and at most DIGIT_LIMIT of them
pub record AreCanonical (whole fraction : List ℕ) : Type 0 where
  pub whole_digits : AreDigits whole
  pub fraction_digits : AreDigits fraction
  pub first : BeginsAboveZero whole
  pub last : EndsAboveZero fraction
  pub some : 0 < length whole + length fraction
  pub limit : length whole + length fraction ≤ DIGIT_LIMIT

-- a canonical number of at most DIGIT_LIMIT digits: 0, or a sign and digits with at most one point
abbrev pub IsNumberText : List ℕ → Type 0
IsNumberText text = (text ≡ 48 ∷ []) ⊎ ((negative : Bool) × (whole : List ℕ) × (fraction : List ℕ) × AreCanonical whole fraction × (text ≡ number_text negative whole fraction))

-- zero has one form
pub record IsZero (d : Decimal) : Type 0 where
  pub digits : d.digits ≡ 0
  pub exponent : d.exponent ≡ pos 0
  pub negative : d.negative ≡ false

-- another number has no trailing zero digit, and its text has at most DIGIT_LIMIT digits
pub record IsShort (d : Decimal) : Type 0 where
  pub last : d.digits % 10 ≢ 0
  pub limit : length (whole_digits (digits d.digits) d.exponent) + length (fraction_digits (digits d.digits) d.exponent) ≤ DIGIT_LIMIT

-- the fields of a number of at most DIGIT_LIMIT digits
abbrev pub IsDecimal : Decimal → Type 0
IsDecimal d = IsZero d ⊎ IsShort d

-- its one canonical text
unfoldable pub decimal_text : Decimal → List ℕ
decimal_text d = if d.digits == 0 then 48 ∷ [] else number_text d.negative (whole_digits (digits d.digits) d.exponent) (fraction_digits (digits d.digits) d.exponent)

-- its size times 10 to the power DIGIT_LIMIT
unfoldable pub scaled_size : Decimal → ℕ
scaled_size d = d.digits * 10 ^ (plus DIGIT_LIMIT d.exponent - length (digits d.digits))

-- the number times 10 to the power DIGIT_LIMIT
unfoldable pub scaled : Decimal → ℤ
scaled d = if d.negative then neg_ℤ (pos (scaled_size d)) else pos (scaled_size d)

-- characters of digits
abbrev pub AreDigitCharacters : List ℕ → Type 0
AreDigitCharacters cs = AllByRecursion (λ c. (48 ≤ c) × (c ≤ 57)) cs

-- no character of a digit comes first
abbrev pub BeginsWithNoDigit : List ℕ → Type 0
BeginsWithNoDigit [] = Unit {0}
BeginsWithNoDigit (c ∷ cs) = (48 ≤ c) × (c ≤ 57) → ⊥

-- the digits that characters write
abbrev pub digits_read : List ℕ → List ℕ
digits_read cs = map (λ c. c - 48) cs

-- the first list begins with the second
abbrev pub BeginsWith : List ℕ → List ℕ → Type 0
BeginsWith whole front = take (length front) whole ≡ front
