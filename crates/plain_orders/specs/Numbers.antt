-- Whole numbers of at most DIGIT_LIMIT digits in value bytes.
use Rattle.std.specs.Prelude.{ℕ, zero, suc, ◌+◌, ◌-◌, ◌*◌, ◌/◌, ◌%◌, Bool, true, false, ◌==◌, ◌&&◌, ◌||◌, if◌then◌else◌, nat_le, nat_lt, List, [], ◌∷◌, length, Option, Some, None, ℤ, pos, negsuc, neg_ℤ, unsigned_abs}
use Rattle.std.specs.List.{list_all}
use Rattle.subscript_keys.specs.declared.limits.TheConstants.{DIGIT_LIMIT, NUMBER_LIMIT}

-- a whole number has at most DIGIT_LIMIT digits
abbrev pub is_short : ℤ → Bool
is_short n = nat_lt (unsigned_abs n) NUMBER_LIMIT

-- the digits of a number in front of a text, with more turns than it has digits
abbrev pub digits_before : ℕ → ℕ → List ℕ → List ℕ
digits_before zero n text = text
digits_before (suc turns) n text =
    elim (n / 10 == 0) [ true ↦ (48 + n % 10) ∷ text | false ↦ digits_before turns (n / 10) ((48 + n % 10) ∷ text) ]

-- a natural number's decimal text
abbrev pub natural_text : ℕ → List ℕ
natural_text n = digits_before (suc n) n []

-- a whole number's decimal text
abbrev pub integer_text : ℤ → List ℕ
integer_text (pos n) = natural_text n
integer_text (negsuc n) = 45 ∷ natural_text (suc n)

-- a byte is a digit
abbrev pub is_digit : ℕ → Bool
is_digit b = nat_le 48 b && nat_le b 57

-- the number that digits write after those of n
abbrev pub number_from : ℕ → List ℕ → ℕ
number_from n [] = n
number_from n (b ∷ bs) = number_from (n * 10 + (b - 48)) bs

-- digits that write a natural number of at most DIGIT_LIMIT: one, or more without a 0 in front
abbrev pub is_natural : List ℕ → Bool
is_natural [] = false
is_natural (b ∷ bs) = list_all is_digit (b ∷ bs) && nat_le (length (b ∷ bs)) DIGIT_LIMIT && (nat_lt 48 b || length bs == 0)

-- the same after a minus sign, which no 0 has
abbrev pub negative_of : List ℕ → Option ℤ
negative_of [] = None
negative_of (b ∷ bs) =
    if b == 45 && is_natural bs && nat_lt 0 (number_from 0 bs) then Some (neg_ℤ (pos (number_from 0 bs))) else None

-- the whole number of at most DIGIT_LIMIT digits of which a text is the canonical spelling
abbrev pub whole_of : List ℕ → Option ℤ
whole_of text = if is_natural text then Some (pos (number_from 0 text)) else negative_of text
