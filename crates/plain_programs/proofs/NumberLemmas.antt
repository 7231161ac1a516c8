-- Whole numbers of at most 18 digits.
use lib.Signed.{mag}
use Rattle.std.specs.Fmt.{decimal, signed_decimal}
use Rattle.std.proofs.lemmas.Fmt.{PrependsLastDigit, decimal_from_prepends, length-decimal-le_succ}
use Rattle.std.proofs.lemmas.List.{append-nil}
use Rattle.plain_orders.specs.Numbers.{digits_before, natural_text, integer_text}
use Rattle.std.proofs.Common.{[], ◌∷◌, ℤ, pos, negsuc, ap, ◌∙◌, rules, ◌≡◌, ℕ, suc, ◌^◌, ◌<◌, ◌≤◌, arith, lt_of_lt_of_le}
use Rattle.std.proofs.Math.Nat.{pow-le-pow_right}

-- fewer than eighteen digits
pub ten_below : (n i : ℕ) → n < 10 ^ i → i < 18 → n < 10 ^ 17
ten_below n i h low = lt_of_lt_of_le h (pow-le-pow_right {n = 10} (omega arith) {i = i} {j = 17} (omega arith))

-- at most eighteen
pub ten_within : (n i : ℕ) → n < 10 ^ i → i ≤ 18 → n < 10 ^ 18
ten_within n i h low = lt_of_lt_of_le h (pow-le-pow_right {n = 10} (omega arith) {i = i} {j = 18} (omega arith))

digits_prepend : PrependsLastDigit digits_before
digits_prepend = search rules

-- the text of a natural number is the one that a format writes
natural_text-decimal : (n : ℕ) → n < 2 ^ 64 → natural_text n ≡ decimal n
natural_text-decimal n h =
    decimal_from_prepends digits_before digits_prepend (suc n) n [] h (search (rules, length-decimal-le_succ n h)) ∙ append-nil (decimal n)

-- and so is that of a whole number
pub integer_text-signed : (z : ℤ) → mag z < 2 ^ 63 → integer_text z ≡ signed_decimal z
integer_text-signed (pos n) h = natural_text-decimal n (omega arith)
integer_text-signed (negsuc n) h = ap (λ t. 45 ∷ t) (natural_text-decimal (suc n) (omega arith))
