-- Words that spell numbers.
use Rattle.std.proofs.Common.{◌≡◌, ◌≢◌, ℕ, ◌<◌, ◌≤◌, ◌^◌, ℤ, pos, negsuc, unsigned_abs, FitsSigned, w64, List, [], sym, ap, ◌∙◌, subst, arith}
use Rattle.std.specs.Int.Signed.{mag}
use Rattle.std.specs.Fmt.{decimal, signed_decimal}
use Rattle.std.specs.Str.{IsUtf8}
use Rattle.std.proofs.lemmas.Fmt.{IsAscii-decimal, IsAscii-signed, decimal_injective, signed_decimal_injective}
use Rattle.std.proofs.lemmas.Int.{fits_signed_from_abs}
use Rattle.std.proofs.lemmas.Str.{IsUtf8-from_ascii}
use Rattle.job_script.specs.declared.line_fault.LineFault.TheVariants.{Bad}
use Rattle.job_script.specs.declared.line_kind.LineKind.TheVariants.{Number}
use Rattle.job_script.specs.Words.{first_word}
use Rattle.job_script.specs.Refusals.{RefusesNumber, RefusesAmount}

-- a number's text is UTF-8
pub decimal-utf8 : (n : ℕ) (word : List ℕ) → n < 2 ^ 64 → word ≡ decimal n → IsUtf8 word
decimal-utf8 n word low e = subst IsUtf8 (sym e) (IsUtf8-from_ascii (decimal n) (IsAscii-decimal n low))

-- a number of 18 digits is far below the limits of 64 bits
pub mag-low : (z : ℤ) → unsigned_abs z < 10 ^ 18 → mag z < 2 ^ 63
mag-low (pos n) low = omega arith
mag-low (negsuc n) low = omega arith

pub fits-low : (z : ℤ) → unsigned_abs z < 10 ^ 18 → FitsSigned w64 z
fits-low z low = fits_signed_from_abs w64 z (omega arith)

pub signed-utf8 : (z : ℤ) (word : List ℕ) → unsigned_abs z < 10 ^ 18 → word ≡ signed_decimal z → IsUtf8 word
signed-utf8 z word low e = subst IsUtf8 (sym e) (IsUtf8-from_ascii (signed_decimal z) (IsAscii-signed z (mag-low z low)))

-- a word spells one number
pub one-number : (text word : List ℕ) (k n : ℕ) → first_word text ≡ word → word ≡ decimal k → k < 2 ^ 64 → n < 2 ^ 64 → first_word text ≡ decimal n → k ≡ n
one-number text word k n f e low small g = decimal_injective k n low small (sym e ∙ sym f ∙ g)

-- what is below the least or above the most is refused
pub number_low : (text word : List ℕ) (least most k : ℕ) → text ≢ [] → first_word text ≡ word → word ≡ decimal k → k < 2 ^ 64 → most < 2 ^ 64 → k < least → RefusesNumber least most text (Bad Number)
number_low text word least most k some f e low small out = (some, λ n l m g. let same = one-number text word k n f e low (omega arith) g in absurd (omega arith))

pub number_high : (text word : List ℕ) (least most k : ℕ) → text ≢ [] → first_word text ≡ word → word ≡ decimal k → k < 2 ^ 64 → most < 2 ^ 64 → most < k → RefusesNumber least most text (Bad Number)
number_high text word least most k some f e low small out = (some, λ n l m g. let same = one-number text word k n f e low (omega arith) g in absurd (omega arith))

-- an amount of more than 18 digits is refused
pub amount_high : (text word : List ℕ) (k : ℤ) → text ≢ [] → first_word text ≡ word → word ≡ signed_decimal k → mag k < 2 ^ 63 → 10 ^ 18 ≤ unsigned_abs k → RefusesAmount text (Bad Number)
amount_high text word k some f e low out = (
  some,
  λ z small g.
      let same : k ≡ z = signed_decimal_injective k z low (mag-low z small) (sym e ∙ sym f ∙ g) in
      let size : unsigned_abs k ≡ unsigned_abs z = ap unsigned_abs same in
      absurd (omega arith),
)
