-- Canonical numbers of at most 18 digits are canonical numbers.
use Rattle.std.proofs.Common.{◌≡◌, ℕ, ◌+◌, ◌<◌, true, false, List, [], ◌∷◌, ◌++◌, length, refl, sym, ap, subst, ◌∙◌, inl, inr, arith}
use Rattle.std.specs.Prelude.{◌==◌, nat_le}
use Rattle.std.specs.Char.{is_ascii_digit}
use Rattle.std.proofs.lemmas.Bool.{eqb-true, and_from, le-leb}
use Rattle.std.proofs.lemmas.List.{append-nil, length-map}
use Rattle.subscript_keys.specs.Decimal.{AreDigits, AreCanonical, BeginsAboveZero, EndsAboveZero, IsNumberText, digit_text, fraction_text}
use Rattle.global_text.specs.Numbers.{Every, BeginsOtherwise, EndsInNonzeroDigit, IsWhole, IsUnsigned, IsNumber}

pub digits-are : (ds : List ℕ) → AreDigits ds → Every is_ascii_digit (digit_text ds)
digits-are [] p = tt
digits-are (d ∷ ds) p = let small : d < 10 = p.0 in (digit-is d small, digits-are ds p.1)
  where
    digit-is : (d : ℕ) → d < 10 → is_ascii_digit (d + 48) ≡ true
    digit-is d h = and_from (nat_le 48 (d + 48)) (nat_le (d + 48) 57) (le-leb 48 (d + 48) (omega arith)) (le-leb (d + 48) 57 (omega arith))

begins-above : (ds : List ℕ) → BeginsAboveZero ds → BeginsOtherwise (λ b. b == 48) (digit_text ds)
begins-above [] p = tt
begins-above (d ∷ ds) p = λ t. let h : d + 48 ≡ 48 = eqb-true (d + 48) 48 t in p (omega arith)

ends-above : (d : ℕ) (ds : List ℕ) → EndsAboveZero (d ∷ ds) → EndsInNonzeroDigit (digit_text (d ∷ ds))
ends-above d [] p = λ h. p (omega arith)
ends-above d (e ∷ ds) p = ends-above e ds p

unsigned-is : (whole fraction : List ℕ) → AreCanonical whole fraction → IsUnsigned (digit_text whole ++ fraction_text fraction)
unsigned-is whole [] p =
    let is : IsWhole (digit_text whole) = record { digits = digits-are whole p.whole_digits; first = begins-above whole p.first } in
    inl (
      subst IsWhole (sym (append-nil (digit_text whole))) is,
      λ none. absurd (omega (arith, p.some, ap length (sym (append-nil (digit_text whole)) ∙ none), length-map whole (λ d. d + 48))),
    )
unsigned-is whole (d ∷ fraction) p = inr (
  digit_text whole,
  digit_text (d ∷ fraction),
  record { digits = digits-are whole p.whole_digits; first = begins-above whole p.first },
  record { digits = digits-are (d ∷ fraction) p.fraction_digits; last = ends-above d fraction p.last },
  refl,
)

-- a number of at most 18 digits is one of any length
pub number-of-any : (text : List ℕ) → IsNumberText text → IsNumber text
number-of-any text (inl e) = inl e
number-of-any text (inr (true, whole, fraction, p, e)) = inr (inr (digit_text whole ++ fraction_text fraction, unsigned-is whole fraction p, e))
number-of-any text (inr (false, whole, fraction, p, e)) = inr (inl (subst IsUnsigned (sym e) (unsigned-is whole fraction p)))
