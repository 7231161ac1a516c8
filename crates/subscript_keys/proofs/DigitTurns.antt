-- One digit more: in a loop that reads characters, and in one that takes zeros away.
use Rattle.std.proofs.Common.{◌≡◌, ℕ, suc, ◌+◌, ◌-◌, ◌*◌, ◌^◌, ◌/◌, ◌%◌, ◌<◌, ◌≤◌, List, [], ◌∷◌, ◌++◌, length, drop, replicate, get_or, sym, ap, subst, ◌∙◌, arith, append_assoc}
use Rattle.std.specs.Int.Digits.{number_from_digits_after}
use Rattle.std.proofs.lemmas.List.{drop_more}
use Rattle.subscript_keys.specs.Decimal.{digits, AreDigitCharacters, digits_read}
use Rattle.subscript_keys.proofs.Fractions.{digits-step, length-digits-step}
use Rattle.subscript_keys.proofs.PartNumbers.{value-room, value-fits}

pub record DigitTurn (n i : ℕ) (cs : List ℕ) : Type 0 where
  pub low : 48 ≤ get_or cs i 0
  pub high : get_or cs i 0 ≤ 57
  pub rest : AreDigitCharacters (drop (i + 1) cs)
  pub next : (n * 10 + (get_or cs i 0 - 48) + 1) * 10 ^ length (drop (i + 1) cs) ≤ 10 ^ 18
  pub fits : n * 10 + (get_or cs i 0 - 48) < 10 ^ 18
  pub value : number_from_digits_after 10 n (digits_read (drop i cs)) ≡ number_from_digits_after 10 (n * 10 + (get_or cs i 0 - 48)) (digits_read (drop (i + 1) cs))

pub digit-turn : (n i : ℕ) (cs : List ℕ) → i < length cs → AreDigitCharacters (drop i cs) → (n + 1) * 10 ^ length (drop i cs) ≤ 10 ^ 18 → DigitTurn n i cs
digit-turn n i cs h p small =
    let more : drop i cs ≡ get_or cs i 0 ∷ drop (i + 1) cs = drop_more cs i 0 h in
    let q : AreDigitCharacters (get_or cs i 0 ∷ drop (i + 1) cs) = subst AreDigitCharacters more p in
    let S : List ℕ → Type 0 = λ s. (n + 1) * 10 ^ length s ≤ 10 ^ 18 in
    let least : 48 ≤ get_or cs i 0 = q.0.0 in
    let most : get_or cs i 0 ≤ 57 = q.0.1 in
    let room : (n * 10 + (get_or cs i 0 - 48) + 1) * 10 ^ length (drop (i + 1) cs) ≤ 10 ^ 18 = value-room n (get_or cs i 0 - 48) (length (drop (i + 1) cs)) (omega arith) (subst S more small) in
    record {
      low = least;
      high = most;
      rest = q.1;
      next = room;
      fits = value-fits (n * 10 + (get_or cs i 0 - 48)) (length (drop (i + 1) cs)) room;
      value = ap (λ s. number_from_digits_after 10 n (digits_read s)) more;
    }

-- a zero at the end
pub zero-turn : (n m : ℕ) → 0 < n → n % 10 ≡ 0 → length (digits n) ≤ length (digits m) → digits n ++ replicate (length (digits m) - length (digits n)) 0 ≡ digits m → digits (n / 10) ++ replicate (length (digits m) - length (digits (n / 10))) 0 ≡ digits m
zero-turn n m h z shorter e =
    let one : length (digits n) ≡ length (digits (n / 10)) + 1 = length-digits-step n h in
    let count : length (digits m) - length (digits (n / 10)) ≡ suc (length (digits m) - length (digits n)) = omega arith in
    ap (λ k. digits (n / 10) ++ replicate k 0) count
    ∙ sym (append_assoc (digits (n / 10)) (0 ∷ []) (replicate (length (digits m) - length (digits n)) 0))
    ∙ ap (λ d. (digits (n / 10) ++ d ∷ []) ++ replicate (length (digits m) - length (digits n)) 0) (sym z)
    ∙ ap (λ ds. ds ++ replicate (length (digits m) - length (digits n)) 0) (sym (digits-step n h))
    ∙ e
