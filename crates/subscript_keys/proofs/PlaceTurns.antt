-- One byte of a digit more, raised or lowered.
use Rattle.std.proofs.Common.{◌≡◌, ℕ, ◌+◌, ◌-◌, ◌*◌, ◌^◌, ◌<◌, ◌≤◌, List, ◌∷◌, map, length, drop, get_or, ap, subst, arith}
use Rattle.std.specs.Int.Digits.{number_from_digits_after}
use Rattle.std.proofs.lemmas.List.{drop_more}
use Rattle.std.proofs.Math.Nat.{pow-le-pow_right}
use Rattle.subscript_keys.specs.Key.{ArePlaces}
use Rattle.subscript_keys.proofs.PartNumbers.{value-room, value-fits}

pub record PlaceTurn (f : ℕ → ℕ) (n i : ℕ) (bs : List ℕ) : Type 0 where
  pub low : 1 ≤ get_or bs i 0
  pub high : get_or bs i 0 ≤ 10
  pub rest : ArePlaces (drop (i + 1) bs)
  pub next : (n * 10 + f (get_or bs i 0) + 1) * 10 ^ length (drop (i + 1) bs) ≤ 10 ^ 18
  pub fits : n * 10 + f (get_or bs i 0) < 10 ^ 18
  pub value : number_from_digits_after 10 n (map f (drop i bs)) ≡ number_from_digits_after 10 (n * 10 + f (get_or bs i 0)) (map f (drop (i + 1) bs))

pub place-turn : (f : ℕ → ℕ) → ((b : ℕ) → 1 ≤ b → b ≤ 10 → f b < 10) → (n i : ℕ) (bs : List ℕ) → i < length bs → ArePlaces (drop i bs) → (n + 1) * 10 ^ length (drop i bs) ≤ 10 ^ 18 → PlaceTurn f n i bs
place-turn f digit n i bs h p small =
    let more : drop i bs ≡ get_or bs i 0 ∷ drop (i + 1) bs = drop_more bs i 0 h in
    let q : ArePlaces (get_or bs i 0 ∷ drop (i + 1) bs) = subst ArePlaces more p in
    let S : List ℕ → Type 0 = λ s. (n + 1) * 10 ^ length s ≤ 10 ^ 18 in
    let room : (n * 10 + f (get_or bs i 0) + 1) * 10 ^ length (drop (i + 1) bs) ≤ 10 ^ 18 = value-room n (f (get_or bs i 0)) (length (drop (i + 1) bs)) (digit (get_or bs i 0) q.0.0 q.0.1) (subst S more small) in
    record {
      low = q.0.0;
      high = q.0.1;
      rest = q.1;
      next = room;
      fits = value-fits (n * 10 + f (get_or bs i 0)) (length (drop (i + 1) bs)) room;
      value = ap (λ s. number_from_digits_after 10 n (map f s)) more;
    }

pub raised-digit : (b : ℕ) → 1 ≤ b → b ≤ 10 → b - 1 < 10
raised-digit b h k = omega arith

pub lowered-digit : (b : ℕ) → 1 ≤ b → b ≤ 10 → 10 - b < 10
lowered-digit b h k = omega arith

pub first-place : (bs : List ℕ) → length bs ≤ 18 → 1 * 10 ^ length bs ≤ 10 ^ 18
first-place bs limit = let top : 10 ^ length bs ≤ 10 ^ 18 = pow-le-pow_right (omega arith) limit in omega arith
