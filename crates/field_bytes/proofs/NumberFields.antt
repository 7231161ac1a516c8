-- A number that was read from the front is the one whose bytes stand there.
use Rattle.std.proofs.Common.{◌≡◌, ℕ, ◌^◌, ◌<◌, ◌≤◌, List, ◌++◌, length, get_or, take, drop, refl, sym, ap, subst, ◌∙◌, arith, ℤ, to_z, of_z}
use Rattle.std.specs.Int.{w16, w32, w64, from_be_bytes, to_be_bytes}
use Rattle.std.proofs.lemmas.Bool.{cases_lt}
use Rattle.std.proofs.lemmas.List.{take-append-drop, length-take, get_or-take, get_or_past}
use Rattle.std.proofs.lemmas.Nat.{be_bytes_2, be_bytes_4, be_bytes_8}
use Rattle.std.proofs.lemmas.Int.{of_z-to_z}
use Rattle.std.proofs.Common.{inl, inr}
use Rattle.field_bytes.specs.Fields.{u16_bytes, u32_bytes, u64_bytes, i64_bytes}

-- each element is a byte
abbrev pub AreBytes : List ℕ → Type 0
AreBytes bytes = (i : ℕ) → get_or bytes i 0 < 256

AreBytes-take : (k : ℕ) (bytes : List ℕ) → AreBytes bytes → AreBytes (take k bytes)
AreBytes-take k bytes h i =
    elim (cases_lt i k) [
      | inl lt ↦ rw (get_or-take k bytes i 0 lt) (h i)
      | inr le ↦ rw (get_or_past (take k bytes) i 0 (omega (arith, length-take k bytes))) (omega arith)
    ]

-- the first bytes of a list
record IsFront (k : ℕ) (bytes front rest : List ℕ) : Type 0 where
  count : length front ≡ k
  all : AreBytes front
  whole : bytes ≡ front ++ rest

front-is : (k : ℕ) (bytes front rest : List ℕ) → AreBytes bytes → k ≤ length bytes → front ≡ take k bytes → rest ≡ drop k bytes → IsFront k bytes front rest
front-is k bytes front rest h long f r =
    let cut : IsFront k bytes (take k bytes) (drop k bytes) = record {
      count = omega (arith, length-take k bytes);
      all = AreBytes-take k bytes h;
      whole = sym (take-append-drop k bytes);
    } in
    subst (λ (x : List ℕ). IsFront k bytes front x) (sym r) (subst (λ (x : List ℕ). IsFront k bytes x (drop k bytes)) (sym f) cut)

pub u16_stands : (bytes front rest : List ℕ) (n : ℕ) → AreBytes bytes → 2 ≤ length bytes → front ≡ take 2 bytes → rest ≡ drop 2 bytes → n ≡ from_be_bytes w16 front → bytes ≡ u16_bytes n ++ rest
unfolding u16_bytes
u16_stands bytes front rest n h long f r e =
    let p = front-is 2 bytes front rest h long f r in
    p.whole ∙ ap (λ x. x ++ rest) (sym (be_bytes_2 front n p.count p.all e))

pub u32_stands : (bytes front rest : List ℕ) (n : ℕ) → AreBytes bytes → 4 ≤ length bytes → front ≡ take 4 bytes → rest ≡ drop 4 bytes → n ≡ from_be_bytes w32 front → bytes ≡ u32_bytes n ++ rest
unfolding u32_bytes
u32_stands bytes front rest n h long f r e =
    let p = front-is 4 bytes front rest h long f r in
    p.whole ∙ ap (λ x. x ++ rest) (sym (be_bytes_4 front n p.count p.all e))

pub u64_stands : (bytes front rest : List ℕ) (n : ℕ) → AreBytes bytes → 8 ≤ length bytes → front ≡ take 8 bytes → rest ≡ drop 8 bytes → n ≡ from_be_bytes w64 front → bytes ≡ u64_bytes n ++ rest
unfolding u64_bytes
u64_stands bytes front rest n h long f r e =
    let p = front-is 8 bytes front rest h long f r in
    p.whole ∙ ap (λ x. x ++ rest) (sym (be_bytes_8 front n p.count p.all e))

pub i64_stands : (bytes front rest : List ℕ) (z : ℤ) → AreBytes bytes → 8 ≤ length bytes → front ≡ take 8 bytes → rest ≡ drop 8 bytes → z ≡ to_z w64 (from_be_bytes w64 front) → bytes ≡ i64_bytes (to_z w64 (of_z w64 z)) ++ rest
unfolding i64_bytes
i64_stands bytes front rest z h long f r e =
    let p = front-is 8 bytes front rest h long f r in
    let all = p.all in
    let below : from_be_bytes w64 front < 2 ^ 64 = omega (arith, all 0, all 1, all 2, all 3, all 4, all 5, all 6, all 7) in
    let bits : of_z w64 (to_z w64 (from_be_bytes w64 front)) ≡ from_be_bytes w64 front = of_z-to_z w64 (from_be_bytes w64 front) below in
    let back : of_z w64 (to_z w64 (of_z w64 z)) ≡ from_be_bytes w64 front = rw (e, bits) bits in
    p.whole ∙ ap (λ x. x ++ rest) (sym (ap (to_be_bytes w64) back ∙ be_bytes_8 front (from_be_bytes w64 front) p.count p.all refl))
