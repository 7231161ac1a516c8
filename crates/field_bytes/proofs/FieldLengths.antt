-- How many bytes a field takes.
use Rattle.std.proofs.Common.{◌≡◌, ℕ, ◌+◌, List, length, refl, ◌∙◌, ap, ℤ}
use Rattle.std.proofs.lemmas.List.{length-append}
use Rattle.field_bytes.specs.Fields.{u16_bytes, u32_bytes, u64_bytes, i64_bytes, list_bytes}

pub u16_length : (n : ℕ) → length (u16_bytes n) ≡ 2
unfolding u16_bytes
u16_length n = refl

pub u32_length : (n : ℕ) → length (u32_bytes n) ≡ 4
unfolding u32_bytes
u32_length n = refl

pub u64_length : (n : ℕ) → length (u64_bytes n) ≡ 8
unfolding u64_bytes
u64_length n = refl

pub i64_length : (z : ℤ) → length (i64_bytes z) ≡ 8
unfolding i64_bytes
i64_length z = refl

pub list_length : (xs : List ℕ) → length (list_bytes xs) ≡ 2 + length xs
unfolding list_bytes
list_length xs = length-append (u16_bytes (length xs)) xs ∙ ap (λ n. n + length xs) (u16_length (length xs))
