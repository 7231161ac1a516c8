-- The test of a number's fields.
use Rattle.std.proofs.Common.{◌≢◌, ℕ, suc, ◌+◌, ◌-◌, ◌≤◌, ◌%◌, List, length, take, replicate, arith, ℤ, pos, negsuc, ◌-ℤ◌, ◌≤ℤ◌, length-append}
use Rattle.std.proofs.lemmas.Int.{ints}
use Rattle.std.proofs.lemmas.List.{length-take, length-drop, length-replicate}
use Rattle.subscript_keys.specs.declared.decimal.Decimal.{Decimal}
use Rattle.subscript_keys.specs.Decimal.{digits, whole_digits, fraction_digits, IsShort}

pub record InLimits (x : ℤ) (ds : List ℕ) : Type 0 where
  pub count : length ds ≤ 18
  pub high : x ≤ℤ pos 18
  pub low : (pos (length ds) -ℤ x) ≤ℤ pos 18

pub limits-from : (x : ℤ) (ds : List ℕ) → length (whole_digits ds x) + length (fraction_digits ds x) ≤ 18 → InLimits x ds
unfolding whole_digits fraction_digits
limits-from (pos x) ds h =
    let parts : (x ≤ 18) × (length ds ≤ 18) = (omega (arith, length-append (take x ds) (replicate (x - length ds) 0), length-take x ds, length-replicate {A = ℕ} (x - length ds) 0, length-drop x ds), omega (arith, length-append (take x ds) (replicate (x - length ds) 0), length-take x ds, length-replicate {A = ℕ} (x - length ds) 0, length-drop x ds)) in
    record { count = parts.1; high = omega (arith, ints); low = omega (arith, ints) }
limits-from (negsuc x) ds h =
    let parts : suc x + length ds ≤ 18 = omega (arith, length-append (replicate (suc x) 0) ds, length-replicate {A = ℕ} (suc x) 0) in
    record { count = omega arith; high = omega (arith, ints); low = omega (arith, ints) }

pub limits-to : (x : ℤ) (ds : List ℕ) → InLimits x ds → length (whole_digits ds x) + length (fraction_digits ds x) ≤ 18
unfolding whole_digits fraction_digits
limits-to (pos x) ds h =
    let count : length ds ≤ 18 = h.count in
    let high : x ≤ 18 = omega (arith, ints, h.high) in
    omega (arith, length-append (take x ds) (replicate (x - length ds) 0), length-take x ds, length-replicate {A = ℕ} (x - length ds) 0, length-drop x ds)
limits-to (negsuc x) ds h =
    let low : suc x + length ds ≤ 18 = omega (arith, ints, h.low) in
    omega (arith, length-append (replicate (suc x) 0) ds, length-replicate {A = ℕ} (suc x) 0)

pub short_is : (d : Decimal) → d.digits % 10 ≢ 0 → InLimits d.exponent (digits d.digits) → IsShort d
short_is d last h = record { last = last; limit = limits-to d.exponent (digits d.digits) h }

pub short_in : (d : Decimal) → IsShort d → InLimits d.exponent (digits d.digits)
short_in d s = limits-from d.exponent (digits d.digits) s.limit
