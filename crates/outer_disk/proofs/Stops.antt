-- A stop of a disk in memory, call by call.
use Rattle.std.proofs.Common.{◌≡◌, ◌⊎◌, inl, inr, ℕ, zero, suc, ◌+◌, ◌<◌, ◌≤◌, Bool, true, false, ◌||◌, List, [], ◌∷◌, Some, refl, ◌∙◌, ap, arith}
use Rattle.std.proofs.lemmas.Bool.{cases_lt}
use Rattle.outer_io.specs.Plan.{is_due}
use Rattle.outer_disk.specs.declared.halt.Halt.{Halt}
use Rattle.outer_disk.specs.declared.halt.Halt.TheVariants.{AtWrite, Now}
use Rattle.outer_disk.specs.Faults.{Faults, fails, write_fails, is_stopped, next_halt, at_write, after_other, after_write, fresh_faults}
use Rattle.outer_disk.specs.Stops.{faults_after, writes, StopLasts}

or_true : (a : Bool) → (a || true) ≡ true
or_true true = refl
or_true false = refl

-- a disk that has stopped stays so
still_now : (calls : List Bool) (f : Faults) → f.halt ≡ Now → (faults_after f calls).halt ≡ Now
still_now [] f e = e
still_now (true ∷ calls) f e = still_now calls (after_write f) (ap next_halt e)
still_now (false ∷ calls) f e = still_now calls (after_other f) e

-- where the stop is still to come
record IsAhead (stop : ℕ) (calls : List Bool) (f : Faults) : Type 0 where
  left : ℕ
  sum : left + writes calls ≡ stop
  halt : f.halt ≡ AtWrite left

ahead : (calls : List Bool) (f : Faults) (stop : ℕ) → f.halt ≡ AtWrite stop → writes calls ≤ stop → IsAhead stop calls (faults_after f calls)
ahead [] f stop e low = record { left = stop; sum = omega arith; halt = e }
ahead (true ∷ calls) f zero e low = absurd (omega arith)
ahead (true ∷ calls) f (suc stop) e low =
    let on = ahead calls (after_write f) stop (ap next_halt e) (omega arith) in
    record { left = on.left; sum = omega (arith, on.sum); halt = on.halt }
ahead (false ∷ calls) f stop e low =
    let on = ahead calls (after_other f) stop e low in
    record { left = on.left; sum = on.sum; halt = on.halt }

past : (calls : List Bool) (f : Faults) (stop : ℕ) → f.halt ≡ AtWrite stop → stop < writes calls → (faults_after f calls).halt ≡ Now
past [] f stop e low = absurd (omega arith)
past (true ∷ calls) f zero e low = still_now calls (after_write f) (ap next_halt e)
past (true ∷ calls) f (suc stop) e low = past calls (after_write f) stop (ap next_halt e) (omega arith)
past (false ∷ calls) f stop e low = past calls (after_other f) stop e low

-- a disk that has stopped fails
now_fails : (f : Faults) → f.halt ≡ Now → fails f ≡ true
now_fails f e = ap (λ (h : Halt). is_due f.plan || is_stopped h) e ∙ or_true (is_due f.plan)

pub stop_lasts : StopLasts
stop_lasts fail stop calls = record {
  before = λ low. ap is_stopped (ahead calls first stop refl low).halt;
  at = λ high. at_stop high (cases_lt stop (writes calls));
  later = λ high. now_fails (faults_after first calls) (past calls first stop refl high);
}
  where
    first : Faults
    first = fresh_faults fail (Some stop)

    fails_at : (faults_after first calls).halt ≡ Now ⊎ (faults_after first calls).halt ≡ AtWrite 0 → write_fails (faults_after first calls) ≡ true
    fails_at (inl now) = now_fails (at_write (faults_after first calls)) (ap next_halt now)
    fails_at (inr here) = now_fails (at_write (faults_after first calls)) (ap next_halt here)

    at_stop : stop ≤ writes calls → (stop < writes calls) ⊎ (writes calls ≤ stop) → write_fails (faults_after first calls) ≡ true
    at_stop high (inl more) = fails_at (inl (past calls first stop refl more))
    at_stop high (inr low) =
        let on = ahead calls first stop refl low in
        let none : on.left ≡ 0 = omega (arith, on.sum, high, low) in
        fails_at (inr (on.halt ∙ ap AtWrite none))
