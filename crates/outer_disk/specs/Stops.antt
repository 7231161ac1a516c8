-- When a disk in memory that is made to stop at a write fails.
use Rattle.std.specs.Prelude.{◌≡◌, ℕ, suc, ◌<◌, ◌≤◌, Bool, true, false, List, [], ◌∷◌, Some}
use Rattle.outer_disk.specs.Faults.{Faults, fails, write_fails, is_stopped, after_other, after_write, fresh_faults}

-- the faults after calls, of each of which is told whether it is a write
abbrev pub faults_after : Faults → List Bool → Faults
faults_after f [] = f
faults_after f (true ∷ calls) = faults_after (after_write f) calls
faults_after f (false ∷ calls) = faults_after (after_other f) calls

-- how many of them are writes
abbrev pub writes : List Bool → ℕ
writes [] = 0
writes (true ∷ calls) = suc (writes calls)
writes (false ∷ calls) = writes calls

-- Of a disk that is made to stop at a write: before that write it has not stopped; the write fails, and so does each call after it.
pub record StopsAt (stop : ℕ) (calls : List Bool) (f : Faults) : Type 0 where
  pub before : writes calls ≤ stop → is_stopped f.halt ≡ false
  pub at : stop ≤ writes calls → write_fails f ≡ true
  pub later : stop < writes calls → fails f ≡ true

abbrev pub StopLasts : Type 0
StopLasts = (fail : List ℕ) (stop : ℕ) (calls : List Bool) → StopsAt stop calls (faults_after (fresh_faults fail (Some stop)) calls)
