-- Moments, in ticks.
use Rattle.std.specs.Prelude.{ℕ, ◌+◌, ◌-◌, ◌^◌, min}

-- the moment when a time that began at a moment is over; it stops at the greatest u64
abbrev pub until : ℕ → ℕ → ℕ
until moment time = min (moment + time) (2 ^ 64 - 1)
