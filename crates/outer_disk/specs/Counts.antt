-- What a disk counts. Each count stays at the greatest u64.
use Rattle.std.specs.Prelude.{ℕ}

pub record Counts : Type 0 where
  pub faults : ℕ  -- calls that failed
  pub out_of_memory : ℕ  -- calls that stopped since there was no memory
  pub calls : ℕ  -- calls that it has taken, those that failed with them
