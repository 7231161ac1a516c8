-- What a net counts. Each count stays at the greatest u64.
use Rattle.std.specs.Prelude.{ℕ, ◌≤◌}
use Rattle.outer_io.specs.Plan.{one_more}

pub record Counts : Type 0 where
  pub faults : ℕ  -- calls other than connects that failed
  pub failed : ℕ  -- connects that failed
  pub idle_takes : ℕ  -- takes that answered that nothing is there now
  pub idle_puts : ℕ  -- puts that took nothing now, and accepts that found no connection

-- no count fell
pub record NoneFell (old now : Counts) : Type 0 where
  pub faults : old.faults ≤ now.faults
  pub failed : old.failed ≤ now.failed
  pub idle_takes : old.idle_takes ≤ now.idle_takes
  pub idle_puts : old.idle_puts ≤ now.idle_puts

-- of a net that was just made
abbrev pub no_counts : Counts
no_counts = record { faults = 0; failed = 0; idle_takes = 0; idle_puts = 0 }

abbrev pub with_fault : Counts → Counts
with_fault c = record c { faults = one_more c.faults }

abbrev pub with_failed : Counts → Counts
with_failed c = record c { failed = one_more c.failed }

abbrev pub with_idle_take : Counts → Counts
with_idle_take c = record c { idle_takes = one_more c.idle_takes }

abbrev pub with_idle_put : Counts → Counts
with_idle_put c = record c { idle_puts = one_more c.idle_puts }
