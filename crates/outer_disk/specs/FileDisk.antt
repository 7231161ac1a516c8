-- What is known of a disk over a file.
use Rattle.std.specs.Prelude.{ℕ}
use Rattle.outer_disk.specs.Counts.{Counts}

-- how often it has failed, and how many calls it has taken; both stay at the greatest u64
pub record FileCounts : Type 0 where
  pub faults : ℕ
  pub calls : ℕ

-- those of a disk that was just made
abbrev pub no_calls : FileCounts
no_calls = record { faults = 0; calls = 0 }

-- what it counts as a disk: it never stops for lack of memory
abbrev pub file_counts : FileCounts → Counts
file_counts c = record { faults = c.faults; out_of_memory = 0; calls = c.calls }
