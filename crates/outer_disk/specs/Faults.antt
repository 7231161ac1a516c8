-- Which calls of a disk in memory fail, and how often one did.
use Rattle.std.specs.Prelude.{ℕ, zero, suc, ◌+◌, Bool, true, false, ◌||◌, if◌then◌else◌, List, Option, Some, None}
use Rattle.outer_io.specs.Plan.{Plan, is_due, after_call, one_more}
use Rattle.outer_io.specs.InMemory.{fresh_plan}
use Rattle.outer_disk.specs.declared.halt.Halt.{Halt}
use Rattle.outer_disk.specs.declared.halt.Halt.TheVariants.{Never, AtWrite, Now}

-- which of its calls are listed to fail, when it stops, and how many calls came while it had stopped
pub record Faults : Type 0 where
  pub plan : Plan
  pub halt : Halt
  pub stopped : ℕ

-- how often a call has failed
abbrev pub fault_count : Faults → ℕ
fault_count f = f.plan.faults + f.stopped

-- the disk has stopped
abbrev pub is_stopped : Halt → Bool
is_stopped Never = false
is_stopped (AtWrite n) = false
is_stopped Now = true

-- the next call that is no write is to fail
abbrev pub fails : Faults → Bool
fails f = is_due f.plan || is_stopped f.halt

-- the faults after a call that is no write
abbrev pub after_other : Faults → Faults
after_other f = record { plan = after_call f.plan; halt = f.halt; stopped = (if is_stopped f.halt then one_more f.stopped else f.stopped) }

-- one write nearer to the stop
abbrev pub next_halt : Halt → Halt
next_halt Never = Never
next_halt (AtWrite zero) = Now
next_halt (AtWrite (suc n)) = AtWrite n
next_halt Now = Now

-- the faults as a write comes
abbrev pub at_write : Faults → Faults
at_write f = record { plan = f.plan; halt = next_halt f.halt; stopped = f.stopped }

-- the next write is to fail
abbrev pub write_fails : Faults → Bool
write_fails f = fails (at_write f)

-- the faults after a write
abbrev pub after_write : Faults → Faults
after_write f = after_other (at_write f)

-- a crash ends a stop
abbrev pub halt_after_crash : Halt → Halt
halt_after_crash Never = Never
halt_after_crash (AtWrite n) = AtWrite n
halt_after_crash Now = Never

-- the faults after a crash
abbrev pub after_crash : Faults → Faults
after_crash f = record { plan = f.plan; halt = halt_after_crash f.halt; stopped = f.stopped }

-- a disk with this stop stops so
abbrev pub halt_of : Option ℕ → Halt
halt_of None = Never
halt_of (Some n) = AtWrite n

-- the faults of a disk that was just made
abbrev pub fresh_faults : List ℕ → Option ℕ → Faults
fresh_faults fail stop = record { plan = fresh_plan fail; halt = halt_of stop; stopped = 0 }
