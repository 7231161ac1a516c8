-- What the net in memory is.
use Rattle.std.specs.Prelude.{ℕ, Bool, false, ◌||◌, not, length}
use Rattle.outer_io.specs.Plan.{Plan, is_due, after_call}
use Rattle.outer_link.specs.Counts.{Counts, with_fault}
use Rattle.outer_link.specs.Net.{Shape}
use Rattle.outer_link.specs.Told.{Told, is_open}

-- how many application servers it joins, what it tells, what it counts, and which of its calls are to fail
pub record NetState : Type 0 where
  pub apps : ℕ
  pub told : Told
  pub counts : Counts
  pub plan : Plan

-- a call that may fail was made, and the net told and counted this
abbrev pub called : NetState → Told → Counts → NetState
called n told counts = record n { told = told; counts = counts; plan = after_call n.plan }

-- a call that was no connect failed, and did nothing else
abbrev pub faulted : NetState → NetState
faulted n = called n n.told (with_fault n.counts)

-- the next call, a connect of this pair, fails
abbrev pub is_refused : NetState → ℕ → ℕ → Bool
is_refused n app server = is_due n.plan || not (is_open n.told app server)

-- it never holds back what is there
abbrev pub shape_of : NetState → Shape
shape_of n = record { apps = n.apps; servers = length n.told.servers; holds_back = false }
