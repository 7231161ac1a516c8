-- What the objects over memory hold.
use Rattle.std.specs.Prelude.{ℕ, List, [], ◌∷◌}
use Rattle.outer_io.specs.Plan.{Plan}

-- a source: the bytes that it has left, and which of its calls fail
pub record SourceState : Type 0 where
  pub left : List ℕ
  pub plan : Plan

-- a sink: the bytes that it holds, and which of its calls fail
pub record SinkState : Type 0 where
  pub held : List ℕ
  pub plan : Plan

-- a clock: the last moment that it told, and those that it tells next
pub record ClockState : Type 0 where
  pub last : ℕ
  pub times : List ℕ

-- what a clock tells next: the first of the times that are left, or the last that it told
abbrev pub next_time : ℕ → List ℕ → ℕ
next_time last [] = last
next_time last (t ∷ ts) = t

-- the plan of faults of an object that was just made
abbrev pub fresh_plan : List ℕ → Plan
fresh_plan fail = record { fail = fail; calls = 0; faults = 0 }
