-- Which calls of a device in memory are to fail, and how often one did.
use Rattle.std.specs.Prelude.{ℕ, ◌+◌, ◌-◌, ◌^◌, min, Bool, if◌then◌else◌, List, ◌==◌}
use Rattle.std.specs.List.{list_any}

-- the calls still to fail, by number from 0, the calls made and the faults so far; both counts stay at the greatest u64
pub record Plan : Type 0 where
  pub fail : List ℕ
  pub calls : ℕ
  pub faults : ℕ

-- one more, up to the greatest u64
abbrev pub one_more : ℕ → ℕ
one_more n = min (n + 1) (2 ^ 64 - 1)

-- the next call is to fail
abbrev pub is_due : Plan → Bool
is_due p = list_any (λ call. call == p.calls) p.fail

-- the plan after the next call
abbrev pub after_call : Plan → Plan
after_call p = record { fail = p.fail; calls = one_more p.calls; faults = (if is_due p then one_more p.faults else p.faults) }
