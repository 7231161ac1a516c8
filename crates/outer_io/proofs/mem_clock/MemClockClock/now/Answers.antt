use Rattle.std.proofs.Common.{◌≤◌, ap, subst}
use Rattle.outer_io.specs.InMemory.{ClockState}
use Rattle.outer_io.proofs.Rising.{next_no_less, next_rising}
use Rattle.outer_io.proofs.mem_clock.MemClockClock.now.Goals as goal

pub invariant_of-self-2 : goal.invariant_of-self-2
invariant_of-self-2 c = next_rising c.self.inside.last c.in-Some.time _ _ c.self.invariant c.in-Some.ensures.items

pub returns-clause-rising : goal.returns-clause-rising
returns-clause-rising c =
    subst (λ n. n ≤ c.in-Some.time) (ap (λ (s : ClockState). s.last) c.self.view_is)
    (next_no_less c.self.inside.last c.in-Some.time _ _ c.self.invariant c.in-Some.ensures.items)
