use Rattle.std.proofs.Common.{[], refl, inr}
use Rattle.fit_examples.proofs.examples.clock_examples.Goals as goal

pub returns : goal.returns
returns c = (
  record { middle = []; waiting = []; ticks = refl; deaths = refl; opened = refl; restarts = (refl, refl); halts = tt; still = (tt, (tt, tt)); pumps = refl; gone = refl; given = (tt, (tt, tt)); answers = refl; places = tt; pieces = refl; no_wait = refl; only_waits = refl; waits = tt; accounted = (λ j. inr tt) },
  λ f. absurd (cc f.ticks),
  λ f. absurd (cc f.ticks),
  λ f. absurd (cc f.ticks),
  λ f. absurd (cc f.ticks),
  record { middle = []; waiting = []; ticks = refl; deaths = refl; opened = refl; restarts = (refl, refl); halts = tt; still = (tt, tt); pumps = refl; gone = refl; given = (tt, tt); answers = refl; places = tt; pieces = refl; no_wait = refl; only_waits = refl; waits = tt; accounted = (λ j. inr tt) },
  record { middle = []; waiting = []; ticks = refl; deaths = refl; opened = refl; restarts = (refl, refl); halts = tt; still = tt; pumps = refl; gone = refl; given = tt; answers = refl; places = tt; pieces = refl; no_wait = refl; only_waits = refl; waits = tt; accounted = (λ j. inr tt) },
  λ f. absurd (cc f.deaths),
  λ f. absurd (cc f.deaths),
  λ f. absurd (cc f.deaths),
  λ f. absurd (cc f.deaths),
  λ f. absurd (cc f.opened),
)
