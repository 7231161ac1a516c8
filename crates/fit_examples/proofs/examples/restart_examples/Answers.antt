use Rattle.std.proofs.Common.{[], refl, rules, arith, inl, inr}
use Rattle.fit_examples.specs.Groups.{met, so_far, when_down}
use Rattle.fit_examples.proofs.LineLaws.{no_restart}
use Rattle.fit_examples.proofs.JobLaws.{neither}
use Rattle.transcript.specs.declared.piece.Restarted.TheVariants.{Kept, DiskFault, NotAJournal, NotKept, NetFault, Running}
use Rattle.fit_examples.proofs.examples.restart_examples.Goals as goal

pub returns : goal.returns
returns c = (
  record { middle = []; waiting = []; ticks = refl; deaths = refl; opened = refl; restarts = (Kept 2, refl, (refl, ([], refl, refl)), (refl, tt)); halts = tt; still = (refl, (refl, tt)); pumps = refl; gone = refl; given = (tt, (tt, tt)); answers = refl; places = tt; pieces = refl; no_wait = refl; only_waits = refl; waits = tt; accounted = (λ j. inr tt) },
  record { middle = []; waiting = []; ticks = refl; deaths = refl; opened = refl; restarts = (DiskFault, refl, (refl, inl tt), tt); halts = tt; still = tt; pumps = refl; gone = refl; given = tt; answers = refl; places = tt; pieces = refl; no_wait = refl; only_waits = refl; waits = tt; accounted = (λ j. inr tt) },
  record { middle = []; waiting = []; ticks = refl; deaths = refl; opened = refl; restarts = (DiskFault, refl, (refl, inr (2, [], refl, tt)), (refl, tt)); halts = tt; still = (refl, tt); pumps = refl; gone = refl; given = (tt, tt); answers = refl; places = tt; pieces = refl; no_wait = refl; only_waits = refl; waits = tt; accounted = (λ j. inr tt) },
  record { middle = []; waiting = []; ticks = refl; deaths = refl; opened = refl; restarts = (NotAJournal 7, refl, (refl, tt), tt); halts = tt; still = tt; pumps = refl; gone = refl; given = tt; answers = refl; places = tt; pieces = refl; no_wait = refl; only_waits = refl; waits = tt; accounted = (λ j. inr tt) },
  record { middle = []; waiting = []; ticks = refl; deaths = refl; opened = refl; restarts = (NotKept 1, refl, (refl, tt), tt); halts = tt; still = tt; pumps = refl; gone = refl; given = tt; answers = refl; places = tt; pieces = refl; no_wait = refl; only_waits = refl; waits = tt; accounted = (λ j. inr tt) },
  record { middle = []; waiting = []; ticks = refl; deaths = refl; opened = refl; restarts = (NetFault, refl, (refl, inr (2, [], refl, tt)), (refl, tt)); halts = tt; still = (refl, (refl, tt)); pumps = refl; gone = refl; given = (tt, (tt, tt)); answers = refl; places = tt; pieces = refl; no_wait = refl; only_waits = refl; waits = tt; accounted = (λ j. inr tt) },
  record { middle = []; waiting = []; ticks = refl; deaths = refl; opened = refl; restarts = (Running, refl, (refl, refl), tt); halts = tt; still = tt; pumps = refl; gone = refl; given = tt; answers = refl; places = tt; pieces = refl; no_wait = refl; only_waits = refl; waits = tt; accounted = (λ j. inr tt) },
  λ f. no_restart when_down.down 0 5 (Kept 3) _ f.restarts (search rules),
  λ f. no_restart when_down.down 0 5 (Kept 2) _ f.restarts (search rules),
  λ f. no_restart when_down.down 0 5 (Kept 2) _ f.restarts (search rules),
  λ f. no_restart when_down.down 0 5 (Kept 2) _ f.restarts (search rules),
  λ f. no_restart when_down.down 0 5 DiskFault _ f.restarts (λ m. neither m.1 (search rules) (search rules)),
  λ f. no_restart when_down.down 0 5 (NotAJournal 7) _ f.restarts (search rules),
  λ f. no_restart when_down.down 0 5 (NotKept 1) _ f.restarts (search rules),
  λ f. no_restart (so_far met [] []).down 0 5 Running _ f.restarts (search rules),
  λ f. no_restart when_down.down 0 5 Running _ f.restarts (search rules),
  λ f. no_restart (so_far met [] []).down 0 5 (Kept 2) _ f.restarts (search rules),
  search rules,
  search rules,
  search rules,
  search rules,
  λ f. absurd (cc f.restarts.1),
  λ f. absurd (cc f.restarts.0),
  λ f. absurd (cc f.still.0),
  λ f. absurd (cc f.still.0),
  record { middle = []; waiting = []; ticks = refl; deaths = refl; opened = refl; restarts = (refl, refl); halts = tt; still = (refl, tt); pumps = refl; gone = refl; given = (tt, tt); answers = refl; places = tt; pieces = refl; no_wait = refl; only_waits = refl; waits = tt; accounted = (λ j. inr tt) },
  λ f. no_restart when_down.down 0 5 DiskFault _ f.restarts (λ m. neither m.1 (search rules) (search rules)),
  λ f. no_restart when_down.down 0 5 DiskFault _ f.restarts (λ m. neither m.1 (search rules) (search rules)),
  record { middle = []; waiting = []; ticks = refl; deaths = refl; opened = refl; restarts = (DiskFault, refl, (refl, inl ((λ e. omega (arith, e)), tt)), tt); halts = tt; still = (refl, tt); pumps = refl; gone = refl; given = (tt, tt); answers = refl; places = tt; pieces = refl; no_wait = refl; only_waits = refl; waits = tt; accounted = (λ j. inr tt) },
  λ f. omega (arith, f.restarts.3.0),
  λ f. no_restart when_down.down 0 5 (NotAJournal 7) _ f.restarts (search rules),
  λ f. no_restart when_down.down 0 5 (NotKept 1) _ f.restarts (search rules),
  λ f. no_restart when_down.down 0 5 NetFault _ f.restarts (λ m. neither m.1 (λ cut. neither cut (search rules) (search rules)) (search rules)),
  λ f. absurd (cc f.still.0),
  record { middle = []; waiting = []; ticks = refl; deaths = refl; opened = refl; restarts = (refl, refl); halts = tt; still = (tt, tt); pumps = refl; gone = refl; given = (tt, tt); answers = refl; places = tt; pieces = refl; no_wait = refl; only_waits = refl; waits = tt; accounted = (λ j. inr tt) },
)
