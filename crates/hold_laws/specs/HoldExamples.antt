-- A trail on which the premises of the laws on holds are met.
use Rattle.std.specs.Prelude.{◌≡◌, true, false, List, [], ◌∷◌, ◌++◌, None}
use Rattle.plain_orders.specs.declared.act.Act.{Act}
use Rattle.plain_orders.specs.declared.act.Act.TheVariants.{Synced, Shut, Release, Grant, Granted, Quit}
use Rattle.plain_orders.specs.declared.causes.ShutCause.TheVariants.{Replaced}
use Rattle.plain_orders.specs.declared.mode.Mode.TheVariants.{Exclusive}
use Rattle.plain_runs.specs.Plain.{Hold, Quitted}
use Rattle.plain_runs.specs.Run.{IsRun}
use Rattle.plain_runs.specs.Laws.{IsHold, server_after}
use Rattle.trail_laws.specs.ExampleTrails.{first_hold, handed_over, second_hold, two_jobs, x_node}

-- job 1 is answered that it has the lock, and is granted it once more; job 0 gives a request for it up
abbrev pub asking : List Act
asking = Grant 0 2 1 Exclusive x_node 3 ∷ Synced 0 3 ∷ Granted 1 5 0 3 ∷ Grant 0 2 1 Exclusive x_node 3 ∷ Quit 0 8 0 Exclusive x_node ∷ []

-- behind a lock that was handed over
abbrev pub asked : List Act
asked = handed_over ++ asking

-- the session is closed, and its locks are released
abbrev pub releasing : List Act
releasing = Shut 0 2 Replaced ∷ Synced 0 4 ∷ Release 0 2 ∷ []

-- the third hold, which is sent
abbrev pub third_hold : Hold
third_hold = record { session = 2; job = 1; mode = Exclusive; key = x_node; at = 3; answered = false; given = None; in_force = true; gone = false }

-- the request that was given up
abbrev pub one_quit : Quitted
one_quit = record { session = 2; job = 0; mode = Exclusive; key = x_node; given = record { turn = 1; before = 1 } }

-- One hold was given up and is gone while no round is due, one is answered, one is sent, and a request was given up; then the
-- answered one is no longer in force.
abbrev pub HoldExample : Type 0
HoldExample =
    IsRun two_jobs asked
    × IsHold (server_after two_jobs asked 0) 0 first_hold
    × IsHold (server_after two_jobs asked 0) 1 second_hold
    × IsHold (server_after two_jobs asked 0) 2 third_hold
    × ((server_after two_jobs asked 0).quits ≡ one_quit ∷ [])
    × ((server_after two_jobs asked 0).due ≡ None)
    × IsRun two_jobs (asked ++ releasing)
    × IsHold (server_after two_jobs (asked ++ releasing) 0) 1 (record second_hold { in_force = false })
