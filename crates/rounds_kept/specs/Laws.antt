-- Moves that keep what a recovery round puts, where the invariant holds before them.
use Rattle.std.specs.Prelude.{ℕ, List}
use Rattle.plain_orders.specs.declared.act.Act.{Act}
use Rattle.plain_orders.specs.declared.layout.Layout.{Layout}
use Rattle.plain_orders.specs.declared.entry.Entry.{Entry}
use Rattle.plain_runs.specs.Run.{IsRun, state_after}
use Rattle.app_job.specs.Sites.{Site as Target}
use Rattle.cluster_runs.specs.declared.move_outs.MoveOuts.{MoveOuts}
use Rattle.cluster_runs.specs.Machine.{Machine}
use Rattle.cluster_runs.specs.CoresState.{CoresState}
use Rattle.cluster_runs.specs.Moves.{Allowed}
use Rattle.cluster_runs.specs.Mirrors.{Mirrors}
use Rattle.cluster_runs.specs.declared.moves.Move.TheVariants.{Begin}
use Rattle.cluster_runs.specs.Goes.{BeginGoes, LookGoes, DieGoes, HaltGoes, TickGoes}
use Rattle.cluster_invariant.specs.Holds.{Holds}
use Rattle.cluster_invariant.specs.Rounds.{RoundsHold}

-- at each data server, what rounds put to its sessions
abbrev pub EachRoundHolds : Layout → Machine → Type 0
EachRoundHolds l m = (d : ℕ) → RoundsHold ((state_after l m.trail).server_at d) (m.site_at d) m.is_dead_at

-- A tick keeps it.
abbrev pub TicksKeepRounds : Type 0
TicksKeepRounds = (l : Layout) (m new : Machine) (now : ℕ) (outs : MoveOuts) (written : List Act) → Holds l m → TickGoes m now outs written new → EachRoundHolds l new

-- A look does.
abbrev pub LooksKeepRounds : Type 0
LooksKeepRounds = (l : Layout) (m : Machine) (app job line : ℕ) (at : Target) (outs : MoveOuts) (written : List Act) (new : Machine)
    → Holds l m → LookGoes m app job line at outs written new → EachRoundHolds l new

-- So does the death of an application server.
abbrev pub DeathsKeepRounds : Type 0
DeathsKeepRounds = (l : Layout) (m : Machine) (app : ℕ) (outs : MoveOuts) (written : List Act) (new : Machine) → Holds l m → DieGoes m app outs written new → EachRoundHolds l new

-- And a halt of a data server.
abbrev pub HaltsKeepRounds : Type 0
HaltsKeepRounds = (l : Layout) (m : Machine) (server : ℕ) (outs : MoveOuts) (written : List Act) (new : Machine) → Holds l m → HaltGoes m server outs written new → EachRoundHolds l new

-- And each start of one: a round that goes on begins with it.
abbrev pub StartsKeepRounds : Type 0
StartsKeepRounds = (l : Layout) (c : CoresState) (m : Machine) (server now : ℕ) (entries : List Entry) (outs : MoveOuts) (written : List Act) (new : Machine)
    → Holds l m → IsRun l m.trail → Mirrors c m → Allowed c (Begin server now entries) → BeginGoes m server now entries outs written new → EachRoundHolds l new
