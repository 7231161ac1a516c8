-- Moves that keep what is on its way, where the invariant holds before them.
use Rattle.std.specs.Prelude.{ℕ, List}
use Rattle.plain_orders.specs.declared.act.Act.{Act}
use Rattle.plain_orders.specs.declared.entry.Entry.{Entry}
use Rattle.plain_orders.specs.declared.layout.Layout.{Layout}
use Rattle.plain_runs.specs.Run.{IsRun, state_after}
use Rattle.app_job.specs.Sites.{Site as Target}
use Rattle.cluster_runs.specs.declared.move_outs.MoveOuts.{MoveOuts}
use Rattle.cluster_runs.specs.Machine.{Machine}
use Rattle.cluster_runs.specs.declared.moves.Move.TheVariants.{Begin}
use Rattle.cluster_runs.specs.CoresState.{CoresState}
use Rattle.cluster_runs.specs.Mirrors.{Mirrors}
use Rattle.cluster_runs.specs.Moves.{Allowed}
use Rattle.cluster_runs.specs.Goes.{BeginGoes, LookGoes, DieGoes, HaltGoes, TickGoes}
use Rattle.cluster_invariant.specs.Holds.{Holds}
use Rattle.cluster_invariant.specs.Link.{LinkHolds}

-- what is on its way at each data server
abbrev pub EachLinkHolds : Layout → Machine → Type 0
EachLinkHolds l m = (d : ℕ) → LinkHolds ((state_after l m.trail).server_at d) (m.site_at d) m.is_dead_at

-- A tick keeps it.
abbrev pub TicksKeepLinks : Type 0
TicksKeepLinks = (l : Layout) (m new : Machine) (now : ℕ) (outs : MoveOuts) (written : List Act) → Holds l m → TickGoes m now outs written new → EachLinkHolds l new

-- A look does.
abbrev pub LooksKeepLinks : Type 0
LooksKeepLinks = (l : Layout) (m : Machine) (app job line : ℕ) (at : Target) (outs : MoveOuts) (written : List Act) (new : Machine)
    → Holds l m → IsRun l m.trail → LookGoes m app job line at outs written new → EachLinkHolds l new

-- So does the death of an application server.
abbrev pub DeathsKeepLinks : Type 0
DeathsKeepLinks = (l : Layout) (m : Machine) (app : ℕ) (outs : MoveOuts) (written : List Act) (new : Machine) → Holds l m → IsRun l m.trail → DieGoes m app outs written new → EachLinkHolds l new

-- And a halt of a data server.
abbrev pub HaltsKeepLinks : Type 0
HaltsKeepLinks = (l : Layout) (m : Machine) (server : ℕ) (outs : MoveOuts) (written : List Act) (new : Machine) → Holds l m → IsRun l m.trail → HaltGoes m server outs written new → EachLinkHolds l new

-- And each start of one.
abbrev pub StartsKeepLinks : Type 0
StartsKeepLinks = (l : Layout) (c : CoresState) (m : Machine) (server now : ℕ) (entries : List Entry) (outs : MoveOuts) (written : List Act) (new : Machine)
    → Holds l m → IsRun l m.trail → Mirrors c m → Allowed c (Begin server now entries) → BeginGoes m server now entries outs written new → EachLinkHolds l new
