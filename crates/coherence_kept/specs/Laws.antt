-- Moves that keep what was put coherent, where the invariant holds before them.
use Rattle.std.specs.Prelude.{ℕ, List}
use Rattle.plain_orders.specs.declared.act.Act.{Act}
use Rattle.plain_orders.specs.declared.layout.Layout.{Layout}
use Rattle.plain_orders.specs.declared.entry.Entry.{Entry}
use Rattle.plain_runs.specs.Run.{IsRun, state_after}
use Rattle.app_job.specs.Sites.{Site as Target}
use Rattle.cluster_runs.specs.declared.move_outs.MoveOuts.{MoveOuts}
use Rattle.cluster_runs.specs.Machine.{Machine}
use Rattle.app_job.specs.declared.command.Command.{Command}
use Rattle.app_rules.specs.declared.app_in.AppIn.{AppIn}
use Rattle.cluster_runs.specs.CoresState.{CoresState, app_of_job}
use Rattle.cluster_runs.specs.Moves.{Allowed}
use Rattle.cluster_runs.specs.Mirrors.{Mirrors}
use Rattle.cluster_runs.specs.declared.moves.Move.TheVariants.{App, Begin, Step}
use Rattle.cluster_runs.specs.Goes.{AppGoes, BeginGoes, DieGoes, HaltGoes, JobGoes, LookGoes, TickGoes}
use Rattle.cluster_invariant.specs.Holds.{Holds}
use Rattle.cluster_invariant.specs.Coherence.{CoherenceHolds}

-- at each data server, what was put to its sessions
abbrev pub EachPutIsCoherent : Layout → Machine → Type 0
EachPutIsCoherent l m = (d : ℕ) → CoherenceHolds ((state_after l m.trail).server_at d) (m.site_at d)

-- A tick keeps it coherent.
abbrev pub TicksKeepPuts : Type 0
TicksKeepPuts = (l : Layout) (m new : Machine) (now : ℕ) (outs : MoveOuts) (written : List Act) → Holds l m → TickGoes m now outs written new → EachPutIsCoherent l new

-- A look does.
abbrev pub LooksKeepPuts : Type 0
LooksKeepPuts = (l : Layout) (m : Machine) (app job line : ℕ) (at : Target) (outs : MoveOuts) (written : List Act) (new : Machine)
    → Holds l m → LookGoes m app job line at outs written new → EachPutIsCoherent l new

-- So does the death of an application server.
abbrev pub DeathsKeepPuts : Type 0
DeathsKeepPuts = (l : Layout) (m : Machine) (app : ℕ) (outs : MoveOuts) (written : List Act) (new : Machine) → Holds l m → DieGoes m app outs written new → EachPutIsCoherent l new

-- And a halt of a data server.
abbrev pub HaltsKeepPuts : Type 0
HaltsKeepPuts = (l : Layout) (m : Machine) (server : ℕ) (outs : MoveOuts) (written : List Act) (new : Machine) → Holds l m → HaltGoes m server outs written new → EachPutIsCoherent l new

-- And each start of one.
abbrev pub StartsKeepPuts : Type 0
StartsKeepPuts = (l : Layout) (c : CoresState) (m : Machine) (server now : ℕ) (entries : List Entry) (outs : MoveOuts) (written : List Act) (new : Machine)
    → Holds l m → IsRun l m.trail → Mirrors c m → Allowed c (Begin server now entries) → BeginGoes m server now entries outs written new → EachPutIsCoherent l new

-- Each command of a job does.
abbrev pub CommandsKeepPuts : Type 0
CommandsKeepPuts = (l : Layout) (c : CoresState) (m : Machine) (job now line : ℕ) (command : Command) (outs : MoveOuts) (written : List Act) (new : Machine)
    → Holds l m → IsRun l m.trail → Mirrors c m → Allowed c (Step job now line command) → JobGoes m (app_of_job m.layout job) job now line command outs written new
    → EachPutIsCoherent l new

-- Each input of an application server does.
abbrev pub InputsKeepPuts : Type 0
InputsKeepPuts = (l : Layout) (c : CoresState) (m : Machine) (app now : ℕ) (input : AppIn) (outs : MoveOuts) (written : List Act) (new : Machine)
    → Holds l m → IsRun l m.trail → Mirrors c m → Allowed c (App app now input) → AppGoes m app now input outs written new → EachPutIsCoherent l new
