-- Moves that keep the requests for locks, where the invariant holds before them.
use Rattle.std.specs.Prelude.{ℕ, List}
use Rattle.plain_orders.specs.declared.act.Act.{Act}
use Rattle.plain_orders.specs.declared.layout.Layout.{Layout}
use Rattle.plain_orders.specs.declared.entry.Entry.{Entry}
use Rattle.plain_runs.specs.Run.{IsRun}
use Rattle.app_job.specs.Sites.{Site as Target}
use Rattle.app_job.specs.declared.command.Command.{Command}
use Rattle.app_rules.specs.declared.app_in.AppIn.{AppIn}
use Rattle.data_rules.specs.declared.data_in.DataIn.{DataIn}
use Rattle.cluster_runs.specs.declared.move_outs.MoveOuts.{MoveOuts}
use Rattle.cluster_runs.specs.declared.moves.Move.TheVariants.{App, Begin, Server, Step}
use Rattle.cluster_runs.specs.CoresState.{CoresState, app_of_job}
use Rattle.cluster_runs.specs.Goes.{AppGoes, BeginGoes, DieGoes, HaltGoes, JobGoes, LookGoes, ServerGoes, TickGoes}
use Rattle.cluster_runs.specs.Machine.{Machine}
use Rattle.cluster_runs.specs.Mirrors.{Mirrors}
use Rattle.cluster_runs.specs.Moves.{Allowed}
use Rattle.cluster_invariant.specs.Asks.{AsksHold}
use Rattle.cluster_invariant.specs.Holds.{Holds}

-- at each data server, the requests for locks
abbrev pub EachAsksHold : Machine → Type 0
EachAsksHold m = (d : ℕ) → AsksHold (m.site_at d) m.is_dead_at

-- Each step of a data server keeps them.
abbrev pub StepsKeepAsks : Type 0
StepsKeepAsks = (l : Layout) (c : CoresState) (m : Machine) (server now : ℕ) (input : DataIn) (outs : MoveOuts) (written : List Act) (new : Machine)
    → Holds l m → IsRun l m.trail → Mirrors c m → Allowed c (Server server now input) → ServerGoes m server now input outs written new → EachAsksHold new

-- So does each start of one.
abbrev pub StartsKeepAsks : Type 0
StartsKeepAsks = (l : Layout) (c : CoresState) (m : Machine) (server now : ℕ) (entries : List Entry) (outs : MoveOuts) (written : List Act) (new : Machine)
    → Holds l m → IsRun l m.trail → Mirrors c m → Allowed c (Begin server now entries) → BeginGoes m server now entries outs written new → EachAsksHold new

-- And a halt.
abbrev pub HaltsKeepAsks : Type 0
HaltsKeepAsks = (l : Layout) (m : Machine) (server : ℕ) (outs : MoveOuts) (written : List Act) (new : Machine)
    → Holds l m → HaltGoes m server outs written new → EachAsksHold new

-- And the death of an application server.
abbrev pub DeathsKeepAsks : Type 0
DeathsKeepAsks = (l : Layout) (m : Machine) (app : ℕ) (outs : MoveOuts) (written : List Act) (new : Machine)
    → Holds l m → DieGoes m app outs written new → EachAsksHold new

-- And a look.
abbrev pub LooksKeepAsks : Type 0
LooksKeepAsks = (l : Layout) (m : Machine) (app job line : ℕ) (at : Target) (outs : MoveOuts) (written : List Act) (new : Machine)
    → Holds l m → LookGoes m app job line at outs written new → EachAsksHold new

-- And a tick.
abbrev pub TicksKeepAsks : Type 0
TicksKeepAsks = (l : Layout) (m new : Machine) (now : ℕ) (outs : MoveOuts) (written : List Act)
    → Holds l m → TickGoes m now outs written new → EachAsksHold new

-- And each input of an application server.
abbrev pub InputsKeepAsks : Type 0
InputsKeepAsks = (l : Layout) (c : CoresState) (m : Machine) (app now : ℕ) (input : AppIn) (outs : MoveOuts) (written : List Act) (new : Machine)
    → Holds l m → IsRun l m.trail → Mirrors c m → Allowed c (App app now input) → AppGoes m app now input outs written new → EachAsksHold new

-- And each step of a job's command.
abbrev pub JobsKeepAsks : Type 0
JobsKeepAsks = (l : Layout) (c : CoresState) (m : Machine) (job now line : ℕ) (command : Command) (outs : MoveOuts) (written : List Act) (new : Machine)
    → Holds l m → IsRun l m.trail → Mirrors c m → Allowed c (Step job now line command)
    → JobGoes m (app_of_job m.layout job) job now line command outs written new → EachAsksHold new
