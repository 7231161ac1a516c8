-- Moves that keep which commands the requests of application ends are of, where the invariant holds before them.
use Rattle.std.specs.Prelude.{ℕ, List}
use Rattle.plain_orders.specs.declared.act.Act.{Act}
use Rattle.plain_orders.specs.declared.layout.Layout.{Layout}
use Rattle.plain_orders.specs.declared.entry.Entry.{Entry}
use Rattle.plain_runs.specs.Run.{IsRun}
use Rattle.app_job.specs.Sites.{Site as Target}
use Rattle.app_job.specs.declared.command.Command.{Command}
use Rattle.app_rules.specs.declared.app_in.AppIn.{AppIn}
use Rattle.data_rules.specs.declared.data_in.DataIn.{DataIn}
use Rattle.cluster_runs.specs.declared.move_outs.MoveOuts.{MoveOuts}
use Rattle.cluster_runs.specs.declared.moves.Move.TheVariants.{App, Begin, Server, Step}
use Rattle.cluster_runs.specs.CoresState.{CoresState, app_of_job}
use Rattle.cluster_runs.specs.Goes.{AppGoes, BeginGoes, DieGoes, HaltGoes, JobGoes, LookGoes, ServerGoes, TickGoes}
use Rattle.cluster_runs.specs.Machine.{Machine}
use Rattle.cluster_runs.specs.Mirrors.{Mirrors}
use Rattle.cluster_runs.specs.Moves.{Allowed, LookedMay}
use Rattle.cluster_invariant.specs.Commands.{CommandsHold}
use Rattle.cluster_invariant.specs.Holds.{Holds}

-- Each step of a data server keeps them.
abbrev pub StepsKeepCommands : Type 0
StepsKeepCommands = (l : Layout) (c : CoresState) (m : Machine) (server now : ℕ) (input : DataIn) (outs : MoveOuts) (written : List Act) (new : Machine)
    → Holds l m → IsRun l m.trail → Mirrors c m → Allowed c (Server server now input) → ServerGoes m server now input outs written new → CommandsHold new

-- So does each start of one.
abbrev pub StartsKeepCommands : Type 0
StartsKeepCommands = (l : Layout) (c : CoresState) (m : Machine) (server now : ℕ) (entries : List Entry) (outs : MoveOuts) (written : List Act) (new : Machine)
    → Holds l m → IsRun l m.trail → Mirrors c m → Allowed c (Begin server now entries) → BeginGoes m server now entries outs written new → CommandsHold new

-- And a halt.
abbrev pub HaltsKeepCommands : Type 0
HaltsKeepCommands = (l : Layout) (m : Machine) (server : ℕ) (outs : MoveOuts) (written : List Act) (new : Machine)
    → Holds l m → HaltGoes m server outs written new → CommandsHold new

-- And the death of an application server.
abbrev pub DeathsKeepCommands : Type 0
DeathsKeepCommands = (l : Layout) (m : Machine) (app : ℕ) (outs : MoveOuts) (written : List Act) (new : Machine)
    → Holds l m → DieGoes m app outs written new → CommandsHold new

-- And a look.
abbrev pub LooksKeepCommands : Type 0
LooksKeepCommands = (l : Layout) (c : CoresState) (m : Machine) (app job line : ℕ) (at : Target) (outs : MoveOuts) (written : List Act) (new : Machine)
    → Holds l m → Mirrors c m → LookedMay c job line at → LookGoes m app job line at outs written new → CommandsHold new

-- And a tick.
abbrev pub TicksKeepCommands : Type 0
TicksKeepCommands = (l : Layout) (m new : Machine) (now : ℕ) (outs : MoveOuts) (written : List Act)
    → Holds l m → TickGoes m now outs written new → CommandsHold new

-- And each step of a job's command.
abbrev pub JobsKeepCommands : Type 0
JobsKeepCommands = (l : Layout) (c : CoresState) (m : Machine) (job now line : ℕ) (command : Command) (outs : MoveOuts) (written : List Act) (new : Machine)
    → Holds l m → IsRun l m.trail → Mirrors c m → Allowed c (Step job now line command)
    → JobGoes m (app_of_job m.layout job) job now line command outs written new → CommandsHold new

-- And each input of an application server.
abbrev pub InputsKeepCommands : Type 0
InputsKeepCommands = (l : Layout) (c : CoresState) (m : Machine) (app now : ℕ) (input : AppIn) (outs : MoveOuts) (written : List Act) (new : Machine)
    → Holds l m → IsRun l m.trail → Mirrors c m → Allowed c (App app now input) → AppGoes m app now input outs written new → CommandsHold new
