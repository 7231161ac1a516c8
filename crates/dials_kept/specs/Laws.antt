-- Moves that keep the connections of each pair, where the invariant holds before them.
use Rattle.std.specs.Prelude.{ℕ, List}
use Rattle.plain_orders.specs.declared.act.Act.{Act}
use Rattle.plain_orders.specs.declared.entry.Entry.{Entry}
use Rattle.plain_orders.specs.declared.layout.Layout.{Layout}
use Rattle.plain_runs.specs.Run.{IsRun, state_after}
use Rattle.app_job.specs.Sites.{Site as Target}
use Rattle.app_job.specs.declared.command.Command.{Command}
use Rattle.app_rules.specs.declared.app_in.AppIn.TheVariants as app_in
use Rattle.cluster_runs.specs.declared.move_outs.MoveOuts.{MoveOuts}
use Rattle.cluster_runs.specs.declared.moves.Move.TheVariants.{App, Begin, Step}
use Rattle.cluster_runs.specs.CoresState.{CoresState, app_of_job}
use Rattle.cluster_runs.specs.Moves.{Allowed}
use Rattle.cluster_runs.specs.Mirrors.{Mirrors}
use Rattle.cluster_runs.specs.Machine.{Machine}
use Rattle.cluster_runs.specs.Goes.{AppGoes, BeginGoes, DieGoes, HaltGoes, JobGoes, LookGoes, TickGoes}
use Rattle.cluster_invariant.specs.Dials.{DialsAre}
use Rattle.cluster_invariant.specs.Holds.{Holds}

-- the connections at each data server
abbrev pub EachDialsAre : Layout → Machine → Type 0
EachDialsAre l m = (d : ℕ) → DialsAre ((state_after l m.trail).server_at d) (m.site_at d) m.is_dead_at

-- A tick keeps them.
abbrev pub TicksKeepDials : Type 0
TicksKeepDials = (l : Layout) (m new : Machine) (now : ℕ) (outs : MoveOuts) (written : List Act) → Holds l m → TickGoes m now outs written new → EachDialsAre l new

-- A look does.
abbrev pub LooksKeepDials : Type 0
LooksKeepDials = (l : Layout) (m : Machine) (app job line : ℕ) (at : Target) (outs : MoveOuts) (written : List Act) (new : Machine)
    → Holds l m → LookGoes m app job line at outs written new → EachDialsAre l new

-- So does the death of an application server.
abbrev pub DeathsKeepDials : Type 0
DeathsKeepDials = (l : Layout) (m : Machine) (app : ℕ) (outs : MoveOuts) (written : List Act) (new : Machine) → Holds l m → DieGoes m app outs written new → EachDialsAre l new

-- And a halt of a data server.
abbrev pub HaltsKeepDials : Type 0
HaltsKeepDials = (l : Layout) (m : Machine) (server : ℕ) (outs : MoveOuts) (written : List Act) (new : Machine) → Holds l m → HaltGoes m server outs written new → EachDialsAre l new

-- Each start of a data server does.
abbrev pub StartsKeepDials : Type 0
StartsKeepDials = (l : Layout) (c : CoresState) (m : Machine) (server now : ℕ) (entries : List Entry) (outs : MoveOuts) (written : List Act) (new : Machine)
    → Holds l m → IsRun l m.trail → Mirrors c m → Allowed c (Begin server now entries) → BeginGoes m server now entries outs written new → EachDialsAre l new

-- A command of a job does, where the trail stays a run.
abbrev pub CommandsKeepDials : Type 0
CommandsKeepDials = (l : Layout) (c : CoresState) (m : Machine) (job now line : ℕ) (command : Command) (outs : MoveOuts) (written : List Act) (new : Machine)
    → Holds l m → IsRun l m.trail → IsRun l new.trail → Mirrors c m → Allowed c (Step job now line command)
    → JobGoes m (app_of_job m.layout job) job now line command outs written new → EachDialsAre l new

-- An attempt to connect that failed does.
abbrev pub FailuresKeepDials : Type 0
FailuresKeepDials = (l : Layout) (c : CoresState) (m : Machine) (app now d before later : ℕ) (outs : MoveOuts) (written : List Act) (new : Machine)
    → Holds l m → IsRun l m.trail → Mirrors c m → Allowed c (App app now (app_in.NoWay d before later)) → AppGoes m app now (app_in.NoWay d before later) outs written new
    → EachDialsAre l new

-- A connection that ended at an application server does.
abbrev pub BreaksKeepDials : Type 0
BreaksKeepDials = (l : Layout) (c : CoresState) (m : Machine) (app now d : ℕ) (outs : MoveOuts) (written : List Act) (new : Machine)
    → Holds l m → IsRun l m.trail → Mirrors c m → Allowed c (App app now (app_in.Broken d)) → AppGoes m app now (app_in.Broken d) outs written new → EachDialsAre l new

-- A line that is to join a pair again does.
abbrev pub JoinsKeepDials : Type 0
JoinsKeepDials = (l : Layout) (c : CoresState) (m : Machine) (app now d : ℕ) (outs : MoveOuts) (written : List Act) (new : Machine)
    → Holds l m → IsRun l m.trail → Mirrors c m → Allowed c (App app now (app_in.Join d)) → AppGoes m app now (app_in.Join d) outs written new → EachDialsAre l new

-- And a tick at an application server.
abbrev pub AppTicksKeepDials : Type 0
AppTicksKeepDials = (l : Layout) (c : CoresState) (m : Machine) (app now : ℕ) (outs : MoveOuts) (written : List Act) (new : Machine)
    → Holds l m → IsRun l m.trail → Mirrors c m → Allowed c (App app now app_in.Tick) → AppGoes m app now app_in.Tick outs written new → EachDialsAre l new

-- A connection that an application server made does.
abbrev pub ConnectsKeepDials : Type 0
ConnectsKeepDials = (l : Layout) (c : CoresState) (m : Machine) (app now d : ℕ) (outs : MoveOuts) (written : List Act) (new : Machine)
    → Holds l m → IsRun l m.trail → Mirrors c m → Allowed c (App app now (app_in.Connected d)) → AppGoes m app now (app_in.Connected d) outs written new
    → EachDialsAre l new
