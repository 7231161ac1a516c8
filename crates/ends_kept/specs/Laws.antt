-- What a move keeps, where the invariant holds before it.
use Rattle.std.specs.Prelude.{◌≡◌, ℕ, false, List}
use Rattle.plain_orders.specs.declared.act.Act.{Act}
use Rattle.plain_orders.specs.declared.entry.Entry.{Entry}
use Rattle.plain_orders.specs.declared.layout.Layout.{Layout}
use Rattle.plain_runs.specs.Run.{IsRun, state_after}
use Rattle.app_job.specs.declared.command.Command.{Command}
use Rattle.app_rules.specs.declared.app_in.AppIn.{AppIn}
use Rattle.cluster_runs.specs.declared.move_outs.MoveOuts.{MoveOuts}
use Rattle.cluster_runs.specs.declared.moves.Move.TheVariants.{App, Begin, Step}
use Rattle.cluster_runs.specs.CoresState.{CoresState, app_of_job}
use Rattle.cluster_runs.specs.Moves.{Allowed}
use Rattle.cluster_runs.specs.Mirrors.{Mirrors}
use Rattle.cluster_runs.specs.Machine.{Machine}
use Rattle.cluster_runs.specs.Goes.{AppGoes, BeginGoes, DieGoes, Goes, HaltGoes, JobGoes, TickGoes}
use Rattle.cluster_invariant.specs.Ends.{AppTables}
use Rattle.cluster_invariant.specs.Holds.{Holds}
use Rattle.cluster_invariant.specs.Orders.{OrderIs}
use Rattle.cluster_runs.specs.declared.moves.Move.{Move}

-- The trail stays a run as an application server takes an input.
abbrev pub InputsKeepRuns : Type 0
InputsKeepRuns = (l : Layout) (c : CoresState) (m : Machine) (app now : ℕ) (input : AppIn) (outs : MoveOuts) (written : List Act) (new : Machine)
    → Holds l m → IsRun l m.trail → Mirrors c m → Allowed c (App app now input) → AppGoes m app now input outs written new → IsRun l new.trail

-- So it does as a data server starts: the first start opens, and a later one is a crash that keeps what is synced.
abbrev pub StartsKeepRuns : Type 0
StartsKeepRuns = (l : Layout) (c : CoresState) (m : Machine) (server now : ℕ) (entries : List Entry) (outs : MoveOuts) (written : List Act) (new : Machine)
    → Holds l m → IsRun l m.trail → Mirrors c m → Allowed c (Begin server now entries) → BeginGoes m server now entries outs written new → IsRun l new.trail

-- As one halts, as an application server goes, and at a tick it needs nothing.
abbrev pub HaltsKeepRuns : Type 0
HaltsKeepRuns = (l : Layout) (m new : Machine) (server : ℕ) (outs : MoveOuts) (written : List Act) → IsRun l m.trail → HaltGoes m server outs written new → IsRun l new.trail

abbrev pub DeathsKeepRuns : Type 0
DeathsKeepRuns = (l : Layout) (m new : Machine) (app : ℕ) (outs : MoveOuts) (written : List Act) → IsRun l m.trail → DieGoes m app outs written new → IsRun l new.trail

abbrev pub TicksKeepRuns : Type 0
TicksKeepRuns = (l : Layout) (m new : Machine) (now : ℕ) (outs : MoveOuts) (written : List Act) → IsRun l m.trail → TickGoes m now outs written new → IsRun l new.trail

-- what the tables of living application ends are to be, after a move
abbrev pub TablesHold : Layout → Machine → Type 0
TablesHold l m = (d app : ℕ) → m.is_dead_at app ≡ false → AppTables (((state_after l m.trail).server_at d).pair_at app) ((m.site_at d).end_at app).state

-- An input of an application server keeps them.
abbrev pub InputsKeepTables : Type 0
InputsKeepTables = (l : Layout) (c : CoresState) (m : Machine) (app now : ℕ) (input : AppIn) (outs : MoveOuts) (written : List Act) (new : Machine)
    → Holds l m → Mirrors c m → Allowed c (App app now input) → AppGoes m app now input outs written new → TablesHold l new

-- A step of a job does.
abbrev pub CommandsKeepTables : Type 0
CommandsKeepTables = (l : Layout) (c : CoresState) (m : Machine) (job now line : ℕ) (command : Command) (outs : MoveOuts) (written : List Act) (new : Machine)
    → Holds l m → Mirrors c m → Allowed c (Step job now line command) → JobGoes m (app_of_job m.layout job) job now line command outs written new → TablesHold l new

-- Each move keeps the orders: each data server's node and disk have the plain machine's.
abbrev pub MovesKeepOrders : Type 0
MovesKeepOrders = (l : Layout) (c : CoresState) (m : Machine) (move : Move) (outs : MoveOuts) (written : List Act) (new : Machine)
    → Holds l m → IsRun l m.trail → Mirrors c m → Allowed c move → Goes m move outs written new
    → (d : ℕ) → OrderIs l d ((state_after l new.trail).server_at d) (new.site_at d)
