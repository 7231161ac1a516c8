-- What the moves keep apart, and where they begin.
use Rattle.std.specs.Prelude.{◌≡◌, ◌≢◌, ◌<◌, ℕ, List, []}
use Rattle.plain_orders.specs.declared.act.Act.{Act}
use Rattle.plain_orders.specs.declared.entry.Entry.{Entry}
use Rattle.plain_orders.specs.declared.layout.Layout.{Layout}
use Rattle.data_rules.specs.declared.data_in.DataIn.{DataIn}
use Rattle.cluster_runs.specs.declared.move_outs.MoveOuts.{MoveOuts}
use Rattle.cluster_runs.specs.declared.moves.Move.TheVariants.{Server, Begin, Halt}
use Rattle.cluster_runs.specs.CoresState.{start}
use Rattle.cluster_runs.specs.Moves.{Allowed}
use Rattle.cluster_runs.specs.Machine.{Machine}
use Rattle.cluster_runs.specs.Goes.{ServerGoes, BeginGoes, HaltGoes}
use Rattle.cluster_runs.specs.Reached.{CoresReached}
use Rattle.cluster_runs.specs.CoresState.{CoresState}
use Rattle.cluster_runs.specs.Steps.{TickMade}

-- the other data servers have what they had
abbrev pub OthersKept : Machine → ℕ → Machine → Type 0
OthersKept m server n = (other : ℕ) → other ≢ server → n.site_at other ≡ m.site_at other

-- A step of a data server changes the site of no other.
abbrev pub StepChangesOne : Type 0
StepChangesOne = (m : Machine) (server now : ℕ) (input : DataIn) (outs : MoveOuts) (written : List Act) (n : Machine)
    → ServerGoes m server now input outs written n → OthersKept m server n

-- Nor does its start.
abbrev pub BeginChangesOne : Type 0
BeginChangesOne = (m : Machine) (server now : ℕ) (entries : List Entry) (outs : MoveOuts) (written : List Act) (n : Machine)
    → BeginGoes m server now entries outs written n → OthersKept m server n

-- Nor does its halt.
abbrev pub HaltChangesOne : Type 0
HaltChangesOne = (m : Machine) (server : ℕ) (outs : MoveOuts) (written : List Act) (n : Machine)
    → HaltGoes m server outs written n → OthersKept m server n

-- What programs keep before any move shows the machine before any move.
abbrev pub BeginIsReached : Type 0
BeginIsReached = (l : Layout) → CoresReached l (start l)

-- Before any move each data server may start, with no entries.
abbrev pub EachMayStart : Type 0
EachMayStart = (l : Layout) (server : ℕ) → server < l.servers → Allowed (start l) (Begin server 0 [])

-- Until then it makes no step.
abbrev pub NoneStepsFirst : Type 0
NoneStepsFirst = (l : Layout) (server now : ℕ) (input : DataIn) → Allowed (start l) (Server server now input) → ⊥

-- Nor does it halt.
abbrev pub NoneHaltsFirst : Type 0
NoneHaltsFirst = (l : Layout) (server : ℕ) → Allowed (start l) (Halt server) → ⊥

-- What a tick makes of a state that is reached is reached.
abbrev pub TickReaches : Type 0
TickReaches = (l : Layout) (c : CoresState) (now : ℕ) (outs : MoveOuts) (written : List Act) (new : CoresState)
    → CoresReached l c → TickMade c now outs written new → CoresReached l new
