-- The items that enter as a data server steps may come in the plain machine.
use Rattle.std.specs.Prelude.{ℕ, List}
use Rattle.plain_orders.specs.declared.act.Act.{Act}
use Rattle.plain_orders.specs.declared.layout.Layout.{Layout}
use Rattle.plain_runs.specs.Run.{IsRun, state_after}
use Rattle.data_rules.specs.declared.data_in.DataIn.{DataIn}
use Rattle.cluster_runs.specs.CoresState.{CoresState}
use Rattle.cluster_runs.specs.declared.move_outs.MoveOuts.{MoveOuts}
use Rattle.cluster_runs.specs.declared.moves.Move.TheVariants.{Server}
use Rattle.cluster_runs.specs.Goes.{ServerGoes}
use Rattle.cluster_runs.specs.Machine.{Machine}
use Rattle.cluster_runs.specs.Mirrors.{Mirrors}
use Rattle.cluster_runs.specs.Moves.{Allowed}
use Rattle.cluster_invariant.specs.Holds.{Holds}
use Rattle.cluster_promises.specs.Items.{ItemsHold}
use Rattle.items_server.specs.ItemActs.{ItemsCome}

-- Where the items hold, each one that enters as the data server steps may come in its turn.
abbrev pub StepsEnterItems : Type 0
StepsEnterItems = (l : Layout) (c : CoresState) (m : Machine) (server now : ℕ) (input : DataIn) (outs : MoveOuts) (written : List Act) (new : Machine)
    → Holds l m → ItemsHold ((state_after l m.trail).server_at server) (m.site_at server) m.is_dead_at → IsRun l m.trail
    → Mirrors c m → Allowed c (Server server now input) → ServerGoes m server now input outs written new
    → ItemsCome l (state_after l m.trail) written
