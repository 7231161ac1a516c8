-- Each input of an application server keeps what is on its way, where the invariant holds before it.
use Rattle.std.specs.Prelude.{ℕ, List}
use Rattle.plain_orders.specs.declared.act.Act.{Act}
use Rattle.plain_orders.specs.declared.layout.Layout.{Layout}
use Rattle.plain_runs.specs.Run.{IsRun}
use Rattle.app_rules.specs.declared.app_in.AppIn.{AppIn}
use Rattle.cluster_runs.specs.CoresState.{CoresState}
use Rattle.cluster_runs.specs.declared.move_outs.MoveOuts.{MoveOuts}
use Rattle.cluster_runs.specs.declared.moves.Move.TheVariants.{App}
use Rattle.cluster_runs.specs.Goes.{AppGoes}
use Rattle.cluster_runs.specs.Machine.{Machine}
use Rattle.cluster_runs.specs.Mirrors.{Mirrors}
use Rattle.cluster_runs.specs.Moves.{Allowed}
use Rattle.cluster_invariant.specs.Holds.{Holds}
use Rattle.link_kept.specs.Laws.{EachLinkHolds}

-- Each input keeps what is on its way.
abbrev pub InputsKeepLinks : Type 0
InputsKeepLinks = (l : Layout) (c : CoresState) (m : Machine) (app now : ℕ) (input : AppIn) (outs : MoveOuts) (written : List Act) (new : Machine)
    → Holds l m → IsRun l m.trail → Mirrors c m → Allowed c (App app now input) → AppGoes m app now input outs written new → EachLinkHolds l new
