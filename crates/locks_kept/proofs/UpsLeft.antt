-- What is put upwards in each lane is left by each move but an input of an application server and a step of a job's command.
use Rattle.std.proofs.Common.{◌≡◌, ◌≢◌, ◌⊎◌, inl, inr, ℕ, List, refl, sym, ◌∙◌, ap, subst}
use Rattle.plain_orders.specs.declared.act.Act.{Act}
use Rattle.app_job.specs.declared.command.Command.{Command}
use Rattle.app_job.specs.declared.command.Command.TheVariants as commands
use Rattle.data_rules.specs.DataState.{DataState}
use Rattle.data_rules.specs.declared.data_in.DataIn.{DataIn}
use Rattle.data_rules.specs.declared.data_outs.DataOuts.{DataOuts}
use Rattle.cluster_runs.specs.declared.move_outs.MoveOuts.{MoveOuts}
use Rattle.cluster_runs.specs.declared.moves.Move.TheVariants as moves
use Rattle.cluster_runs.specs.Goes.{LookedGoes, server_site}
use Rattle.cluster_runs.specs.Machine.{Machine, Site}
use Rattle.cluster_runs.specs.Sent.{Lane}
use Rattle.cluster_invariant.proofs.Small.{at_places}
use Rattle.link_kept.proofs.WindowsGo.{same_or}
use Rattle.link_kept.proofs.WindowsServer.{LanesGrow, server_lanes}
use Rattle.locks_kept.specs.Laws.{MovesBesideLeaveUps}

-- what is put upwards in the lanes of a site is as it was
abbrev SameUps : Site → Site → Type 0
SameUps x y = (s k : ℕ) → (y.lane_at s k).up ≡ (x.lane_at s k).up

server_ups : (old : DataState) (now : ℕ) (input : DataIn) (outs : DataOuts) (new : DataState) (x : Site) → SameUps x (server_site old now input outs new x)
server_ups old now input outs new x s k = by (server_lanes old now input outs new x) (same_or k x.past)
  where
    by : LanesGrow old new outs x (server_site old now input outs new x) → (k ≡ x.past) ⊎ (k ≢ x.past)
        → ((server_site old now input outs new x).lane_at s k).up ≡ (x.lane_at s k).up
    by g (inl same) =
        subst (λ (n : ℕ). ((server_site old now input outs new x).lane_at s n).up ≡ (x.lane_at s n).up) (sym same)
        (ap (λ (z : Lane). z.up) (g.here s))
    by g (inr other) = ap (λ (z : Lane). z.up) (g.others s k other)

looked_ups : (m : Machine) (app job line : ℕ) (command : Command) (outs : MoveOuts) (written : List Act) (new : Machine)
    → LookedGoes m app job line command outs written new → (d s k : ℕ) → ((new.site_at d).lane_at s k).up ≡ ((m.site_at d).lane_at s k).up
looked_ups m app job line (commands.Set at value) outs written new goes d s n = absurd goes
looked_ups m app job line (commands.Kill at) outs written new goes d s n = absurd goes
looked_ups m app job line (commands.Get at) outs written new goes d s n = ap (λ (z : Machine). ((z.site_at d).lane_at s n).up) goes.after
looked_ups m app job line (commands.Shape at) outs written new goes d s n = absurd goes
looked_ups m app job line (commands.Next parent sub) outs written new goes d s n = absurd goes
looked_ups m app job line (commands.Incr at amount) outs written new goes d s n = absurd goes
looked_ups m app job line (commands.Lock at mode wait) outs written new goes d s n = absurd goes
looked_ups m app job line (commands.Unlock at mode now) outs written new goes d s n = absurd goes
looked_ups m app job line commands.Start outs written new goes d s n = absurd goes
looked_ups m app job line (commands.Commit sync) outs written new goes d s n = absurd goes
looked_ups m app job line commands.Rollback outs written new goes d s n = absurd goes
looked_ups m app job line (commands.Sync server) outs written new goes d s n = absurd goes

-- Each such move.
pub moves_beside_leave_ups : MovesBesideLeaveUps
moves_beside_leave_ups m (moves.Step job now line command) outs written new beside goes d s k = absurd beside
moves_beside_leave_ups m (moves.Looked job line command) outs written new beside goes d s k =
    looked_ups m _ job line command outs written new goes d s k
moves_beside_leave_ups m (moves.App app now input) outs written new beside goes d s k = absurd beside
moves_beside_leave_ups m (moves.Server server now input) outs written new beside goes d s k =
    ap (λ (z : Machine). ((z.site_at d).lane_at s k).up) goes.after
    ∙ at_places (λ e y. SameUps (m.site_at e) y) m.site_at server (server_site goes.node now input goes.data_outs goes.state (m.site_at server))
    (server_ups goes.node now input goes.data_outs goes.state (m.site_at server)) (λ e other a b. refl) d s k
moves_beside_leave_ups m (moves.Begin server now entries) outs written new beside goes d s k =
    ap (λ (z : Machine). ((z.site_at d).lane_at s k).up) goes.after
    ∙ at_places (λ e y. SameUps (m.site_at e) y) m.site_at server _ (λ a b. refl) (λ e other a b. refl) d s k
moves_beside_leave_ups m (moves.Halt server) outs written new beside goes d s k =
    ap (λ (z : Machine). ((z.site_at d).lane_at s k).up) goes.after
    ∙ at_places (λ e y. SameUps (m.site_at e) y) m.site_at server _ (λ a b. refl) (λ e other a b. refl) d s k
moves_beside_leave_ups m (moves.Die app) outs written new beside goes d s k = ap (λ (z : Machine). ((z.site_at d).lane_at s k).up) goes.after
moves_beside_leave_ups m (moves.Tick now) outs written new beside goes d s k = ap (λ (z : Machine). ((z.site_at d).lane_at s k).up) goes.after
