-- Grants that wait as replies say the length at which they were granted, after each move.
use Rattle.std.proofs.Common.{◌≡◌, ℕ, List, [], ◌∷◌, length, Option, refl, sym, ◌∙◌, ap, subst}
use Rattle.std.specs.Prelude.{IfSome}
use Rattle.plain_orders.specs.declared.act.Act.{Act}
use Rattle.plain_orders.specs.declared.entry.Entry.{Entry}
use Rattle.plain_orders.specs.declared.layout.Layout.{Layout}
use Rattle.plain_orders.specs.declared.layout.Times.{Times}
use Rattle.plain_runs.specs.Run.{IsRun}
use Rattle.data_rules.specs.DataState.{DataState}
use Rattle.data_rules.specs.declared.data_in.DataIn.{DataIn}
use Rattle.data_rules.specs.declared.data_in.DataIn.TheVariants as data_in
use Rattle.data_rules.specs.declared.rows.LiveEnd.{LiveEnd}
use Rattle.data_rules.specs.Opening.{live_ends}
use Rattle.data_rules.specs.Puts.{Sofar, begun}
use Rattle.data_rules.specs.Step.{made, recovering, started, with_epoch}
use Rattle.cluster_runs.specs.CoresState.{CoresState}
use Rattle.cluster_runs.specs.declared.move_outs.MoveOuts.{MoveOuts}
use Rattle.cluster_runs.specs.declared.moves.Move.TheVariants as moves
use Rattle.cluster_runs.specs.Goes.{ServerGoes, server_site}
use Rattle.cluster_runs.specs.Machine.{Machine}
use Rattle.cluster_runs.specs.Mirrors.{Mirrors}
use Rattle.cluster_runs.specs.Moves.{Allowed}
use Rattle.cluster_invariant.specs.Holds.{Holds}
use Rattle.cluster_invariant.proofs.OrderKept.{step_site}
use Rattle.cluster_invariant.proofs.PieceMay.{Coming, begins}
use Rattle.cluster_invariant.proofs.Pieces.{kept_by_pieces}
use Rattle.cluster_invariant.proofs.PiecesOfSteps.{step_pieces, synced_state}
use Rattle.cluster_invariant.proofs.Small.{at_places, of_some}
use Rattle.data_ends_kept.proofs.NodeEndsServer as served
use Rattle.locks_kept.specs.Laws.{EachGrantsWait, GrantsWait, MovesKeepGrants}
use Rattle.locks_kept.proofs.GrantPieces.{AllWaits, waits_piece}
use Rattle.locks_kept.proofs.RowMoves.{looked_nodes, same_nodes, told_node}

begins_waits : (old : DataState) (now : ℕ) (input : DataIn) → GrantsWait old → GrantsWait (begins (record { old = old; now = now; input = input })).state
begins_waits old now (data_in.Frame conn up) w = w
begins_waits old now (data_in.Connected conn) w = w
begins_waits old now (data_in.Broken conn) w = w
begins_waits old now data_in.Tick w = w
begins_waits old now (data_in.Saved upto) w = subst GrantsWait (sym (synced_state upto (begun old))) w

step_waits : (l : Layout) (c : CoresState) (m : Machine) (server now : ℕ) (input : DataIn) (outs : MoveOuts) (written : List Act) (new : Machine)
    → Holds l m → IsRun l m.trail → Mirrors c m → Allowed c (moves.Server server now input) → (goes : ServerGoes m server now input outs written new)
    → GrantsWait goes.node → GrantsWait goes.state
step_waits l c m server now input outs written new h run shows allowed goes w =
    kept_by_pieces t (λ (b : Sofar). AllWaits (length b.state.order) b.state.replies) (waits_piece t) (begins t) (made goes.state goes.data_outs)
    (step_pieces goes.node now input goes.data_outs goes.state (served.from l c m server now input outs written new h run shows allowed goes)
    (served.may l c m server now input outs written new h run shows allowed goes) goes.steps)
    (begins_waits goes.node now input w)
  where
    t : Coming
    t = record { old = goes.node; now = now; input = input }

recovering_replies : (xs : List LiveEnd) (due : ℕ) (n : DataState) → (recovering xs due n).replies ≡ n.replies
recovering_replies [] due n = refl
recovering_replies (x ∷ xs) due n = recovering_replies xs due _

started_waits : (server : ℕ) (times : Times) (entries : List Entry) (now : ℕ) → GrantsWait (started server times entries now)
started_waits server times entries now =
    subst (AllWaits (length (started server times entries now).order)) (sym (recovering_replies (live_ends entries) _ (with_epoch server times entries))) tt

-- Each move.
pub moves_keep_grants : MovesKeepGrants
moves_keep_grants l c m (moves.Step job now line command) outs written new h waits run shows allowed goes =
    same_nodes GrantsWait m new (λ d. ap (λ (n : Machine). (n.site_at d).node) goes.after ∙ told_node _ _ _) waits
moves_keep_grants l c m (moves.Looked job line command) outs written new h waits run shows allowed goes =
    same_nodes GrantsWait m new (looked_nodes m _ job line command outs written new goes) waits
moves_keep_grants l c m (moves.App app now input) outs written new h waits run shows allowed goes =
    same_nodes GrantsWait m new (λ d. ap (λ (n : Machine). (n.site_at d).node) goes.after ∙ told_node _ _ _) waits
moves_keep_grants l c m (moves.Server server now input) outs written new h waits run shows allowed goes =
    subst EachGrantsWait (sym goes.after)
    (at_places (λ d x. IfSome x.node GrantsWait) m.site_at server (server_site goes.node now input goes.data_outs goes.state (m.site_at server))
    (subst (λ (o : Option DataState). IfSome o GrantsWait) (sym (step_site goes.node now input goes.data_outs goes.state (m.site_at server)).node)
    (step_waits l c m server now input outs written new h run shows allowed goes
    (of_some GrantsWait (m.site_at server).node goes.node goes.runs (waits server))))
    (λ d other. waits d))
moves_keep_grants l c m (moves.Begin server now entries) outs written new h waits run shows allowed goes =
    subst EachGrantsWait (sym goes.after)
    (at_places (λ d x. IfSome x.node GrantsWait) m.site_at server _ (started_waits server m.layout.times entries now) (λ d other. waits d))
moves_keep_grants l c m (moves.Halt server) outs written new h waits run shows allowed goes =
    subst EachGrantsWait (sym goes.after)
    (at_places (λ d x. IfSome x.node GrantsWait) m.site_at server _ tt (λ d other. waits d))
moves_keep_grants l c m (moves.Die app) outs written new h waits run shows allowed goes =
    same_nodes GrantsWait m new (λ d. ap (λ (n : Machine). (n.site_at d).node) goes.after) waits
moves_keep_grants l c m (moves.Tick now) outs written new h waits run shows allowed goes =
    same_nodes GrantsWait m new (λ d. ap (λ (n : Machine). (n.site_at d).node) goes.after) waits
