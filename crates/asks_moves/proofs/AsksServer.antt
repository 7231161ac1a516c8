-- Requests for locks over a step of a data server: at its node, in the lanes of its order, and at the application ends, which are as they were.
use Rattle.std.proofs.Common.{◌≡◌, ◌≢◌, ◌≤◌, ◌<◌, ◌⊎◌, inl, inr, ℕ, Bool, true, false, List, [], length, take, Option, Some, None, refl, sym, ◌∙◌, ap, subst, arith}
use Rattle.std.specs.Prelude.{IfSome}
use Rattle.std.specs.List.{AllByRecursion, list_any}
use Rattle.std.proofs.lemmas.List.{take-append-le}
use Rattle.plain_orders.specs.declared.act.Act.{Act}
use Rattle.plain_orders.specs.declared.entry.Entry.{Entry}
use Rattle.plain_orders.specs.declared.layout.Layout.{Layout}
use Rattle.plain_orders.specs.Sessions.{app_in}
use Rattle.plain_orders.proofs.LiveSessions.{none_opened}
use Rattle.plain_runs.specs.Plain.{Plain, Server, order_at, start}
use Rattle.plain_runs.specs.Run.{IsRun, after_all, state_after}
use Rattle.plain_runs.proofs.RunLemmas.{after_all-append}
use Rattle.app_rules.specs.AppState.{Session}
use Rattle.data_rules.specs.DataState.{DataState}
use Rattle.data_rules.specs.declared.data_in.DataIn.{DataIn}
use Rattle.lock_table.specs.declared.rows.Request.{Request}
use Rattle.data_rules.specs.declared.rows.Reply.{Reply}
use Rattle.cluster_runs.specs.declared.move_outs.MoveOuts.{MoveOuts}
use Rattle.cluster_runs.specs.declared.moves.Move.TheVariants.{Server as ServerMove}
use Rattle.cluster_runs.specs.CoresState.{CoresState}
use Rattle.cluster_runs.specs.Goes.{ServerGoes, at_site, server_site}
use Rattle.cluster_runs.specs.Lanes.{with_data_step}
use Rattle.cluster_runs.specs.Machine.{Machine, Site, End, with_acts}
use Rattle.cluster_runs.specs.Mirrors.{Mirrors}
use Rattle.cluster_runs.specs.Moves.{Allowed}
use Rattle.cluster_runs.specs.Sent.{Lane, Place, downs_taken, ups_taken}
use Rattle.cluster_invariant.specs.Asks.{AsksHold, AsksOf, LaneAsks, NodeAsks, RequestIs, asks_ticket}
use Rattle.cluster_invariant.specs.Holds.{Holds, SiteHolds}
use Rattle.cluster_invariant.proofs.AllLists.{all_follow}
use Rattle.cluster_invariant.proofs.OrderMoves.{server_wrote}
use Rattle.cluster_invariant.proofs.OrderKept.{step_site}
use Rattle.cluster_invariant.proofs.OrderRows.{StepWrote}
use Rattle.cluster_invariant.proofs.PastOrders.{order_now}
use Rattle.cluster_invariant.proofs.SiteMoves.{kept_at_one}
use Rattle.cluster_invariant.proofs.Small.{of_some}
use Rattle.data_ends_kept.proofs.NodeEndsServer as served
use Rattle.fronts_kept.proofs.FrontsLater.{SameEnds}
use Rattle.fronts_kept.proofs.FrontsServer.{server_ends}
use Rattle.link_kept.proofs.ServerMoves.{none_begun}
use Rattle.link_kept.proofs.WindowsGo.{same_or}
use Rattle.link_kept.proofs.WindowsServer.{LanesGrow, server_lanes}
use Rattle.asks_moves.specs.Laws.{EachAsksHold}
use Rattle.asks_kept.proofs.AsksAfter.{lanes_after, node_after}
use Rattle.asks_moves.proofs.AsksShort.{AsksPart}
use Rattle.asks_kept.proofs.GrantKinds.{all_replied, replies_asked}
use Rattle.asks_moves.proofs.EndLanes.{AsksWith, WiderAsks, as_asks, asks_as, asks_with, same_asks}

-- Each step of a data server keeps them.
pub asks_kept_by_server : (l : Layout) (c : CoresState) (m : Machine) (server now : ℕ) (input : DataIn) (outs : MoveOuts) (written : List Act) (new : Machine)
    → Holds l m → IsRun l m.trail → Mirrors c m → Allowed c (ServerMove server now input) → ServerGoes m server now input outs written new → EachAsksHold new
asks_kept_by_server l c m server now input outs written new h run shows allowed goes =
    kept_at_one AsksPart l m new server (server_site goes.node now input goes.data_outs goes.state) written (λ d. (h.sites d).asks) goes.after
    (others (server_wrote l c m server now input outs written new h run shows allowed goes)) here
  where
    x : Site
    x = m.site_at server

    v : Server
    v = (state_after l m.trail).server_at server

    y : Site
    y = server_site goes.node now input goes.data_outs goes.state x

    its : SiteHolds l server m.is_dead_at v x
    its = h.sites server

    others : StepWrote server goes.node goes.state (state_after l m.trail) (after_all l (state_after l m.trail) written)
        → (e : ℕ) → e ≢ server → (after_all l (state_after l m.trail) written).server_at e ≡ (state_after l m.trail).server_at e
    others w = w.others

    grow : LanesGrow goes.node goes.state goes.data_outs x y
    grow = server_lanes goes.node now input goes.data_outs goes.state x

    to_open : (s : ℕ) → length goes.node.order < s → (x.lane_at s x.past).up ≡ []
    to_open s above =
        (its.link.lanes s x.past).no_up
        (none_begun v x s x.past (x.lane_at s x.past).began (app_in (order_at v x.past) s)
        (ap (λ (es : List Entry). app_in es s) (ap (order_at v) its.order.past ∙ order_now v ∙ sym (served.order l c m server now input outs written new h run shows allowed goes).order)
        ∙ none_opened goes.node.order (served.from l c m server now input outs written new h run shows allowed goes).ordered s above)
        (its.dials.learnt s x.past))

    old_node : NodeAsks (λ s. x.lane_at s x.past) goes.node
    old_node = of_some (NodeAsks (λ s. x.lane_at s x.past)) x.node goes.node goes.runs its.asks.node

    after : ℕ → Lane
    after s = with_data_step goes.node goes.state goes.data_outs.frames s (x.lane_at s x.past)

    node : NodeAsks after goes.state
    node =
        node_after x m.is_dead_at (record { old = goes.node; now = now; input = input })
        (served.at_frame l c m server now input outs written new h run shows allowed goes)
        (served.link l c m server now input outs written new h run shows allowed goes).windows its.link.lanes to_open
        (served.known l c m server now input outs written new h run shows allowed goes) goes.state goes.data_outs
        (served.from l c m server now input outs written new h run shows allowed goes) (served.may l c m server now input outs written new h run shows allowed goes) goes.steps
        its.asks.lanes old_node

    lanes : (s : ℕ) → LaneAsks (after s)
    lanes s =
        lanes_after x m.is_dead_at (record { old = goes.node; now = now; input = input })
        (served.at_frame l c m server now input outs written new h run shows allowed goes)
        (served.link l c m server now input outs written new h run shows allowed goes).windows its.link.lanes to_open
        (served.known l c m server now input outs written new h run shows allowed goes) goes.state goes.data_outs
        (served.from l c m server now input outs written new h run shows allowed goes) (served.may l c m server now input outs written new h run shows allowed goes) goes.steps
        its.asks.lanes old_node s

    -- each lane
    lane_at : (s k : ℕ) → (k ≡ x.past) ⊎ (k ≢ x.past) → LaneAsks (y.lane_at s k)
    lane_at s k (inl same) = subst (λ (n : ℕ). LaneAsks (y.lane_at s n)) (sym same) (subst LaneAsks (sym (grow.here s)) (lanes s))
    lane_at s k (inr other) = subst LaneAsks (sym (grow.others s k other)) (its.asks.lanes s k)

    node_lanes : (s : ℕ) → y.lane_at s y.past ≡ after s
    node_lanes s = ap (y.lane_at s) grow.past ∙ grow.here s

    -- in which no more was put upwards nor taken downwards
    wider : (s k : ℕ) → (k ≡ x.past) ⊎ (k ≢ x.past) → WiderAsks (x.lane_at s k) (y.lane_at s k)
    wider s k (inl same) =
        subst (λ (n : ℕ). WiderAsks (x.lane_at s n) (y.lane_at s n)) (sym same)
        (subst (WiderAsks (x.lane_at s x.past)) (sym (grow.here s))
        (same_asks (x.lane_at s x.past) (after s) refl
        (take-append-le (x.lane_at s x.past).down_taken (x.lane_at s x.past).down _ (its.link.lanes s x.past).down_taken)))
    wider s k (inr other) =
        subst (WiderAsks (x.lane_at s k)) (sym (grow.others s k other)) (same_asks (x.lane_at s k) (x.lane_at s k) refl refl)

    ends : SameEnds x y
    ends = server_ends goes.node now input goes.data_outs goes.state x

    of_all : (told : Option Place) (o : Option Session) → IfSome o (λ s. IfSome told (λ p. WiderAsks (x.lane_at s.number p.order) (y.lane_at s.number p.order)))
    of_all told None = tt
    of_all None (Some s) = tt
    of_all (Some p) (Some s) = wider s.number p.order (same_or p.order x.past)

    app_at : (a : ℕ) → m.is_dead_at a ≡ false → IfSome (y.end_at a).state.session (AsksOf y (y.end_at a))
    app_at a lives =
        asks_as y (y.end_at a) (y.end_at a).state.session
        (subst (λ (e : _). AsksWith y (y.end_at a).told e.ticket e.session) (sym (ends.state a))
        (subst (λ (o : Option Place). AsksWith y o (x.end_at a).state.ticket (x.end_at a).state.session) (sym (ends.told a))
        (asks_with x y (x.end_at a).told (x.end_at a).state.ticket (x.end_at a).state.ticket (x.end_at a).state.session (omega arith)
        (of_all (x.end_at a).told (x.end_at a).state.session) (as_asks x (x.end_at a) (x.end_at a).state.session (its.asks.apps a lives)))))

    here : AsksHold y m.is_dead_at
    here = record {
      lanes = λ s k. lane_at s k (same_or k x.past);
      node =
          subst (λ (o : Option DataState). IfSome o (NodeAsks (λ s. y.lane_at s y.past))) (sym (step_site goes.node now input goes.data_outs goes.state x).node)
          (go node_lanes);
      apps = app_at;
    }
      where
        go : ((s : ℕ) → y.lane_at s y.past ≡ after s) → NodeAsks (λ s. y.lane_at s y.past) goes.state
        go same = record {
          one_each = node.one_each;
          requests =
              all_follow (λ (r : Request). RequestIs (after r.who.session) goes.state r) (λ (r : Request). RequestIs (y.lane_at r.who.session y.past) goes.state r)
              (λ r is. subst (λ (z : Lane). RequestIs z goes.state r) (sym (same r.who.session)) is) goes.state.locks.requests node.requests;
          replies =
              all_replied (λ s. y.lane_at s y.past) goes.state.replies
              (λ s k is. subst (λ (z : Lane). list_any (asks_ticket k) (ups_taken z) ≡ true) (sym (same s)) (replies_asked after goes.state.replies node.replies s k is));
        }
