-- Fronts over a step of a data server: orders and lanes go on, and it leaves the states of the application ends.
use Rattle.std.proofs.Common.{◌≡◌, ◌≢◌, ◌⊎◌, inl, inr, ℕ, List, [], ◌∷◌, refl, sym, ◌∙◌, subst, arith}
use Rattle.plain_orders.specs.declared.act.Act.{Act}
use Rattle.plain_orders.specs.declared.layout.Layout.{Layout}
use Rattle.plain_runs.specs.Plain.{Plain, Server, start}
use Rattle.plain_runs.specs.Run.{IsRun, after_all, state_after}
use Rattle.plain_runs.proofs.RunLemmas.{after_all-append}
use Rattle.data_rules.specs.DataState.{DataState}
use Rattle.data_rules.specs.declared.data_in.DataIn.{DataIn}
use Rattle.data_rules.specs.declared.data_in.DataIn.TheVariants as data_in
use Rattle.data_rules.specs.declared.data_outs.DataOuts.{DataOuts}
use Rattle.cluster_runs.specs.declared.move_outs.MoveOuts.{MoveOuts}
use Rattle.cluster_runs.specs.declared.moves.Move.TheVariants.{Server as ServerMove}
use Rattle.cluster_runs.specs.CoresState.{CoresState}
use Rattle.cluster_runs.specs.Moves.{Allowed}
use Rattle.cluster_runs.specs.Mirrors.{Mirrors}
use Rattle.cluster_runs.specs.Lanes.{with_data_step}
use Rattle.cluster_runs.specs.Connections.{hears_downs, leaves_conn, leaves_conns}
use Rattle.cluster_runs.specs.Sent.{Lane}
use Rattle.cluster_runs.specs.Machine.{Machine, Site, with_acts}
use Rattle.cluster_runs.specs.Goes.{ServerGoes, at_site, server_site, server_takes, with_node}
use Rattle.cluster_invariant.specs.Fronts.{FrontsHold}
use Rattle.cluster_invariant.specs.Holds.{Holds}
use Rattle.cluster_invariant.specs.Link.{LaneCounts}
use Rattle.cluster_invariant.proofs.Frame.{others_left}
use Rattle.cluster_invariant.proofs.OrderMoves.{server_wrote}
use Rattle.cluster_invariant.proofs.OrderRows.{StepWrote}
use Rattle.cluster_invariant.proofs.OrdersStay.{orders_agree}
use Rattle.link_kept.proofs.WindowsGo.{same_or}
use Rattle.link_kept.proofs.WindowsServer.{LanesGrow, server_lanes}
use Rattle.coherence_kept.proofs.DeedsOn.{deeds_on}
use Rattle.coherence_kept.proofs.Grows.{OrdersOn}
use Rattle.fronts_kept.proofs.FrontsShort.{AllFronts}
use Rattle.fronts_kept.proofs.FrontsLater.{SameTaken, SameEnds, same_taken, taken_same, fronts_later}

-- the site

-- the ends' states are as they were
leaves_ends : (conns : List ℕ) (x : Site) → SameEnds x (leaves_conns conns x)
leaves_ends [] x = record { state = λ a. refl; told = λ a. refl; shown = λ a. refl }
leaves_ends (conn ∷ conns) x = go (leaves_ends conns (leaves_conn conn x))
  where
    go : SameEnds (leaves_conn conn x) (leaves_conns conns (leaves_conn conn x)) → SameEnds x (leaves_conns conns (leaves_conn conn x))
    go t = record { state = t.state; told = t.told; shown = t.shown }

takes_ends : (input : DataIn) (x : Site) → SameEnds x (server_takes input x)
takes_ends (data_in.Frame conn frame) x = record { state = λ a. refl; told = λ a. refl; shown = λ a. refl }
takes_ends (data_in.Connected conn) x = record { state = λ a. refl; told = λ a. refl; shown = λ a. refl }
takes_ends (data_in.Broken conn) x = go (leaves_ends (conn ∷ []) x)
  where
    go : SameEnds x (leaves_conns (conn ∷ []) x) → SameEnds x (server_takes (data_in.Broken conn) x)
    go t = record { state = t.state; told = t.told; shown = t.shown }
takes_ends data_in.Tick x = record { state = λ a. refl; told = λ a. refl; shown = λ a. refl }
takes_ends (data_in.Saved upto) x = record { state = λ a. refl; told = λ a. refl; shown = λ a. refl }

pub server_ends : (old : DataState) (now : ℕ) (input : DataIn) (outs : DataOuts) (new : DataState) (x : Site) → SameEnds x (server_site old now input outs new x)
server_ends old now input outs new x = go (takes_ends input x) (leaves_ends outs.cuts (hears_downs outs.frames (with_node now new (server_takes input x))))
  where
    go : SameEnds x (server_takes input x)
        → SameEnds (hears_downs outs.frames (with_node now new (server_takes input x))) (leaves_conns outs.cuts (hears_downs outs.frames (with_node now new (server_takes input x))))
        → SameEnds x (server_site old now input outs new x)
    go t u = record { state = λ a. u.state a ∙ t.state a; told = λ a. u.told a ∙ t.told a; shown = λ a. u.shown a ∙ t.shown a }

-- what was taken of a lane is as it was
server_taken : (old : DataState) (outs : DataOuts) (new : DataState) (x y : Site) → ((s k : ℕ) → LaneCounts (x.lane_at s k)) → LanesGrow old new outs x y
    → (s k : ℕ) → SameTaken (x.lane_at s k) (y.lane_at s k)
server_taken old outs new x y counts g s k = by (same_or k x.past)
  where
    by : (k ≡ x.past) ⊎ (k ≢ x.past) → SameTaken (x.lane_at s k) (y.lane_at s k)
    by (inl same) =
        subst (λ (n : ℕ). SameTaken (x.lane_at s n) (y.lane_at s n)) (sym same)
        (subst (λ (z : Lane). SameTaken (x.lane_at s x.past) z) (sym (g.here s))
        (taken_same (x.lane_at s x.past) (with_data_step old new outs.frames s (x.lane_at s x.past)) (counts s x.past).down_taken refl (_, refl) refl))
    by (inr other) = subst (λ (z : Lane). SameTaken (x.lane_at s k) z) (sym (g.others s k other)) (same_taken (x.lane_at s k))

-- Each step of a data server keeps the fronts.
pub fronts_kept_by_server : (l : Layout) (c : CoresState) (m : Machine) (server now : ℕ) (input : DataIn) (outs : MoveOuts) (written : List Act) (new : Machine)
    → Holds l m → IsRun l m.trail → Mirrors c m → Allowed c (ServerMove server now input) → ServerGoes m server now input outs written new → AllFronts l new
fronts_kept_by_server l c m server now input outs written new h run shows allowed goes = go (server_wrote l c m server now input outs written new h run shows allowed goes)
  where
    v : Server
    v = (state_after l m.trail).server_at server

    q : Plain
    q = after_all l (state_after l m.trail) written

    x : Site
    x = m.site_at server

    y : Site
    y = server_site goes.node now input goes.data_outs goes.state x

    go : StepWrote server goes.node goes.state (state_after l m.trail) q → AllFronts l new
    go w =
        subst (λ (n : Machine). AllFronts l n) (sym goes.after)
        (subst (λ (p : Plain). (d : ℕ) → FrontsHold (p.server_at d) ((with_acts written (at_site server (server_site goes.node now input goes.data_outs goes.state) m)).site_at d) m.is_dead_at)
        (sym (after_all-append l start m.trail written))
        (others_left l (state_after l m.trail) q m server y (λ d u z. FrontsHold u z m.is_dead_at) (λ d. (h.sites d).fronts) w.others here))
      where
        on : OrdersOn v (q.server_at server)
        on = deeds_on v (q.server_at server) w.deeds (orders_agree l m.trail server run) w.may w.past w.order (omega (arith, w.synced))

        here : FrontsHold (q.server_at server) y m.is_dead_at
        here =
            fronts_later v (q.server_at server) x y on.goes_on
            (server_taken goes.node goes.data_outs goes.state x y (h.sites server).link.lanes (server_lanes goes.node now input goes.data_outs goes.state x))
            m.is_dead_at m.is_dead_at (server_ends goes.node now input goes.data_outs goes.state x) (λ a is. is) (h.sites server).ends (h.sites server).fronts
