-- The part on connections, for a frame that a data server takes on a linked connection.
use Rattle.std.proofs.Common.{◌≡◌, ◌==◌, ℕ, false, List, [], ◌∷◌, Option, Some, is_some, refl, sym, ◌∙◌, ap, subst, arith, inl, inr}
use Rattle.std.proofs.lemmas.Bool.{false≢true}
use Rattle.plain_orders.specs.declared.act.Act.{Act}
use Rattle.plain_orders.specs.declared.layout.Layout.{Layout}
use Rattle.plain_orders.specs.Ordered.{IsOrdered}
use Rattle.plain_runs.specs.Plain.{Plain, Server, order_at}
use Rattle.plain_runs.specs.Run.{IsRun, after_all, state_after}
use Rattle.ecp_messages.specs.declared.up.UpFrame.{UpFrame}
use Rattle.data_rules.specs.declared.data_in.DataIn.TheVariants as data_in
use Rattle.data_rules.specs.declared.rows.Role.{Role}
use Rattle.data_rules.specs.declared.rows.Role.TheVariants.{Waiting, Bound}
use Rattle.data_rules.specs.DataState.{DataState}
use Rattle.data_rules.specs.Conns.{role_of}
use Rattle.data_rules.specs.Puts.{Sofar, begun}
use Rattle.cluster_runs.specs.declared.move_outs.MoveOuts.{MoveOuts}
use Rattle.cluster_runs.specs.declared.moves.Move.TheVariants.{Server as ServerMove}
use Rattle.cluster_runs.specs.CoresState.{CoresState, Linked}
use Rattle.cluster_runs.specs.Machine.{Machine, Site}
use Rattle.cluster_runs.specs.Mirrors.{Mirrors}
use Rattle.cluster_runs.specs.Moves.{Allowed, named_dial}
use Rattle.cluster_runs.specs.Connections.{at_conn, at_link, hears_downs, leaves_conns, link_of, linked_if, up_taken}
use Rattle.cluster_runs.specs.Lanes.{with_data_step}
use Rattle.cluster_runs.specs.Goes.{ServerGoes, server_site, server_takes, with_hellos, with_lanes, with_node}
use Rattle.cluster_invariant.specs.Dials.{DialsAre}
use Rattle.cluster_invariant.specs.Holds.{Holds}
use Rattle.cluster_invariant.specs.Served.{HasLearnt}
use Rattle.cluster_invariant.proofs.OrderRows.{StepWrote}
use Rattle.dials_kept.proofs.ConnectionsGrow.{StaysKnown}
use Rattle.dials_kept.proofs.ShortDials.{EachDials}
use Rattle.dials_server.proofs.FrameDials.{MadeBy, begins_z, bound_learnt, dials_z, link_z, made_by, order_v, order_w, ordered_n}
use Rattle.dials_server.proofs.FrameEnded.{dials_ended, go_ended, left_node, order_left, puts_ended, role_gone, site_ended}
use Rattle.dials_server.proofs.FrameSettled.{PutsFrames, made_inv, settled_dials}
use Rattle.dials_server.proofs.GoNodes.{GoInv}
use Rattle.dials_server.proofs.KnownServer.{dials_by_server}
use Rattle.dials_server.proofs.QuietServer.{lane_step}
use Rattle.dials_server.proofs.TakenFrames.{site_taken}

-- A frame on a linked connection keeps it.
pub dials_kept_by_frame : (conn : ℕ) (f : UpFrame) (link : Linked) (l : Layout) (c : CoresState) (m : Machine) (server now : ℕ) (outs : MoveOuts) (written : List Act) (new : Machine)
    → Holds l m → IsRun l m.trail → IsRun l new.trail → Mirrors c m → Allowed c (ServerMove server now (data_in.Frame conn f))
    → ServerGoes m server now (data_in.Frame conn f) outs written new → link_of (m.site_at server) conn ≡ Some link → EachDials l (state_after l new.trail) new
dials_kept_by_frame conn f link l c m server now outs written new h run after_run shows allowed goes linked =
    dials_by_server l c m server now (data_in.Frame conn f) outs written new h run after_run shows allowed goes (λ later w ordered. by later w made)
  where
    v : Server
    v = (state_after l m.trail).server_at server

    q : Plain
    q = after_all l (state_after l m.trail) written

    x : Site
    x = m.site_at server

    n : DataState
    n = goes.node

    z : Site
    z = site_taken x conn link (named_dial f.message)

    dials : DialsAre v z m.is_dead_at
    dials = dials_z l c m server now conn f outs written new h run after_run shows allowed goes link linked

    begins : GoInv z n [] (begun n)
    begins = begins_z l c m server now conn f outs written new h run after_run shows allowed goes link linked

    made : MadeBy l c m server now conn f outs written new h run after_run shows allowed goes link linked goes.steps.taken
    made = made_by l c m server now conn f outs written new h run after_run shows allowed goes link linked

    ordered_here : IsOrdered n.order
    ordered_here = ordered_n l c m server now conn f outs written new h run after_run shows allowed goes link linked

    -- the connection that it came on has this link still
    takes_same : server_takes (data_in.Frame conn f) x ≡ z
    takes_same =
        ap (λ (o : Option Linked). at_link o (up_taken x.past conn) (at_conn conn (linked_if (named_dial f.message)) x))
        (link_z l c m server now conn f outs written new h run after_run shows allowed goes link linked conn ∙ linked)

    after : List ℕ → Site → Site
    after cs y = with_lanes n goes.state goes.data_outs (with_hellos (data_in.Frame conn f) (leaves_conns cs (hears_downs goes.data_outs.frames (with_node now goes.state y))))

    shape : (cs : List ℕ) → goes.data_outs.cuts ≡ cs → server_site n now (data_in.Frame conn f) goes.data_outs goes.state x ≡ after cs z
    shape cs same = ap (λ (y : Site). after goes.data_outs.cuts y) takes_same ∙ ap (λ (ks : List ℕ). after ks z) same

    puts : PutsFrames z (after [] z) goes.state goes.data_outs.frames
    puts = record {
      past = refl;
      began = λ s k. (lane_step (k == z.past) (z.lane_at s k) (with_data_step n goes.state goes.data_outs.frames s (z.lane_at s k)) refl refl).0;
      taken = λ s k. omega (arith, (lane_step (k == z.past) (z.lane_at s k) (with_data_step n goes.state goes.data_outs.frames s (z.lane_at s k)) refl refl).1);
      connections = refl;
      each = λ a d. refl;
      states = λ a. refl;
      tolds = λ a. refl;
      node = refl;
    }

    by : StaysKnown v (q.server_at server) → StepWrote server n goes.state (state_after l m.trail) q
        → MadeBy l c m server now conn f outs written new h run after_run shows allowed goes link linked goes.steps.taken
        → DialsAre (q.server_at server) (server_site n now (data_in.Frame conn f) goes.data_outs goes.state x) m.is_dead_at
    by later w (inl (apart, go)) =
        subst (λ (y : Site). DialsAre (q.server_at server) y m.is_dead_at)
        (sym (shape []
        (made_inv v (q.server_at server) z m.is_dead_at n [] conn now goes.steps.taken later order ordered_here learnt apart dials goes.runs go goes.state goes.data_outs
        goes.steps.after).cuts))
        (settled_dials v (q.server_at server) z m.is_dead_at n [] conn now goes.steps.taken later order ordered_here learnt apart dials goes.runs go goes.state goes.data_outs
        goes.steps.after (after [] z) puts (order_w l c m server now conn f outs written new h run after_run shows allowed goes link linked goes.state w))
      where
        order : order_at v z.past ≡ n.order
        order = order_v l c m server now conn f outs written new h run after_run shows allowed goes link linked

        learnt : (s : ℕ) → role_of n conn ≡ Some (Bound s) → HasLearnt z s
        learnt s role = bound_learnt l c m server now conn f outs written new h run after_run shows allowed goes link linked s role
    by later w (inr ends) =
        subst (λ (y : Site). DialsAre (q.server_at server) y m.is_dead_at)
        (sym (shape (conn ∷ [])
        (made_inv v (q.server_at server) u m.is_dead_at k (conn ∷ []) conn now goes.steps.taken later order ordered_left learnt apart dials_u refl go goes.state goes.data_outs
        goes.steps.after).cuts))
        (settled_dials v (q.server_at server) u m.is_dead_at k (conn ∷ []) conn now goes.steps.taken later order ordered_left learnt apart dials_u refl go goes.state goes.data_outs
        goes.steps.after (after (conn ∷ []) z) (puts_ended v z m.is_dead_at n now conn dials goes.runs begins goes.state goes.data_outs (data_in.Frame conn f))
        (order_w l c m server now conn f outs written new h run after_run shows allowed goes link linked goes.state w))
      where
        u : Site
        u = site_ended v z m.is_dead_at n now conn dials goes.runs begins

        k : DataState
        k = left_node v z m.is_dead_at n now conn dials goes.runs begins

        dials_u : DialsAre v u m.is_dead_at
        dials_u = dials_ended v z m.is_dead_at n now conn dials goes.runs begins

        left_order : k.order ≡ n.order
        left_order = order_left v z m.is_dead_at n now conn dials goes.runs begins

        order : order_at v u.past ≡ k.order
        order = order_v l c m server now conn f outs written new h run after_run shows allowed goes link linked ∙ sym left_order

        ordered_left : IsOrdered k.order
        ordered_left = subst IsOrdered (sym left_order) ordered_here

        gone : is_some (role_of k conn) ≡ false
        gone = role_gone v z m.is_dead_at n now conn dials goes.runs begins

        learnt : (s : ℕ) → role_of k conn ≡ Some (Bound s) → HasLearnt u s
        learnt s role = absurd (false≢true (sym gone ∙ ap (λ (o : Option Role). is_some o) role))

        apart : role_of k conn ≡ Some Waiting → ⊥
        apart role = false≢true (sym gone ∙ ap (λ (o : Option Role). is_some o) role)

        go : GoInv u k (conn ∷ []) goes.steps.taken
        go = subst (λ (b : Sofar). GoInv u k (conn ∷ []) b) (sym ends.after) (go_ended v z m.is_dead_at n now conn dials goes.runs begins)
