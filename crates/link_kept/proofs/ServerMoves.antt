-- The windows and lanes of a data server, and what it has of its sessions, after each move of it.
use Rattle.std.proofs.Common.{◌≡◌, ◌≤◌, ◌<◌, ℕ, List, length, Option, Some, None, refl, sym, ◌∙◌, ap, subst, arith}
use Rattle.std.proofs.lemmas.List.{length-append}
use Rattle.plain_orders.specs.declared.act.Act.{Act}
use Rattle.plain_orders.specs.declared.entry.Entry.{Entry}
use Rattle.plain_orders.specs.declared.layout.Layout.{Layout}
use Rattle.plain_orders.specs.Sessions.{app_in}
use Rattle.plain_runs.specs.Plain.{Server, order_at}
use Rattle.plain_runs.specs.Run.{IsRun, state_after}
use Rattle.plain_runs.proofs.OrderLaws.{orders_kept}
use Rattle.data_rules.specs.DataState.{DataState}
use Rattle.data_rules.specs.declared.data_in.DataIn.{DataIn}
use Rattle.data_rules.specs.declared.data_in.DataIn.TheVariants as data_in
use Rattle.data_rules.specs.Puts.{Sofar, begun}
use Rattle.data_rules.specs.Step.{DataMay}
use Rattle.cluster_runs.specs.declared.move_outs.MoveOuts.{MoveOuts}
use Rattle.cluster_runs.specs.declared.moves.Move.TheVariants.{Server as ServerMove}
use Rattle.cluster_runs.specs.CoresState.{CoresState}
use Rattle.cluster_runs.specs.Moves.{Allowed, NodeMay}
use Rattle.cluster_runs.specs.Mirrors.{Mirrors}
use Rattle.cluster_runs.specs.Machine.{Machine, Site}
use Rattle.cluster_runs.specs.Goes.{ServerGoes, server_site}
use Rattle.plain_orders.proofs.LiveSessions.{none_opened}
use Rattle.cluster_invariant.specs.Orders.{NodeOrder}
use Rattle.cluster_invariant.specs.Dials.{NodeDials, LearntBy}
use Rattle.cluster_invariant.specs.Link.{NodeLink}
use Rattle.cluster_invariant.specs.Words.{IsFront}
use Rattle.cluster_invariant.specs.Holds.{SiteHolds, Holds}
use Rattle.cluster_invariant.proofs.Small.{of_some, put_same}
use Rattle.cluster_invariant.proofs.OrderMoves.{step_from}
use Rattle.cluster_invariant.proofs.PastOrders.{order_now}
use Rattle.cluster_invariant.proofs.PieceKinds.{Piece, makes}
use Rattle.cluster_invariant.proofs.PieceMay.{Coming, begins}
use Rattle.cluster_invariant.proofs.Pieces.{MayMake}
use Rattle.cluster_invariant.proofs.PiecesOfSteps.{StepFrom, synced_state}
use Rattle.link_kept.proofs.FitsWell.{may_close}
use Rattle.link_kept.proofs.ServesServer.{ServesAfter, serves_begin, serves_kept_by_step}
use Rattle.link_kept.proofs.FramesFit.{FrameAt, frame_next}
use Rattle.link_kept.proofs.OrderGrows.{order_grows}
use Rattle.data_rules.specs.Step.{made}
use Rattle.link_kept.proofs.WindowPieces.{PutsWell}
use Rattle.link_kept.proofs.StepFits.{ConnsKnow, LeftToOthers, fits_well}

-- has begun in no order
pub none_begun : (v : Server) (x : Site) (s k : ℕ) (o a : Option ℕ) → a ≡ None → LearntBy v x s k o a → o ≡ None
none_begun v x s k None a none learnt = refl
none_begun v x s k (Some dial) a none learnt = absurd (subst (λ (b : Option ℕ). LearntBy v x s k (Some dial) b) none learnt)

-- Each move of a data server keeps its windows, the counts of its lanes, and what it has of its sessions, and whatever each piece keeps.
pub serves_kept_by_server : (l : Layout) (c : CoresState) (m : Machine) (server now : ℕ) (input : DataIn) (outs : MoveOuts) (written : List Act) (new : Machine)
    → Holds l m → IsRun l m.trail → Mirrors c m → Allowed c (ServerMove server now input) → (goes : ServerGoes m server now input outs written new)
    → (E : Sofar → Type 0)
    → ((b : Sofar) → E b → ConnsKnow (λ s. (m.site_at server).lane_at s (m.site_at server).past) (record { old = goes.node; now = now; input = input }) b)
    → LeftToOthers (λ s. (m.site_at server).lane_at s (m.site_at server).past) (record { old = goes.node; now = now; input = input }) E
    → ((p : Piece) (b : Sofar) → MayMake (record { old = goes.node; now = now; input = input }) p b → E b → E (makes now p b))
    → E (begins (record { old = goes.node; now = now; input = input }))
    → (G : Sofar → Type 0)
    → ((p : Piece) (b : Sofar) → MayMake (record { old = goes.node; now = now; input = input }) p b
    → PutsWell (λ s. (m.site_at server).lane_at s (m.site_at server).past) p b → G b → G (makes now p b))
    → G (begins (record { old = goes.node; now = now; input = input }))
    → ServesAfter goes.node goes.state (m.site_at server) (new.site_at server) (may_close input) × G (made goes.state goes.data_outs)
serves_kept_by_server l c m server now input outs written new h run shows allowed goes E know left keeps first G more begun_so =
    subst (λ (y : Site). ServesAfter old goes.state x y (may_close input) × G (made goes.state goes.data_outs)) (sym after)
    (serves_kept_by_step x old now input goes.data_outs goes.state (record { lanes = its.link.lanes; windows = node.windows })
    (serves_begin v x old (may_close input) from.ordered within dials node.serves node.replies) from may goes.steps F
    (λ p b made f s w. fits_well x m.is_dead_at t at_frame F (λ a g. know a g.0) (λ a g. g.1) to_open left_all node.serves.items p b made f)
    (λ p b made f. (keeps p b made f.0, omega (arith, f.1, grown b (makes now p b) (order_grows now p b)))) (first, begins_long input) G more begun_so)
  where
    x : Site
    x = m.site_at server

    v : Server
    v = (state_after l m.trail).server_at server

    old : DataState
    old = goes.node

    t : Coming
    t = record { old = goes.node; now = now; input = input }

    -- what is left to others, while no entry goes
    F : Sofar → Type 0
    F b = E b × (length old.order ≤ length b.state.order)

    left_all : LeftToOthers (λ s. x.lane_at s x.past) t F
    left_all = record {
      again = λ session conn kept b f is. left.again session conn kept b f.0 is;
      normal = λ app session b f is. left.normal app session b f.0 is;
      asks = λ r b f is. left.asks r b f.0 is;
      claims = λ who key mode number at b f is. left.claims who key mode number at b f.0 is;
      cancels = λ r b f is. left.cancels r b f.0 is;
    }

    grown : (b e : Sofar) → IsFront b.state.order e.state.order → length b.state.order ≤ length e.state.order
    grown b e goes_on = omega (arith, ap (λ (es : List Entry). length es) goes_on.1, length-append b.state.order goes_on.0)

    begins_long : (i : DataIn) → length old.order ≤ length (begins (record { old = old; now = now; input = i })).state.order
    begins_long (data_in.Frame conn f) = omega arith
    begins_long (data_in.Connected conn) = omega arith
    begins_long (data_in.Broken conn) = omega arith
    begins_long data_in.Tick = omega arith
    begins_long (data_in.Saved upto) = omega (arith, ap (λ (d : DataState). length d.order) (synced_state upto (begun old)))

    its : SiteHolds l server m.is_dead_at v x
    its = h.sites server

    after : new.site_at server ≡ server_site old now input goes.data_outs goes.state x
    after = ap (λ (n : Machine). n.site_at server) goes.after ∙ put_same m.site_at server (server_site old now input goes.data_outs goes.state x)

    node : NodeLink v x m.is_dead_at old
    node = of_some (NodeLink v x m.is_dead_at) x.node old goes.runs its.link.node

    dials : NodeDials x old
    dials = of_some (NodeDials x) x.node old goes.runs its.dials.node

    order : NodeOrder l server x.past v old
    order = of_some (NodeOrder l server x.past v) x.node old goes.runs its.order.node

    from : StepFrom old
    from = step_from l m server old h run goes.runs

    may : DataMay old input
    may = subst (λ (o : Option DataState). NodeMay o input) (shows.nodes server ∙ goes.runs) allowed.may

    within : old.synced ≤ length old.order
    within = subst (λ (es : List Entry). old.synced ≤ length es) (sym order.order) (omega (arith, order.synced, (orders_kept l m.trail server run).within))

    to_open : (s : ℕ) → length old.order < s → (x.lane_at s x.past).began ≡ None
    to_open s above =
        none_begun v x s x.past (x.lane_at s x.past).began (app_in (order_at v x.past) s)
        (ap (λ (es : List Entry). app_in es s) (ap (order_at v) its.order.past ∙ order_now v ∙ sym order.order) ∙ none_opened old.order from.ordered s above)
        (its.dials.learnt s x.past)

    at_frame : FrameAt x m.is_dead_at old input
    at_frame = record {
      dials = dials;
      windows = node.windows;
      ups = node.ups;
      next =
          λ conn f link came linked.
          frame_next c m server now conn f link shows (subst (λ (i : DataIn). Allowed c (ServerMove server now i)) came allowed) linked;
    }
