-- The part on connections, for a tick at a data server.
use Rattle.std.proofs.Common.{◌≡◌, ◌<◌, ℕ, Bool, true, false, ◌==◌, List, [], map, filter, Option, Some, None, is_some, refl, sym, ◌∙◌, ap, subst, arith}
use Rattle.std.specs.Prelude.{IfSome, IsSomeAnd, nat_lt}
use Rattle.std.specs.List.{AllByRecursion}
use Rattle.std.proofs.lemmas.Bool.{ltb-false, ltb-true}
use Rattle.std.proofs.lemmas.List.{get_or_past}
use Rattle.plain_orders.specs.declared.act.Act.{Act}
use Rattle.plain_orders.specs.declared.layout.Layout.{Layout}
use Rattle.plain_orders.specs.Entries.{live_session}
use Rattle.plain_orders.specs.Ordered.{IsOrdered}
use Rattle.plain_orders.proofs.LiveSessions.{ordered_one_live}
use Rattle.plain_runs.specs.Plain.{Plain, Server}
use Rattle.plain_runs.specs.Run.{IsRun, after_all, state_after}
use Rattle.link_states.specs.declared.data_link.DataLink.{DataLink}
use Rattle.link_states.specs.declared.data_link.DataLink.TheVariants.{Free, Normal, Trouble, Recovering}
use Rattle.recovery_round.specs.RoundWords.{Round}
use Rattle.block_holders.specs.declared.noted.Noted.{Noted}
use Rattle.data_rules.specs.declared.data_in.DataIn.TheVariants as data_in
use Rattle.data_rules.specs.declared.down_frames.DownOut.{DownOut}
use Rattle.data_rules.specs.declared.limits.TheConstants.{APP_LIMIT}
use Rattle.data_rules.specs.DataState.{DataState}
use Rattle.data_rules.specs.Conns.{link_of as node_link, role_of}
use Rattle.data_rules.specs.Places.{epoch_place}
use Rattle.data_rules.specs.Puts.{Sofar, begun, conn_of}
use Rattle.cluster_runs.specs.declared.move_outs.MoveOuts.{MoveOuts}
use Rattle.cluster_runs.specs.declared.moves.Move.TheVariants.{Server as ServerMove}
use Rattle.cluster_runs.specs.CoresState.{CoresState}
use Rattle.cluster_runs.specs.Machine.{Machine, Site}
use Rattle.cluster_runs.specs.Mirrors.{Mirrors}
use Rattle.cluster_runs.specs.Moves.{Allowed}
use Rattle.cluster_runs.specs.Sent.{Connection}
use Rattle.cluster_runs.specs.Connections.{down_of, hears_downs, is_out_on, leaves_conns, with_downs}
use Rattle.cluster_runs.specs.Lanes.{with_data_step}
use Rattle.cluster_runs.specs.Goes.{ServerGoes, server_site, with_hellos, with_lanes, with_node}
use Rattle.cluster_invariant.specs.Dials.{ConnectionIs, DialsAre, NodeDials, has_conn, is_here}
use Rattle.cluster_invariant.specs.Ends.{LinkIs, NodeEnds}
use Rattle.cluster_invariant.specs.Holds.{Holds, SiteHolds}
use Rattle.cluster_invariant.specs.Link.{NodeLink}
use Rattle.cluster_invariant.specs.Rounds.{RoundGoes}
use Rattle.cluster_invariant.specs.Served.{HasLearnt, IsServed}
use Rattle.cluster_invariant.proofs.AllLists.{all_follow}
use Rattle.cluster_invariant.proofs.OrderMoves.{step_from}
use Rattle.cluster_invariant.proofs.Small.{of_some, some_kept}
use Rattle.dials_kept.proofs.ShortDials.{EachDials}
use Rattle.dials_server.proofs.KnownServer.{dials_by_server}
use Rattle.dials_server.proofs.PlainFrames.{Hears, heard, heard_grows}
use Rattle.dials_server.proofs.QuietServer.{Quietly, dials_quietly, lane_step}
use Rattle.dials_server.proofs.TickNodes.{LinkFits, TickInv, ticks_keep}

-- what a running node has of its ends
fits_at : (v : Server) (n : DataState) (app s : ℕ) (round : IfSome n.round (λ r. (q : ℕ) → live_session n.order app ≡ Some q → q < epoch_place n.order)) (l : DataLink) → LinkIs v n app l
    → live_session n.order app ≡ Some s → LinkFits l s n
fits_at v n app s round Free is has = tt
fits_at v n app s round Normal is has = tt
fits_at v n app s round (Trouble broke) is has = subst (λ (o : Option ℕ). IsSomeAnd o (λ q. conn_of n q ≡ None)) has is.apart
fits_at v n app s round (Recovering due) is has = go n.round round is.in_round
  where
    go : (o : Option Round) → IfSome o (λ r. (q : ℕ) → live_session n.order app ≡ Some q → q < epoch_place n.order) → IsSomeAnd o (λ r. r.due ≡ due) → s < epoch_place n.order
    go None before in_round = absurd in_round
    go (Some r) before in_round = before s has

links_fit : (v : Server) (x : Site) (n : DataState) → IsOrdered n.order → NodeEnds v x n → IfSome n.round (λ r. RoundGoes x n) → (app s : ℕ) → live_session n.order app ≡ Some s
    → LinkFits (node_link n app) s n
links_fit v x n ordered ends round app s has = go (nat_lt app APP_LIMIT) refl
  where
    before : IfSome n.round (λ r. (q : ℕ) → live_session n.order app ≡ Some q → q < epoch_place n.order)
    before = some_kept (λ r. RoundGoes x n) (λ r. (q : ℕ) → live_session n.order app ≡ Some q → q < epoch_place n.order)
        (λ r goes q its. goes.before q ((ordered_one_live n.order ordered).lives app q its)) n.round round

    go : (b : Bool) → nat_lt app APP_LIMIT ≡ b → LinkFits (node_link n app) s n
    go true low = fits_at v n app s before (node_link n app) (ends.links app (ltb-true app APP_LIMIT low)) has
    go false past =
        subst (λ (l : DataLink). LinkFits l s n) (sym (get_or_past n.links app Free (omega (arith, ltb-false app APP_LIMIT past, ends.places)))) tt

-- the beginning of the tick
tick_begins : (v : Server) (x z : Site) (n : DataState) → IsOrdered n.order → NodeEnds v x n → IfSome n.round (λ r. RoundGoes x n)
    → AllByRecursion (λ (y : Noted). HasLearnt z y.session) n.noted → NodeDials z n → TickInv z n (begun n)
tick_begins v x z n ordered ends round noted nodes = record {
  nodes = nodes;
  frames = tt;
  cuts = refl;
  noted = noted;
  links = links_fit v x n ordered ends round;
  there = λ k. refl;
}

-- A tick keeps it.
pub dials_kept_by_server_tick : (l : Layout) (c : CoresState) (m : Machine) (server now : ℕ) (outs : MoveOuts) (written : List Act) (new : Machine)
    → Holds l m → IsRun l m.trail → IsRun l new.trail → Mirrors c m → Allowed c (ServerMove server now data_in.Tick)
    → ServerGoes m server now data_in.Tick outs written new → EachDials l (state_after l new.trail) new
dials_kept_by_server_tick l c m server now outs written new h run after_run shows allowed goes =
    dials_by_server l c m server now data_in.Tick outs written new h run after_run shows allowed goes
    (λ later w ordered.
    subst (λ (y : Site). DialsAre (q.server_at server) y m.is_dead_at) (sym shape)
    (dials_quietly v (q.server_at server) x y m.is_dead_at g goes.node goes.state later quiet goes.runs refl here after (h.sites server).dials))
  where
    q : Plain
    q = after_all l (state_after l m.trail) written

    v : Server
    v = (state_after l m.trail).server_at server

    x : Site
    x = m.site_at server

    n : DataState
    n = goes.node

    its : SiteHolds l server m.is_dead_at v x
    its = h.sites server

    fs : List DownOut
    fs = goes.data_outs.frames

    from : IsOrdered n.order
    from = (step_from l m server n h run goes.runs).ordered

    ends : NodeEnds v x n
    ends = of_some (NodeEnds v x) x.node n goes.runs its.ends.node

    link : NodeLink v x m.is_dead_at n
    link = of_some (NodeLink v x m.is_dead_at) x.node n goes.runs its.link.node

    round : IfSome n.round (λ r. RoundGoes x n)
    round = of_some (λ (n : DataState). IfSome n.round (λ r. RoundGoes x n)) x.node n goes.runs its.rounds.node

    noted : AllByRecursion (λ (y : Noted). HasLearnt x y.session) n.noted
    noted = all_follow (λ (y : Noted). IsServed x n y.session) (λ (y : Noted). HasLearnt x y.session) (λ y is. is.learnt) n.noted link.serves.noted

    -- what the tick makes, at a site whose lanes began where they did
    made_at : (z : Site) → AllByRecursion (λ (y : Noted). HasLearnt z y.session) n.noted → NodeDials z n → TickInv z n (record { state = goes.state; outs = goes.data_outs })
    made_at z learnt nodes =
        subst (λ (b : Sofar). TickInv z n b) (sym goes.steps)
        (ticks_keep z n n.order from now 0 APP_LIMIT (begun n) (λ app low. refl) (tick_begins v x z n from ends round learnt nodes))

    here_x : TickInv x n (record { state = goes.state; outs = goes.data_outs })
    here_x = made_at x noted (of_some (NodeDials x) x.node n goes.runs its.dials.node)

    y : Site
    y = with_lanes n goes.state goes.data_outs (with_hellos data_in.Tick (leaves_conns [] (hears_downs fs (with_node now goes.state x))))

    shape : server_site n now data_in.Tick goes.data_outs goes.state x ≡ y
    shape =
        ap
        (λ (cs : List ℕ).
        with_lanes n goes.state goes.data_outs (with_hellos data_in.Tick (leaves_conns cs (hears_downs fs (with_node now goes.state x))))) here_x.cuts

    g : ℕ → ℕ → Connection → Connection
    g a k c = with_downs x.past (map down_of (filter (is_out_on x a k) fs)) c

    heard_on : (a k : ℕ) (c : Connection) → Hears c (g a k c) (map down_of (filter (is_out_on x a k) fs))
    heard_on a k c = heard x.past (map down_of (filter (is_out_on x a k) fs)) c

    lanes : (s k : ℕ) → ((y.lane_at s k).began ≡ (x.lane_at s k).began) × ((y.lane_at s k).down_taken ≡ (x.lane_at s k).down_taken)
    lanes s k = lane_step (k == x.past) (x.lane_at s k) (with_data_step n goes.state goes.data_outs.frames s (x.lane_at s k)) refl refl

    quiet : Quietly x y g
    quiet = record {
      past = refl;
      began = λ s k. (lanes s k).0;
      taken = λ s k. omega (arith, (lanes s k).1);
      states = λ a. refl;
      tolds = λ a. refl;
      each = λ a k. refl;
      ups = λ a k c. (heard_on a k c).ups;
      knew = λ a k c. (heard_on a k c).knew;
      app_left = λ a k c. (heard_on a k c).app_left;
      grows = λ a k c it.
          heard_grows v x y a k c fs it (of_some (ConnectionIs v x a k) ((x.end_at a).connection_at k) c it ((its.dials.pairs a).each k)) refl here_x.frames;
      links = λ conn. refl;
    }

    here : (k : ℕ) → is_here (y.connection_at k) ≡ is_some (role_of goes.state k)
    here k = its.dials.here k ∙ ap (λ (o : Option DataState). has_conn o k) goes.runs ∙ sym (here_x.there k)

    after : NodeDials y n → NodeDials y goes.state
    after nodes =
        (made_at y
        (all_follow (λ (z : Noted). HasLearnt x z.session) (λ (z : Noted). HasLearnt y z.session)
        (λ z learnt. ap (λ (o : Option ℕ). is_some o) (lanes z.session x.past).0 ∙ learnt) n.noted noted) nodes).nodes
