-- The part on connections, for a save at a data server.
use Rattle.std.proofs.Common.{◌≡◌, ◌<◌, ℕ, zero, suc, Bool, true, false, ◌||◌, ◌==◌, List, [], ◌∷◌, length, map, drop, take, Option, Some, None, is_some, refl, sym, ◌∙◌, ap, subst, arith}
use Rattle.std.specs.Prelude.{nat_lt}
use Rattle.std.specs.List.{AllByRecursion, list_any}
use Rattle.std.proofs.lemmas.Bool.{false≢true}
use Rattle.plain_orders.specs.declared.act.Act.{Act}
use Rattle.plain_orders.specs.declared.entry.Entry.{Entry}
use Rattle.plain_orders.specs.declared.layout.Layout.{Layout}
use Rattle.plain_orders.specs.Entries.{live_session}
use Rattle.plain_orders.specs.Ordered.{IsOrdered}
use Rattle.plain_orders.specs.Sessions.{app_in, live_sessions}
use Rattle.plain_orders.proofs.LiveSessions.{none_opened}
use Rattle.plain_orders.proofs.PastLemmas.{ordered_past}
use Rattle.plain_runs.specs.Plain.{Plain, Server, order_at}
use Rattle.plain_runs.specs.Run.{IsRun, after_all, state_after}
use Rattle.lock_table.specs.declared.rows.Request.{Request}
use Rattle.recovery_round.specs.RoundWords.{Round, is_over}
use Rattle.block_holders.specs.declared.noted.Noted.{Noted}
use Rattle.data_rules.specs.declared.data_in.DataIn.TheVariants as data_in
use Rattle.data_rules.specs.declared.down_frames.DownOut.{DownOut}
use Rattle.data_rules.specs.declared.rows.Caller.{Caller}
use Rattle.data_rules.specs.declared.rows.Says.{Says}
use Rattle.data_rules.specs.declared.rows.Says.TheVariants.{NewWelcome, EpochWelcome, ResetOf, GrantOf, AnswerOf}
use Rattle.data_rules.specs.DataState.{DataState}
use Rattle.data_rules.specs.Conns.{role_of}
use Rattle.data_rules.specs.Puts.{Sofar, becomes, begun}
use Rattle.plain_orders.specs.ItemEntries.{is_item_of}
use Rattle.data_rules.specs.Saving.{closed_in, has_item_of, part_saved, savers, writes_synced}
use Rattle.cluster_runs.specs.declared.move_outs.MoveOuts.{MoveOuts}
use Rattle.cluster_runs.specs.declared.moves.Move.TheVariants.{Server as ServerMove}
use Rattle.cluster_runs.specs.CoresState.{CoresState}
use Rattle.cluster_runs.specs.Machine.{Machine, Site}
use Rattle.cluster_runs.specs.Mirrors.{Mirrors}
use Rattle.cluster_runs.specs.Moves.{Allowed}
use Rattle.cluster_runs.specs.Connections.{hears_downs, leaves_conns}
use Rattle.cluster_runs.specs.Lanes.{with_data_step}
use Rattle.cluster_runs.specs.Goes.{ServerGoes, server_site, with_hellos, with_lanes, with_node}
use Rattle.cluster_invariant.specs.Dials.{CarriesOf, ConnectionIs, DialsAre, LearntBy, NodeDials, has_conn, is_here}
use Rattle.cluster_invariant.specs.Ends.{CallerIs, NodeEnds, app_of_caller}
use Rattle.cluster_invariant.specs.Holds.{Holds, SiteHolds}
use Rattle.cluster_invariant.specs.Link.{NodeLink}
use Rattle.cluster_invariant.specs.Orders.{NodeOrder}
use Rattle.cluster_invariant.specs.Served.{HasLearnt, IsServed}
use Rattle.cluster_invariant.specs.Waiting.{ReplyWaits, WaitsFor}
use Rattle.cluster_invariant.specs.Words.{all_differ}
use Rattle.cluster_invariant.proofs.AllLists.{all_follow, all_passed}
use Rattle.cluster_invariant.proofs.Deeds.{order_by}
use Rattle.cluster_invariant.proofs.OrderMoves.{step_from}
use Rattle.cluster_invariant.proofs.OrderRows.{StepWrote}
use Rattle.cluster_invariant.proofs.Small.{of_some}
use Rattle.cluster_invariant.proofs.PastOrders.{order_now}
use Rattle.dials_kept.proofs.ShortDials.{EachDials}
use Rattle.dials_server.proofs.FittingDials.{dials_after}
use Rattle.dials_server.proofs.FittingNodes.{PutsAll}
use Rattle.dials_server.proofs.KnownServer.{dials_by_server}
use Rattle.dials_server.proofs.OpenedNodes.{IsFresh, Within}
use Rattle.dials_server.proofs.QuietServer.{lane_step}
use Rattle.dials_server.proofs.GoNodes.{GoInv}
use Rattle.dials_server.proofs.GoRounds.{rounds_go}
use Rattle.dials_server.proofs.OverRounds.{over_learnt}
use Rattle.dials_server.proofs.RoundNodes.{OpenInv, caller_same}
use Rattle.dials_server.proofs.SaveNodes.{ReplyFits, SaveInv, SaysFit, save_acks, save_flush, save_releases, save_state}

-- what a node's replies are for
pub says_fit : (v : Server) (x : Site) (n : DataState) (at : ℕ) (says : Says) → WaitsFor v x n at says → SaysFit says x n
says_fit v x n at (NewWelcome conn session) is = is.bound
says_fit v x n at (EpochWelcome conn session kept) is = is.bound
says_fit v x n at (ResetOf conn session place) is = is.closing
says_fit v x n at (GrantOf session ticket number) is = is.learnt
says_fit v x n at (AnswerOf session about job number place sum) is = is.learnt

-- an ordered list has no session above its length
pub within_ordered : (es : List Entry) → IsOrdered es → Within es
within_ordered es ordered = record { dead = (ordered_past es ordered).is_dead; unopened = none_opened es ordered }

-- nothing was said of a session that isn't there yet
pub fresh_at : (v : Server) (x : Site) (dead : ℕ → Bool) (es : List Entry) → order_at v x.past ≡ es → IsOrdered es → DialsAre v x dead → (s : ℕ) → length es < s → IsFresh x s
fresh_at v x dead es same ordered is s above = record {
  unlearnt = go (x.lane_at s x.past).began refl (is.learnt s x.past);
  unsaid = λ a k c it its. absurd (unopened a (of_some (CarriesOf v a c.first) c.its (record { session = s; order = x.past }) its
      (of_some (ConnectionIs v x a k) ((x.end_at a).connection_at k) c it ((is.pairs a).each k)).its).opened);
}
  where
    none : app_in (order_at v x.past) s ≡ None
    none = ap (λ (xs : List Entry). app_in xs s) same ∙ none_opened es ordered s above

    unopened : (a : ℕ) → app_in (order_at v x.past) s ≡ Some a → ⊥
    unopened a opened = (let both : ◌≡◌ {A = Option ℕ} None (Some a) = sym none ∙ opened in absurd cc)

    go : (o : Option ℕ) → (x.lane_at s x.past).began ≡ o → LearntBy v x s x.past o (app_in (order_at v x.past) s) → o ≡ None
    go None its at = refl
    go (Some dial) its at = absurd (subst (λ (o : Option ℕ). LearntBy v x s x.past (Some dial) o) none at)

-- a session of which a save covers an item learnt of the order
saved_learnt : (x : Site) (n : DataState) (upto : ℕ) → ((s : ℕ) → (x.lane_at s x.past).began ≡ None → has_item_of (drop n.synced n.order) s ≡ false)
    → AllByRecursion (HasLearnt x) (savers n.order (part_saved n upto))
saved_learnt x n upto items =
    all_follow (λ s. has_item_of (part_saved n upto) s ≡ true) (HasLearnt x) (λ s has. learnt s has (x.lane_at s x.past).began refl) (savers n.order (part_saved n upto))
    (all_passed (has_item_of (part_saved n upto)) (live_sessions n.order))
  where
    any_take : (p : Entry → Bool) (m : ℕ) (es : List Entry) → list_any p (take m es) ≡ true → list_any p es ≡ true
    any_take p zero es is = absurd (false≢true is)
    any_take p (suc m) [] is = is
    any_take p (suc m) (e ∷ es) is = go (p e) is (any_take p m es)
      where
        go : (b : Bool) → (b || list_any p (take m es)) ≡ true → (list_any p (take m es) ≡ true → list_any p es ≡ true) → (b || list_any p es) ≡ true
        go true found more = refl
        go false found more = more found

    unsynced : (p : Entry → Bool) (k m : ℕ) (es : List Entry) → list_any p (drop k (take m es)) ≡ true → list_any p (drop k es) ≡ true
    unsynced p zero m es is = any_take p m es is
    unsynced p (suc k) zero es is = absurd (false≢true is)
    unsynced p (suc k) (suc m) [] is = absurd (false≢true is)
    unsynced p (suc k) (suc m) (e ∷ es) is = unsynced p k m es is

    learnt : (s : ℕ) → has_item_of (part_saved n upto) s ≡ true → (o : Option ℕ) → (x.lane_at s x.past).began ≡ o → is_some (x.lane_at s x.past).began ≡ true
    learnt s has (Some dial) its = ap (λ (o : Option ℕ). is_some o) its
    learnt s has None its = absurd (false≢true (sym (items s its) ∙ unsynced (is_item_of s) n.synced upto n.order has))

-- what holds before the round
save_goes : (x : Site) (n : DataState) (b : Sofar) → Within n.order → AllByRecursion (CallerIs n x) n.callers → all_differ (map app_of_caller n.callers) ≡ true
    → ((r : Round) → n.round ≡ Some r → is_over r ≡ true → (app s : ℕ) → live_session n.order app ≡ Some s → HasLearnt x s) → SaveInv x n b → GoInv x n [] b
save_goes x n b within callers differ learnt inv = record {
  nodes = inv.nodes;
  frames = inv.frames;
  cuts = inv.cuts;
  noted = inv.noted;
  requests = inv.requests;
  replies = inv.replies;
  conns = inv.conns;
  longer = omega (arith, ap (λ (es : List Entry). length es) inv.order);
  within = subst Within (sym inv.order) within;
  callers =
      subst (λ (cs : List Caller). AllByRecursion (CallerIs b.state x) cs) (sym inv.callers)
      (all_follow (CallerIs n x) (CallerIs b.state x) (λ c at. caller_same x n b.state inv.conns inv.order c at) n.callers callers);
  apart = ap (λ (cs : List Caller). all_differ (map app_of_caller cs)) inv.callers ∙ differ;
  round = λ r its over app s has. learnt r (sym inv.round ∙ its) over app s (ap (λ (es : List Entry). live_session es app) (sym inv.order) ∙ has);
}

-- A save keeps it.
pub dials_kept_by_save : (upto : ℕ) (l : Layout) (c : CoresState) (m : Machine) (server now : ℕ) (outs : MoveOuts) (written : List Act) (new : Machine)
    → Holds l m → IsRun l m.trail → IsRun l new.trail → Mirrors c m → Allowed c (ServerMove server now (data_in.Saved upto))
    → ServerGoes m server now (data_in.Saved upto) outs written new → EachDials l (state_after l new.trail) new
dials_kept_by_save upto l c m server now outs written new h run after_run shows allowed goes =
    dials_by_server l c m server now (data_in.Saved upto) outs written new h run after_run shows allowed goes
    (λ later w ordered.
    subst (λ (y : Site). DialsAre (q.server_at server) y m.is_dead_at) (sym shape)
    (dials_after v (q.server_at server) x y m.is_dead_at goes.state fs later put (λ s k. omega (arith, (lanes s k).1)) (λ a. refl) (λ a. refl) its.dials made_x.nodes
    (order w) refl here))
  where
    q : Plain
    q = after_all l (state_after l m.trail) written

    v : Server
    v = (state_after l m.trail).server_at server

    x : Site
    x = m.site_at server

    n : DataState
    n = goes.node

    its : SiteHolds l server m.is_dead_at v x
    its = h.sites server

    fs : List DownOut
    fs = goes.data_outs.frames

    ordered_n : IsOrdered n.order
    ordered_n = (step_from l m server n h run goes.runs).ordered

    node : NodeOrder l server x.past v n
    node = of_some (NodeOrder l server x.past v) x.node n goes.runs its.order.node

    ends : NodeEnds v x n
    ends = of_some (NodeEnds v x) x.node n goes.runs its.ends.node

    link : NodeLink v x m.is_dead_at n
    link = of_some (NodeLink v x m.is_dead_at) x.node n goes.runs its.link.node

    order_v : order_at v x.past ≡ n.order
    order_v = ap (order_at v) its.order.past ∙ order_now v ∙ sym node.order

    order : StepWrote server n goes.state (state_after l m.trail) q → goes.state.order ≡ order_at (q.server_at server) x.past
    order w =
        w.its ∙ ap (order_by w.deeds) node.order ∙ sym w.order ∙ sym (order_now (q.server_at server))
        ∙ ap (order_at (q.server_at server)) (ap (λ (os : List (List Entry)). length os) w.past ∙ sym its.order.past)

    begins : SaveInv x n (becomes (λ d. record d { synced = upto }) (writes_synced (nat_lt n.synced upto) upto (begun n)))
    begins = go (nat_lt n.synced upto)
      where
        first : SaveInv x n (begun n)
        first = record {
          nodes = of_some (NodeDials x) x.node n goes.runs its.dials.node;
          frames = tt;
          cuts = refl;
          noted = all_follow (λ (y : Noted). IsServed x n y.session) (λ (y : Noted). HasLearnt x y.session) (λ y is. is.learnt) n.noted link.serves.noted;
          requests =
              all_follow (λ (r : Request). IsServed x n r.who.session) (λ (r : Request). HasLearnt x r.who.session) (λ r is. is.learnt) n.locks.requests link.serves.requests;
          replies = all_follow (ReplyWaits v x n) (ReplyFits x n) (λ r is. says_fit v x n r.at r.says is.says) n.replies link.replies;
          order = refl;
          conns = refl;
          round = refl;
          callers = refl;
        }

        go : (b : Bool) → SaveInv x n (becomes (λ d. record d { synced = upto }) (writes_synced b upto (begun n)))
        go true = save_state x n (begun n) (record n { synced = upto }) refl refl refl refl refl refl first.requests first.replies [] tt _ refl refl refl first
        go false = save_state x n (begun n) (record n { synced = upto }) refl refl refl refl refl refl first.requests first.replies [] tt _ refl refl refl first

    made_x : OpenInv x n [] [] (record { state = goes.state; outs = goes.data_outs })
    made_x =
        subst (λ (b : Sofar). OpenInv x n [] [] b) (sym goes.steps)
        (rounds_go x n [] (fresh_at v x m.is_dead_at n.order order_v ordered_n its.dials) now _
        (save_goes x n _ (within_ordered n.order ordered_n) ends.callers.each ends.callers.one_each (over_learnt v x n ordered_n (λ s. its.link.lanes s x.past) ends.round)
        (save_acks x n (savers n.order (part_saved n upto)) _ (saved_learnt x n upto link.serves.items)
        (save_flush x n _ (save_releases x n (closed_in (part_saved n upto)) _ begins)))))

    y : Site
    y = with_lanes n goes.state goes.data_outs (with_hellos (data_in.Saved upto) (leaves_conns [] (hears_downs fs (with_node now goes.state x))))

    shape : server_site n now (data_in.Saved upto) goes.data_outs goes.state x ≡ y
    shape =
        ap
        (λ (cs : List ℕ).
        with_lanes n goes.state goes.data_outs (with_hellos (data_in.Saved upto) (leaves_conns cs (hears_downs fs (with_node now goes.state x))))) made_x.cuts

    lanes : (s k : ℕ) → ((y.lane_at s k).began ≡ (x.lane_at s k).began) × ((y.lane_at s k).down_taken ≡ (x.lane_at s k).down_taken)
    lanes s k = lane_step (k == x.past) (x.lane_at s k) (with_data_step n goes.state goes.data_outs.frames s (x.lane_at s k)) refl refl

    put : PutsAll x y goes.state fs
    put = record { past = refl; began = λ s k. (lanes s k).0; connections = refl; each = λ a k. refl; fits = made_x.frames }

    here : (k : ℕ) → is_here (y.connection_at k) ≡ is_some (role_of goes.state k)
    here k = its.dials.here k ∙ ap (λ (o : Option DataState). has_conn o k) goes.runs ∙ sym (made_x.there k)
