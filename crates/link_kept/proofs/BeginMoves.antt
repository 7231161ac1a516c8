-- The part on what is on its way, for a start of a data server: its node has nothing yet, and its order is a new one.
use Rattle.std.proofs.Common.{◌≡◌, ◌≤◌, ◌<◌, ℕ, ◌+◌, Bool, false, List, [], ◌∷◌, ◌++◌, length, drop, take, map, Option, Some, None, is_some, option_map, refl, sym, ◌∙◌, ap, subst, arith}
use Rattle.std.specs.Prelude.{IfSome, IsSomeAnd}
use Rattle.std.specs.List.{AllByRecursion, list_any, flat_map, find}
use Rattle.std.proofs.lemmas.Bool.{false≢true, ltb-false}
use Rattle.std.proofs.Math.Seq.{drop-append_seam, drop-nil}
use Rattle.plain_orders.specs.declared.entry.Entry.{Entry}
use Rattle.plain_orders.specs.declared.entry.Entry.TheVariants.{Epoch}
use Rattle.plain_orders.specs.declared.layout.Times.{Times}
use Rattle.plain_orders.specs.Entries.{last_epoch, count}
use Rattle.plain_orders.specs.Times.{until}
use Rattle.plain_orders.proofs.EntryLemmas.{last_epoch-push}
use Rattle.plain_runs.specs.Plain.{Server, current, order_at}
use Rattle.plain_runs.specs.OrderRows.{crashed}
use Rattle.link_states.specs.declared.data_link.DataLink.TheVariants.{Recovering}
use Rattle.lock_table.specs.LockWords.{Locks, no_locks}
use Rattle.lock_table.specs.declared.rows.Hold.{Hold}
use Rattle.lock_table.specs.declared.rows.Request.{Request}
use Rattle.block_holders.specs.declared.noted.Noted.{Noted}
use Rattle.ecp_messages.specs.declared.down.Down.{Down}
use Rattle.ecp_messages.specs.declared.down.DownFrame.{DownFrame}
use Rattle.end_words.specs.Windows.{fresh}
use Rattle.app_rules.specs.AppState.{Session}
use Rattle.app_rules.specs.declared.line.Line.{Line}
use Rattle.app_rules.specs.declared.line.Line.TheVariants.{Apart, Trying, Greeting, Asking, Joined}
use Rattle.data_rules.specs.DataState.{DataState, SessionWindow}
use Rattle.data_rules.specs.declared.rows.Conn.{Conn}
use Rattle.data_rules.specs.declared.rows.LiveEnd.{LiveEnd}
use Rattle.data_rules.specs.declared.rows.Reply.{Reply}
use Rattle.data_rules.specs.declared.rows.Role.{Role}
use Rattle.data_rules.specs.Conns.{with_link, role_of, role_in, is_conn}
use Rattle.data_rules.specs.Opening.{live_ends}
use Rattle.data_rules.specs.Places.{epoch_place}
use Rattle.data_rules.specs.Puts.{window_in, window_of}
use Rattle.data_rules.specs.Saving.{has_item_of}
use Rattle.data_rules.specs.Step.{recovering, started, with_epoch}
use Rattle.cluster_runs.specs.CoresState.{Linked}
use Rattle.cluster_runs.specs.Sent.{Connection, FirstTaken, Lane, Place, no_lane}
use Rattle.cluster_runs.specs.Machine.{Site, End}
use Rattle.cluster_runs.specs.Connections.{link_in}
use Rattle.cluster_runs.specs.Goes.{begun_site, past_with}
use Rattle.plain_orders.specs.declared.layout.Layout.{Layout}
use Rattle.cluster_invariant.specs.Holds.{SiteHolds}
use Rattle.cluster_invariant.specs.Orders.{OrderIs, OrdersAgree}
use Rattle.cluster_invariant.specs.Dials.{DialsAre, ConnectionIs, CarriesOf, FirstIs}
use Rattle.cluster_invariant.specs.Link.{LinkHolds, NodeLink, WindowIs, JoinedWay, AskedWay, GreetedWay, WithSession, DownBy, is_window_of, whose}
use Rattle.cluster_invariant.specs.Served.{IsServed, AllWait, has_one_each, HasLearnt}
use Rattle.cluster_invariant.specs.Waiting.{ReplyWaits, conns_in}
use Rattle.cluster_invariant.specs.Words.{IsFront, all_differ, downs_left, stays_at}
use Rattle.cluster_invariant.proofs.Small.{of_some, some_kept}
use Rattle.cluster_invariant.proofs.PastOrders.{crashed_current, crashed_left, crashed_newest, crashed_order, crashed_stays, stays_within}
use Rattle.cluster_invariant.proofs.SiteMoves.{LaterStart}
use Rattle.link_kept.proofs.Later.{Later, entered_same, front_same}
use Rattle.link_kept.proofs.AppLater.{same_lane, app_later}
use Rattle.link_kept.proofs.ShortMoves.{app_quiet, some_both, count_same, quietly_same}

-- a node that starts

-- it has nothing but its order
record IsEmpty (es : List Entry) (synced : ℕ) (n : DataState) : Type 0 where
  conns : n.conns ≡ []
  windows : n.windows ≡ []
  locks : n.locks ≡ no_locks
  noted : n.noted ≡ []
  replies : n.replies ≡ []
  order : n.order ≡ es
  reached : n.synced ≡ synced

recovering_empty : (xs : List LiveEnd) (due : ℕ) (es : List Entry) (synced : ℕ) (n : DataState) → IsEmpty es synced n → IsEmpty es synced (recovering xs due n)
recovering_empty [] due es synced n e = e
recovering_empty (x ∷ xs) due es synced n e =
    recovering_empty xs due es synced (with_link x.app (Recovering due) n)
    (record { conns = e.conns; windows = e.windows; locks = e.locks; noted = e.noted; replies = e.replies; order = e.order; reached = e.reached })

started_empty : (d : ℕ) (times : Times) (es : List Entry) (now : ℕ) → IsEmpty (es ++ Epoch (last_epoch es + 1) ∷ []) (length es) (started d times es now)
started_empty d times es now =
    go (recovering_empty (live_ends es) (until now times.round) (es ++ Epoch (last_epoch es + 1) ∷ []) (length es) (with_epoch d times es)
    (record { conns = refl; windows = refl; locks = refl; noted = refl; replies = refl; order = refl; reached = refl }))
  where
    go : IsEmpty (es ++ Epoch (last_epoch es + 1) ∷ []) (length es) (recovering (live_ends es) (until now times.round) (with_epoch d times es))
        → IsEmpty (es ++ Epoch (last_epoch es + 1) ∷ []) (length es) (started d times es now)
    go e = record { conns = e.conns; windows = e.windows; locks = e.locks; noted = e.noted; replies = e.replies; order = e.order; reached = e.reached }

-- an order in which nothing was put or taken
node_empty : (w : Server) (y : Site) (dead : ℕ → Bool) (es : List Entry) (number : ℕ) (n : DataState) → ((s : ℕ) → y.lane_at s y.past ≡ no_lane)
    → IsEmpty (es ++ Epoch number ∷ []) (length es) n → NodeLink w y dead n
node_empty w y dead es number n none e = record {
  windows = record {
    differ = ap (λ (ws : List SessionWindow). all_differ (map whose ws)) e.windows;
    lives = λ s there. absurd (false≢true (sym (ap (λ (ws : List SessionWindow). list_any (is_window_of s) ws) e.windows) ∙ there));
    each =
        λ s lives.
        subst (λ (z : Lane). WindowIs (window_of n s) z.down z.down_taken z.up_taken) (sym (none s))
        (subst (λ (ws : List SessionWindow). WindowIs (window_in ws s) [] 0 0) (sym e.windows) nothing);
    none = λ s lives gone. ap (λ (z : Lane). z.began) (none s);
  };
  ups = λ s conn role. absurd (no_role conn role);
  greets = λ s conn role. absurd (no_role conn role);
  replies = subst (λ (rs : List Reply). AllByRecursion (ReplyWaits w y n) rs) (sym e.replies) tt;
  one_each = ap (λ (rs : List Reply). all_differ (flat_map conns_in rs)) e.replies;
  serves = record {
    noted = subst (λ (xs : List Noted). AllByRecursion (λ (x : Noted). IsServed y n x.session) xs) (sym e.noted) tt;
    requests = subst (λ (l : Locks). AllByRecursion (λ (r : Request). IsServed y n r.who.session) l.requests) (sym e.locks) tt;
    wait = subst (λ (l : Locks). AllWait l.holds [] l.requests) (sym e.locks) tt;
    one_each = ap (λ (l : Locks). has_one_each l.requests) e.locks;
    granted = subst (λ (l : Locks). AllByRecursion (λ (r : Request). HasLearnt y r.who.session) l.granted) (sym e.locks) tt;
    holds = subst (λ (l : Locks). AllByRecursion (λ (h : Hold). HasLearnt y h.who.session) l.holds) (sym e.locks) tt;
    items =
        λ s unlearnt.
        ap (λ (k : ℕ). has_item_of (drop k n.order) s) e.reached ∙ ap (λ (xs : List Entry). has_item_of (drop (length es) xs) s) e.order
        ∙ ap (λ (xs : List Entry). has_item_of xs s) (drop-append_seam es (Epoch number ∷ []));
  };
}
  where
    nothing : WindowIs (fresh {M = Down}) [] 0 0
    nothing = record { waiting = refl; acked = omega arith; taken = refl }

    no_role : (conn : ℕ) {r : Role} → role_of n conn ≡ Some r → ⊥
    no_role conn role =
        let none : role_of n conn ≡ None = ap (λ (cs : List Conn). option_map role_in (find (is_conn conn) cs)) e.conns in cc

-- a later start

-- what stays of the epochs is in what a start keeps
abbrev pub EpochsStay : Server → ℕ → Type 0
EpochsStay v kept = (j : ℕ) → j ≤ current v → epoch_place (order_at v j) ≤ stays_at v j → last_epoch (order_at v j) ≤ last_epoch (take kept v.order)

pub later_crashed : (x : Site) (v : Server) (clock round kept : ℕ) → OrdersAgree v → v.synced ≤ kept → kept ≤ length v.order → EpochsStay v kept
    → Later x v (crashed clock round v kept)
later_crashed x v clock round kept agree low within epochs = record {
  there = omega (arith, crashed_current v clock round kept);
  goes_on = λ k under. subst (λ (es : List Entry). IsFront (order_at v k) es) (sym (crashed_order v clock round kept k under)) (front_same (order_at v k));
  within = stays_within v agree;
  stays = λ k under. crashed_stays v clock round kept k low within under;
  left = λ k under. crashed_left v clock round kept k under;
  last = λ k under. ap last_epoch (crashed_order v clock round kept k under);
  place = λ k under. ap epoch_place (crashed_order v clock round kept k under);
  newer = λ i j under past there stays. newer i j under past there stays;
  counts = λ s k under unlearnt. ap (λ (es : List Entry). count es s) (crashed_order v clock round kept k under);
}
  where
    w : Server
    w = crashed clock round v kept

    newer : (i j : ℕ) → j ≤ current v → current v < i → i ≤ current w → epoch_place (order_at v j) ≤ stays_at v j → last_epoch (order_at v j) < last_epoch (order_at w i)
    newer i j under past there stays =
        let here : i ≡ current v + 1 = omega (arith, past, there, crashed_current v clock round kept) in
        omega (
          arith,
          epochs j under stays,
          ap (λ (k : ℕ). last_epoch (order_at w k)) here,
          ap last_epoch (crashed_newest v clock round kept),
          last_epoch-push (take kept v.order) (Epoch (last_epoch (take kept v.order) + 1)),
        )

-- the order in which a connection carries a session's messages was there
its_there : (v : Server) (x : Site) (app number : ℕ) (c : Connection) (s k : ℕ) → ConnectionIs v x app number c → c.its ≡ Some (record { session = s; order = k }) → k ≤ current v
its_there v x app number c s k made its =
    go c.first made.where_taken (of_some (CarriesOf v app c.first) c.its (record { session = s; order = k }) its made.its).order
  where
    go : (o : Option FirstTaken) → IfSome o (FirstIs v x app number) → IsSomeAnd o (λ f. f.order ≡ k) → k ≤ current v
    go None taken is = absurd is
    go (Some f) taken is = subst (λ (n : ℕ). n ≤ current v) is taken.there

-- A later start keeps it.
pub link_kept_by_later : (l : Layout) (d now clock : ℕ) (es : List Entry) (v : Server) (x : Site) (dead : ℕ → Bool) → SiteHolds l d dead v x → LaterStart v x es
    → EpochsStay v (length es) → LinkHolds (crashed clock l.times.round v (length es)) (begun_site l d now es x) dead
link_kept_by_later l d now clock es v x dead its starts epochs = record {
  lanes = λ s k. its.link.lanes s k;
  node =
      node_empty w y dead es (last_epoch es + 1) (started d l.times es now) (λ s. its.order.to_come s (past_with x.order x.past) (omega arith))
      (started_empty d l.times es now);
  apps =
      λ app alive.
      app_quiet v w x y dead (later_crashed x v clock l.times.round (length es) starts.agree starts.low starts.within epochs) (λ a. entered_same a v w (λ s. refl) (λ s. refl))
      (λ s k. same_lane (x.lane_at s k)) its.link its.ends its.dials app alive
      (x.end_at app) refl refl (quietly_same ((x.end_at app).connection_at (x.end_at app).state.dial)) (λ c e q made s k left carries is at here. absurd (gone app c s k made carries here))
      (count_same x y (λ s k. refl) (x.end_at app).state.line (x.end_at app).state.session (x.end_at app).told);
}
  where
    w : Server
    w = crashed clock l.times.round v (length es)

    y : Site
    y = begun_site l d now es x

    gone : (app : ℕ) (c : Connection) (s k : ℕ) → ConnectionIs v x app (x.end_at app).state.dial c → c.its ≡ Some (record { session = s; order = k })
        → k ≡ past_with x.order x.past → ⊥
    gone app c s k made carries here = absurd (omega (arith, its_there v x app (x.end_at app).state.dial c s k made carries, here, starts.next))

-- the first start

-- nothing was put on a connection of a data server that never started
untouched : (v : Server) (x : Site) (app number : ℕ) (c : Connection) → ((conn : ℕ) → x.connection_at conn ≡ None) → ConnectionIs v x app number c
    → (c.its ≡ None) × (downs_left c ≡ [])
untouched v x app number c none made = (unmarked c.its refl made.its, ap (drop c.downs_taken) silent ∙ drop-nil c.downs_taken)
  where
    no_first : (o : Option FirstTaken) → IfSome o (FirstIs v x app number) → o ≡ None
    no_first None is = refl
    no_first (Some f) is =
        absurd (let both : ◌≡◌ {A = Option Linked} None (Some (record { app = app; dial = number })) = sym (ap link_in (none f.conn)) ∙ is.linked in cc)

    untaken : c.first ≡ None
    untaken = no_first c.first made.where_taken

    unmarked : (o : Option Place) → c.its ≡ o → IfSome o (CarriesOf v app c.first) → o ≡ None
    unmarked None its is = refl
    unmarked (Some p) its is = absurd (subst (λ (f : Option FirstTaken). IsSomeAnd f (λ y. y.order ≡ p.order)) untaken is.order)

    silent : c.downs ≡ []
    silent =
        let low : c.ups_taken ≤ 0 = ltb-false 0 c.ups_taken (sym made.linked ∙ sym made.taken ∙ ap is_some untaken) in
        made.silent (omega (arith, low))

down_untouched : (line : Line) (v w : Server) (x y : Site) (app : ℕ) (e : End) (c : Connection) → (c.its ≡ None) × (downs_left c ≡ []) → DownBy line v x app e c
    → DownBy line w y app e c
down_untouched Apart v w x y app e c none is = tt
down_untouched Trying v w x y app e c none is = tt
down_untouched Greeting v w x y app e c none is = subst (λ (fs : List DownFrame). GreetedWay w y app e.state.told c fs) (sym none.1) none.0
down_untouched Asking v w x y app e c none is = go e.state.session e.told is
  where
    go : (o : Option Session) (p : Option Place) → WithSession o p (λ s k. AskedWay v x s k c (downs_left c)) → WithSession o p (λ s k. AskedWay w y s k c (downs_left c))
    go None p at = at
    go (Some s) None at = at
    go (Some s) (Some p) at = subst (λ (fs : List DownFrame). AskedWay w y s p.order c fs) (sym none.1) none.0
down_untouched Joined v w x y app e c none is = go e.state.session e.told is
  where
    go : (o : Option Session) (p : Option Place) → WithSession o p (λ s k. JoinedWay v x e.state s k c) → WithSession o p (λ s k. JoinedWay w y e.state s k c)
    go None p at = at
    go (Some s) None at = at
    go (Some s) (Some p) at = absurd (let both : ◌≡◌ {A = Option Place} None (Some (record { session = s.number; order = p.order })) = sym none.0 ∙ at.its in cc)

-- The first start keeps it.
pub link_kept_by_first : (l : Layout) (d now : ℕ) (es : List Entry) (v w : Server) (x : Site) (dead : ℕ → Bool) → OrderIs l d v x → LinkHolds v x dead
    → DialsAre v x dead → v.opened ≡ false → LinkHolds w (begun_site l d now es x) dead
link_kept_by_first l d now es v w x dead order link dials shut = record {
  lanes = λ s k. link.lanes s k;
  node =
      node_empty w y dead es (last_epoch es + 1) (started d l.times es now) (λ s. order.to_come s (past_with x.order x.past) (omega arith))
      (started_empty d l.times es now);
  apps =
      λ app alive.
      app_later w v x y (λ s k. same_lane (x.lane_at s k)) app (x.end_at app) (x.end_at app) refl refl
      (some_kept (λ (c : Connection). DownBy (x.end_at app).state.line v x app (x.end_at app) c × ConnectionIs v x app (x.end_at app).state.dial c)
      (DownBy (x.end_at app).state.line w y app (x.end_at app))
      (λ (c : Connection) is.
      down_untouched (x.end_at app).state.line v w x y app (x.end_at app) c (untouched v x app (x.end_at app).state.dial c (order.no_conns shut) is.1) is.0)
      ((x.end_at app).connection_at (x.end_at app).state.dial)
      (some_both (DownBy (x.end_at app).state.line v x app (x.end_at app)) (ConnectionIs v x app (x.end_at app).state.dial)
      ((x.end_at app).connection_at (x.end_at app).state.dial) (link.apps app alive).down ((dials.pairs app).each (x.end_at app).state.dial)))
      (link.apps app alive);
}
  where
    y : Site
    y = begun_site l d now es x
