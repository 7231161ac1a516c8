-- What is on its way to an end that learns of an order, by the Welcome of a new session or of a new epoch.
use Rattle.std.proofs.Common.{false, ◌≡◌, ◌≤◌, ℕ, ◌-◌, Bool, true, if◌then◌else◌, List, [], ◌∷◌, length, drop, Option, Some, None, option_map, is_some, refl, sym, ◌∙◌, ap, subst, arith, ◌≢◌, ◌⊎◌, ◌<◌}
use Rattle.std.specs.Prelude.{IfSome, IsSomeAnd}
use Rattle.std.specs.List.{list_all, list_any, AllByRecursion}
use Rattle.std.proofs.lemmas.Bool.{eq-eqb, false≢true, ne_eqb}
use Rattle.std.proofs.lemmas.List.{drop-drop}
use Rattle.plain_orders.specs.declared.entry.Entry.{Entry}
use Rattle.plain_runs.specs.Plain.{Server, order_at, put, current}
use Rattle.ecp_messages.specs.declared.up.Up.{Up}
use Rattle.ecp_messages.specs.declared.up.UpFrame.{UpFrame}
use Rattle.ecp_messages.specs.declared.down.Down.{Down}
use Rattle.ecp_messages.specs.declared.down.DownFrame.{DownFrame}
use Rattle.app_rules.specs.declared.app_in.AppIn.{AppIn}
use Rattle.app_rules.specs.declared.app_in.AppIn.TheVariants as app_in
use Rattle.app_rules.specs.declared.app_outs.AppOuts.{AppOuts}
use Rattle.app_rules.specs.declared.line.Line.{Line}
use Rattle.app_rules.specs.declared.line.Line.TheVariants.{Joined}
use Rattle.app_rules.specs.AppState.{AppState, AppEnd, Session}
use Rattle.app_rules.specs.Looks.{Shown}
use Rattle.app_rules.specs.Works.{end_at}
use Rattle.data_rules.specs.DataState.{DataState}
use Rattle.cluster_runs.specs.Connections.{at_number, carries_up, down_taken, is_index, leaves_if, ups_to, with_ups}
use Rattle.cluster_runs.specs.Goes.{app_end, app_takes, at_told, input_site, message_from, with_state}
use Rattle.cluster_runs.specs.Lanes.{given_since, is_told_new, its_of, sent_before, told_by, with_app_step}
use Rattle.cluster_runs.specs.Machine.{Site, End}
use Rattle.cluster_runs.specs.Sent.{Lane, Place, Connection, FirstTaken}
use Rattle.cluster_invariant.specs.Link.{AppWay, LaneCounts, is_numbered_down, is_numbered_up, DownBy, DownWay, DownWhole, JoinedWay, LinkHolds, WholeIf, WindowIs, WithSession, is_in_recovery}
use Rattle.cluster_invariant.specs.Words.{downs_left, stays_at, numbered_ups}
use Rattle.cluster_invariant.proofs.OrderBeside.{SameOrders}
use Rattle.cluster_invariant.proofs.Small.{some_kept}
use Rattle.cluster_steps.proofs.AppSites.{SameBeside, site_beside, site_ends}
use Rattle.link_apps.proofs.EnteredStays.{order_kept, stays_kept}
use Rattle.link_apps.proofs.LanesApps.{own_lane, told_lane}
use Rattle.link_apps.proofs.TookDown.{way_taken, whole_taken}
use Rattle.data_rules.specs.Places.{epoch_place}
use Rattle.end_words.specs.Windows.{numbered_from}

-- An end that learns of an order of its session, of which it knew nothing, by the first frame on its connection.
pub record Learns (v : Server) (x : Site) (app d : ℕ) (outs : AppOuts) (state : AppState) (c : Connection) (rest : List DownFrame) : Type 0 where
  pub session : Session
  pub now : (end_at state d).session ≡ Some session
  pub line : (end_at state d).line ≡ Joined
  pub dial : (end_at state d).dial ≡ (x.end_at app).state.dial
  pub cuts : outs.cuts ≡ []
  pub order : ℕ
  pub carried : c.its ≡ Some (record { session = session.number; order = order })
  pub unlearnt : (x.lane_at session.number order).began ≡ None
  -- its window is a new one
  pub acked : session.window.acked ≡ 0
  pub taken : session.window.taken ≡ 0
  pub numbered : list_all is_numbered_up session.window.waiting ≡ true
  pub way : DownWay (order_at v order) (stays_at v order) session.number (x.lane_at session.number order) (is_in_recovery (end_at state d).link) rest
  pub whole : WholeIf x session.number order (x.lane_at session.number order) c rest
  -- it puts all that its window has
  pub frames : numbered_ups (ups_to d outs.frames) ≡ numbered_from 0 session.window.waiting
  pub acks : AllByRecursion (λ (g : UpFrame). g.ack ≤ 0) (ups_to d outs.frames)
  -- the session was met by this application server, or by none and was entered for it
  pub mine : IfSome (v.session_at session.number) (λ t. t.app ≡ app)
  pub entered : v.session_at session.number ≡ None → v.entered_at session.number ≡ Some (record { app = app; in_order = order; lost_since = false })
  -- what its Welcome rested on is synced
  pub there : order ≤ current v
  pub synced : order ≡ current v → session.number ≤ v.synced
  pub stays : epoch_place (order_at v order) ≤ stays_at v order
  pub place : (epoch_place (order_at v order) < session.number) ⊎ (0 < order)

-- the lane of a session that begins: what came down is as it was
pub record Begins (waiting : List Up) (a b : Lane) : Type 0 where
  pub began : is_some b.began ≡ true
  pub up : b.up ≡ waiting
  pub up_taken : b.up_taken ≡ a.up_taken
  pub down : b.down ≡ a.down
  pub down_taken : b.down_taken ≡ a.down_taken

-- nothing was taken of a list without messages
none_of : (n : ℕ) (ms : List Down) → ms ≡ [] → n ≤ length ms → n ≡ 0
none_of n ms none low = omega (arith, low, ap (λ (l : List Down). length l) none)

module _ (v w : Server) (x : Site) (dead : ℕ → Bool) (app d : ℕ) (frame : DownFrame) (outs : AppOuts) (state : AppState) (shown : ℕ → Shown)
    (orders : SameOrders v w) (link : LinkHolds v x dead) (c : Connection) (its : (x.end_at app).connection_at (x.end_at app).state.dial ≡ Some c)
    (rest : List DownFrame) (left : downs_left c ≡ frame ∷ rest) (news : is_told_new (x.end_at app).state.session (end_at state d).session ≡ true)
    (learns : Learns v x app d outs state c rest) where
  abbrev e : End
  e = x.end_at app

  abbrev t : AppEnd
  t = end_at state d

  abbrev input : AppIn
  input = app_in.Frame d frame

  abbrev y : Site
  y = input_site app input outs state shown d x

  abbrev u : Session
  u = learns.session

  abbrev k : ℕ
  k = learns.order

  abbrev place : Place
  place = record { session = u.number; order = k }

  abbrev taking : End
  taking = at_number e.state.dial down_taken e

  abbrev g : End
  g = app_end d outs e.state t (shown d) (message_from d input) (app_takes d input e.state.dial e)

  abbrev us : List UpFrame
  us = ups_to d outs.frames

  -- its end after the step
  abbrev pub f : End
  f = at_number t.dial (with_ups us) (told_by true (message_from d input) e.state.dial (with_state t (shown d) taking))

  moved : g ≡ f
  moved =
      ap (λ (b : Bool). app_end d outs e.state t (shown d) (message_from d input) (if b then taking else e)) (eq-eqb d d refl)
      ∙ ap (λ (b : Bool). carries_up d t.dial outs.frames outs.cuts (told_by b (message_from d input) e.state.dial (with_state t (shown d) taking))) news
      ∙ ap (λ (b : Bool). at_number t.dial (λ z. leaves_if b (with_ups us z)) (told_by true (message_from d input) e.state.dial (with_state t (shown d) taking)))
      (ap (list_any (is_index d)) learns.cuts)

  taken_conn : taking.connection_at e.state.dial ≡ Some (down_taken c)
  taken_conn =
      ap (λ (b : Bool). if b then option_map down_taken (e.connection_at e.state.dial) else e.connection_at e.state.dial) (eq-eqb e.state.dial e.state.dial refl)
      ∙ ap (option_map down_taken) its

  told : f.told ≡ Some place
  told = ap its_of taken_conn ∙ learns.carried

  pub conn : f.connection_at t.dial ≡ Some (with_ups us (down_taken c))
  conn =
      ap (λ (b : Bool). if b then option_map (with_ups us) (taking.connection_at t.dial) else taking.connection_at t.dial) (eq-eqb t.dial t.dial refl)
      ∙ ap (λ (n : ℕ). option_map (with_ups us) (taking.connection_at n)) learns.dial
      ∙ ap (option_map (with_ups us)) taken_conn

  -- the lane begins

  abbrev lane : Lane
  lane = x.lane_at u.number k

  abbrev lane_now : Lane
  lane_now = y.lane_at u.number k

  lane_is : lane_now ≡ with_app_step true (message_from d input) e.state.dial (sent_before e.state.session) (Some u) us lane
  lane_is =
      ap (λ (z : End).
      (at_told z.told (with_app_step (is_told_new e.state.session t.session) (message_from d input) e.state.dial (sent_before e.state.session) t.session us)
      (record x { end_at = put x.end_at app z })).lane_at u.number k) moved
      ∙ ap (λ (o : Option Place).
      (at_told o (with_app_step (is_told_new e.state.session t.session) (message_from d input) e.state.dial (sent_before e.state.session) t.session us)
      (record x { end_at = put x.end_at app f })).lane_at u.number k) told
      ∙ own_lane place (with_app_step (is_told_new e.state.session t.session) (message_from d input) e.state.dial (sent_before e.state.session) t.session us)
      (record x { end_at = put x.end_at app f })
      ∙ ap (λ (b : Bool). with_app_step b (message_from d input) e.state.dial (sent_before e.state.session) t.session us lane) news
      ∙ ap (λ (o : Option Session). with_app_step true (message_from d input) e.state.dial (sent_before e.state.session) o us lane) learns.now

  all_given : given_since 0 u.window ≡ u.window.waiting
  all_given = ap (λ (n : ℕ). drop (0 - n) u.window.waiting) learns.acked

  -- What it has of the session in that order is what it puts.
  pub begins : Begins u.window.waiting lane lane_now
  begins = subst (Begins u.window.waiting lane) (sym lane_is) (record { began = refl; up = all_given; up_taken = refl; down = refl; down_taken = refl })

  window_now : WindowIs u.window lane_now.up lane_now.up_taken lane_now.down_taken
  window_now = record {
    waiting = ap (λ (n : ℕ). drop n u.window.waiting) (sym learns.acked) ∙ ap (drop u.window.acked) (sym begins.up);
    acked = omega (arith, learns.acked);
    taken =
        learns.taken
        ∙ sym (none_of lane.down_taken lane.down ((link.lanes u.number k).no_down learns.unlearnt) (link.lanes u.number k).down_taken)
        ∙ sym begins.down_taken;
  }

  pub beside : SameBeside x y
  beside = site_beside app d outs e.state t (message_from d input) g x

  -- the frames behind the Welcome

  way_now : DownWay (order_at w k) (stays_at w k) u.number lane_now (is_in_recovery t.link) rest
  way_now =
      subst (λ (es : List Entry). DownWay es (stays_at w k) u.number lane_now (is_in_recovery t.link) rest) (sym (order_kept v w orders k))
      (subst (λ (n : ℕ). DownWay (order_at v k) n u.number lane_now (is_in_recovery t.link) rest) (sym (stays_kept v w orders k))
      (way_taken (order_at v k) (stays_at v k) u.number lane lane_now (is_in_recovery t.link) rest begins.up_taken begins.down begins.down_taken learns.way))

  whole_now : WholeIf y u.number k lane_now c rest
  whole_now at here =
      subst (λ (o : Option DataState). IfSome o (λ n. IsSomeAnd c.first (λ z. DownWhole n u.number z.conn lane_now rest))) (sym beside.node)
      (some_kept (λ (n : DataState). IsSomeAnd c.first (λ z. DownWhole n u.number z.conn lane rest))
      (λ (n : DataState). IsSomeAnd c.first (λ z. DownWhole n u.number z.conn lane_now rest)) (λ n got. each n c.first got) x.node
      (learns.whole at (here ∙ beside.past)))
    where
      each : (n : DataState) (o : Option FirstTaken) → IsSomeAnd o (λ z. DownWhole n u.number z.conn lane rest) → IsSomeAnd o (λ z. DownWhole n u.number z.conn lane_now rest)
      each n None got = got
      each n (Some z) got = whole_taken n u.number z.conn lane lane_now rest begins.down begins.down_taken got

  joined : JoinedWay w y t u k (with_ups us (down_taken c))
  joined = record {
    its = learns.carried;
    way = subst (λ (fs : List DownFrame). DownWay (order_at w k) (stays_at w k) u.number lane_now (is_in_recovery t.link) fs) (sym left_now) way_now;
    whole = subst (λ (fs : List DownFrame). WholeIf y u.number k lane_now (with_ups us (down_taken c)) fs) (sym left_now) whole_now;
  }
    where
      left_now : downs_left (with_ups us (down_taken c)) ≡ rest
      left_now = sym (drop-drop 1 c.downs_taken c.downs) ∙ ap (drop 1) left

  pub own_way : AppWay w y app f
  own_way = record {
    window =
        subst (λ (o : Option Session). IfSome o (λ q. IfSome f.told (λ p. WindowIs q.window (y.lane_at q.number p.order).up (y.lane_at q.number p.order).up_taken (y.lane_at q.number p.order).down_taken)))
        (sym learns.now)
        (subst (λ (o : Option Place). IfSome o (λ p. WindowIs u.window (y.lane_at u.number p.order).up (y.lane_at u.number p.order).up_taken (y.lane_at u.number p.order).down_taken))
        (sym told) window_now);
    begun =
        subst (λ (o : Option Session). IfSome o (λ q. IfSome f.told (λ p. is_some (y.lane_at q.number p.order).began ≡ true))) (sym learns.now)
        (subst (λ (o : Option Place). IfSome o (λ p. is_some (y.lane_at u.number p.order).began ≡ true)) (sym told) begins.began);
    down =
        subst (λ (o : Option Connection). IfSome o (DownBy t.line w y app f)) (sym conn)
        (subst (λ (line : Line). DownBy line w y app f (with_ups us (down_taken c))) (sym learns.line)
        (subst (λ (o : Option Session). WithSession o f.told (λ q j. JoinedWay w y t q j (with_ups us (down_taken c)))) (sym learns.now)
        (subst (λ (o : Option Place). WithSession (Some u) o (λ q j. JoinedWay w y t q j (with_ups us (down_taken c)))) (sym told) joined)));
  }

  -- Its end alone is changed,
  pub all_ends : y.end_at ≡ put x.end_at app f
  all_ends = site_ends app d outs e.state t (message_from d input) g x ∙ ap (put x.end_at app) moved

  pub ends : y.end_at app ≡ f
  ends = ap (λ (h : ℕ → End). h app) all_ends ∙ ap (λ (b : Bool). if b then f else e) (eq-eqb app app refl)

  -- and of that one connection.
  pub others_are : (number : ℕ) → number ≢ e.state.dial → f.connection_at number ≡ e.connection_at number
  others_are number other =
      ap (λ (b : Bool). if b then option_map (with_ups us) (taking.connection_at number) else taking.connection_at number)
      (ne_eqb number t.dial (λ same. other (same ∙ learns.dial)))
      ∙ ap (λ (b : Bool). if b then option_map down_taken (e.connection_at number) else e.connection_at number) (ne_eqb number e.state.dial other)

  -- And one lane alone begins.
  pub elsewhere_is : (s j : ℕ) → ((s ≡ u.number) → (j ≡ k) → ⊥) → y.lane_at s j ≡ x.lane_at s j
  elsewhere_is s j none =
      told_lane (λ (p q : Lane). q ≡ p) (λ p. refl) g.told
      (with_app_step (is_told_new e.state.session t.session) (message_from d input) e.state.dial (sent_before e.state.session) t.session us)
      (record x { end_at = put x.end_at app g }) s j
      (subst
      (λ (o : Option Place).
      IfSome o (λ p. s ≡ p.session → j ≡ p.order
      → with_app_step (is_told_new e.state.session t.session) (message_from d input) e.state.dial (sent_before e.state.session) t.session us (x.lane_at s j) ≡ x.lane_at s j))
      (sym (ap (λ (z : End). z.told) moved ∙ told))
      (λ at here. absurd (none at here)))

  -- What is on its way to it follows.
  pub way_learnt : AppWay w y app (y.end_at app)
  way_learnt = subst (AppWay w y app) (sym ends) own_way

  -- Its lane counts what was put and taken, and the others are as they were.
  counts_now : LaneCounts lane_now
  counts_now = record {
    up_taken =
        omega (
          arith,
          begins.up_taken,
          (link.lanes u.number k).up_taken,
          ap (λ (l : List Up). length l) ((link.lanes u.number k).no_up learns.unlearnt),
        );
    down_taken = omega (arith, begins.down_taken, ap (λ (l : List Down). length l) begins.down, (link.lanes u.number k).down_taken);
    no_up = λ none. absurd (false≢true (sym (ap is_some none) ∙ begins.began));
    no_down = λ none. absurd (false≢true (sym (ap is_some none) ∙ begins.began));
    ups = ap (list_all is_numbered_up) begins.up ∙ learns.numbered;
    downs = ap (list_all is_numbered_down) begins.down ∙ (link.lanes u.number k).downs;
  }

  pub counts_learnt : (s j : ℕ) → LaneCounts (y.lane_at s j)
  counts_learnt s j =
      told_lane (λ (p q : Lane). LaneCounts p → LaneCounts q) (λ p is. is) g.told
      (with_app_step (is_told_new e.state.session t.session) (message_from d input) e.state.dial (sent_before e.state.session) t.session us)
      (record x { end_at = put x.end_at app g }) s j
      (subst
      (λ (o : Option Place).
      IfSome o (λ p. s ≡ p.session → j ≡ p.order → LaneCounts (x.lane_at s j)
      → LaneCounts (with_app_step (is_told_new e.state.session t.session) (message_from d input) e.state.dial (sent_before e.state.session) t.session us (x.lane_at s j))))
      (sym (ap (λ (z : End). z.told) moved ∙ told))
      (λ at here was.
      subst
      (λ (n : ℕ).
      LaneCounts (with_app_step (is_told_new e.state.session t.session) (message_from d input) e.state.dial (sent_before e.state.session) t.session us (x.lane_at n j))) (sym at)
      (subst
      (λ (n : ℕ).
      LaneCounts (with_app_step (is_told_new e.state.session t.session) (message_from d input) e.state.dial (sent_before e.state.session) t.session us (x.lane_at u.number n))) (sym here)
      (subst LaneCounts
      (own_lane place (with_app_step (is_told_new e.state.session t.session) (message_from d input) e.state.dial (sent_before e.state.session) t.session us)
      (record x { end_at = put x.end_at app g })) counts_told)))) (link.lanes s j)
    where
      counts_told : LaneCounts ((at_told (Some place) (with_app_step (is_told_new e.state.session t.session) (message_from d input) e.state.dial (sent_before e.state.session) t.session us)
          (record x { end_at = put x.end_at app g })).lane_at u.number k)
      counts_told = subst (λ (o : Option Place). LaneCounts ((at_told o (with_app_step (is_told_new e.state.session t.session) (message_from d input) e.state.dial (sent_before e.state.session) t.session us)
          (record x { end_at = put x.end_at app g })).lane_at u.number k)) (ap (λ (z : End). z.told) moved ∙ told) counts_now
