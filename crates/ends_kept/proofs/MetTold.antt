-- The acts of Welcomes and Resets may come: what they say stands in the plain machine.
use Rattle.std.proofs.Common.{◌≡◌, ◌⊎◌, ◌<◌, ◌≤◌, ℕ, true, false, List, [], ◌∷◌, ◌++◌, Option, Some, None, option_map, is_some, refl, sym, ◌∙◌, ap, subst, inl, inr, arith}
use Rattle.std.specs.Prelude.{IfSome, IsSomeAnd, unwrap_or}
use Rattle.std.specs.List.{list_all}
use Rattle.std.proofs.lemmas.Bool.{false≢true, and_parts}
use Rattle.plain_orders.specs.declared.entry.Entry.{Entry}
use Rattle.plain_orders.specs.declared.entry.Entry.TheVariants.{Opened, Closed}
use Rattle.plain_orders.specs.declared.layout.Layout.{Layout}
use Rattle.plain_orders.specs.Entries.{entry_at, last_epoch}
use Rattle.plain_orders.specs.Sessions.{place_of_epoch}
use Rattle.plain_runs.specs.Plain.{Server, Pair, Session as PlainSession, Entered, current, order_at, session_in}
use Rattle.plain_runs.specs.EndRows.{MetMay, ToldMay, LoseResetMay, begun_by}
use Rattle.plain_runs.specs.Run.{IsRun, state_after}
use Rattle.link_states.specs.declared.app_link.AppLink.{AppLink}
use Rattle.link_states.specs.declared.app_link.AppLink.TheVariants.{NotConnected, Normal as NormalLink, Trouble, Recovery}
use Rattle.ecp_messages.specs.declared.down.Down.{Down}
use Rattle.ecp_messages.specs.declared.down.Down.TheVariants.{Welcome, Reset}
use Rattle.ecp_messages.specs.declared.down.DownFrame.{DownFrame}
use Rattle.ecp_messages.specs.declared.front.Front.{Front}
use Rattle.app_rules.specs.declared.line.Line.{Line}
use Rattle.app_rules.specs.declared.line.Line.TheVariants.{Apart, Trying, Greeting, Asking, Joined}
use Rattle.app_rules.specs.AppState.{AppEnd, Session}
use Rattle.cluster_runs.specs.Machine.{Machine, Site, End}
use Rattle.cluster_runs.specs.Sent.{Connection, Place, FirstTaken}
use Rattle.cluster_invariant.specs.Dials.{ConnectionIs, FirstIs}
use Rattle.cluster_invariant.specs.Ends.{AppTables, ToldPlace, number_of, has_session, stands}
use Rattle.cluster_invariant.specs.Holds.{Holds}
use Rattle.cluster_invariant.specs.Link.{AppWay, DownBy, GreetedWay, GreetedFirst, NewWelcomeOn, AskedWay, AskedFirst, SameWelcome, EpochWelcomeOn, ResetOn, ResetIs, JoinedWay, EndsWith, WithSession, is_of_session, fits_down, is_in_recovery}
use Rattle.cluster_invariant.specs.Words.{stays_at, downs_left}
use Rattle.cluster_invariant.proofs.OrdersStay.{stays_synced, entry_stays}
use Rattle.cluster_invariant.proofs.Small.{of_some}
use Rattle.cluster_invariant.proofs.PastOrders.{order_now}
use Rattle.ends_kept.proofs.EpochBegun.{begun_is}
use Rattle.ends_kept.proofs.TakenDown.{Taken}

-- what is on its way on the connection on which a frame was taken, by how far the end is
down_by : (v : Server) (x : Site) (app : ℕ) (e : End) (frame : DownFrame) (line : Line) (t : Taken e frame) → AppWay v x app e → e.state.line ≡ line → DownBy line v x app e t.connection
down_by v x app e frame line t way same =
    subst (λ (l : Line). DownBy l v x app e t.connection) same (of_some (DownBy e.state.line v x app e) (e.connection_at e.state.dial) t.connection t.its way.down)

-- an end without a session
pub no_session_of : (pair : Pair) (e : AppEnd) → AppTables pair e → e.line ≡ Greeting → is_some pair.session ≡ false
no_session_of pair e t line = ap is_some t.session ∙ some e.session (sym t.connected ∙ go e.link (ap (stands e.link) (sym line) ∙ t.stands))
  where
    go : (link : AppLink) → stands link Greeting ≡ true → has_session link ≡ false
    go NotConnected s = refl
    go NormalLink s = absurd (false≢true s)
    go (Trouble broke try_at) s = absurd (false≢true s)
    go Recovery s = absurd (false≢true s)

    some : (o : Option Session) → is_some o ≡ false → is_some (option_map number_of o) ≡ false
    some None h = refl
    some (Some s) h = absurd (false≢true (sym h))

-- The Welcome of a new session, as it was on its way.
pub new_on : (l : Layout) (m : Machine) (app d : ℕ) (frame : DownFrame) (session epoch kept : ℕ) (front : Front) (taken : ℕ) → Holds l m → m.is_dead_at app ≡ false → (t : Taken ((m.site_at d).end_at app) frame)
    → frame.message ≡ Welcome session epoch kept front taken → ((m.site_at d).end_at app).state.line ≡ Greeting
    → NewWelcomeOn ((state_after l m.trail).server_at d) (m.site_at d) app ((m.site_at d).end_at app).state.told t.connection session epoch kept front taken
new_on l m app d frame session epoch kept front taken h alive t message line = go (downs_left t.connection) t.left (down_by v x app e frame Greeting t ((h.sites d).link.apps app alive) line)
  where
    v : Server
    v = (state_after l m.trail).server_at d

    x : Site
    x = m.site_at d

    e : End
    e = x.end_at app

    go : (fs : List DownFrame) → fs ≡ frame ∷ t.behind → GreetedWay v x app e.state.told t.connection fs → NewWelcomeOn v x app e.state.told t.connection session epoch kept front taken
    go [] is way = absurd (cc (is))
    go (f ∷ fs) is way = subst (λ (k : Down). GreetedFirst v x app e.state.told t.connection k) message (subst (λ (g : DownFrame). GreetedFirst v x app e.state.told t.connection g.message) (heads f fs frame t.behind is) way.1)
      where
        heads : (a : DownFrame) (xs : List DownFrame) (b : DownFrame) (bs : List DownFrame) → a ∷ xs ≡ b ∷ bs → a ≡ b
        heads a xs b bs same = cc (same)

-- It may be met.
pub met_may : (l : Layout) (m : Machine) (app d : ℕ) (frame : DownFrame) (session epoch kept : ℕ) (front : Front) (taken : ℕ) → Holds l m → IsRun l m.trail → m.is_dead_at app ≡ false → Taken ((m.site_at d).end_at app) frame
    → frame.message ≡ Welcome session epoch kept front taken → ((m.site_at d).end_at app).state.line ≡ Greeting → MetMay ((state_after l m.trail).server_at d) app session
met_may l m app d frame session epoch kept front taken h run alive t message line = by (new_on l m app d frame session epoch kept front taken h alive t message line)
  where
    v : Server
    v = (state_after l m.trail).server_at d

    e : End
    e = (m.site_at d).end_at app

    by : NewWelcomeOn v (m.site_at d) app e.state.told t.connection session epoch kept front taken → MetMay v app session
    by w = record {
      place = ap (λ (es : List Entry). entry_at es session) (sym (order_now v)) ∙ entry_stays l m.trail d w.order (current v) session (Opened session app) run w.unmet.there (omega arith) w.synced w.unmet.opened;
      synced = omega (arith, w.synced, stays_synced l m.trail d w.order run w.unmet.there);
      entered = ap is_some w.unmet.entered;
      not_lost = ap (λ (o : Option Entered). (unwrap_or o (record { app = 0; in_order = 0; lost_since = false })).lost_since) w.unmet.entered;
      fresh = ap is_some w.unmet.unmet;
      none = no_session_of (v.pair_at app) e.state ((h.sites d).ends.tables app alive) line;
    }

-- a session that is there, in its pair
pair_of : (pair : Pair) (e : AppEnd) (s : Session) → AppTables pair e → e.session ≡ Some s → pair.session ≡ Some s.number
pair_of pair e s t there = t.session ∙ ap (λ (o : Option Session). option_map number_of o) there

-- its plain session
pub told_in : (v : Server) (app : ℕ) (s : Session) (k : ℕ) → IsSomeAnd (v.session_at s.number) (λ t. (t.app ≡ app) × (t.told ≡ k)) → (session_in v s.number).told ≡ k
told_in v app s k met = go (v.session_at s.number) met
  where
    go : (o : Option PlainSession) → IsSomeAnd o (λ t. (t.app ≡ app) × (t.told ≡ k)) → (unwrap_or o (record { app = 0; issued = []; told = 0 })).told ≡ k
    go None h = absurd h
    go (Some t) h = h.1

-- The Welcome of a new epoch, as it was on its way, and the order that its session is told of.
pub record EpochOn (v : Server) (x : Site) (s : Session) (c : Connection) (session epoch kept : ℕ) (front : Front) (taken : ℕ) (behind : List DownFrame) : Type 0 where
  pub before : ℕ
  pub told : (session_in v s.number).told ≡ before
  pub welcome : EpochWelcomeOn v x s before c session epoch kept front taken behind

pub epoch_on : (l : Layout) (m : Machine) (app d : ℕ) (frame : DownFrame) (s : Session) (session epoch kept : ℕ) (front : Front) (taken : ℕ) → Holds l m → m.is_dead_at app ≡ false → (t : Taken ((m.site_at d).end_at app) frame)
    → frame.message ≡ Welcome session epoch kept front taken → ((m.site_at d).end_at app).state.line ≡ Asking → ((m.site_at d).end_at app).state.session ≡ Some s → s.epoch < epoch
    → EpochOn ((state_after l m.trail).server_at d) (m.site_at d) s t.connection session epoch kept front taken t.behind
epoch_on l m app d frame s session epoch kept front taken h alive t message line there later =
    told_at e.told (subst (λ (o : Option Session). WithSession o e.told (λ y k. AskedWay v x y k t.connection (downs_left t.connection))) there (down_by v x app e frame Asking t ((h.sites d).link.apps app alive) line))
    (of_some (λ y. ToldPlace v app y e.told) e.state.session s there ((h.sites d).ends.told app alive).place)
  where
    v : Server
    v = (state_after l m.trail).server_at d

    x : Site
    x = m.site_at d

    e : End
    e = x.end_at app

    by : (k : ℕ) → (session_in v s.number).told ≡ k → SameWelcome v x s k t.connection session epoch front taken t.behind ⊎ EpochWelcomeOn v x s k t.connection session epoch kept front taken t.behind
        → EpochOn v x s t.connection session epoch kept front taken t.behind
    by k told (inl w) = absurd (omega (arith, w.epoch_told, later))
    by k told (inr w) = record { before = k; told = told; welcome = w }

    first : (k : ℕ) (fs : List DownFrame) → fs ≡ frame ∷ t.behind → (session_in v s.number).told ≡ k → AskedWay v x s k t.connection fs → EpochOn v x s t.connection session epoch kept front taken t.behind
    first k [] is told way = absurd (cc (is))
    first k (f ∷ fs) is told way =
        by k told
        (subst (λ (y : Down). AskedFirst v x s k t.connection t.behind y) message
        (subst (λ (g : DownFrame). AskedFirst v x s k t.connection t.behind g.message) (heads f fs frame t.behind is) (subst (λ (gs : List DownFrame). AskedFirst v x s k t.connection gs f.message) (tails f fs frame t.behind is) way.1)))
      where
        heads : (a : DownFrame) (xs : List DownFrame) (b : DownFrame) (bs : List DownFrame) → a ∷ xs ≡ b ∷ bs → a ≡ b
        heads a xs b bs same = cc (same)

        tails : (a : DownFrame) (xs : List DownFrame) (b : DownFrame) (bs : List DownFrame) → a ∷ xs ≡ b ∷ bs → xs ≡ bs
        tails a xs b bs same = cc (same)

    told_at : (o : Option Place) → WithSession (Some s) o (λ y k. AskedWay v x y k t.connection (downs_left t.connection)) → ToldPlace v app s o → EpochOn v x s t.connection session epoch kept front taken t.behind
    told_at None way place = absurd way
    told_at (Some p) way place = first p.order (downs_left t.connection) t.left (told_in v app s place.order place.met ∙ order_of p place.order place.its) way
      where
        order_of : (q : Place) (k : ℕ) → Some q ≡ Some (record { session = s.number; order = k }) → k ≡ q.order
        order_of q k same = cc (same)

-- It may be told.
pub told_may : (l : Layout) (m : Machine) (app d : ℕ) (frame : DownFrame) (s : Session) (session epoch kept : ℕ) (front : Front) (taken : ℕ) → Holds l m → IsRun l m.trail → m.is_dead_at app ≡ false → Taken ((m.site_at d).end_at app) frame
    → frame.message ≡ Welcome session epoch kept front taken → ((m.site_at d).end_at app).state.line ≡ Asking → ((m.site_at d).end_at app).state.session ≡ Some s → s.epoch < epoch
    → ToldMay ((state_after l m.trail).server_at d) app session epoch kept
told_may l m app d frame s session epoch kept front taken h run alive t message line there later = by (epoch_on l m app d frame s session epoch kept front taken h alive t message line there later)
  where
    v : Server
    v = (state_after l m.trail).server_at d

    by : EpochOn v (m.site_at d) s t.connection session epoch kept front taken t.behind → ToldMay v app session epoch kept
    by o = record {
      its = pair_of (v.pair_at app) ((m.site_at d).end_at app).state s ((h.sites d).ends.tables app alive) there ∙ ap (λ n. Some n) (sym o.welcome.number);
      later = subst (λ n. (session_in v n).told < begun_by v epoch) (sym o.welcome.number) (omega (arith, o.told, begun, o.welcome.says.later));
      place = subst (λ n. place_of_epoch (last_epoch (order_at v (session_in v n).told)) 0 (order_at v (begun_by v epoch)) ≡ Some kept) (sym o.welcome.number)
          (subst (λ i. place_of_epoch (last_epoch (order_at v i)) 0 (order_at v (begun_by v epoch)) ≡ Some kept) (sym o.told)
          (subst (λ i. place_of_epoch (last_epoch (order_at v o.before)) 0 (order_at v i) ≡ Some kept) (sym begun) o.welcome.says.place));
    }
      where
        begun : begun_by v epoch ≡ o.welcome.order
        begun = begun_is v epoch o.welcome.order o.welcome.says.there o.welcome.says.its_epoch o.welcome.says.only

-- A Reset: its Close stands, and is synced.
closed_may : (l : Layout) (m : Machine) (app d k session at n : ℕ) → IsRun l m.trail → k ≤ current ((state_after l m.trail).server_at d) → (((state_after l m.trail).server_at d).pair_at app).session ≡ Some n
    → ResetIs (order_at ((state_after l m.trail).server_at d) k) (stays_at ((state_after l m.trail).server_at d) k) n (Reset session at) → LoseResetMay ((state_after l m.trail).server_at d) app at
closed_may l m app d k session at n run low its r = record {
  there = ap is_some its;
  synced = omega (arith, r.1, stays_synced l m.trail d k run low);
  closed =
      ap (λ (es : List Entry). entry_at es at) (sym (order_now ((state_after l m.trail).server_at d)))
      ∙ entry_stays l m.trail d k (current ((state_after l m.trail).server_at d)) at (Closed n) run low (omega arith) r.1 r.2
      ∙ ap (λ i. Some (Closed i)) (ap (λ (o : Option ℕ). unwrap_or o 0) (sym its));
}

pub reset_may : (l : Layout) (m : Machine) (app d : ℕ) (frame : DownFrame) (session at : ℕ) → Holds l m → IsRun l m.trail → m.is_dead_at app ≡ false → Taken ((m.site_at d).end_at app) frame
    → frame.message ≡ Reset session at → ((m.site_at d).end_at app).state.link ≡ Recovery → LoseResetMay ((state_after l m.trail).server_at d) app at
reset_may l m app d frame session at h run alive t message recovering = go e.state.line refl (recovers e.state.link e.state.line recovering ((h.sites d).ends.tables app alive).stands)
  where
    v : Server
    v = (state_after l m.trail).server_at d

    x : Site
    x = m.site_at d

    e : End
    e = x.end_at app

    tables : AppTables (v.pair_at app) e.state
    tables = (h.sites d).ends.tables app alive

    recovers : (link : AppLink) (line : Line) → link ≡ Recovery → stands link line ≡ true → (line ≡ Asking) ⊎ (line ≡ Joined)
    recovers link Apart is s = absurd (false≢true (ap (λ (k : AppLink). stands k Apart) (sym is) ∙ s))
    recovers link Trying is s = absurd (false≢true (ap (λ (k : AppLink). stands k Trying) (sym is) ∙ s))
    recovers link Greeting is s = absurd (false≢true (ap (λ (k : AppLink). stands k Greeting) (sym is) ∙ s))
    recovers link Asking is s = inl refl
    recovers link Joined is s = inr refl

    heads : (a : DownFrame) (xs : List DownFrame) (b : DownFrame) (bs : List DownFrame) → a ∷ xs ≡ b ∷ bs → a ≡ b
    heads a xs b bs same = cc (same)

    -- a Reset in answer to a Recover
    asked : (s : Session) (k : ℕ) → e.state.session ≡ Some s → (fs : List DownFrame) → fs ≡ frame ∷ t.behind → AskedWay v x s k t.connection fs → LoseResetMay v app at
    asked s k there [] is way = absurd (cc (is))
    asked s k there (f ∷ fs) is way =
        on (subst (λ (y : Down). AskedFirst v x s k t.connection fs y) message (subst (λ (g : DownFrame). AskedFirst v x s k t.connection fs g.message) (heads f fs frame t.behind is) way.1))
      where
        on : ResetOn v s.number t.connection (Reset session at) × (fs ≡ []) → LoseResetMay v app at
        on r = by t.connection.first r.0 (of_some (ConnectionIs v x app e.state.dial) (e.connection_at e.state.dial) t.connection t.its (((h.sites d).dials.pairs app).each e.state.dial)).where_taken
          where
            by : (o : Option FirstTaken) → IsSomeAnd o (λ y. ResetIs (order_at v y.order) (stays_at v y.order) s.number (Reset session at)) → IfSome o (FirstIs v x app e.state.dial) → LoseResetMay v app at
            by None r is = absurd r
            by (Some y) r is = closed_may l m app d y.order session at s.number run is.there (pair_of (v.pair_at app) e.state s tables there) r

    -- one behind a session's messages
    ends : (s : Session) (k : ℕ) → e.state.session ≡ Some s → k ≤ current v → (its es : List DownFrame) → its ++ es ≡ frame ∷ t.behind → list_all is_of_session its ≡ true
        → EndsWith (is_in_recovery e.state.link) (order_at v k) (stays_at v k) s.number es → LoseResetMay v app at
    ends s k there low [] [] is kinds r = absurd (cc (is))
    ends s k there low [] (f ∷ []) is kinds r =
        closed_may l m app d k session at s.number run low (pair_of (v.pair_at app) e.state s tables there)
        (subst (λ (y : Down). ResetIs (order_at v k) (stays_at v k) s.number y) message (subst (λ (g : DownFrame). ResetIs (order_at v k) (stays_at v k) s.number g.message) (heads f [] frame t.behind is) r.1))
    ends s k there low [] (f ∷ g ∷ fs) is kinds r = absurd r
    ends s k there low (f ∷ fs) es is kinds r =
        absurd (false≢true (sym (ap (λ (y : Down). fits_down y f.seq) (ap (λ (g : DownFrame). g.message) (heads f (fs ++ es) frame t.behind is) ∙ message)) ∙ (and_parts (is_of_session f) (list_all is_of_session fs) kinds).0))

    joined : (o : Option Session) (q : Option Place) → e.state.session ≡ o → IfSome o (λ s. ToldPlace v app s q) → WithSession o q (λ s k. JoinedWay v x e.state s k t.connection) → LoseResetMay v app at
    joined None q there place way = absurd way
    joined (Some s) None there place way = absurd way
    joined (Some s) (Some p) there place way =
        ends s p.order there (omega (arith, order_of p place.order place.its, place.there)) way.way.its way.way.ends (sym way.way.all ∙ t.left) way.way.kinds way.way.reset
      where
        order_of : (y : Place) (k : ℕ) → Some y ≡ Some (record { session = s.number; order = k }) → k ≡ y.order
        order_of y k same = cc (same)

    asks : (o : Option Session) (q : Option Place) → e.state.session ≡ o → WithSession o q (λ s k. AskedWay v x s k t.connection (downs_left t.connection)) → LoseResetMay v app at
    asks None q there way = absurd way
    asks (Some s) None there way = absurd way
    asks (Some s) (Some p) there way = asked s p.order there (downs_left t.connection) t.left way

    go : (line : Line) → e.state.line ≡ line → (line ≡ Asking) ⊎ (line ≡ Joined) → LoseResetMay v app at
    go line is (inl same) = asks e.state.session e.told refl (down_by v x app e frame Asking t ((h.sites d).link.apps app alive) (is ∙ same))
    go line is (inr same) = joined e.state.session e.told refl ((h.sites d).ends.told app alive).place (down_by v x app e frame Joined t ((h.sites d).link.apps app alive) (is ∙ same))
