-- An end's front, and those of the others, by what its session took: nothing, one message more, or a Welcome.
use Rattle.std.proofs.Common.{◌≡◌, ◌≢◌, ◌≤◌, ◌<◌, ◌==◌, ◌&&◌, ℕ, Bool, true, false, List, [], ◌∷◌, Option, Some, None, refl, sym, ◌∙◌, ap, subst, arith}
use Rattle.std.specs.Prelude.{IfSome, IsSomeAnd, nat_lt}
use Rattle.std.proofs.lemmas.Bool.{eq-eqb, lt-ltb, ltb-true}
use Rattle.plain_orders.specs.declared.layout.Layout.{Layout}
use Rattle.plain_runs.specs.Plain.{Server, Session as PlainSession, current, order_at}
use Rattle.plain_runs.specs.Run.{IsRun, state_after}
use Rattle.ecp_messages.specs.declared.down.Down.{Down}
use Rattle.ecp_messages.specs.declared.down.DownFrame.{DownFrame}
use Rattle.ecp_messages.specs.declared.front.Front.{Front}
use Rattle.ecp_messages.specs.declared.up.UpFrame.{UpFrame}
use Rattle.app_rules.specs.declared.line.Line.TheVariants.{Joined}
use Rattle.app_rules.specs.AppState.{AppState, AppEnd, Session}
use Rattle.app_rules.specs.Looks.{Shown, ShowsEnd, ShowsFrame, ShowsMessage, ShowsSession, shown_front, took_one}
use Rattle.cluster_runs.specs.CoresState.{CoresState}
use Rattle.cluster_runs.specs.Goes.{ShowsIf, at_told}
use Rattle.cluster_runs.specs.Lanes.{front_by, sent_before, with_app_step}
use Rattle.cluster_runs.specs.Machine.{Machine, Site, End}
use Rattle.cluster_runs.specs.Mirrors.{Mirrors}
use Rattle.cluster_runs.specs.Sent.{Place}
use Rattle.cluster_runs.specs.Steps.{greatest}
use Rattle.cluster_invariant.specs.Coherence.{IsHeader, front_of}
use Rattle.cluster_invariant.specs.Ends.{ToldPlace}
use Rattle.cluster_invariant.specs.Holds.{Holds}
use Rattle.cluster_invariant.specs.Link.{WindowIs}
use Rattle.cluster_invariant.specs.Words.{IsFront, stays_at}
use Rattle.cluster_steps.proofs.InputsBring.{SessionStays}
use Rattle.ends_kept.proofs.NextDown.{HasNumber, NextDown, joined_next}
use Rattle.ends_kept.proofs.TakenDown.{Taken}
use Rattle.link_kept.proofs.ShortMoves.{told_there}
use Rattle.fronts_kept.proofs.FrontTakes.{all_dropped}
use Rattle.fronts_kept.proofs.FrontsApps.{TakesOne, own_begins, own_takes, taken_beside}
use Rattle.fronts_kept.proofs.FrontsEnds.{FrontWith, SessionsKeep, ShownWith, TakenAt, front_at, front_keeps, kept_taken, shown_as, shown_at, shown_keeps, stays_keep, taken_at, told_taken}
use Rattle.fronts_kept.proofs.FrontsLater.{SameTaken}

-- what is shown

not_less : (n k : ℕ) → k ≡ n → nat_lt n k ≡ false
not_less n k same = go (nat_lt n k) refl
  where
    go : (b : Bool) → nat_lt n k ≡ b → nat_lt n k ≡ false
    go true is = absurd (omega (arith, same, ltb-true n k is))
    go false is = is

-- a session that took nothing shows nothing new
pub stays_shown : (o q : Option Session) (m : Down) (x y : Shown) → SessionStays o q → ShowsEnd o q m greatest x y → y ≡ x
stays_shown None None m x y stays shows = shows
stays_shown None (Some t) m x y stays shows = absurd stays
stays_shown (Some s) None m x y stays shows = absurd stays
stays_shown (Some s) (Some t) m x y stays shows =
    subst (λ (b : Bool). ShowsFrame b m t x y) none (subst (λ (b : Bool). ShowsSession b s t m x y) (eq-eqb s.epoch t.epoch (sym stays.epoch)) shows)
  where
    none : took_one s t ≡ false
    none =
        ap (λ (b : Bool). b && s.epoch == t.epoch && nat_lt s.window.taken t.window.taken) (eq-eqb s.number t.number (sym stays.number))
        ∙ ap (λ (b : Bool). b && nat_lt s.window.taken t.window.taken) (eq-eqb s.epoch t.epoch (sym stays.epoch))
        ∙ not_less s.window.taken t.window.taken stays.taken

pub shown_if : (b : Bool) (m : Down) (e f : AppEnd) (x y : Shown) → SessionStays e.session f.session → ShowsIf b m e f x y → y ≡ x
shown_if true m e f x y stays shows = stays_shown e.session f.session m x y stays shows
shown_if false m e f x y stays shows = shows

-- of a session that is lost nothing is shown
pub lost_shown : (o : Option Session) (m : Down) (x y : Shown) → (o ≡ None → x.runs ≡ []) → ShowsEnd o None m greatest x y → y.runs ≡ []
lost_shown None m x y none shows = ap (λ (z : Shown). z.runs) shows ∙ none refl
lost_shown (Some s) m x y none shows = ap (λ (z : Shown). z.runs) shows

-- a session that took one message shows it
took_shown : (m : Down) (s t : Session) (x y : Shown) → TakesOne m s t → ShowsEnd (Some s) (Some t) m greatest x y → ShowsMessage m (shown_front t) x y
took_shown m s t x y takes shows =
    subst (λ (b : Bool). ShowsFrame b m t x y) one (subst (λ (b : Bool). ShowsSession b s t m x y) (eq-eqb s.epoch t.epoch (sym takes.epoch)) shows)
  where
    one : took_one s t ≡ true
    one =
        ap (λ (b : Bool). b && s.epoch == t.epoch && nat_lt s.window.taken t.window.taken) (eq-eqb s.number t.number (sym takes.number))
        ∙ ap (λ (b : Bool). b && nat_lt s.window.taken t.window.taken) (eq-eqb s.epoch t.epoch (sym takes.epoch))
        ∙ lt-ltb s.window.taken t.window.taken (omega (arith, takes.taken))

-- sessions of other application servers

whose : (o : Option PlainSession) (i app : ℕ) (P : PlainSession → Type 0) → IfSome o (λ t. t.app ≡ app) → IsSomeAnd o (λ t. (t.app ≡ i) × P t) → i ≡ app
whose None i app P its met = absurd met
whose (Some t) i app P its met = sym met.0 ∙ its

another : (v : Server) (app i number : ℕ) (told : Option Place) (o : Option Session) → i ≢ app → IfSome (v.session_at number) (λ t. t.app ≡ app) → IfSome o (λ s. ToldPlace v i s told)
    → IfSome o (λ s. s.number ≢ number)
another v app i number told None other its place = tt
another v app i number told (Some s) other its place =
    λ same. other (whose (v.session_at number) i app _ its (subst (λ (k : ℕ). IsSomeAnd (v.session_at k) (λ t. (t.app ≡ i) × (t.told ≡ place.order))) same place.met))

pub some_if : (o : Option PlainSession) (P Q : PlainSession → Type 0) → ((t : PlainSession) → P t → Q t) → IsSomeAnd o P → IfSome o Q
some_if None P Q f is = tt
some_if (Some t) P Q f is = f t is

-- one data server's ends

module _ (l : Layout) (c : CoresState) (m : Machine) (app now d : ℕ) (h : Holds l m) (run : IsRun l m.trail) (shows : Mirrors c m) (known : app < c.layout.apps)
    (alive : m.is_dead_at app ≡ false) (u : Server) (state : AppState) (frames : List UpFrame) (z : Site) (y : Shown) where
  abbrev pub x : Site
  x = m.site_at d

  abbrev pub v : Server
  v = (state_after l m.trail).server_at d

  abbrev pub e : End
  e = x.end_at app

  -- the site after the step, by what the end is told of and has then
  abbrev pub SiteOf : Option Down → Bool → Option Place → Option Session → Site
  SiteOf mo b told q = at_told told (with_app_step b mo e.state.dial (sent_before e.state.session) q frames) z

  pub record OwnIs (mo : Option Down) (b : Bool) (told : Option Place) (q : Option Session) : Type 0 where
    pub front : FrontWith u (SiteOf mo b told q) told q
    pub shown : ShownWith (SiteOf mo b told q) told y q
    pub others : (i : ℕ) → i ≢ app → m.is_dead_at i ≡ false → TakenAt x (SiteOf mo b told q) (x.end_at i).told (x.end_at i).state.session

  module _ (on : (k : ℕ) → k ≤ current v → IsFront (order_at v k) (order_at u k)) (same_lanes : z.lane_at ≡ x.lane_at) where
    -- where nothing was taken
    pub own_stays : (mo : Option Down) (q : Option Session) → SessionStays e.state.session q → y ≡ e.shown → OwnIs mo false e.told q
    own_stays mo q stays same = record {
      front =
          front_keeps u (SiteOf mo false e.told q) e.told e.state.session q keeps
          (front_at v u x (SiteOf mo false e.told q) e.told e.state.session on (told_there v app e ((h.sites d).ends.told app alive))
          (taken_at x (SiteOf mo false e.told q) e.told e.state.session taken) ((h.sites d).fronts.apps app alive));
      shown =
          subst (λ (w : Shown). ShownWith (SiteOf mo false e.told q) e.told w q) (sym same)
          (shown_keeps (SiteOf mo false e.told q) e.told e.shown e.state.session q keeps
          (shown_at x (SiteOf mo false e.told q) e.told e.shown e.state.session (taken_at x (SiteOf mo false e.told q) e.told e.state.session taken)
          (shown_as x e e.state.session ((h.sites d).fronts.shown app alive))));
      others = λ i other lives. taken_at x (SiteOf mo false e.told q) (x.end_at i).told (x.end_at i).state.session taken;
    }
      where
        keeps : SessionsKeep e.state.session q
        keeps = stays_keep e.state.session q stays

        taken : (s k : ℕ) → SameTaken (x.lane_at s k) ((SiteOf mo false e.told q).lane_at s k)
        taken =
            told_taken x z mo e.state.dial (sent_before e.state.session) frames e.told q same_lanes
            (kept_taken x v app e.told e.state.session q keeps ((h.sites d).ends.told app alive).place ((h.sites d).link.apps app alive).window)

    -- where the session is lost
    pub own_lost : (mo : Option Down) → y.runs ≡ [] → OwnIs mo false e.told None
    own_lost mo runs = record {
      front = tt;
      shown = runs;
      others =
          λ i other lives.
          taken_at x (SiteOf mo false e.told None) (x.end_at i).told (x.end_at i).state.session
          (told_taken x z mo e.state.dial (sent_before e.state.session) frames e.told None same_lanes tt);
    }

    -- the session of the end is its application server's
    its_own : (s : Session) → e.state.session ≡ Some s → ToldPlace v app s e.told
    its_own s there = subst (λ (o : Option Session). IfSome o (λ s. ToldPlace v app s e.told)) there ((h.sites d).ends.told app alive).place

    beside : (mo : Option Down) (b : Bool) (p : Place) (q : Option Session) → IfSome (v.session_at p.session) (λ t. t.app ≡ app) → (i : ℕ) → i ≢ app → m.is_dead_at i ≡ false
        → TakenAt x (SiteOf mo b (Some p) q) (x.end_at i).told (x.end_at i).state.session
    beside mo b p q its i other lives =
        taken_beside x z (Some p) (with_app_step b mo e.state.dial (sent_before e.state.session) q frames) (x.end_at i).told (x.end_at i).state.session same_lanes
        (another v app i p.session (x.end_at i).told (x.end_at i).state.session other its ((h.sites d).ends.told i lives).place)

    -- where one message more was taken
    pub own_fresh : (mo : Option Down) (frame : DownFrame) (w : Down) (s t : Session) → frame.message ≡ w → HasNumber w → Taken e frame → e.state.line ≡ Joined → e.state.session ≡ Some s → TakesOne w s t
        → ShowsEnd (Some s) (Some t) w greatest e.shown y → OwnIs mo false e.told (Some t)
    own_fresh mo frame w s t message has taken line there takes shows = record {
      front = both.0;
      shown = both.1;
      others =
          λ i other lives.
          subst (λ (o : Option Place). TakenAt x (SiteOf mo false o (Some t)) (x.end_at i).told (x.end_at i).state.session) (sym place.its)
          (beside mo false p (Some t) (some_if (v.session_at s.number) _ (λ t. t.app ≡ app) (λ t is. is.0) place.met) i other lives);
    }
      where
        place : ToldPlace v app s e.told
        place = its_own s there

        p : Place
        p = record { session = s.number; order = place.order }

        next : NextDown (x.lane_at s.number place.order) frame
        next =
            joined_next v x app e frame s p taken ((h.sites d).link.apps app alive) line there place.its
            (subst HasNumber (sym message) has)

        window : WindowIs s.window (x.lane_at s.number place.order).up (x.lane_at s.number place.order).up_taken (x.lane_at s.number place.order).down_taken
        window =
            subst (λ (o : Option Place). IfSome o (λ p. WindowIs s.window (x.lane_at s.number p.order).up (x.lane_at s.number p.order).up_taken (x.lane_at s.number p.order).down_taken)) place.its
            (subst (λ (o : Option Session). IfSome o (λ s. IfSome e.told (λ p.
            WindowIs s.window (x.lane_at s.number p.order).up (x.lane_at s.number p.order).up_taken (x.lane_at s.number p.order).down_taken))) there
            ((h.sites d).link.apps app alive).window)

        both : FrontWith u (SiteOf mo false e.told (Some t)) e.told (Some t) × ShownWith (SiteOf mo false e.told (Some t)) e.told y (Some t)
        both =
            own_takes v u x z e.told app w mo e.state.dial (sent_before e.state.session) (stays_at v place.order) frames s t next.rest e.shown y on same_lanes p place.its refl place.there
            window.taken (next.its ∙ ap (λ (k : Down). k ∷ next.rest) message)
            (all_dropped (λ k. IsHeader (order_at v place.order) (stays_at v place.order) s.number (front_of k)) (x.lane_at s.number place.order).down_taken
            (x.lane_at s.number place.order).down w next.rest (next.its ∙ ap (λ (k : Down). k ∷ next.rest) message)
            ((h.sites d).coherence.lanes s.number place.order place.there).headers)
            takes (took_shown w s t e.shown y takes shows)
            (subst (λ (o : Option Session). FrontWith v x e.told o) there ((h.sites d).fronts.apps app alive))
            (subst (λ (o : Option Session). ShownWith x e.told e.shown o) there (shown_as x e e.state.session ((h.sites d).fronts.shown app alive)))

    -- where a lane begins
    pub own_new : (mo : Option Down) (front : Front) (p : Place) (t : Session) → front_by mo ≡ front → p.order ≤ current v → t.number ≡ p.session → (x.lane_at p.session p.order).began ≡ None
        → IsHeader (order_at v p.order) (stays_at v p.order) p.session front → t.n ≡ front.n → t.w ≡ front.w → t.cache ≡ [] → y.runs ≡ []
        → IfSome (v.session_at p.session) (λ t. t.app ≡ app) → OwnIs mo true (Some p) (Some t)
    own_new mo front p t said low number unlearnt header tn tw cache runs its = record {
      front = both.0;
      shown = both.1;
      others = beside mo true p (Some t) its;
    }
      where
        both : FrontWith u (SiteOf mo true (Some p) (Some t)) (Some p) (Some t) × ShownWith (SiteOf mo true (Some p) (Some t)) (Some p) y (Some t)
        both =
            own_begins v u x z mo e.state.dial (sent_before e.state.session) frames front t y (stays_at v p.order) p on same_lanes low number
            (((h.sites d).link.lanes p.session p.order).no_down unlearnt) header tn tw cache runs said
