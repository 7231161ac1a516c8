-- What is known of the end of an application server to which a frame may come: its line, its lane, and the front.
use Rattle.std.proofs.Common.{◌≡◌, ◌≤◌, ◌⊎◌, inl, inr, ℕ, Bool, true, false, [], drop, Option, Some, None, refl, sym, ◌∙◌, ap, subst, Err}
use Rattle.std.specs.Prelude.{◌==◌, not, unwrap_or}
use Rattle.std.proofs.Common.{if◌then◌else◌, option_map}
use Rattle.std.proofs.lemmas.Bool.{false≢true}
use Rattle.plain_orders.specs.declared.layout.Layout.{Layout}
use Rattle.plain_runs.specs.Plain.{Server, current, order_at}
use Rattle.plain_runs.specs.Run.{state_after}
use Rattle.link_window.specs.declared.window.WindowError.{WindowError}
use Rattle.ecp_messages.specs.declared.down.Down.{Down}
use Rattle.ecp_messages.specs.declared.down.Down.TheVariants.{Welcome, Reset, Block, Drop, Ack, Grant, Answer, Normal, Bare}
use Rattle.ecp_messages.specs.declared.down.DownFrame.{DownFrame}
use Rattle.end_words.specs.Windows.{answers}
use Rattle.app_rules.specs.declared.app_in.AppIn.TheVariants as app_in
use Rattle.app_rules.specs.declared.line.Line.TheVariants.{Joined}
use Rattle.app_rules.specs.AppState.{AppEnd, Session, no_session}
use Rattle.app_rules.specs.Works.{Sofar, begun, body_of, end_at, session_at, session_of}
use Rattle.cluster_runs.specs.declared.moves.Move.TheVariants.{App}
use Rattle.cluster_runs.specs.CoresState.{CoresState, dial_at}
use Rattle.cluster_runs.specs.Connections.{dial_of}
use Rattle.cluster_runs.specs.Wires.{last_dial}
use Rattle.cluster_runs.specs.Machine.{Machine, Site, End, app_state}
use Rattle.cluster_runs.specs.Mirrors.{Mirrors}
use Rattle.cluster_runs.specs.Moves.{Allowed, first_of, next_down}
use Rattle.cluster_runs.specs.Sent.{Connection, Place}
use Rattle.cluster_steps.proofs.AppSites.{app_ends}
use Rattle.cluster_invariant.specs.Coherence.{IsCoherent}
use Rattle.cluster_invariant.specs.Fronts.{FrontIs, FrontOf}
use Rattle.cluster_invariant.specs.Holds.{Holds}
use Rattle.cluster_invariant.specs.Words.{has_wire, is_reset_down, is_wire, stays_at}
use Rattle.cluster_invariant.proofs.Small.{of_some}
use Rattle.ends_kept.proofs.NextDown.{HasNumber, NextDown, joined_next}
use Rattle.ends_kept.proofs.TakenDown.{Taken as TakenOn, taken_down}
use Rattle.frames_taken.proofs.Awaited.{Has, bare_fits, fits_window, joined as joined_has, joined_by}

number_no_reset : (w : Down) → HasNumber w → is_reset_down w ≡ false
number_no_reset (Welcome session epoch kept front taken) has = refl
number_no_reset (Reset session at) has = absurd has
number_no_reset (Block front block) has = refl
number_no_reset (Drop front lo hi) has = refl
number_no_reset (Ack front) has = refl
number_no_reset (Grant front ticket at) has = refl
number_no_reset (Answer front about job number at sum) has = refl
number_no_reset (Normal front) has = refl
number_no_reset Bare has = refl

module _ (l : Layout) (c : CoresState) (m : Machine) (app now d : ℕ) (frame : DownFrame)
    (h : Holds l m) (shows : Mirrors c m) (allowed : Allowed c (App app now (app_in.Frame d frame))) where
  abbrev pub b : Sofar
  b = begun (app_state m app)

  abbrev pub v : Server
  v = (state_after l m.trail).server_at d

  abbrev pub x : Site
  x = m.site_at d

  abbrev pub e : End
  e = x.end_at app

  pub alive : m.is_dead_at app ≡ false
  alive = sym (shows.dead app) ∙ allowed.alive

  pub same_end : end_at b.state d ≡ e.state
  same_end = app_ends c m app d shows allowed.known

  pub on : TakenOn e frame
  on = taken_down c m app d frame shows allowed.takes

  -- it wasn't left
  kept : on.connection.app_left ≡ false
  kept = go on.connection.app_left refl
    where
      number : last_dial c app d ≡ e.state.dial
      number = ap (λ (z : AppEnd). z.dial) (shows.ends app d)

      there : next_down (option_map (dial_of app d e.state.dial) (Some on.connection)) ≡ Some frame
      there =
          ap (λ (o : Option Connection). next_down (option_map (dial_of app d e.state.dial) o)) (sym on.its)
          ∙ ap next_down (sym (shows.dials app d e.state.dial)) ∙ ap (λ (n : ℕ). next_down (dial_at c app d n)) (sym number) ∙ allowed.takes

      go : (left : Bool) → on.connection.app_left ≡ left → left ≡ false
      go false is = refl
      go true is =
          absurd (none (sym (ap (λ (b : Bool). first_of (if b then [] else drop on.connection.downs_taken on.connection.downs)) is) ∙ there))
        where
          none : ◌≡◌ {A = Option DownFrame} None (Some frame) → ⊥
          none same = absurd cc

  -- the end has this connection
  pub wired : has_wire e.state.line ≡ true
  wired = go (has_wire e.state.line) refl (of_some (λ (k : Connection). k.app_left ≡ not (is_wire (m.is_dead_at app) e.state e.state.dial)) (e.connection_at e.state.dial) on.connection on.its
      (((h.sites d).dials.pairs app).left e.state.dial))
    where
      go : (w : Bool) → has_wire e.state.line ≡ w → on.connection.app_left ≡ not (is_wire (m.is_dead_at app) e.state e.state.dial) → w ≡ true
      go true is at = refl
      go false is at =
          absurd (false≢true (sym kept ∙ at
          ∙ ap (λ (g : Bool). not (if g then false else (if has_wire e.state.line then e.state.dial == e.state.dial else false))) alive
          ∙ ap (λ (g : Bool). not (if g then e.state.dial == e.state.dial else false)) is))

  -- an end that has taken its Welcome, with the lane of its session
  abbrev pub IsHas : Type 0
  IsHas = Has v x m.is_dead_at app frame alive (h.sites d).link (h.sites d).ends on.connection on.its on.behind on.left wired

  pub line_is : HasNumber frame.message ⊎ (frame.message ≡ Bare) → e.state.line ≡ Joined
  line_is = joined_by v x m.is_dead_at app frame alive (h.sites d).link (h.sites d).ends on.connection on.its on.behind on.left wired

  pub has_of : HasNumber frame.message ⊎ (frame.message ≡ Bare) → IsHas
  has_of which =
      joined_has v x m.is_dead_at app frame alive (h.sites d).link (h.sites d).ends on.connection on.its on.behind on.left wired (line_is which) (no_reset which)
    where
      no_reset : HasNumber frame.message ⊎ (frame.message ≡ Bare) → is_reset_down frame.message ≡ false
      no_reset (inl has) = number_no_reset frame.message has
      no_reset (inr same) = ap is_reset_down same

  pub session_is : (k : IsHas) → session_at b.state d ≡ k.session
  session_is k = ap session_of same_end ∙ ap (λ (o : Option Session). unwrap_or o no_session) k.its

  pub numbered_fits : HasNumber frame.message → (why : WindowError) → answers body_of (session_at b.state d).window frame.seq frame.ack ≡ Err why → ⊥
  numbered_fits has why is = go (has_of (inl has))
    where
      go : IsHas → ⊥
      go k =
          fits_window v x m.is_dead_at app frame alive (h.sites d).link (h.sites d).ends on.connection on.its on.behind on.left wired k why
          (subst (λ (s : Session). answers body_of s.window frame.seq frame.ack ≡ Err why) (session_is k) is) has

  pub bare_fits_it : frame.message ≡ Bare → (why : WindowError) → answers body_of (session_at b.state d).window 0 frame.ack ≡ Err why → ⊥
  bare_fits_it same why is = go (has_of (inr same))
    where
      go : IsHas → ⊥
      go k =
          bare_fits v x m.is_dead_at app frame alive (h.sites d).link (h.sites d).ends on.connection on.its on.behind on.left wired k why
          (subst (λ (s : Session). answers body_of s.window 0 frame.ack ≡ Err why) (session_is k) is)

  -- the lane of the session in the order that the end is told of, and the front
  pub record At : Type 0 where
    pub session : Session
    pub place : Place
    pub its : e.state.session ≡ Some session
    pub told : e.told ≡ Some place
    pub there : place.order ≤ current v
    pub next : NextDown (x.lane_at session.number place.order) frame
    pub front : FrontIs (order_at v place.order) (x.lane_at session.number place.order) session.number session.n session.w session.cache
    pub coherent : IsCoherent (order_at v place.order) (stays_at v place.order) session.number (x.lane_at session.number place.order).front (x.lane_at session.number place.order).down

  pub at_of : HasNumber frame.message → At
  at_of has = go (has_of (inl has))
    where
      go : IsHas → At
      go k = record {
        session = k.session;
        place = p;
        its = k.its;
        told = k.first.place.told;
        there = k.first.place.there;
        next = joined_next v x app e frame k.session p on ((h.sites d).link.apps app alive) (line_is (inl has)) k.its k.first.place.told has;
        front =
            of_some (λ (q : Place). FrontIs (order_at v q.order) (x.lane_at k.session.number q.order) k.session.number k.session.n k.session.w k.session.cache) e.told p k.first.place.told
            (of_some (FrontOf v x e) e.state.session k.session k.its ((h.sites d).fronts.apps app alive));
        coherent = (h.sites d).coherence.lanes k.session.number k.first.place.k k.first.place.there;
      }
        where
          p : Place
          p = record { session = k.session.number; order = k.first.place.k }
