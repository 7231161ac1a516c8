-- Requests for locks at one data server, over a step that tells the application server's end there nothing new.
use Rattle.std.proofs.Common.{◌≡◌, ◌≢◌, ◌≤◌, ◌+◌, ℕ, Bool, false, not, List, ◌++◌, length, Option, Some, None, refl, sym, ◌∙◌, ap, subst}
use Rattle.std.specs.Prelude.{IfSome}
use Rattle.std.proofs.lemmas.Bool.{eq-eqb}
use Rattle.std.proofs.lemmas.List.{take-append-le}
use Rattle.end_words.specs.Windows.{sent}
use Rattle.plain_runs.specs.Plain.{Server, put}
use Rattle.ecp_messages.specs.declared.down.Down.{Down}
use Rattle.ecp_messages.specs.declared.up.Up.{Up}
use Rattle.ecp_messages.specs.declared.up.UpFrame.{UpFrame}
use Rattle.app_rules.specs.declared.app_outs.AppOuts.{AppOuts}
use Rattle.app_rules.specs.AppState.{AppEnd, Session}
use Rattle.cluster_runs.specs.Connections.{ups_to}
use Rattle.cluster_runs.specs.Goes.{app_site, at_told}
use Rattle.cluster_runs.specs.Lanes.{given_since, is_told_new, sent_before, with_app_step}
use Rattle.cluster_runs.specs.Machine.{Site, End}
use Rattle.cluster_runs.specs.Sent.{Lane, Place}
use Rattle.cluster_steps.proofs.AppSites.{site_beside, site_ends}
use Rattle.cluster_invariant.specs.Asks.{AsksHold, AsksOf, EndAsks, LaneAsks}
use Rattle.cluster_invariant.specs.Ends.{EndsAre, ToldPlace}
use Rattle.cluster_invariant.specs.Link.{LinkHolds, WindowIs}
use Rattle.cluster_invariant.proofs.Small.{of_some}
use Rattle.link_apps.proofs.LanesApps.{own_lane, site_lanes}
use Rattle.link_apps.proofs.RestSites.{place_number}
use Rattle.rounds_apps.proofs.RoundLanes.{LaneGoes, count_taken}
use Rattle.rounds_apps.proofs.RoundsEnds.{one_end}
use Rattle.asks_moves.proofs.AsksEnds.{LaneServed, asks_at_end, served_same}

-- A session that goes on: it took this message or none, and these were put.
pub record SessionPuts (s t : Session) (took : Option Down) (put : List Up) : Type 0 where
  pub number : t.number ≡ s.number
  pub epoch : t.epoch ≡ s.epoch
  pub given : given_since (sent s.window) t.window ≡ put
  pub taken : t.window.taken ≡ s.window.taken + count_taken took

-- the session of an end goes on, or is lost
abbrev pub SessionsPut : Option Session → Option Session → Option Down → Type 0
SessionsPut o None took = Unit {0}
SessionsPut None (Some t) took = ⊥
SessionsPut (Some s) (Some t) took = (put : List Up) × SessionPuts s t took put

-- such a step tells nothing new
pub none_told : (o q : Option Session) (took : Option Down) → SessionsPut o q took → is_told_new o q ≡ false
none_told None None took goes = refl
none_told (Some s) None took goes = refl
none_told None (Some t) took goes = absurd goes
none_told (Some s) (Some t) took goes = ap not (eq-eqb s.epoch t.epoch (sym goes.1.epoch))

-- the lane of a session that goes on
lane_goes : (m : Option Down) (number : ℕ) (s t : Session) (frames : List UpFrame) (a : Lane) (took : Option Down) (given : List Up)
    → s.window.taken ≡ a.down_taken → SessionPuts s t took given → LaneGoes a (with_app_step false m number (sent_before (Some s)) (Some t) frames a) took given
lane_goes m number s t frames a took given taken goes = record {
  began = refl;
  up = ap (λ (ms : List Up). a.up ++ ms) goes.given;
  up_taken = refl;
  down = refl;
  down_taken = goes.taken ∙ ap (λ (n : ℕ). n + count_taken took) taken;
}

-- of which the data end took and put as much
step_served : (m : Option Down) (number n : ℕ) (q : Option Session) (frames : List UpFrame) (a : Lane) → a.up_taken ≤ length a.up
    → LaneServed a (with_app_step false m number n q frames a)
step_served m number n None frames a low = served_same a
step_served m number n (Some t) frames a low = record { ups = take-append-le a.up_taken a.up (given_since n t.window) low; down = refl }

module _ (v : Server) (x : Site) (dead : ℕ → Bool) (app d : ℕ) (outs : AppOuts) (t : AppEnd) (m : Option Down) (moved : End) (took : Option Down)
    (alive : dead app ≡ false) (are : EndsAre v x dead) (link : LinkHolds v x dead) (asks : AsksHold x dead)
    (none_new : is_told_new (x.end_at app).state.session t.session ≡ false) (told : moved.told ≡ (x.end_at app).told) (state : moved.state ≡ t)
    (goes : SessionsPut (x.end_at app).state.session t.session took)
    (keeps : (s r : Session) (p : Place) → (x.end_at app).state.session ≡ Some s → t.session ≡ Some r → (x.end_at app).told ≡ Some p → (given : List Up)
    → SessionPuts s r took given → (b : Lane) → LaneGoes (x.lane_at s.number p.order) b took given → LaneAsks b × EndAsks b t.ticket r.asks) where
  abbrev e : End
  e = x.end_at app

  abbrev y : Site
  y = app_site app d outs e.state t m moved x

  abbrev stepped : Lane → Lane
  stepped a = with_app_step false m e.state.dial (sent_before e.state.session) t.session (ups_to d outs.frames) a

  place_of : (s : Session) → e.state.session ≡ Some s → ToldPlace v app s e.told
  place_of s its = of_some (λ (q : Session). ToldPlace v app q e.told) e.state.session s its (are.told app alive).place

  its_number : (s : Session) (p : Place) → e.state.session ≡ Some s → e.told ≡ Some p → p.session ≡ s.number
  its_number s p its at = go (place_of s its)
    where
      go : ToldPlace v app s e.told → p.session ≡ s.number
      go place = place_number p s.number place.order (sym at ∙ place.its)

  window_taken : (s : Session) (p : Place) → e.state.session ≡ Some s → e.told ≡ Some p → s.window.taken ≡ (x.lane_at s.number p.order).down_taken
  window_taken s p its at =
      (of_some (λ (z : Place). WindowIs s.window (x.lane_at s.number z.order).up (x.lane_at s.number z.order).up_taken (x.lane_at s.number z.order).down_taken) e.told p at
      (of_some (λ (q : Session). IfSome e.told (λ z.
      WindowIs q.window (x.lane_at q.number z.order).up (x.lane_at q.number z.order).up_taken (x.lane_at q.number z.order).down_taken)) e.state.session s its
      (link.apps app alive).window)).taken

  -- at the place that the end is told of
  own_both : (s r : Session) (p : Place) → e.state.session ≡ Some s → t.session ≡ Some r → e.told ≡ Some p → (given : List Up) → SessionPuts s r took given
      → LaneAsks (stepped (x.lane_at s.number p.order)) × EndAsks (stepped (x.lane_at s.number p.order)) t.ticket r.asks
  own_both s r p its now at given g = keeps s r p its now at given g (stepped lane) own_goes
    where
      lane : Lane
      lane = x.lane_at s.number p.order

      stepped_is : (a : Lane) → stepped a ≡ with_app_step false m e.state.dial (sent_before (Some s)) (Some r) (ups_to d outs.frames) a
      stepped_is a =
          ap (λ (o : Option Session). with_app_step false m e.state.dial (sent_before o) t.session (ups_to d outs.frames) a) its
          ∙ ap (λ (o : Option Session). with_app_step false m e.state.dial (sent_before (Some s)) o (ups_to d outs.frames) a) now

      own_goes : LaneGoes lane (stepped lane) took given
      own_goes =
          subst (λ (b : Lane). LaneGoes lane b took given) (sym (stepped_is lane))
          (lane_goes m e.state.dial s r (ups_to d outs.frames) lane took given (window_taken s p its at) g)

  -- each lane
  lane_kept : (s k : ℕ) → LaneAsks (x.lane_at s k) → LaneAsks (y.lane_at s k)
  lane_kept s k =
      site_lanes (λ a b. LaneAsks a → LaneAsks b) (λ a is. is) app d outs e.state t m moved x none_new s k
      (subst (λ (o : Option Place). IfSome o (λ p. s ≡ p.session → k ≡ p.order → LaneAsks (x.lane_at s k) → LaneAsks (stepped (x.lane_at s k))))
      (sym told) (by e.told refl e.state.session refl t.session refl goes))
    where
      at_place : (q r : Session) (p : Place) (its : e.state.session ≡ Some q) (now : t.session ≡ Some r) (at : e.told ≡ Some p) (given : List Up)
          → SessionPuts q r took given
          → s ≡ p.session → k ≡ p.order → LaneAsks (x.lane_at s k) → LaneAsks (stepped (x.lane_at s k))
      at_place q r p its now at given g one here is =
          subst (λ (n : ℕ). LaneAsks (stepped (x.lane_at n k))) (sym (one ∙ its_number q p its at))
          (subst (λ (j : ℕ). LaneAsks (stepped (x.lane_at q.number j))) (sym here) (own_both q r p its now at given g).0)

      by : (o : Option Place) → e.told ≡ o → (a : Option Session) → e.state.session ≡ a → (b : Option Session) → t.session ≡ b → SessionsPut a b took
          → IfSome o (λ p. s ≡ p.session → k ≡ p.order → LaneAsks (x.lane_at s k) → LaneAsks (stepped (x.lane_at s k)))
      by None at a its b now g = tt
      by (Some p) at a its None now g = λ one here is.
          subst (λ (o : Option Session). LaneAsks (with_app_step false m e.state.dial (sent_before e.state.session) o (ups_to d outs.frames) (x.lane_at s k))) (sym now) is
      by (Some p) at None its (Some r) now g = absurd g
      by (Some p) at (Some q) its (Some r) now g = at_place q r p its now at g.0 g.1

  served_kept : (s k : ℕ) → LaneServed (x.lane_at s k) (y.lane_at s k)
  served_kept s k =
      site_lanes LaneServed served_same app d outs e.state t m moved x none_new s k (each moved.told)
    where
      each : (o : Option Place) → IfSome o (λ p. s ≡ p.session → k ≡ p.order → LaneServed (x.lane_at s k) (stepped (x.lane_at s k)))
      each None = tt
      each (Some p) = λ one here. step_served m e.state.dial (sent_before e.state.session) t.session (ups_to d outs.frames) (x.lane_at s k) (link.lanes s k).up_taken

  others_kept : (a : ℕ) → a ≢ app → dead a ≡ false → (q : Session) → (x.end_at a).state.session ≡ Some q → (k : ℕ) → y.lane_at q.number k ≡ x.lane_at q.number k
  others_kept a other lives q has k =
      site_lanes (λ b c. c ≡ b) (λ b. refl) app d outs e.state t m moved x none_new q.number k
      (subst (λ (o : Option Place). IfSome o (λ p. q.number ≡ p.session → k ≡ p.order → stepped (x.lane_at q.number k) ≡ x.lane_at q.number k)) (sym told)
      (by e.told refl e.state.session refl t.session refl goes))
    where
      by : (o : Option Place) → e.told ≡ o → (i : Option Session) → e.state.session ≡ i → (j : Option Session) → t.session ≡ j → SessionsPut i j took
          → IfSome o (λ p. q.number ≡ p.session → k ≡ p.order → stepped (x.lane_at q.number k) ≡ x.lane_at q.number k)
      by None at i its j now g = tt
      by (Some p) at i its None now g = λ one here.
          ap (λ (o : Option Session). with_app_step false m e.state.dial (sent_before e.state.session) o (ups_to d outs.frames) (x.lane_at q.number k)) now
      by (Some p) at None its (Some r) now g = absurd g
      by (Some p) at (Some s) its (Some r) now g = λ one here.
          absurd (other (one_end v a app q s (x.end_at a).told e.told
          (of_some (λ (z : Session). ToldPlace v a z (x.end_at a).told) (x.end_at a).state.session q has (are.told a lives).place) (place_of s its)
          (one ∙ its_number s p its at)))

  own_kept : IfSome moved.state.session (AsksOf y moved)
  own_kept =
      subst (λ (f : AppEnd). IfSome f.session (λ s. IfSome moved.told (λ p. EndAsks (y.lane_at s.number p.order) f.ticket s.asks))) (sym state)
      (by t.session refl e.state.session refl goes)
    where
      z : Site
      z = record x { end_at = put x.end_at app moved }

      told_at : (s r : Session) → e.state.session ≡ Some s → t.session ≡ Some r → (given : List Up) → SessionPuts s r took given
          → (o : Option Place) → e.told ≡ o → moved.told ≡ o → IfSome o (λ p. EndAsks (y.lane_at r.number p.order) t.ticket r.asks)
      told_at s r its now given g None at there = tt
      told_at s r its now given g (Some p) at there =
          subst (λ (n : ℕ). EndAsks (y.lane_at n p.order) t.ticket r.asks) (sym g.number)
          (subst (λ (b : Lane). EndAsks b t.ticket r.asks) (sym own_is) (own_both s r p its now at given g).1)
        where
          own_is : y.lane_at s.number p.order ≡ stepped (x.lane_at s.number p.order)
          own_is =
              subst (λ (n : ℕ). y.lane_at n p.order ≡ stepped (x.lane_at n p.order)) (its_number s p its at)
              (ap (λ (o : Option Place).
              (at_told o (with_app_step (is_told_new e.state.session t.session) m e.state.dial (sent_before e.state.session) t.session (ups_to d outs.frames)) z).lane_at p.session p.order)
              there
              ∙ ap (λ (b : Bool).
              (at_told (Some p) (with_app_step b m e.state.dial (sent_before e.state.session) t.session (ups_to d outs.frames)) z).lane_at p.session p.order) none_new
              ∙ own_lane p stepped z)

      by : (b : Option Session) → t.session ≡ b → (a : Option Session) → e.state.session ≡ a → SessionsPut a b took
          → IfSome b (λ s. IfSome moved.told (λ p. EndAsks (y.lane_at s.number p.order) t.ticket s.asks))
      by None now a its g = tt
      by (Some r) now None its g = absurd g
      by (Some r) now (Some s) its g =
          subst (λ (o : Option Place). IfSome o (λ p. EndAsks (y.lane_at r.number p.order) t.ticket r.asks)) (sym told)
          (told_at s r its now g.0 g.1 e.told refl told)

  -- The requests are as they have to be there.
  pub asks_at_site : AsksHold y dead
  asks_at_site = asks_at_end x y dead app moved asks (record {
    beside = site_beside app d outs e.state t m moved x;
    ends = site_ends app d outs e.state t m moved x;
    served = served_kept;
    lanes = λ s k. lane_kept s k (asks.lanes s k);
    others = others_kept;
    own = λ lives. own_kept;
  })
