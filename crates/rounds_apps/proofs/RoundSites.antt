-- What rounds put at one data server, over an input that tells the application server's end there nothing new.
use Rattle.std.proofs.Common.{◌≡◌, ◌≢◌, ◌≤◌, ◌+◌, ℕ, Bool, false, List, ◌++◌, Option, Some, None, refl, sym, ◌∙◌, ap, subst, arith}
use Rattle.std.specs.Prelude.{IfSome}
use Rattle.plain_runs.specs.Plain.{Server, current, order_at, put}
use Rattle.ecp_messages.specs.declared.down.Down.{Down}
use Rattle.ecp_messages.specs.declared.up.Up.{Up}
use Rattle.ecp_messages.specs.declared.up.UpFrame.{UpFrame}
use Rattle.app_rules.specs.declared.app_outs.AppOuts.{AppOuts}
use Rattle.app_rules.specs.AppState.{AppEnd, Session}
use Rattle.app_rules.specs.Looks.{Shown}
use Rattle.cluster_runs.specs.Connections.{ups_to}
use Rattle.cluster_runs.specs.Goes.{app_site, at_told}
use Rattle.cluster_runs.specs.Lanes.{is_told_new, sent_before, with_app_step}
use Rattle.cluster_runs.specs.Machine.{Site, End}
use Rattle.cluster_runs.specs.Sent.{Lane, Place}
use Rattle.cluster_steps.proofs.AppSites.{site_beside, site_ends}
use Rattle.cluster_invariant.specs.Ends.{EndsAre, ToldPlace}
use Rattle.cluster_invariant.specs.Link.{LinkHolds, WindowIs}
use Rattle.cluster_invariant.specs.Rounds.{LaneRound, RoundOf, RoundsHold, SessionRound}
use Rattle.cluster_invariant.proofs.OrderBeside.{SameOrders}
use Rattle.cluster_invariant.proofs.Small.{of_some}
use Rattle.link_apps.proofs.LanesApps.{own_lane, site_lanes}
use Rattle.link_apps.proofs.RestSites.{place_number}
use Rattle.rounds_apps.proofs.RoundInputs.{SessionsGo}
use Rattle.rounds_apps.proofs.RoundLanes.{LaneGoes, SessionGoes, TakesNext, count_taken, lane_round, session_round}
use Rattle.rounds_apps.proofs.RoundsEnds.{one_end, rounds_at_end}

-- the lane of a session that goes on
lane_goes : (m : Option Down) (number : ℕ) (s t : Session) (frames : List UpFrame) (a : Lane) (took : Option Down) (given : List Up)
    → s.window.taken ≡ a.down_taken → SessionGoes s t took given → LaneGoes a (with_app_step false m number (sent_before (Some s)) (Some t) frames a) took given
lane_goes m number s t frames a took given taken goes = record {
  began = refl;
  up = ap (λ (ms : List Up). a.up ++ ms) goes.given;
  up_taken = refl;
  down = refl;
  down_taken = goes.taken ∙ ap (λ (n : ℕ). n + count_taken took) taken;
}

-- what was put downwards is as it was
step_down : (m : Option Down) (number n : ℕ) (q : Option Session) (frames : List UpFrame) (a : Lane) → (with_app_step false m number n q frames a).down ≡ a.down
step_down m number n None frames a = refl
step_down m number n (Some t) frames a = refl

module _ (v u : Server) (x : Site) (dead : ℕ → Bool) (app d : ℕ) (outs : AppOuts) (t : AppEnd) (shown : Shown) (m : Option Down) (moved : End) (took : Option Down)
    (alive : dead app ≡ false) (same : SameOrders v u) (are : EndsAre v x dead) (link : LinkHolds v x dead) (rounds : RoundsHold v x dead)
    (none_new : is_told_new (x.end_at app).state.session t.session ≡ false) (told : moved.told ≡ (x.end_at app).told) (state : moved.state ≡ t)
    (goes : SessionsGo (x.end_at app).state.session t.session took)
    (next : (s : Session) (p : Place) → (x.end_at app).state.session ≡ Some s → (x.end_at app).told ≡ Some p → TakesNext took (x.lane_at s.number p.order)) where
  abbrev e : End
  e = x.end_at app

  abbrev y : Site
  y = app_site app d outs e.state t m moved x

  abbrev stepped : Lane → Lane
  stepped a = with_app_step false m e.state.dial (sent_before e.state.session) t.session (ups_to d outs.frames) a

  place_of : (s : Session) → e.state.session ≡ Some s → ToldPlace v app s e.told
  place_of s its = of_some (λ (q : Session). ToldPlace v app q e.told) e.state.session s its (are.told app alive).place

  its_number : (s : Session) (p : Place) → e.state.session ≡ Some s → e.told ≡ Some p → p.session ≡ s.number
  its_number s p its at = go (place_of s its)
    where
      go : ToldPlace v app s e.told → p.session ≡ s.number
      go place = place_number p s.number place.order (sym at ∙ place.its)

  its_order : (s : Session) (p : Place) → e.state.session ≡ Some s → e.told ≡ Some p → p.order ≤ current v
  its_order s p its at = go (place_of s its)
    where
      same_place : (k : ℕ) → ◌≡◌ {A = Option Place} (Some p) (Some (record { session = s.number; order = k })) → p.order ≡ k
      same_place k is = (let eq : p ≡ record { session = s.number; order = k } = cc in ap (λ (z : Place). z.order) eq)

      go : ToldPlace v app s e.told → p.order ≤ current v
      go place = omega (arith, same_place place.order (sym at ∙ place.its), place.there)

  window_of : (s : Session) (p : Place) → e.state.session ≡ Some s → e.told ≡ Some p
      → WindowIs s.window (x.lane_at s.number p.order).up (x.lane_at s.number p.order).up_taken (x.lane_at s.number p.order).down_taken
  window_of s p its at =
      of_some (λ (z : Place). WindowIs s.window (x.lane_at s.number z.order).up (x.lane_at s.number z.order).up_taken (x.lane_at s.number z.order).down_taken) e.told p at
      (of_some (λ (q : Session). IfSome e.told (λ z.
      WindowIs q.window (x.lane_at q.number z.order).up (x.lane_at q.number z.order).up_taken (x.lane_at q.number z.order).down_taken)) e.state.session s its
      (link.apps app alive).window)

  round_of : (s : Session) (p : Place) → e.state.session ≡ Some s → e.told ≡ Some p → SessionRound (order_at v p.order) (x.lane_at s.number p.order) s
  round_of s p its at =
      of_some (λ (z : Place). SessionRound (order_at v z.order) (x.lane_at s.number z.order) s) e.told p at
      (of_some (RoundOf v x e) e.state.session s its (rounds.apps app alive))

  -- at the place that the end is told of
  module _ (s r : Session) (p : Place) (its : e.state.session ≡ Some s) (now : t.session ≡ Some r) (at : e.told ≡ Some p) (given : List Up) (g : SessionGoes s r took given) where
    abbrev lane : Lane
    lane = x.lane_at s.number p.order

    stepped_is : (a : Lane) → stepped a ≡ with_app_step false m e.state.dial (sent_before (Some s)) (Some r) (ups_to d outs.frames) a
    stepped_is a =
        ap (λ (o : Option Session). with_app_step false m e.state.dial (sent_before o) t.session (ups_to d outs.frames) a) its
        ∙ ap (λ (o : Option Session). with_app_step false m e.state.dial (sent_before (Some s)) o (ups_to d outs.frames) a) now

    own_goes : LaneGoes lane (stepped lane) took given
    own_goes =
        subst (λ (b : Lane). LaneGoes lane b took given) (sym (stepped_is lane))
        (lane_goes m e.state.dial s r (ups_to d outs.frames) lane took given (window_of s p its at).taken g)

    own_lane_round : LaneRound (order_at v p.order) s.number lane → LaneRound (order_at v p.order) s.number (stepped lane)
    own_lane_round is =
        lane_round (order_at v p.order) lane (stepped lane) s took given (link.lanes s.number p.order).up_taken own_goes (next s p its at) g.waits (round_of s p its at) is

    own_session_round : SessionRound (order_at v p.order) (stepped lane) r
    own_session_round = session_round (order_at v p.order) lane (stepped lane) s r took given own_goes (next s p its at) g (round_of s p its at)

  -- each lane
  lane_kept : (s k : ℕ) → LaneRound (order_at v k) s (x.lane_at s k) → LaneRound (order_at v k) s (y.lane_at s k)
  lane_kept s k =
      site_lanes (λ a b. LaneRound (order_at v k) s a → LaneRound (order_at v k) s b) (λ a is. is) app d outs e.state t m moved x none_new s k
      (subst (λ (o : Option Place). IfSome o (λ p. s ≡ p.session → k ≡ p.order → LaneRound (order_at v k) s (x.lane_at s k) → LaneRound (order_at v k) s (stepped (x.lane_at s k))))
      (sym told) (by e.told refl e.state.session refl t.session refl goes))
    where
      at_place : (q r : Session) (p : Place) (its : e.state.session ≡ Some q) (now : t.session ≡ Some r) (at : e.told ≡ Some p) (given : List Up) → SessionGoes q r took given
          → s ≡ p.session → k ≡ p.order → LaneRound (order_at v k) s (x.lane_at s k) → LaneRound (order_at v k) s (stepped (x.lane_at s k))
      at_place q r p its now at given g one here =
          subst (λ (n : ℕ). LaneRound (order_at v k) n (x.lane_at n k) → LaneRound (order_at v k) n (stepped (x.lane_at n k))) (sym (one ∙ its_number q p its at))
          (subst (λ (j : ℕ). LaneRound (order_at v j) q.number (x.lane_at q.number j) → LaneRound (order_at v j) q.number (stepped (x.lane_at q.number j))) (sym here)
          (own_lane_round q r p its now at given g))

      by : (o : Option Place) → e.told ≡ o → (a : Option Session) → e.state.session ≡ a → (b : Option Session) → t.session ≡ b → SessionsGo a b took
          → IfSome o (λ p. s ≡ p.session → k ≡ p.order → LaneRound (order_at v k) s (x.lane_at s k) → LaneRound (order_at v k) s (stepped (x.lane_at s k)))
      by None at a its b now g = tt
      by (Some p) at a its None now g = λ one here is.
          subst (λ (o : Option Session). LaneRound (order_at v k) s (with_app_step false m e.state.dial (sent_before e.state.session) o (ups_to d outs.frames) (x.lane_at s k))) (sym now) is
      by (Some p) at None its (Some r) now g = absurd g
      by (Some p) at (Some q) its (Some r) now g = at_place q r p its now at g.0 g.1

  down_kept : (s k : ℕ) → (y.lane_at s k).down ≡ (x.lane_at s k).down
  down_kept s k =
      site_lanes (λ a b. b.down ≡ a.down) (λ a. refl) app d outs e.state t m moved x none_new s k (each moved.told)
    where
      each : (o : Option Place) → IfSome o (λ p. s ≡ p.session → k ≡ p.order → (stepped (x.lane_at s k)).down ≡ (x.lane_at s k).down)
      each None = tt
      each (Some p) = λ one here. step_down m e.state.dial (sent_before e.state.session) t.session (ups_to d outs.frames) (x.lane_at s k)

  others_kept : (a : ℕ) → a ≢ app → dead a ≡ false → (q : Session) → (x.end_at a).state.session ≡ Some q → (k : ℕ) → y.lane_at q.number k ≡ x.lane_at q.number k
  others_kept a other lives q has k =
      site_lanes (λ b c. c ≡ b) (λ b. refl) app d outs e.state t m moved x none_new q.number k
      (subst (λ (o : Option Place). IfSome o (λ p. q.number ≡ p.session → k ≡ p.order → stepped (x.lane_at q.number k) ≡ x.lane_at q.number k)) (sym told)
      (by e.told refl e.state.session refl t.session refl goes))
    where
      by : (o : Option Place) → e.told ≡ o → (i : Option Session) → e.state.session ≡ i → (j : Option Session) → t.session ≡ j → SessionsGo i j took
          → IfSome o (λ p. q.number ≡ p.session → k ≡ p.order → stepped (x.lane_at q.number k) ≡ x.lane_at q.number k)
      by None at i its j now g = tt
      by (Some p) at i its None now g = λ one here.
          ap (λ (o : Option Session). with_app_step false m e.state.dial (sent_before e.state.session) o (ups_to d outs.frames) (x.lane_at q.number k)) now
      by (Some p) at None its (Some r) now g = absurd g
      by (Some p) at (Some s) its (Some r) now g = λ one here.
          absurd (other (one_end v a app q s (x.end_at a).told e.told
          (of_some (λ (z : Session). ToldPlace v a z (x.end_at a).told) (x.end_at a).state.session q has (are.told a lives).place) (place_of s its)
          (one ∙ its_number s p its at)))

  own_kept : IfSome moved.state.session (RoundOf v y moved)
  own_kept =
      subst (λ (f : AppEnd). IfSome f.session (RoundOf v y moved)) (sym state) (by t.session refl e.state.session refl goes)
    where
      z : Site
      z = record x { end_at = put x.end_at app moved }

      told_at : (s r : Session) → e.state.session ≡ Some s → t.session ≡ Some r → (given : List Up) → SessionGoes s r took given
          → (o : Option Place) → e.told ≡ o → moved.told ≡ o → IfSome o (λ p. SessionRound (order_at v p.order) (y.lane_at r.number p.order) r)
      told_at s r its now given g None at there = tt
      told_at s r its now given g (Some p) at there =
          subst (λ (n : ℕ). SessionRound (order_at v p.order) (y.lane_at n p.order) r) (sym g.number)
          (subst (λ (b : Lane). SessionRound (order_at v p.order) b r) (sym own_is) (own_session_round s r p its now at given g))
        where
          own_is : y.lane_at s.number p.order ≡ stepped (x.lane_at s.number p.order)
          own_is =
              subst (λ (n : ℕ). y.lane_at n p.order ≡ stepped (x.lane_at n p.order)) (its_number s p its at)
              (ap (λ (o : Option Place).
              (at_told o (with_app_step (is_told_new e.state.session t.session) m e.state.dial (sent_before e.state.session) t.session (ups_to d outs.frames)) z).lane_at p.session p.order)
              there
              ∙ ap (λ (b : Bool).
              (at_told (Some p) (with_app_step b m e.state.dial (sent_before e.state.session) t.session (ups_to d outs.frames)) z).lane_at p.session p.order) none_new
              ∙ own_lane p stepped z)

      by : (b : Option Session) → t.session ≡ b → (a : Option Session) → e.state.session ≡ a → SessionsGo a b took → IfSome b (RoundOf v y moved)
      by None now a its g = tt
      by (Some r) now None its g = absurd g
      by (Some r) now (Some s) its g =
          subst (λ (o : Option Place). IfSome o (λ p. SessionRound (order_at v p.order) (y.lane_at r.number p.order) r)) (sym told)
          (told_at s r its now g.0 g.1 e.told refl told)

  -- The rounds hold there.
  pub rounds_at_site : RoundsHold u y dead
  rounds_at_site = rounds_at_end v u x y dead app moved rounds (record {
    same = same;
    beside = site_beside app d outs e.state t m moved x;
    ends = site_ends app d outs e.state t m moved x;
    downs = down_kept;
    lanes = λ s k low. lane_kept s k (rounds.lanes s k low);
    others = others_kept;
    own = λ lives. own_kept;
  })
