-- Requests for locks at one data server, as the application server's end there learns of a new session or of a new epoch.
use Rattle.std.proofs.Common.{◌≡◌, ◌≢◌, ℕ, zero, suc, Bool, true, false, List, [], length, take, Option, Some, None, refl, sym, ◌∙◌, ap, subst, arith}
use Rattle.std.specs.Prelude.{IfSome}
use Rattle.plain_runs.specs.Plain.{put}
use Rattle.ecp_messages.specs.declared.down.Down.{Down}
use Rattle.ecp_messages.specs.declared.up.Up.{Up}
use Rattle.app_rules.specs.declared.app_outs.AppOuts.{AppOuts}
use Rattle.app_rules.specs.AppState.{AppEnd, Session}
use Rattle.cluster_runs.specs.Connections.{ups_to}
use Rattle.cluster_runs.specs.Goes.{app_site, at_told}
use Rattle.cluster_runs.specs.Lanes.{given_since, is_told_new, sent_before, with_app_step}
use Rattle.cluster_runs.specs.Machine.{Site, End}
use Rattle.cluster_runs.specs.Sent.{Lane, Place, downs_taken}
use Rattle.cluster_steps.proofs.AppSites.{site_beside, site_ends}
use Rattle.cluster_invariant.specs.Asks.{AsksHold, AsksOf, EndAsks, LaneAsks}
use Rattle.cluster_invariant.specs.Link.{LaneCounts}
use Rattle.link_apps.proofs.LanesApps.{own_lane, told_lane}
use Rattle.asks_moves.proofs.AsksEnds.{LaneServed, asks_at_end, served_same}

-- A lane that begins with these messages.
pub record LaneBegins (ms : List Up) (b : Lane) : Type 0 where
  pub up : b.up ≡ ms
  pub down : b.down ≡ []
  pub taken : downs_taken b ≡ []

-- nothing was taken of what wasn't put
none_taken : (n : ℕ) → ◌≡◌ {A = List Down} (take n []) []
none_taken zero = refl
none_taken (suc n) = refl

module _ (x : Site) (dead : ℕ → Bool) (app d : ℕ) (outs : AppOuts) (t : AppEnd) (m : Option Down) (moved : End)
    (counts : (s k : ℕ) → LaneCounts (x.lane_at s k)) (asks : AsksHold x dead) (p : Place) (r : Session) (told : moved.told ≡ Some p) (state : moved.state ≡ t)
    (now : t.session ≡ Some r) (number : r.number ≡ p.session) (is_new : is_told_new (x.end_at app).state.session t.session ≡ true)
    (unlearnt : (x.lane_at p.session p.order).began ≡ None)
    (apart : (a : ℕ) → a ≢ app → dead a ≡ false → (q : Session) → (x.end_at a).state.session ≡ Some q → q.number ≢ p.session)
    (begins : (b : Lane) → LaneBegins (given_since 0 r.window) b → LaneAsks b × EndAsks b t.ticket r.asks) where
  abbrev e : End
  e = x.end_at app

  abbrev y : Site
  y = app_site app d outs e.state t m moved x

  abbrev z : Site
  z = record x { end_at = put x.end_at app moved }

  abbrev lane : Lane
  lane = x.lane_at p.session p.order

  abbrev stepped : Lane → Lane
  stepped a = with_app_step true m e.state.dial (sent_before e.state.session) (Some r) (ups_to d outs.frames) a

  lanes_are : y.lane_at ≡ (at_told (Some p) stepped z).lane_at
  lanes_are =
      ap (λ (o : Option Place). (at_told o (with_app_step (is_told_new e.state.session t.session) m e.state.dial (sent_before e.state.session) t.session (ups_to d outs.frames)) z).lane_at) told
      ∙ ap (λ (b : Bool). (at_told (Some p) (with_app_step b m e.state.dial (sent_before e.state.session) t.session (ups_to d outs.frames)) z).lane_at) is_new
      ∙ ap (λ (o : Option Session). (at_told (Some p) (with_app_step true m e.state.dial (sent_before e.state.session) o (ups_to d outs.frames)) z).lane_at) now

  -- a relation to each lane as it was
  each_lane : (R : Lane → Lane → Type 0) → ((a : Lane) → R a a) → (s k : ℕ) → (s ≡ p.session → k ≡ p.order → R (x.lane_at s k) (stepped (x.lane_at s k)))
      → R (x.lane_at s k) (y.lane_at s k)
  each_lane R keeps s k here =
      subst (λ (f : ℕ → ℕ → Lane). R (x.lane_at s k) (f s k)) (sym lanes_are) (told_lane R keeps (Some p) stepped z s k here)

  no_down : lane.down ≡ []
  no_down = (counts p.session p.order).no_down unlearnt

  no_up_taken : lane.up_taken ≡ 0
  no_up_taken = omega (arith, (counts p.session p.order).up_taken, ap (λ (ms : List Up). length ms) ((counts p.session p.order).no_up unlearnt))

  own_begins : LaneBegins (given_since 0 r.window) (stepped lane)
  own_begins = record { up = refl; down = no_down; taken = ap (take lane.down_taken) no_down ∙ none_taken lane.down_taken }

  own_served : LaneServed lane (stepped lane)
  own_served = record {
    ups = ap (λ (n : ℕ). take n (stepped lane).up) no_up_taken ∙ sym (ap (λ (n : ℕ). take n lane.up) no_up_taken);
    down = refl;
  }

  served_kept : (s k : ℕ) → LaneServed (x.lane_at s k) (y.lane_at s k)
  served_kept s k =
      each_lane LaneServed served_same s k
      (λ one here.
      subst (λ (n : ℕ). LaneServed (x.lane_at n k) (stepped (x.lane_at n k))) (sym one)
      (subst (λ (j : ℕ). LaneServed (x.lane_at p.session j) (stepped (x.lane_at p.session j))) (sym here) own_served))

  lane_kept : (s k : ℕ) → LaneAsks (x.lane_at s k) → LaneAsks (y.lane_at s k)
  lane_kept s k =
      each_lane (λ a b. LaneAsks a → LaneAsks b) (λ a is. is) s k
      (λ one here is.
      subst (λ (n : ℕ). LaneAsks (stepped (x.lane_at n k))) (sym one)
      (subst (λ (j : ℕ). LaneAsks (stepped (x.lane_at p.session j))) (sym here) (begins (stepped lane) own_begins).0))

  own_is : y.lane_at r.number p.order ≡ stepped lane
  own_is = ap (λ (n : ℕ). y.lane_at n p.order) number ∙ ap (λ (f : ℕ → ℕ → Lane). f p.session p.order) lanes_are ∙ own_lane p stepped z

  own_kept : IfSome moved.state.session (AsksOf y moved)
  own_kept =
      subst (λ (f : AppEnd). IfSome f.session (λ s. IfSome moved.told (λ q. EndAsks (y.lane_at s.number q.order) f.ticket s.asks))) (sym state)
      (subst (λ (o : Option Session). IfSome o (λ s. IfSome moved.told (λ q. EndAsks (y.lane_at s.number q.order) t.ticket s.asks))) (sym now)
      (subst (λ (o : Option Place). IfSome o (λ q. EndAsks (y.lane_at r.number q.order) t.ticket r.asks)) (sym told)
      (subst (λ (b : Lane). EndAsks b t.ticket r.asks) (sym own_is) (begins (stepped lane) own_begins).1)))

  -- The requests are as they have to be there.
  pub asks_at_news : AsksHold y dead
  asks_at_news = asks_at_end x y dead app moved asks (record {
    beside = site_beside app d outs e.state t m moved x;
    ends = site_ends app d outs e.state t m moved x;
    served = served_kept;
    lanes = λ s k. lane_kept s k (asks.lanes s k);
    others = λ a other lives q has k. each_lane (λ b c. c ≡ b) (λ b. refl) q.number k (λ one here. absurd (apart a other lives q has one));
    own = λ lives. own_kept;
  })
