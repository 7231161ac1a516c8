-- The session of a living application end, in the order that it is told of.
use Rattle.std.proofs.Common.{◌≡◌, ◌≤◌, ℕ, Bool, true, false, Option, Some, is_some, subst}
use Rattle.std.specs.Prelude.{IfSome}
use Rattle.plain_runs.specs.Plain.{Server, current}
use Rattle.app_rules.specs.AppState.{Session}
use Rattle.cluster_runs.specs.Sent.{Place}
use Rattle.cluster_runs.specs.Machine.{Site, End}
use Rattle.cluster_invariant.specs.Ends.{EndsAre, ToldPlace}
use Rattle.cluster_invariant.specs.Link.{LinkHolds, WindowIs, WithSession}
use Rattle.cluster_invariant.proofs.Small.{of_some}

-- Its window is as its lane is, and it learnt of that order.
pub record OwnPlace (v : Server) (x : Site) (app : ℕ) (s : Session) : Type 0 where
  pub k : ℕ
  pub told : (x.end_at app).told ≡ Some (record { session = s.number; order = k })
  pub there : k ≤ current v
  pub window : WindowIs s.window (x.lane_at s.number k).up (x.lane_at s.number k).up_taken (x.lane_at s.number k).down_taken
  pub begun : is_some (x.lane_at s.number k).began ≡ true

pub own_place : (v : Server) (x : Site) (dead : ℕ → Bool) (app : ℕ) → dead app ≡ false → LinkHolds v x dead → EndsAre v x dead → (s : Session)
    → (x.end_at app).state.session ≡ Some s → OwnPlace v x app s
own_place v x dead app alive link are s has = go (of_some (λ (q : Session). ToldPlace v app q e.told) e.state.session s has (are.told app alive).place)
  where
    e : End
    e = x.end_at app

    go : ToldPlace v app s e.told → OwnPlace v x app s
    go p = record {
      k = p.order;
      told = p.its;
      there = p.there;
      window =
          of_some (λ (z : Place). WindowIs s.window (x.lane_at s.number z.order).up (x.lane_at s.number z.order).up_taken (x.lane_at s.number z.order).down_taken) e.told
          (record { session = s.number; order = p.order }) p.its
          (of_some
          (λ (q : Session).
          IfSome e.told (λ z. WindowIs q.window (x.lane_at q.number z.order).up (x.lane_at q.number z.order).up_taken (x.lane_at q.number z.order).down_taken))
          e.state.session s has (link.apps app alive).window);
      begun =
          of_some (λ (z : Place). is_some (x.lane_at s.number z.order).began ≡ true) e.told (record { session = s.number; order = p.order }) p.its
          (of_some (λ (q : Session). IfSome e.told (λ z. is_some (x.lane_at q.number z.order).began ≡ true)) e.state.session s has (link.apps app alive).begun);
    }

-- What is so of the session and the order.
pub at_place : (P : Session → ℕ → Type 0) (v : Server) (x : Site) (app : ℕ) (s : Session) → (x.end_at app).state.session ≡ Some s → (o : OwnPlace v x app s)
    → WithSession (x.end_at app).state.session (x.end_at app).told P → P s o.k
at_place P v x app s has o is =
    subst (λ (p : Option Place). WithSession (Some s) p P) o.told (subst (λ (q : Option Session). WithSession q (x.end_at app).told P) has is)
