-- The requests that an application end waits for stay so while what was put upwards does, and no less was taken downwards.
use Rattle.std.proofs.Common.{◌≡◌, ◌≤◌, ℕ, Bool, true, false, List, Option, Some, None, refl, sym, ◌∙◌, ap, subst, arith}
use Rattle.std.specs.Prelude.{IfSome}
use Rattle.std.specs.List.{AllByRecursion, list_any}
use Rattle.app_rules.specs.declared.session_parts.Asked.{Asked}
use Rattle.app_rules.specs.AppState.{Session}
use Rattle.ecp_messages.specs.declared.down.Down.{Down}
use Rattle.ecp_messages.specs.declared.up.Up.{Up}
use Rattle.cluster_runs.specs.Sent.{Lane, Place, downs_taken}
use Rattle.cluster_runs.specs.Machine.{Site, End}
use Rattle.cluster_invariant.specs.Asks.{AskedIs, AsksOf, EndAsks, WaitsUntilOver, asks_for, cancels_ticket, grants_ticket, is_over}
use Rattle.cluster_invariant.proofs.AllLists.{all_follow}
use Rattle.asks_kept.proofs.AsksGo.{none_fewer}
use Rattle.asks_kept.proofs.Follows.{over_wider}
use Rattle.asks_kept.proofs.UpKinds.{Until, all_until, until_all}

-- A lane in which the same stands upwards, and of which no fewer Grants were taken.
pub record WiderAsks (a b : Lane) : Type 0 where
  pub up : b.up ≡ a.up
  pub taken : (t : ℕ) → list_any (grants_ticket t) (downs_taken a) ≡ true → list_any (grants_ticket t) (downs_taken b) ≡ true

pub same_asks : (a b : Lane) → b.up ≡ a.up → downs_taken b ≡ downs_taken a → WiderAsks a b
same_asks a b up taken = record { up = up; taken = λ t is. ap (list_any (grants_ticket t)) taken ∙ is }

-- what is over is so still
over_still : (a b : Lane) → WiderAsks a b → (t : ℕ) → is_over a.up (downs_taken a) t ≡ true → is_over b.up (downs_taken b) t ≡ true
over_still a b wider t is =
    over_wider a.up b.up (downs_taken a) (downs_taken b) t (λ found. ap (list_any (cancels_ticket t)) wider.up ∙ found) (wider.taken t) is

-- The requests of an end, with a newest ticket that is no less.
pub end_wider : (a b : Lane) (n k : ℕ) (asks : List Asked) → WiderAsks a b → n ≤ k → EndAsks a n asks → EndAsks b k asks
end_wider a b n k asks wider low h = record {
  one_each = h.one_each;
  rise = h.rise;
  each =
      all_follow (AskedIs a n) (AskedIs b k)
      (λ q is. record {
        below = omega (arith, is.below, low);
        put = λ put. ap (list_any (asks_for q.ticket q.job)) wider.up ∙ is.put put;
        granted = λ granted. wider.taken q.ticket (is.granted granted);
      }) asks h.each;
  all =
      until_all b k asks b.up
      (λ t j is.
      let u : Until a n asks t j = all_until a n asks a.up h.all t j (ap (list_any (asks_for t j)) (sym wider.up) ∙ is) in
      (omega (arith, u.0, low), λ kept. u.1 (none_fewer (is_over a.up (downs_taken a) t) (is_over b.up (downs_taken b) t) (over_still a b wider t) kept)));
}

-- the requests of an end that has a session, by what it is told of
abbrev pub AsksWith : Site → Option Place → ℕ → Option Session → Type 0
AsksWith x told newest o = IfSome o (λ s. IfSome told (λ p. EndAsks (x.lane_at s.number p.order) newest s.asks))

-- At a site whose lanes are so.
pub asks_with : (x y : Site) (told : Option Place) (n k : ℕ) (o : Option Session) → n ≤ k
    → IfSome o (λ s. IfSome told (λ p. WiderAsks (x.lane_at s.number p.order) (y.lane_at s.number p.order))) → AsksWith x told n o → AsksWith y told k o
asks_with x y told n k None low wider h = tt
asks_with x y None n k (Some s) low wider h = tt
asks_with x y (Some p) n k (Some s) low wider h = end_wider (x.lane_at s.number p.order) (y.lane_at s.number p.order) n k s.asks wider low h

-- as the invariant says it
pub asks_as : (x : Site) (e : End) (o : Option Session) → AsksWith x e.told e.state.ticket o → IfSome o (AsksOf x e)
asks_as x e None h = tt
asks_as x e (Some s) h = h

pub as_asks : (x : Site) (e : End) (o : Option Session) → IfSome o (AsksOf x e) → AsksWith x e.told e.state.ticket o
as_asks x e None h = tt
as_asks x e (Some s) h = h
