-- Requests for locks at one data server, as a step of an application server changes its end and the lanes of its session.
use Rattle.std.proofs.Common.{◌≡◌, ◌≢◌, ℕ, Bool, false, Option, Some, None, refl, sym, ◌∙◌, ap, subst}
use Rattle.std.specs.Prelude.{IfSome}
use Rattle.std.specs.List.{list_any}
use Rattle.plain_runs.specs.Plain.{put}
use Rattle.lock_table.specs.declared.rows.Request.{Request}
use Rattle.app_rules.specs.AppState.{Session}
use Rattle.data_rules.specs.DataState.{DataState}
use Rattle.cluster_runs.specs.Machine.{Site, End}
use Rattle.cluster_runs.specs.Sent.{Lane, Place, ups_taken}
use Rattle.cluster_invariant.specs.Asks.{AsksHold, AsksOf, EndAsks, LaneAsks, NodeAsks, RequestIs, asks_it, asks_ticket, cancels_ticket, grants_ticket}
use Rattle.cluster_invariant.proofs.AllLists.{all_follow}
use Rattle.cluster_invariant.proofs.Small.{at_places, some_kept}
use Rattle.cluster_steps.proofs.AppSites.{SameBeside}
use Rattle.asks_kept.proofs.GrantKinds.{all_replied, replies_asked}

-- A lane of which the data end took and put as much.
pub record LaneServed (a b : Lane) : Type 0 where
  pub ups : ups_taken b ≡ ups_taken a
  pub down : b.down ≡ a.down

pub served_same : (a : Lane) → LaneServed a a
served_same a = record { ups = refl; down = refl }

-- A step at this data server: its own end, with its requests, and the lanes.
pub record EndStep (x y : Site) (dead : ℕ → Bool) (app : ℕ) (f : End) : Type 0 where
  pub beside : SameBeside x y
  pub ends : y.end_at ≡ put x.end_at app f
  pub served : (s k : ℕ) → LaneServed (x.lane_at s k) (y.lane_at s k)
  pub lanes : (s k : ℕ) → LaneAsks (y.lane_at s k)
  pub others : (a : ℕ) → a ≢ app → dead a ≡ false → (q : Session) → (x.end_at a).state.session ≡ Some q → (k : ℕ) → y.lane_at q.number k ≡ x.lane_at q.number k
  pub own : dead app ≡ false → IfSome f.state.session (AsksOf y f)

request_served : (a b : Lane) (n : DataState) (r : Request) → LaneServed a b → RequestIs a n r → RequestIs b n r
request_served a b n r served is = record {
  asked = ap (list_any (asks_it r)) served.ups ∙ is.asked;
  wanted = ap (list_any (cancels_ticket r.ticket)) served.ups ∙ is.wanted;
  ungranted = ap (list_any (grants_ticket r.ticket)) served.down ∙ is.ungranted;
  unanswered = is.unanswered;
}

-- a running node whose lanes are so
node_served : (f g : ℕ → Lane) (n : DataState) → ((s : ℕ) → LaneServed (f s) (g s)) → NodeAsks f n → NodeAsks g n
node_served f g n served is = record {
  one_each = is.one_each;
  requests =
      all_follow (λ (r : Request). RequestIs (f r.who.session) n r) (λ (r : Request). RequestIs (g r.who.session) n r)
      (λ r here. request_served (f r.who.session) (g r.who.session) n r (served r.who.session) here) n.locks.requests is.requests;
  replies = all_replied g n.replies (λ s k here. ap (list_any (asks_ticket k)) (served s).ups ∙ replies_asked f n.replies is.replies s k here);
}

module _ (x y : Site) (dead : ℕ → Bool) (app : ℕ) (f : End) (h : AsksHold x dead) (step : EndStep x y dead app f) where
  -- an end whose session's lanes are as they were
  other_same : (e : End) (o : Option Session) → IfSome o (λ q. (k : ℕ) → y.lane_at q.number k ≡ x.lane_at q.number k) → IfSome o (AsksOf x e)
      → IfSome o (AsksOf y e)
  other_same e None lanes is = tt
  other_same e (Some q) lanes is =
      some_kept (λ (p : Place). EndAsks (x.lane_at q.number p.order) e.state.ticket q.asks) (λ (p : Place). EndAsks (y.lane_at q.number p.order) e.state.ticket q.asks)
      (λ p here. subst (λ (a : Lane). EndAsks a e.state.ticket q.asks) (sym (lanes p.order)) here) e.told is

  lanes_of : (a : ℕ) → a ≢ app → dead a ≡ false → IfSome (x.end_at a).state.session (λ q. (k : ℕ) → y.lane_at q.number k ≡ x.lane_at q.number k)
  lanes_of a other alive = go (x.end_at a).state.session refl
    where
      go : (o : Option Session) → (x.end_at a).state.session ≡ o → IfSome o (λ q. (k : ℕ) → y.lane_at q.number k ≡ x.lane_at q.number k)
      go None is = tt
      go (Some q) is = step.others a other alive q is

  -- The requests are as they have to be.
  pub asks_at_end : AsksHold y dead
  asks_at_end = record {
    lanes = step.lanes;
    node =
        subst (λ (o : Option DataState). IfSome o (NodeAsks (λ s. y.lane_at s y.past))) (sym step.beside.node)
        (some_kept (NodeAsks (λ s. x.lane_at s x.past)) (NodeAsks (λ s. y.lane_at s y.past))
        (λ n is.
        subst (λ (k : ℕ). NodeAsks (λ s. y.lane_at s k) n) (sym step.beside.past)
        (node_served (λ s. x.lane_at s x.past) (λ s. y.lane_at s x.past) n (λ s. step.served s x.past) is)) x.node h.node);
    apps =
        subst (λ (g : ℕ → End). (a : ℕ) → dead a ≡ false → IfSome (g a).state.session (AsksOf y (g a))) (sym step.ends)
        (at_places (λ a e. dead a ≡ false → IfSome e.state.session (AsksOf y e)) x.end_at app f step.own
        (λ a other alive. other_same (x.end_at a) (x.end_at a).state.session (lanes_of a other alive) (h.apps a alive)));
  }
