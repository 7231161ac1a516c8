-- The data end of a running node stays where its node does, and of the plain server what it is compared with.
use Rattle.std.proofs.Common.{◌≡◌, ℕ, not, List, [], ◌∷◌, Option, Some, None, sym, ◌∙◌, ap}
use Rattle.std.specs.Prelude.{IfSome}
use Rattle.std.specs.List.{AllByRecursion, filter, list_any}
use Rattle.plain_orders.specs.Sessions.{live_sessions}
use Rattle.plain_runs.specs.Plain.{Server}
use Rattle.ecp_messages.specs.declared.up.Up.{Up}
use Rattle.link_states.specs.declared.data_link.DataLink.{DataLink}
use Rattle.link_states.specs.declared.data_link.DataLink.TheVariants as server
use Rattle.recovery_round.specs.RoundWords.{Round}
use Rattle.data_rules.specs.DataState.{DataState}
use Rattle.data_rules.specs.declared.rows.Caller.{Caller}
use Rattle.data_rules.specs.Conns.{link_of}
use Rattle.cluster_runs.specs.Machine.{Site}
use Rattle.cluster_runs.specs.Sent.{ups_taken}
use Rattle.cluster_invariant.specs.Dials.{LinkedTo}
use Rattle.data_pieces.proofs.AwaitedSessions.{same_filter}
use Rattle.cluster_invariant.specs.Ends.{CallerIs, HelloAlone, LinkIs, NodeEnds, RoundIs, is_done, is_undone}

-- what of the plain server it is compared with
pub record SameBroke (v w : Server) : Type 0 where
  pub ends : w.end_at ≡ v.end_at
  pub due : w.due ≡ v.due

-- what of the site it rests on: what was taken upwards in the current order, and Hellos alone on their connections
pub record SameCalls (x y : Site) : Type 0 where
  pub taken : (session : ℕ) → ups_taken (y.lane_at session y.past) ≡ ups_taken (x.lane_at session x.past)
  pub alone : (conn app : ℕ) → LinkedTo x conn app HelloAlone → LinkedTo y conn app HelloAlone

link_beside : (v w : Server) (n : DataState) (app : ℕ) (link : DataLink) → SameBroke v w → LinkIs v n app link → LinkIs w n app link
link_beside v w n app server.Free s h = h
link_beside v w n app server.Normal s h = h
link_beside v w n app (server.Trouble broke) s h = record { out_of_round = h.out_of_round; apart = h.apart; plain = ap (λ (f : ℕ → Option ℕ). f app) s.ends ∙ h.plain }
link_beside v w n app (server.Recovering due) s h = h

pub round_beside : (v w : Server) (x y : Site) (n : DataState) → SameBroke v w → ((session : ℕ) → ups_taken (y.lane_at session y.past) ≡ ups_taken (x.lane_at session x.past))
    → RoundIs v n (λ session. x.lane_at session x.past) → RoundIs w n (λ session. y.lane_at session y.past)
round_beside v w x y n s taken h = record {
  due = h.due ∙ sym s.due;
  awaited = awaited n.round h.awaited;
  is_on = h.is_on;
  unbroken = unbroken n.round h.unbroken;
}
  where
    undone : (session : ℕ) → is_undone (λ k. y.lane_at k y.past) session ≡ is_undone (λ k. x.lane_at k x.past) session
    undone session = ap (λ (ms : List Up). not (list_any is_done ms)) (taken session)

    awaited : (r : Option Round) → IfSome r (λ r. r.awaited ≡ filter (is_undone (λ k. x.lane_at k x.past)) (live_sessions n.order)) → IfSome r (λ r. r.awaited ≡ filter (is_undone (λ k. y.lane_at k y.past)) (live_sessions n.order))
    awaited None h = tt
    awaited (Some r) h = h ∙ sym (same_filter (is_undone (λ k. x.lane_at k x.past)) (is_undone (λ k. y.lane_at k y.past)) undone (live_sessions n.order))

    unbroken : (r : Option Round) → IfSome r (λ r. (app : ℕ) → v.end_at app ≡ None) → IfSome r (λ r. (app : ℕ) → w.end_at app ≡ None)
    unbroken None h = tt
    unbroken (Some r) h = λ app. ap (λ (f : ℕ → Option ℕ). f app) s.ends ∙ h app

callers_each : (n : DataState) (x y : Site) → ((conn app : ℕ) → LinkedTo x conn app HelloAlone → LinkedTo y conn app HelloAlone) → (cs : List Caller) → AllByRecursion (CallerIs n x) cs → AllByRecursion (CallerIs n y) cs
callers_each n x y alone [] h = tt
callers_each n x y alone (c ∷ cs) h = (record { waits = h.0.waits; free = h.0.free; linked = alone c.conn c.app h.0.linked }, callers_each n x y alone cs h.1)

-- The data end.
pub node_ends_beside : (v w : Server) (x y : Site) (n : DataState) → SameBroke v w → SameCalls x y → NodeEnds v x n → NodeEnds w y n
node_ends_beside v w x y n s calls h = record {
  places = h.places;
  links = λ app low. link_beside v w n app (link_of n app) s (h.links app low);
  round = round_beside v w x y n s calls.taken h.round;
  callers = record {
    out_of_round = h.callers.out_of_round;
    one_each = h.callers.one_each;
    each = callers_each n x y calls.alone n.callers h.callers.each;
    all = h.callers.all;
  };
}

pub some_beside : (v w : Server) (x y : Site) (o : Option DataState) → SameBroke v w → SameCalls x y → IfSome o (NodeEnds v x) → IfSome o (NodeEnds w y)
some_beside v w x y None s calls h = tt
some_beside v w x y (Some n) s calls h = node_ends_beside v w x y n s calls h
