-- What is read of a pair's session, and orders that stay.
use Rattle.std.proofs.Common.{◌≡◌, ℕ, ◌+◌, ◌<◌, ◌≤◌, List, [], ◌∷◌, ◌++◌, length, refl, ap, ◌∙◌, Bool, true, arith, if◌then◌else◌, eqb, Option, Some}
use Rattle.std.specs.Prelude.{is_some, unwrap_or}
use Rattle.std.proofs.Math.Seq.{get_or-append_seam}
use Rattle.std.proofs.lemmas.Bool.{eq-eqb}
use Rattle.plain_orders.specs.declared.act.Act.{Act}
use Rattle.plain_orders.specs.declared.entry.Entry.{Entry}
use Rattle.plain_orders.specs.declared.layout.Layout.{Layout}
use Rattle.plain_orders.specs.Entries.{last_epoch}
use Rattle.plain_runs.specs.Plain.{Plain, Server, Session, current, order_at, pair_session, session_in, told_order}
use Rattle.plain_runs.specs.EndRows.{begun_by, begun_from}
use Rattle.plain_runs.specs.JobRows.{has_session, pair_issued}
use Rattle.plain_runs.specs.Run.{RunFrom, after_all}
use Rattle.plain_runs.specs.Step.{MayCome, after}
use Rattle.plain_runs.proofs.Orders.{OrdersKept, facet}
use Rattle.plain_runs.proofs.OrderLaws.{row_steps, run_steps}

module _ (s : Server) (app n : ℕ) (pair : (s.pair_at app).session ≡ Some n) where
  -- the pair's session
  pub pair_is : pair_session s app ≡ n
  pair_is = ap (λ (o : Option ℕ). unwrap_or o 0) pair

  -- it has one
  pub has_is : has_session s app ≡ true
  has_is = ap (λ (o : Option ℕ). is_some o) pair

  module _ (m : Session) (met : s.session_at n ≡ Some m) where
    -- the session as it was met
    pub in_is : session_in s (pair_session s app) ≡ m
    in_is = ap (session_in s) pair_is ∙ ap (λ (o : Option Session). unwrap_or o (record { app = 0; issued = []; told = 0 })) met

    -- what was issued in it
    pub issued_is : pair_issued s app ≡ m.issued
    issued_is = ap (λ (x : Session). x.issued) in_is

    -- the order that it is told of
    pub told_is : told_order s app ≡ order_at s m.told
    told_is = ap (λ (x : Session). order_at s x.told) in_is

    -- the current one
    pub told_now : m.told ≡ current s → told_order s app ≡ s.order
    told_now same = told_is ∙ ap (order_at s) same ∙ get_or-append_seam s.past s.order [] []

begun_last : (n f k : ℕ) (os : List (List Entry)) (o : List Entry) → last_epoch o ≡ n → begun_from n f k (os ++ o ∷ []) ≡ k + length os
begun_last n f k [] o e = ap (λ (b : Bool). if b then k else f) (eq-eqb (last_epoch o) n e) ∙ omega arith
begun_last n f k (x ∷ os) o e = begun_last n (if eqb (last_epoch x) n then k else f) (k + 1) os o e ∙ omega arith

-- the current order is the last one that its Epoch began
pub begun_now : (s : Server) → begun_by s (last_epoch s.order) ≡ current s
begun_now s = begun_last (last_epoch s.order) 0 0 s.past s.order refl ∙ omega arith

-- an act leaves each order before the current one
pub past_stays : (l : Layout) (p : Plain) (a : Act) (d k : ℕ) → MayCome l p a → OrdersKept (facet (p.server_at d)) → k < current (p.server_at d) → order_at ((after l p a).server_at d) k ≡ order_at (p.server_at d) k
past_stays l p a d k may kept low = (row_steps l p a may d kept).1.past k low

-- and so does a run
pub past_stays_on : (l : Layout) (p : Plain) (acts : List Act) (d k : ℕ) → RunFrom l p acts → OrdersKept (facet (p.server_at d)) → k < current (p.server_at d) → order_at ((after_all l p acts).server_at d) k ≡ order_at (p.server_at d) k
past_stays_on l p acts d k run kept low = (run_steps l p acts run d kept).1.past k low

-- no act takes an order away
pub current_rises : (l : Layout) (p : Plain) (a : Act) (d : ℕ) → MayCome l p a → OrdersKept (facet (p.server_at d)) → current (p.server_at d) ≤ current ((after l p a).server_at d)
current_rises l p a d may kept = (row_steps l p a may d kept).1.more
