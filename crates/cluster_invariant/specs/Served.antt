-- What a running node has of its sessions is of those alone whose application servers learnt of the current order.
use Rattle.std.specs.Prelude.{◌≡◌, ⊤, ℕ, Bool, true, false, ◌&&◌, not, List, [], ◌∷◌, ◌++◌, drop, None}
use Rattle.std.specs.List.{list_any, AllByRecursion}
use Rattle.plain_orders.specs.Entries.{live}
use Rattle.lock_table.specs.LockWords.{waits, is_same_who, is_ticket}
use Rattle.lock_table.specs.declared.rows.Who.{Who}
use Rattle.lock_table.specs.declared.rows.Hold.{Hold}
use Rattle.lock_table.specs.declared.rows.Request.{Request}
use Rattle.data_rules.specs.DataState.{DataState}
use Rattle.data_rules.specs.Saving.{has_item_of}
use Rattle.cluster_runs.specs.Machine.{Site}
use Rattle.cluster_invariant.specs.Words.{is_begun}

-- the session's application server learnt of the current order
abbrev pub HasLearnt : Site → ℕ → Type 0
HasLearnt x session = is_begun (x.lane_at session x.past) ≡ true

-- and the session is live
pub record IsServed (x : Site) (n : DataState) (session : ℕ) : Type 0 where
  pub lives : live n.order session ≡ true
  pub learnt : HasLearnt x session

-- each of these requests waits, behind what is held and the requests before it
abbrev pub AllWait : List Hold → List Request → List Request → Type 0
AllWait holds earlier [] = ⊤
AllWait holds earlier (r ∷ rs) = (waits holds earlier r ≡ true) × AllWait holds (earlier ++ r ∷ []) rs

-- a request of this holder
abbrev pub is_of_who : Who → Request → Bool
is_of_who who r = is_same_who r.who who

-- no holder has two requests
abbrev pub has_one_each : List Request → Bool
has_one_each [] = true
has_one_each (r ∷ rs) = not (list_any (is_of_who r.who) rs) && has_one_each rs

-- no session has two requests with one ticket
abbrev pub has_one_ticket : List Request → Bool
has_one_ticket [] = true
has_one_ticket (r ∷ rs) = not (list_any (is_ticket r.who.session r.ticket) rs) && has_one_ticket rs

-- Notes and waiting requests are of live sessions that learnt of the current order; holds and granted tickets may be of one that was closed
-- since; and no session that didn't learn of it has an item that isn't synced.
pub record NodeServes (x : Site) (n : DataState) : Type 0 where
  pub noted : AllByRecursion (λ y. IsServed x n y.session) n.noted
  pub requests : AllByRecursion (λ r. IsServed x n r.who.session) n.locks.requests
  -- so that none is granted as another of its session goes
  pub wait : AllWait n.locks.holds [] n.locks.requests
  pub one_each : has_one_each n.locks.requests ≡ true
  pub granted : AllByRecursion (λ r. HasLearnt x r.who.session) n.locks.granted
  pub holds : AllByRecursion (λ h. HasLearnt x h.who.session) n.locks.holds
  pub items : (session : ℕ) → (x.lane_at session x.past).began ≡ None → has_item_of (drop n.synced n.order) session ≡ false
