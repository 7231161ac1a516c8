-- Of which sessions a table of locks has holds, requests and tickets, after each of its calls.
use Rattle.std.proofs.Common.{ℕ, ◌+◌, ◌-◌, Bool, true, false, cond, List, [], ◌∷◌, ◌++◌, filter}
use Rattle.std.specs.Prelude.{◌==◌}
use Rattle.std.specs.List.{AllByRecursion}
use Rattle.lock_table.specs.declared.rows.Hold.{Hold}
use Rattle.lock_table.specs.declared.rows.Request.{Request}
use Rattle.lock_table.specs.declared.rows.Who.{Who}
use Rattle.plain_orders.specs.declared.mode.Mode.{Mode}
use Rattle.lock_table.specs.LockWords.{Locks, Freed, is_lane, waits, raised, lowered, with_grant, pass, passed, asked, freed, without_request, without_ticket, without_grant, without_session, claimed, is_other_ticket, is_request_elsewhere, is_hold_elsewhere}
use Rattle.cluster_invariant.proofs.AllLists.{all_joined, all_filtered}

-- holds

-- the holds are of sessions of which this holds
abbrev pub HoldsOf : (ℕ → Type 0) → List Hold → Type 0
HoldsOf P hs = AllByRecursion (λ (h : Hold). P h.who.session) hs

-- likewise requests
abbrev pub RequestsOf : (ℕ → Type 0) → List Request → Type 0
RequestsOf P rs = AllByRecursion (λ (r : Request). P r.who.session) rs

pub raised_of : (P : ℕ → Type 0) (who : Who) (name : List ℕ) (mode : Mode) (more at : ℕ) (hs : List Hold) → P who.session → HoldsOf P hs
    → HoldsOf P (raised who name mode more at hs)
raised_of P who name mode more at [] is all = (is, tt)
raised_of P who name mode more at (h ∷ hs) is all = go (is_lane who name mode h) (raised_of P who name mode more at hs is all.1)
  where
    go : (b : Bool) → HoldsOf P (raised who name mode more at hs) → HoldsOf P (cond b (record h { count = h.count + more } ∷ hs) (h ∷ raised who name mode more at hs))
    go true rest = all
    go false rest = (all.0, rest)

pub lowered_of : (P : ℕ → Type 0) (who : Who) (name : List ℕ) (mode : Mode) (hs : List Hold) → HoldsOf P hs → HoldsOf P (lowered who name mode hs)
lowered_of P who name mode [] all = tt
lowered_of P who name mode (h ∷ hs) all = go (is_lane who name mode h) (h.count == 1) (lowered_of P who name mode hs all.1)
  where
    go : (b c : Bool) → HoldsOf P (lowered who name mode hs)
        → HoldsOf P (cond b (cond c hs (record h { count = h.count - 1 } ∷ hs)) (h ∷ lowered who name mode hs))
    go true true rest = all.1
    go true false rest = all
    go false c rest = (all.0, rest)

-- holds and tickets are of sessions of one kind, and requests of another, which are of the first too
pub record TableOf (P Q : ℕ → Type 0) (l : Locks) : Type 0 where
  pub holds : HoldsOf P l.holds
  pub requests : RequestsOf Q l.requests
  pub granted : RequestsOf P l.granted

-- what a call leaves and grants
pub record FreedOf (P Q : ℕ → Type 0) (f : Freed) : Type 0 where
  pub table : TableOf P Q f.locks
  pub grants : RequestsOf Q f.grants

module _ (P Q : ℕ → Type 0) (both : (s : ℕ) → Q s → P s) where
  pub pass_of : (l : Locks) (left grants rs : List Request) (at : ℕ) → HoldsOf P l.holds → RequestsOf P l.granted → RequestsOf Q left
      → RequestsOf Q grants → RequestsOf Q rs → FreedOf P Q (pass l left grants rs at)
  pass_of l left grants [] at holds granted lefts given rest =
      record { table = record { holds = holds; requests = lefts; granted = granted }; grants = given }
  pass_of l left grants (r ∷ rs) at holds granted lefts given rest =
      go (waits l.holds left r)
      (pass_of l (left ++ r ∷ []) grants rs at holds granted (all_joined (λ (q : Request). Q q.who.session) left (r ∷ []) lefts (rest.0, tt)) given rest.1)
      (pass_of (with_grant l r at) left (grants ++ r ∷ []) rs at (raised_of P r.who r.name r.mode 1 at l.holds (both r.who.session rest.0) holds)
      (all_joined (λ (q : Request). P q.who.session) l.granted (r ∷ []) granted (both r.who.session rest.0, tt)) lefts
      (all_joined (λ (q : Request). Q q.who.session) grants (r ∷ []) given (rest.0, tt)) rest.1)
    where
      go : (b : Bool) → FreedOf P Q (pass l (left ++ r ∷ []) grants rs at) → FreedOf P Q (pass (with_grant l r at) left (grants ++ r ∷ []) rs at)
          → FreedOf P Q (cond b (pass l (left ++ r ∷ []) grants rs at) (pass (with_grant l r at) left (grants ++ r ∷ []) rs at))
      go true a b = a
      go false a b = b

  pub passed_of : (l : Locks) (at : ℕ) → TableOf P Q l → FreedOf P Q (passed l at)
  passed_of l at t = pass_of l [] [] l.requests at t.holds t.granted tt tt t.requests

  pub asked_of : (l : Locks) (r : Request) (at : ℕ) → Q r.who.session → TableOf P Q l → FreedOf P Q (asked l r at)
  asked_of l r at is t = go (waits l.holds l.requests r)
    where
      go : (b : Bool) → FreedOf P Q (cond b (record { locks = record l { requests = l.requests ++ r ∷ [] }; grants = [] }) (record { locks = with_grant l r at; grants = r ∷ [] }))
      go true = record {
        table = record {
          holds = t.holds;
          requests = all_joined (λ (q : Request). Q q.who.session) l.requests (r ∷ []) t.requests (is, tt);
          granted = t.granted;
        };
        grants = tt;
      }
      go false = record {
        table = record {
          holds = raised_of P r.who r.name r.mode 1 at l.holds (both r.who.session is) t.holds;
          requests = t.requests;
          granted = all_joined (λ (q : Request). P q.who.session) l.granted (r ∷ []) t.granted (both r.who.session is, tt);
        };
        grants = (is, tt);
      }

  pub freed_of : (l : Locks) (who : Who) (name : List ℕ) (mode : Mode) (at : ℕ) → TableOf P Q l → FreedOf P Q (freed l who name mode at)
  freed_of l who name mode at t =
      passed_of (record l { holds = lowered who name mode l.holds }) at
      (record { holds = lowered_of P who name mode l.holds t.holds; requests = t.requests; granted = t.granted })

  pub request_of : (l : Locks) (session ticket at : ℕ) → TableOf P Q l → FreedOf P Q (without_request l session ticket at)
  request_of l session ticket at t =
      passed_of (record l { requests = filter (is_other_ticket session ticket) l.requests }) at
      (record { holds = t.holds; requests = all_filtered (λ (q : Request). Q q.who.session) (is_other_ticket session ticket) l.requests t.requests; granted = t.granted })

  pub ticket_of : (l : Locks) (session ticket : ℕ) → TableOf P Q l → TableOf P Q (without_ticket l session ticket)
  ticket_of l session ticket t =
      record { holds = t.holds; requests = t.requests; granted = all_filtered (λ (q : Request). P q.who.session) (is_other_ticket session ticket) l.granted t.granted }

  pub grant_of : (l : Locks) (r : Request) (at : ℕ) → TableOf P Q l → FreedOf P Q (without_grant l r at)
  grant_of l r at t = freed_of (without_ticket l r.who.session r.ticket) r.who r.name r.mode at (ticket_of l r.who.session r.ticket t)

  pub session_of : (l : Locks) (session at : ℕ) → TableOf P Q l → FreedOf P Q (without_session l session at)
  session_of l session at t =
      passed_of (record {
        holds = filter (is_hold_elsewhere session) l.holds;
        requests = filter (is_request_elsewhere session) l.requests;
        granted = filter (is_request_elsewhere session) l.granted;
      }) at
      (record {
        holds = all_filtered (λ (h : Hold). P h.who.session) (is_hold_elsewhere session) l.holds t.holds;
        requests = all_filtered (λ (q : Request). Q q.who.session) (is_request_elsewhere session) l.requests t.requests;
        granted = all_filtered (λ (q : Request). P q.who.session) (is_request_elsewhere session) l.granted t.granted;
      })

  pub claimed_of : (l : Locks) (who : Who) (name : List ℕ) (mode : Mode) (number at : ℕ) → P who.session → TableOf P Q l
      → TableOf P Q (claimed l who name mode number at)
  claimed_of l who name mode number at is t =
      record { holds = raised_of P who name mode number at l.holds is t.holds; requests = t.requests; granted = t.granted }
