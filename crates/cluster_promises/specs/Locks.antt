-- Locks at both ends of each pair against the holds of the plain server.
use Rattle.std.specs.Prelude.{◌≡◌, ◌<◌, ◌≤◌, ⊤, ℕ, Bool, true, false, ◌==◌, ◌&&◌, ◌+◌, not, if◌then◌else◌, List, [], ◌∷◌, ◌++◌, drop, length, Option, Some, None, is_some, nat_eq, IfSome}
use Rattle.std.specs.Cmp.Lexicographic.{pointwise}
use Rattle.std.specs.List.{find, list_any, flat_map, AllByRecursion}
use Rattle.plain_orders.specs.declared.mode.Mode.{Mode}
use Rattle.plain_orders.specs.Entries.{live}
use Rattle.plain_orders.specs.Ordered.{KeyMay}
use Rattle.plain_runs.specs.Plain.{Plain, Server, Hold}
use Rattle.plain_runs.specs.Holds.{binds, is_asked, is_kept, is_lock as is_hold_lock, is_mode, is_of, is_sent, is_sent_at}
use Rattle.recovery_round.specs.RoundWords.{Round}
use Rattle.lock_table.specs.Counts.{held_count}
use Rattle.lock_table.specs.LockWords.{Locks, is_lane, is_ticket}
use Rattle.lock_table.specs.declared.rows.Hold.{Hold as Row}
use Rattle.lock_table.specs.declared.rows.Request.{Request}
use Rattle.ecp_messages.specs.declared.up.Up.{Up}
use Rattle.ecp_messages.specs.declared.up.Up.TheVariants.{Ask, Claim}
use Rattle.ecp_messages.specs.declared.down.Down.{Down}
use Rattle.ecp_messages.specs.declared.down.Down.TheVariants.{Grant}
use Rattle.data_rules.specs.DataState.{DataState}
use Rattle.data_rules.specs.declared.rows.Reply.{Reply}
use Rattle.data_rules.specs.declared.rows.Says.{Says}
use Rattle.data_rules.specs.declared.rows.Says.TheVariants.{GrantOf}
use Rattle.app_rules.specs.declared.session_parts.Asked.{Asked}
use Rattle.app_rules.specs.declared.session_parts.Held.{Held}
use Rattle.app_rules.specs.AppState.{Session}
use Rattle.cluster_runs.specs.Locks.{Lock, is_lock}
use Rattle.cluster_runs.specs.Machine.{Machine, Site, End}
use Rattle.cluster_runs.specs.Sent.{Lane, ups_taken, downs_taken}
use Rattle.cluster_runs.specs.Written.{count_of}
use Rattle.cluster_invariant.specs.Asks.{cancels_ticket}
use Rattle.cluster_invariant.specs.Words.{is_begun, stays_at}
use Rattle.cluster_promises.specs.LockMarks.{MarksAgree, cancels_once, is_pending}
use Rattle.cluster_promises.specs.Forced.{AllForced, is_released}

-- the table of a data end

-- the hold is in force, of this job's lock in the session
abbrev pub is_forced : ℕ → Lock → Hold → Bool
is_forced session l h = binds h && (is_of session l.job h && is_hold_lock l.mode l.key h)

-- the hold is in force, was answered and wasn't given up
abbrev pub is_claimed : ℕ → Lock → Hold → Bool
is_claimed session l h = h.in_force && is_kept session l.job l.mode l.key h

-- what the table has of a job's lock in a session
abbrev pub table_count : ℕ → Lock → List Row → ℕ
table_count session l rows = held_count (record { session = session; job = l.job }) l.key l.mode rows

-- the number that a message claims of a lock
abbrev pub claim_count : Lock → Up → ℕ
claim_count l (Claim job mode number at key) = if is_lock l job mode key then number else 0
claim_count l m = 0

-- the number that messages claim of it
abbrev pub claims_in : Lock → List Up → ℕ
claims_in l [] = 0
claims_in l (m ∷ ms) = claim_count l m + claims_in l ms

-- Out of a round the table has what is in force, of closed sessions too until they are released, and what is on its way frees what was
-- given up.
pub record TableIs (v : Server) (lane_of : ℕ → Lane) (n : DataState) : Type 0 where
  pub counted : (session : ℕ) (l : Lock) → table_count session l n.locks.holds ≡ count_of (is_forced session l) v.holds
  pub marks : (session : ℕ) → live n.order session ≡ true → MarksAgree v (lane_of session) n.locks.requests session

-- In a round no request is there, and the table has the claims that were taken, but for sessions that are released; what a session claims
-- in all is what is in force, was answered and wasn't given up.
pub record TableComesBack (v : Server) (lane_of : ℕ → Lane) (n : DataState) : Type 0 where
  pub requests : n.locks.requests ≡ []
  pub released : (session : ℕ) (l : Lock) → is_released v session ≡ true → table_count session l n.locks.holds ≡ 0
  pub taken : (session : ℕ) (l : Lock) → is_released v session ≡ false
      → table_count session l n.locks.holds ≡ claims_in l (ups_taken (lane_of session))
  pub claimed : (session : ℕ) (l : Lock) → is_released v session ≡ false → is_begun (lane_of session) ≡ true
      → claims_in l (lane_of session).up ≡ count_of (is_claimed session l) v.holds

-- by whether a round is on
abbrev pub TableBy : Option Round → Server → (ℕ → Lane) → DataState → Type 0
TableBy None v lane_of n = TableIs v lane_of n
TableBy (Some r) v lane_of n = TableComesBack v lane_of n

-- no two rows are of one lock of one holder
abbrev pub has_one_row : List Row → Bool
has_one_row [] = true
has_one_row (h ∷ hs) = not (list_any (is_lane h.who h.name h.mode) hs) && has_one_row hs

-- the request that an Ask makes
abbrev pub request_of : ℕ → ℕ → ℕ → Mode → List ℕ → Request
request_of session ticket job mode key = record { who = record { session = session; job = job }; ticket = ticket; name = key; mode = mode }

-- an Ask that was taken and whose Cancel wasn't waits, or was granted and may be given back
abbrev pub IsKnown : Locks → ℕ → List Up → Up → Type 0
IsKnown l session taken (Ask ticket job mode key) =
    list_any (cancels_ticket ticket) taken ≡ false
    → find (is_ticket session ticket) (l.requests ++ l.granted) ≡ Some (request_of session ticket job mode key)
IsKnown l session taken m = ⊤

-- a Grant that waits says the length at which it was granted, which is within the order
abbrev pub GrantWaits : ℕ → ℕ → Says → Type 0
GrantWaits n at (GrantOf session ticket number) = (number ≡ at) × (number ≤ n)
GrantWaits n at says = ⊤

-- the locks of a running node
pub record NodeLocks (v : Server) (lane_of : ℕ → Lane) (n : DataState) : Type 0 where
  pub table : TableBy n.round v lane_of n
  pub positive : AllByRecursion (λ h. 0 < h.count) n.locks.holds
  pub one_each : has_one_row n.locks.holds ≡ true
  pub known : (session : ℕ) → live n.order session ≡ true
      → AllByRecursion (IsKnown n.locks session (ups_taken (lane_of session))) (ups_taken (lane_of session))
  pub grants : AllByRecursion (λ r. GrantWaits (length n.order) r.at r.says) n.replies

-- the lanes of a session

-- a Grant is of a length that its message has reached, and that stays
abbrev pub GrantStays : ℕ → Down → Type 0
GrantStays stays (Grant front ticket at) = (at ≤ front.n) × (at ≤ stays)
GrantStays stays m = ⊤

-- an Ask is for a name that may be locked, and a claim is of one hold at least
abbrev pub LockMay : Up → Type 0
LockMay (Ask ticket job mode key) = KeyMay key
LockMay (Claim job mode number at key) = 0 < number
LockMay m = ⊤

-- in one order
pub record LaneLocks (stays : ℕ) (lane : Lane) : Type 0 where
  pub may : AllByRecursion LockMay lane.up
  pub once : cancels_once lane.up ≡ true
  pub grants : AllByRecursion (GrantStays stays) lane.down

-- an application end

-- what an end holds of a job's lock
abbrev pub is_held_lock : Lock → Held → Bool
is_held_lock l h = is_lock l h.job h.mode h.key

-- one row
abbrev pub row_count : Lock → Held → ℕ
row_count l h = if is_held_lock l h then h.count else 0

-- all rows
abbrev pub held_in : Lock → List Held → ℕ
held_in l [] = 0
held_in l (h ∷ hs) = row_count l h + held_in l hs

-- the lock of a row
abbrev pub lock_of : Held → Lock
lock_of h = record { job = h.job; mode = h.mode; key = h.key }

-- no two rows are of one lock
abbrev pub has_one_held : List Held → Bool
has_one_held [] = true
has_one_held (h ∷ hs) = not (list_any (is_held_lock (lock_of h)) hs) && has_one_held hs

-- What an end holds is what was answered and not given up, in each state.
pub record HeldIs (v : Server) (session : ℕ) (held : List Held) : Type 0 where
  pub counted : (l : Lock) → held_in l held ≡ count_of (is_kept session l.job l.mode l.key) v.holds
  pub positive : AllByRecursion (λ h. 0 < h.count) held
  pub one_each : has_one_held held ≡ true

-- the numbers of the Grants of a ticket: of a message
abbrev pub number_in : ℕ → Down → List ℕ
number_in t (Grant front ticket at) = if ticket == t then at ∷ [] else []
number_in t m = []

-- of a reply that waits
abbrev pub number_says : ℕ → ℕ → Says → List ℕ
number_says s t (GrantOf session ticket number) = if session == s && ticket == t then number ∷ [] else []
number_says s t says = []

-- likewise
abbrev pub number_waits : ℕ → ℕ → Reply → List ℕ
number_waits s t r = number_says s t r.says

-- of one that was taken
abbrev pub number_held : Option ℕ → List ℕ
number_held None = []
number_held (Some at) = at ∷ []

-- those that wait at a running node of the order that the session is told of
abbrev pub numbers_waiting : Option DataState → Bool → ℕ → ℕ → List ℕ
numbers_waiting None is_home session t = []
numbers_waiting (Some n) is_home session t = if is_home then flat_map (number_waits session t) n.replies else []

-- all of a ticket that its job isn't given
abbrev pub numbers_of : Option DataState → Bool → Lane → ℕ → Asked → List ℕ
numbers_of node is_home lane session a =
    number_held a.at ++ flat_map (number_in a.ticket) (drop lane.down_taken lane.down) ++ numbers_waiting node is_home session a.ticket

-- a sent hold of the request, with this number
abbrev pub is_sent_for : ℕ → Asked → ℕ → Hold → Bool
is_sent_for session a at h = is_sent_at session a.job at h && is_hold_lock a.mode a.key h

-- a sent hold of a job
abbrev pub is_sent_to : ℕ → ℕ → Hold → Bool
is_sent_to session job h = is_sent h && is_of session job h

-- a message is the Ask of a request
abbrev pub is_ask_for : Asked → Up → Bool
is_ask_for a (Ask ticket job mode key) = ticket == a.ticket && (job == a.job && (is_mode mode a.mode && pointwise nat_eq key a.key))
is_ask_for a m = false

-- a message grants a ticket with this number
abbrev pub grants_at : ℕ → ℕ → Down → Bool
grants_at t number (Grant front ticket at) = ticket == t && at == number
grants_at t number m = false

-- A request that an end waits for: its Ask is as it was put and wasn't given up, and a Grant of it, of which there is at most one, is of a
-- hold that was sent.
pub record AskGranted (v : Server) (node : Option DataState) (is_home : Bool) (lane : Lane) (session : ℕ) (a : Asked) : Type 0 where
  pub put : is_some a.at ≡ true → a.put ≡ true
  pub same : a.put ≡ true → list_any (is_ask_for a) lane.up ≡ true
  pub wanted : a.put ≡ true → list_any (cancels_ticket a.ticket) lane.up ≡ false
  pub taken : IfSome a.at (λ at. list_any (grants_at a.ticket at) (downs_taken lane) ≡ true)
  pub one : length (numbers_of node is_home lane session a) ≤ 1
  pub sent : AllByRecursion (λ at. list_any (is_sent_for session a at) v.holds ≡ true) (numbers_of node is_home lane session a)

-- a job waits for a request that was put
abbrev pub is_put_by : ℕ → Asked → Bool
is_put_by job a = a.put && a.job == job

-- A request that was put has no hold yet, or a hold of it was sent.
pub record AskStands (v : Server) (lane : Lane) (requests : List Request) (session : ℕ) (a : Asked) : Type 0 where
  pub waits : a.put ≡ true → is_pending lane requests session a.ticket ≡ true → list_any (is_sent_to session a.job) v.holds ≡ false
  pub granted : a.put ≡ true → is_pending lane requests session a.ticket ≡ false → list_any (is_asked session a.job a.mode a.key) v.holds ≡ true

-- At a running node out of a round, to a live session that is told of its order, a hold is sent only for a request that was put.
pub record HomeIs (v : Server) (lane : Lane) (s : Session) (n : DataState) : Type 0 where
  pub asks : AllByRecursion (AskStands v lane n.locks.requests s.number) s.asks
  pub idle : (job : ℕ) → list_any (is_put_by job) s.asks ≡ false → list_any (is_sent_to s.number job) v.holds ≡ false

-- it is such a one
abbrev pub HomeIf : Server → Lane → Session → Bool → DataState → Type 0
HomeIf v lane s is_home n = is_home ≡ true → n.round ≡ None → live n.order s.number ≡ true → HomeIs v lane s n

-- The locks of an end, by the lane of its session in the order that it is told of, and by whether that is the current one.
pub record EndLocks (v : Server) (node : Option DataState) (is_home : Bool) (lane : Lane) (s : Session) : Type 0 where
  pub held : HeldIs v s.number s.held
  pub keys : AllByRecursion (λ a. KeyMay a.key) s.asks
  pub one_sent : (job : ℕ) → count_of (is_sent_to s.number job) v.holds ≤ 1
  pub grants : AllByRecursion (AskGranted v node is_home lane s.number) s.asks
  pub home : IfSome node (HomeIf v lane s is_home)

-- of an end that has a session
abbrev pub LocksOf : Server → Site → End → Session → Type 0
LocksOf v x e s = IfSome e.told (λ p. EndLocks v x.node (p.order == x.past) (x.lane_at s.number p.order) s)

-- the session of a hold was met
abbrev pub IsOfMet : Server → Hold → Type 0
IsOfMet v h = is_some (v.session_at h.session) ≡ true

-- the locks of one data server
pub record SiteLocks (v : Server) (x : Site) (is_dead : ℕ → Bool) : Type 0 where
  pub forced : AllForced v
  pub met : AllByRecursion (IsOfMet v) v.holds
  pub lanes : (session k : ℕ) → LaneLocks (stays_at v k) (x.lane_at session k)
  pub node : IfSome x.node (NodeLocks v (λ session. x.lane_at session x.past))
  pub apps : (app : ℕ) → is_dead app ≡ false → IfSome (x.end_at app).state.session (LocksOf v x (x.end_at app))

-- The locks of all data servers, against a plain state.
abbrev pub LocksHold : Plain → Machine → Type 0
LocksHold p m = (d : ℕ) → SiteLocks (p.server_at d) (m.site_at d) m.is_dead_at
