-- Requests for locks: which a session put in each order, which wait at a data server, and which an application end waits for.
use Rattle.std.specs.Prelude.{◌≡◌, ◌<◌, ◌≤◌, ⊤, ℕ, Bool, true, false, ◌==◌, ◌&&◌, ◌||◌, not, List, [], ◌∷◌, ◌++◌, is_some, nat_eq, IfSome}
use Rattle.std.specs.Cmp.Lexicographic.{pointwise}
use Rattle.std.specs.List.{list_any, AllByRecursion}
use Rattle.lock_table.specs.LockWords.{is_same_mode}
use Rattle.lock_table.specs.declared.rows.Request.{Request}
use Rattle.ecp_messages.specs.declared.up.Up.{Up}
use Rattle.ecp_messages.specs.declared.up.Up.TheVariants.{Ask, Cancel, Claim}
use Rattle.ecp_messages.specs.declared.down.Down.{Down}
use Rattle.ecp_messages.specs.declared.down.Down.TheVariants.{Grant}
use Rattle.data_rules.specs.DataState.{DataState}
use Rattle.data_rules.specs.declared.rows.Reply.{Reply}
use Rattle.data_rules.specs.declared.rows.Says.{Says}
use Rattle.data_rules.specs.declared.rows.Says.TheVariants.{GrantOf}
use Rattle.app_rules.specs.declared.session_parts.Asked.{Asked}
use Rattle.app_rules.specs.AppState.{Session}
use Rattle.cluster_runs.specs.Sent.{Lane, ups_taken, downs_taken}
use Rattle.cluster_runs.specs.Machine.{Site, End}
use Rattle.cluster_invariant.specs.Served.{has_one_ticket}

-- a message is an Ask
abbrev pub is_ask : Up → Bool
is_ask (Ask ticket job mode key) = true
is_ask m = false

-- it is the Ask of this ticket
abbrev pub asks_ticket : ℕ → Up → Bool
asks_ticket t (Ask ticket job mode key) = ticket == t
asks_ticket t m = false

-- it is the Ask of this ticket, for this job
abbrev pub asks_for : ℕ → ℕ → Up → Bool
asks_for t j (Ask ticket job mode key) = ticket == t && job == j
asks_for t j m = false

-- it gives up the request of this ticket
abbrev pub cancels_ticket : ℕ → Up → Bool
cancels_ticket t (Cancel ticket) = ticket == t
cancels_ticket t m = false

-- it grants the request of this ticket
abbrev pub grants_ticket : ℕ → Down → Bool
grants_ticket t (Grant front ticket at) = ticket == t
grants_ticket t m = false

-- a request is over: it was given up by one of these messages, or granted by one that was taken
abbrev pub is_over : List Up → List Down → ℕ → Bool
is_over ups taken ticket = list_any (cancels_ticket ticket) ups || list_any (grants_ticket ticket) taken

-- an Ask before another has a lesser ticket, and is over if it is of the same job
abbrev pub ComesBefore : List Up → List Down → ℕ → ℕ → Up → Type 0
ComesBefore earlier taken ticket job (Ask t j mode key) = (t < ticket) × (j ≡ job → is_over earlier taken t ≡ true)
ComesBefore earlier taken ticket job m = ⊤

-- What is known of a message by those before it: an Ask stands behind such as these, what is given up was asked for, and claims come before
-- all Asks.
abbrev pub FollowsAsks : List Up → List Down → Up → Type 0
FollowsAsks earlier taken (Ask ticket job mode key) = AllByRecursion (ComesBefore earlier taken ticket job) earlier
FollowsAsks earlier taken (Cancel ticket) = list_any (asks_ticket ticket) earlier ≡ true
FollowsAsks earlier taken (Claim job mode number at key) = list_any is_ask earlier ≡ false
FollowsAsks earlier taken m = ⊤

-- of each of some messages, behind others
abbrev pub AllFollow : List Up → List Down → List Up → Type 0
AllFollow earlier taken [] = ⊤
AllFollow earlier taken (m ∷ ms) = FollowsAsks earlier taken m × AllFollow (earlier ++ m ∷ []) taken ms

-- a Grant is of a request that was taken
abbrev pub GrantsAsked : List Up → Down → Type 0
GrantsAsked ups (Grant front ticket at) = list_any (asks_ticket ticket) ups ≡ true
GrantsAsked ups m = ⊤

-- The requests of a session in an order.
pub record LaneAsks (lane : Lane) : Type 0 where
  pub follow : AllFollow [] (downs_taken lane) lane.up
  pub grants : AllByRecursion (GrantsAsked (ups_taken lane)) lane.down

-- a message is the Ask of this request
abbrev pub asks_it : Request → Up → Bool
asks_it r (Ask ticket job mode key) = ticket == r.ticket && (job == r.who.job && (is_same_mode mode r.mode && pointwise nat_eq key r.name))
asks_it r m = false

-- the Grant of this ticket waits
abbrev pub grants_of : ℕ → ℕ → Says → Bool
grants_of s t (GrantOf session ticket number) = session == s && ticket == t
grants_of s t says = false

-- the same of a reply
abbrev pub is_grant_of : ℕ → ℕ → Reply → Bool
is_grant_of s t r = grants_of s t r.says

-- A request that waits at a running node: its Ask was taken, and it was neither given up nor granted.
pub record RequestIs (lane : Lane) (n : DataState) (r : Request) : Type 0 where
  pub asked : list_any (asks_it r) (ups_taken lane) ≡ true
  pub wanted : list_any (cancels_ticket r.ticket) (ups_taken lane) ≡ false
  pub ungranted : list_any (grants_ticket r.ticket) lane.down ≡ false
  pub unanswered : list_any (is_grant_of r.who.session r.ticket) n.replies ≡ false

-- a Grant that waits is of a request that was taken
abbrev pub WaitsAsked : (ℕ → Lane) → Says → Type 0
WaitsAsked lane_of (GrantOf session ticket number) = list_any (asks_ticket ticket) (ups_taken (lane_of session)) ≡ true
WaitsAsked lane_of says = ⊤

-- the requests at a running node, by the lanes of its order
pub record NodeAsks (lane_of : ℕ → Lane) (n : DataState) : Type 0 where
  pub one_each : has_one_ticket n.locks.requests ≡ true
  pub requests : AllByRecursion (λ r. RequestIs (lane_of r.who.session) n r) n.locks.requests
  pub replies : AllByRecursion (λ r. WaitsAsked lane_of r.says) n.replies

-- a request of this job
abbrev pub is_asked_by : ℕ → Asked → Bool
is_asked_by job a = a.job == job

-- no job waits for two locks
abbrev pub has_one_job : List Asked → Bool
has_one_job [] = true
has_one_job (a ∷ others) = not (list_any (is_asked_by a.job) others) && has_one_job others

-- the tickets of requests rise, from above a number on
abbrev pub TicketsRise : ℕ → List Asked → Type 0
TicketsRise t [] = ⊤
TicketsRise t (a ∷ others) = (t < a.ticket) × TicketsRise a.ticket others

-- A request that an end waits for: the newest ticket isn't below its own, its Ask was put if it says so, and a Grant that it has was taken.
pub record AskedIs (lane : Lane) (newest : ℕ) (a : Asked) : Type 0 where
  pub below : a.ticket ≤ newest
  pub put : a.put ≡ true → list_any (asks_for a.ticket a.job) lane.up ≡ true
  pub granted : is_some a.at ≡ true → list_any (grants_ticket a.ticket) (downs_taken lane) ≡ true

-- it is the one of this ticket and job, and was put
abbrev pub is_put_for : ℕ → ℕ → Asked → Bool
is_put_for ticket job a = a.put && (a.ticket == ticket && a.job == job)

-- an Ask that was put: the newest ticket isn't below its own, and the end waits for it until it is over
abbrev pub WaitsUntilOver : Lane → ℕ → List Asked → Up → Type 0
WaitsUntilOver lane newest asks (Ask ticket job mode key) =
    (ticket ≤ newest) × (is_over lane.up (downs_taken lane) ticket ≡ false → list_any (is_put_for ticket job) asks ≡ true)
WaitsUntilOver lane newest asks m = ⊤

-- the requests of an end, by the lane of its session in the order that it is told of
pub record EndAsks (lane : Lane) (newest : ℕ) (asks : List Asked) : Type 0 where
  pub one_each : has_one_job asks ≡ true
  pub rise : TicketsRise 0 asks
  pub each : AllByRecursion (AskedIs lane newest) asks
  pub all : AllByRecursion (WaitsUntilOver lane newest asks) lane.up

-- of an end that has a session
abbrev pub AsksOf : Site → End → Session → Type 0
AsksOf x e s = IfSome e.told (λ p. EndAsks (x.lane_at s.number p.order) e.state.ticket s.asks)

-- the requests at one data server
pub record AsksHold (x : Site) (is_dead : ℕ → Bool) : Type 0 where
  pub lanes : (session k : ℕ) → LaneAsks (x.lane_at session k)
  pub node : IfSome x.node (NodeAsks (λ session. x.lane_at session x.past))
  pub apps : (app : ℕ) → is_dead app ≡ false → IfSome (x.end_at app).state.session (AsksOf x (x.end_at app))
