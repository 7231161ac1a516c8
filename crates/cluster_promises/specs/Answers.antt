-- Answers: waiting at a data server, put down to a session, and held at an application end.
use Rattle.std.specs.Prelude.{◌≡◌, ◌≤◌, ◌+◌, ◌==◌, ⊤, ℕ, Bool, true, false, not, max, if◌then◌else◌, List, [], ◌∷◌, take, ℤ, Option, IfSome}
use Rattle.std.specs.List.{list_any, AllByRecursion}
use Rattle.plain_orders.specs.declared.entry.Entry.{Entry}
use Rattle.plain_orders.specs.Entries.{count}
use Rattle.plain_orders.specs.Own.{Issued}
use Rattle.plain_runs.specs.Plain.{Server, current, issued_in, order_at}
use Rattle.ecp_messages.specs.declared.about.About.{About}
use Rattle.ecp_messages.specs.declared.about.About.TheVariants as about
use Rattle.ecp_messages.specs.declared.down.Down.{Down}
use Rattle.ecp_messages.specs.declared.down.Down.TheVariants.{Answer}
use Rattle.ecp_messages.specs.declared.front.Front.{Front}
use Rattle.ecp_messages.specs.declared.up.Up.{Up}
use Rattle.ecp_messages.specs.declared.up.Up.TheVariants.{Sync}
use Rattle.data_rules.specs.DataState.{DataState}
use Rattle.data_rules.specs.declared.rows.Says.{Says}
use Rattle.data_rules.specs.declared.rows.Says.TheVariants.{AnswerOf}
use Rattle.app_rules.specs.declared.session_parts.Asked.{Asked}
use Rattle.app_rules.specs.declared.session_parts.Syncing.{Syncing}
use Rattle.app_rules.specs.declared.session_parts.Told.{Told}
use Rattle.app_rules.specs.AppState.{Session}
use Rattle.cluster_runs.specs.Accounted.{w_of}
use Rattle.cluster_runs.specs.Sent.{Lane, ups_taken}
use Rattle.cluster_runs.specs.Machine.{Site, End}
use Rattle.cluster_invariant.specs.Words.{stays_at}
use Rattle.cluster_promises.specs.Truths.{IsTrueOn}

-- a Sync with this ticket
abbrev pub is_sync_with : ℕ → Up → Bool
is_sync_with ticket (Sync t) = t == ticket
is_sync_with ticket m = false

-- an Answer to a Sync is to one of these messages
abbrev pub AnswersSync : List Up → About → ℕ → Type 0
AnswersSync ups about.Synced number = list_any (is_sync_with number) ups ≡ true
AnswersSync ups what number = ⊤

-- at the data end

-- an Answer that waits
pub record AnswerWaits (es : List Entry) (session : ℕ) (ups : List Up) (until : ℕ) (what : About) (job number at : ℕ) (sum : ℤ) : Type 0 where
  pub place : until ≡ at
  pub is_so : IsTrueOn es session what job number at sum
  pub asked : AnswersSync ups what number

-- it waits until its place is synced
abbrev pub WaitsToTell : (ℕ → Lane) → DataState → ℕ → Says → Type 0
WaitsToTell lane_of n until (AnswerOf session what job number at sum) =
    AnswerWaits n.order session (ups_taken (lane_of session)) until what job number at sum
WaitsToTell lane_of n until says = ⊤

-- An Answer that was put down to a session in one order says what is so, at a place that its header counts and that stays.
pub record AnswerPut (es : List Entry) (stays session : ℕ) (ups : List Up) (front : Front) (what : About) (job number at : ℕ) (sum : ℤ) : Type 0 where
  pub within : at ≤ front.n
  pub stays_there : at ≤ stays
  pub is_so : IsTrueOn es session what job number at sum
  pub asked : AnswersSync ups what number

-- a message that is one is such a one
abbrev pub TellsSo : List Entry → ℕ → ℕ → List Up → Down → Type 0
TellsSo es stays session ups (Answer front what job number at sum) = AnswerPut es stays session ups front what job number at sum
TellsSo es stays session ups m = ⊤

-- what was put down to a session in one order
abbrev pub LaneAnswers : Server → ℕ → ℕ → Lane → Type 0
LaneAnswers v session k lane = AllByRecursion (TellsSo (order_at v k) (stays_at v k) session (ups_taken lane)) lane.down

-- at the application end

-- an Answer is to a Sync
abbrev pub is_of_sync : About → Bool
is_of_sync about.Synced = true
is_of_sync what = false

-- What an end holds for a command: an Answer about an item that is so in the order that its session is told of, at a place that stays and that
-- its front counts.
pub record ToldIs (es : List Entry) (stays : ℕ) (s : Session) (t : Told) : Type 0 where
  pub within : t.at ≤ s.n
  pub stays_there : t.at ≤ stays
  pub item : is_of_sync t.about ≡ false
  pub is_so : IsTrueOn es s.number t.about t.job t.w t.at t.sum

-- the greatest number of a job's items, where it was this before, behind so many
abbrev pub last_from : ℕ → ℕ → ℕ → List Issued → ℕ
last_from job k found [] = found
last_from job k found (i ∷ is) = last_from job (k + 1) (if i.job == job then k + 1 else found) is

-- the greatest number of a job's items, or 0
abbrev pub last_of : ℕ → List Issued → ℕ
last_of job issued = last_from job 0 0 issued

-- where the Sync with a ticket stands among messages, the items up to a number stand before it; the greatest before all of them was this
abbrev pub StandsBehind : ℕ → ℕ → ℕ → List Up → Type 0
StandsBehind ticket last w [] = ⊤
StandsBehind ticket last w (m ∷ ms) = (is_sync_with ticket m ≡ true → last ≤ w) × StandsBehind ticket last (max w (w_of m)) ms

-- as many entries count all items of the session up to a number
abbrev pub Covers : List Entry → ℕ → ℕ → ℕ → Type 0
Covers es session last at = last ≤ count (take at es) session

-- an Answer to the Sync with a ticket covers them
abbrev pub CoversIf : List Entry → ℕ → ℕ → ℕ → About → ℕ → ℕ → Type 0
CoversIf es session ticket last about.Synced number at = number ≡ ticket → Covers es session last at
CoversIf es session ticket last what number at = ⊤

-- one that was put down
abbrev pub PutCovers : List Entry → ℕ → ℕ → ℕ → Down → Type 0
PutCovers es session ticket last (Answer front what job number at sum) = CoversIf es session ticket last what number at
PutCovers es session ticket last m = ⊤

-- one that waits
abbrev pub WaitCovers : List Entry → ℕ → ℕ → ℕ → Says → Type 0
WaitCovers es session ticket last (AnswerOf s what job number at sum) = s ≡ session → CoversIf es session ticket last what number at
WaitCovers es session ticket last says = ⊤

-- a Sync that an end was answered
pub record SyncedAt (es : List Entry) (stays last : ℕ) (s : Session) (at : ℕ) : Type 0 where
  pub within : at ≤ s.n
  pub stays_there : at ≤ stays
  pub covers : Covers es s.number last at

-- A Sync that a command waits for, with the greatest number that its job issued: upwards it stands behind all these items, and what answers it
-- covers them.
pub record SyncIs (es : List Entry) (stays last : ℕ) (lane : Lane) (node : Option DataState) (s : Session) (a : Syncing) : Type 0 where
  pub put : a.put ≡ not s.normal_due
  pub up : StandsBehind a.ticket last lane.front.w lane.up
  pub waits : IfSome node (λ n. AllByRecursion (λ r. WaitCovers n.order s.number a.ticket last r.says) n.replies)
  pub down : AllByRecursion (PutCovers es s.number a.ticket last) lane.down
  pub held : IfSome a.at (SyncedAt es stays last s)

-- a Sync that was put has a ticket up to the newest
abbrev pub SyncWithin : ℕ → Up → Type 0
SyncWithin newest (Sync t) = t ≤ newest
SyncWithin newest m = ⊤

-- a Grant that an end holds has a number that stays and that the front counts
pub record GrantHeld (stays n at : ℕ) : Type 0 where
  pub within : at ≤ n
  pub stays_there : at ≤ stays

-- a request that a command waits for is put but while Normal is awaited
pub record AskHas (stays n : ℕ) (due : Bool) (a : Asked) : Type 0 where
  pub put : a.put ≡ not due
  pub held : IfSome a.at (GrantHeld stays n)

-- What an end awaits and has of its session in the order that it is told of.
pub record EndAnswers (es : List Entry) (stays : ℕ) (issued : List Issued) (lane : Lane) (node : Option DataState) (newest : ℕ) (s : Session) : Type 0 where
  pub told : AllByRecursion (ToldIs es stays s) s.told
  pub syncs : AllByRecursion (λ a. SyncIs es stays (last_of a.job issued) lane node s a) s.syncs
  pub below : AllByRecursion (λ a. a.ticket ≤ newest) s.syncs
  pub tickets : AllByRecursion (SyncWithin newest) lane.up
  pub asks : AllByRecursion (AskHas stays s.n s.normal_due) s.asks

-- of an end that has a session
abbrev pub EndAnswersOf : Server → Site → End → Session → Type 0
EndAnswersOf v x e s = IfSome e.told (λ p.
    EndAnswers (order_at v p.order) (stays_at v p.order) (issued_in v s.number) (x.lane_at s.number p.order) x.node e.state.ticket s)

-- the answers at one data server
pub record AnswersHold (v : Server) (x : Site) (is_dead : ℕ → Bool) : Type 0 where
  pub lanes : (session k : ℕ) → k ≤ current v → LaneAnswers v session k (x.lane_at session k)
  pub node : IfSome x.node (λ n. AllByRecursion (λ r. WaitsToTell (λ session. x.lane_at session x.past) n r.at r.says) n.replies)
  pub apps : (app : ℕ) → is_dead app ≡ false → IfSome (x.end_at app).state.session (EndAnswersOf v x (x.end_at app))
