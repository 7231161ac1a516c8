-- The items that were issued in each session: on their way, as they entered, and as the application end keeps them.
use Rattle.std.specs.Prelude.{◌≡◌, ◌<◌, ◌≤◌, ◌+◌, ◌-◌, ◌==◌, ◌&&◌, ◌||◌, ⊤, ℕ, Bool, true, false, not, max, if◌then◌else◌, List, [], ◌∷◌, ◌++◌, drop, take, length, nat_lt, nat_le, slice_get, Some, IfSome, IsSomeAnd}
use Rattle.std.specs.List.{AllByRecursion}
use Rattle.std.specs.Option.{option_map}
use Rattle.plain_orders.specs.declared.entry.Entry.{Entry}
use Rattle.plain_orders.specs.declared.item.Item.{Item}
use Rattle.plain_orders.specs.declared.item.Item.TheVariants.{Op, Commit as CommitItem, Rollback as RollbackItem}
use Rattle.plain_orders.specs.Own.{Issued}
use Rattle.plain_orders.specs.Entries.{count, live}
use Rattle.plain_runs.specs.Plain.{Server, Session as PlainSession, issued_in, order_at}
use Rattle.plain_runs.specs.Items.{is_change_op}
use Rattle.ecp_messages.specs.declared.up.Up.{Up}
use Rattle.ecp_messages.specs.declared.down.Down.{Down}
use Rattle.ecp_messages.specs.declared.down.Down.TheVariants.{Normal}
use Rattle.data_rules.specs.DataState.{DataState}
use Rattle.app_rules.specs.declared.session_parts.Late.{Late}
use Rattle.app_rules.specs.declared.session_parts.Owed.{Owed}
use Rattle.app_rules.specs.declared.session_parts.Queued.{Queued}
use Rattle.app_rules.specs.AppState.{Session}
use Rattle.cluster_runs.specs.Accounted.{w_of}
use Rattle.cluster_runs.specs.Sent.{Lane, ups_taken}
use Rattle.cluster_runs.specs.Machine.{Site, End}
use Rattle.cluster_runs.specs.WireEpochs.{is_wanted}
use Rattle.cluster_runs.specs.WireItems.{Numbered, numbered, item_of}
use Rattle.cluster_invariant.specs.Rounds.{is_item}
use Rattle.cluster_invariant.specs.Served.{HasLearnt}
use Rattle.cluster_invariant.specs.Words.{is_begun, stays_at}

-- an item as it was issued, with its number
abbrev pub numbered_as : ℕ → Issued → Numbered
numbered_as w i = numbered w i.job i.txn i.item

-- An item says what was issued with its number, the first being 1.
pub record IsIssued (issued : List Issued) (i : Numbered) : Type 0 where
  pub positive : 0 < i.w
  pub its : option_map (numbered_as i.w) (slice_get issued (i.w - 1)) ≡ Some i

-- so does a message, where it is an item
abbrev pub SaysIssued : List Issued → Up → Type 0
SaysIssued issued m = IfSome (item_of m) (IsIssued issued)

-- the greatest number of the items among messages, where it was this before
abbrev pub greatest_of : ℕ → List Up → ℕ
greatest_of w [] = w
greatest_of w (m ∷ ms) = greatest_of (max w (w_of m)) ms

-- an item's turn, behind those before it: up to the Welcome's count any greater one whose answer is wanted, and then the next
abbrev pub is_at_turn : ℕ → ℕ → Up → Bool
is_at_turn counted last m = if nat_le (w_of m) counted then nat_lt last (w_of m) && is_wanted m else w_of m == max counted last + 1

-- each item of some messages comes at its turn
abbrev pub is_each_at_turn : ℕ → ℕ → List Up → Bool
is_each_at_turn counted last [] = true
is_each_at_turn counted last (m ∷ ms) = (not (is_item m) || is_at_turn counted last m) && is_each_at_turn counted (max last (w_of m)) ms

-- The items of a session in one order, whoever has the session now.
pub record LaneItems (issued : List Issued) (lane : Lane) : Type 0 where
  pub each : AllByRecursion (SaysIssued issued) lane.up
  pub turns : is_each_at_turn lane.front.w 0 lane.up ≡ true

-- a Normal counts all that was issued
abbrev pub CountsAll : List Issued → Down → Type 0
CountsAll issued (Normal front) = front.w ≡ length issued
CountsAll issued m = ⊤

-- In the order that a session is told of all was put that was issued, and a Normal that wasn't taken yet counts it.
pub record ToldItems (lane : Lane) (issued : List Issued) : Type 0 where
  pub begun : is_begun lane ≡ true
  pub all : greatest_of lane.front.w lane.up ≡ length issued
  pub normal : AllByRecursion (CountsAll issued) (drop lane.down_taken lane.down)

-- of a session that was met
abbrev pub ToldItemsOf : Site → ℕ → PlainSession → Type 0
ToldItemsOf x session t = ToldItems (x.lane_at session t.told) t.issued

-- What a running node counts of a session that learnt of its order: what the Welcome counted, and what was taken since. Behind its Close
-- nothing is counted.
pub record NodeItems (x : Site) (n : DataState) (session : ℕ) : Type 0 where
  pub counted : live n.order session ≡ true
      → count n.order session ≡ greatest_of (x.lane_at session x.past).front.w (ups_taken (x.lane_at session x.past))
  pub within : count n.order session ≤ greatest_of (x.lane_at session x.past).front.w (ups_taken (x.lane_at session x.past))

-- what an end keeps of an item: its message, which says what this job issued with this number
pub record KeptIs (issued : List Issued) (w job : ℕ) (i : Numbered) : Type 0 where
  pub number : i.w ≡ w
  pub by : i.job ≡ job
  pub its : IsIssued issued i

-- a message of such an item
abbrev pub KeepsIssued : List Issued → ℕ → ℕ → Up → Type 0
KeepsIssued issued w job m = IsSomeAnd (item_of m) (KeptIs issued w job)

-- the numbers of queued items run on from one to another
abbrev pub RunOn : ℕ → List Queued → ℕ → Type 0
RunOn w [] last = w ≡ last
RunOn w (i ∷ is) last = (i.w ≡ w + 1) × RunOn (w + 1) is last

-- The queue has all behind those that the end knows to be synced, which stay in the order that its session is told of.
pub record QueueIs (es : List Entry) (stays session : ℕ) (issued : List Issued) (queue : List Queued) : Type 0 where
  pub acked : ℕ
  pub synced : acked ≤ count (take stays es) session
  pub run : RunOn acked queue (length issued)
  pub each : AllByRecursion (λ i. KeepsIssued issued i.w i.job i.message) queue

-- the numbers of owed items rise
abbrev pub OwedRise : ℕ → List Owed → Type 0
OwedRise w [] = ⊤
OwedRise w (o ∷ os) = (w < o.w) × OwedRise o.w os

-- an item whose answer is owed wants one
pub record OwedIs (issued : List Issued) (o : Owed) : Type 0 where
  pub its : KeepsIssued issued o.w o.job o.message
  pub wanted : is_wanted o.message ≡ true

-- what is noted of an item, where it is a Set or a Kill
abbrev pub late_of : ℕ → ℕ → Item → List Late
late_of w job (Op op) = if is_change_op op then record { w = w; job = job; op = op } ∷ [] else []
late_of w job (CommitItem txn) = []
late_of w job (RollbackItem txn) = []

-- the Sets and Kills of all jobs among items whose numbers follow this one
abbrev pub lates_from : ℕ → List Issued → List Late
lates_from w [] = []
lates_from w (i ∷ is) = late_of (w + 1) i.job i.item ++ lates_from (w + 1) is

-- What an end keeps of the items of its session.
pub record EndItems (es : List Entry) (stays : ℕ) (issued : List Issued) (s : Session) : Type 0 where
  pub number : s.issued ≡ length issued
  pub queue : QueueIs es stays s.number issued s.queue
  pub owed_rise : OwedRise 0 s.owed
  pub owed : AllByRecursion (OwedIs issued) s.owed
  -- the Sets and Kills behind the front; while Normal is awaited some may lack that an older front had counted
  pub late : s.normal_due ≡ false → s.late ≡ lates_from s.w (drop s.w issued)
  pub late_within : AllByRecursion (λ i. i.w ≤ s.issued) s.late

-- of an end that has a session
abbrev pub EndItemsOf : Server → End → Session → Type 0
EndItemsOf v e s = IfSome e.told (λ p. EndItems (order_at v p.order) (stays_at v p.order) (issued_in v s.number) s)

-- the items at one data server
pub record ItemsHold (v : Server) (x : Site) (is_dead : ℕ → Bool) : Type 0 where
  pub lanes : (session k : ℕ) → LaneItems (issued_in v session) (x.lane_at session k)
  pub told : (session : ℕ) → IfSome (v.session_at session) (ToldItemsOf x session)
  pub node : IfSome x.node (λ n. (session : ℕ) → HasLearnt x session → NodeItems x n session)
  pub apps : (app : ℕ) → is_dead app ≡ false → IfSome (x.end_at app).state.session (EndItemsOf v (x.end_at app))
