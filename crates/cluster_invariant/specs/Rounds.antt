-- What a recovery round puts to the sessions that were there before it: upwards what each sends again, and downwards one Normal.
use Rattle.std.specs.Prelude.{◌≡◌, ◌<◌, ◌≤◌, ℕ, Bool, true, false, ◌&&◌, not, List, [], ◌∷◌, ◌++◌, map, IfSome}
use Rattle.std.specs.List.{list_any, list_all}
use Rattle.plain_orders.specs.declared.entry.Entry.{Entry}
use Rattle.plain_orders.specs.Entries.{live}
use Rattle.plain_runs.specs.Plain.{Server, current, order_at}
use Rattle.ecp_messages.specs.declared.up.Up.{Up}
use Rattle.ecp_messages.specs.declared.up.Up.TheVariants as up
use Rattle.data_rules.specs.DataState.{DataState}
use Rattle.data_rules.specs.Places.{epoch_place}
use Rattle.app_rules.specs.declared.session_parts.Owed.{Owed}
use Rattle.app_rules.specs.AppState.{Session}
use Rattle.app_rules.specs.Delivering.{is_ask_unput}
use Rattle.app_rules.specs.Welcoming.{message_of}
use Rattle.cluster_runs.specs.Sent.{Lane, ups_taken, downs_taken}
use Rattle.cluster_runs.specs.Machine.{Site, End}
use Rattle.cluster_runs.specs.WireDrops.{is_block}
use Rattle.cluster_runs.specs.Written.{count_of}
use Rattle.cluster_invariant.specs.Words.{is_begun, is_normal_down, is_opened_in}

-- a claim
abbrev pub is_claim : Up → Bool
is_claim (up.Claim job mode number at key) = true
is_claim m = false

-- an item
abbrev pub is_item : Up → Bool
is_item (up.Update w job txn op) = true
is_item (up.Add w job key amount) = true
is_item (up.Commit w job txn wanted) = true
is_item (up.Rollback w job txn) = true
is_item m = false

-- a Fetch
abbrev pub is_fetch : Up → Bool
is_fetch (up.Fetch key) = true
is_fetch m = false

-- a session that was there before the order, and that took no Normal in it, awaits one
abbrev pub awaits_normal : List Entry → ℕ → Lane → Bool
awaits_normal es session lane = not (is_opened_in es session) && not (list_any is_normal_down (downs_taken lane))

-- what is put upwards first in a new epoch, and then nothing until Normal comes: claims, items and Done
pub record ComesBack (ups : List Up) : Type 0 where
  pub claims : List Up
  pub items : List Up
  pub all : ups ≡ claims ++ items ++ up.Done ∷ []
  pub are_claims : list_all is_claim claims ≡ true
  pub are_items : list_all is_item items ≡ true

-- A session in one order.
pub record LaneRound (es : List Entry) (session : ℕ) (lane : Lane) : Type 0 where
  -- Normal is put once, and not to a session that was opened in this order
  pub once : count_of is_normal_down lane.down ≤ 1
  pub opened : is_opened_in es session ≡ true → list_any is_normal_down lane.down ≡ false
  pub awaits : is_begun lane ≡ true → awaits_normal es session lane ≡ true → ComesBack lane.up
  -- each Block answers a Fetch that was taken
  pub blocks : count_of is_block lane.down ≡ count_of is_fetch (ups_taken lane)

-- while a round is on no session was told that it is over, and none that is live was opened in this order
pub record RoundGoes (x : Site) (n : DataState) : Type 0 where
  pub untold : (session : ℕ) → list_any is_normal_down (x.lane_at session x.past).down ≡ false
  pub before : (session : ℕ) → live n.order session ≡ true → session < epoch_place n.order

-- the message of an item whose answer is awaited
abbrev pub owed_message : Owed → Up
owed_message o = o.message

-- A session awaits Normal where it wasn't told it in the order that it is told of; then none of its Asks was put in that order. What it
-- sends again are items.
pub record SessionRound (es : List Entry) (lane : Lane) (s : Session) : Type 0 where
  pub due : s.normal_due ≡ awaits_normal es s.number lane
  pub asks : s.normal_due ≡ true → list_all is_ask_unput s.asks ≡ true
  pub queued : list_all is_item (map message_of s.queue) ≡ true
  pub owed : list_all is_item (map owed_message s.owed) ≡ true

-- of an end that has a session
abbrev pub RoundOf : Server → Site → End → Session → Type 0
RoundOf v x e s = IfSome e.told (λ p. SessionRound (order_at v p.order) (x.lane_at s.number p.order) s)

-- all sessions of one data server
pub record RoundsHold (v : Server) (x : Site) (is_dead : ℕ → Bool) : Type 0 where
  pub lanes : (session k : ℕ) → k ≤ current v → LaneRound (order_at v k) session (x.lane_at session k)
  pub node : IfSome x.node (λ n. IfSome n.round (λ r. RoundGoes x n))
  pub apps : (app : ℕ) → is_dead app ≡ false → IfSome (x.end_at app).state.session (RoundOf v x (x.end_at app))
