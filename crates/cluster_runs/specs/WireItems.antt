-- The items that were put are those issued, and those that were taken above the count are those entered.
use Rattle.std.specs.Prelude.{◌≡◌, ℕ, ◌+◌, ◌-◌, if◌then◌else◌, List, [], ◌∷◌, map, take, drop, nat_lt, Option, Some, None}
use Rattle.std.specs.List.{filter}
use Rattle.plain_orders.specs.declared.entry.Entry.{Entry}
use Rattle.plain_orders.specs.declared.item.Item.{Item}
use Rattle.plain_orders.specs.declared.item.Item.TheVariants as items
use Rattle.plain_orders.specs.declared.op.Op.TheVariants as ops
use Rattle.plain_orders.specs.Own.{Issued}
use Rattle.plain_orders.specs.Entries.{count}
use Rattle.plain_orders.specs.ItemEntries.{is_item_of}
use Rattle.ecp_messages.specs.declared.up.Up.{Up}
use Rattle.ecp_messages.specs.declared.up.Up.TheVariants as up
use Rattle.plain_runs.specs.Plain.{Plain, issued_in, order_at}
use Rattle.plain_runs.specs.Items.{entry_of_item}
use Rattle.data_rules.specs.Places.{epoch_place}
use Rattle.cluster_runs.specs.Sent.{Sent, lanes_of, ups_of, ups_taken}

-- an item with its number
pub record Numbered : Type 0 where
  pub w : ℕ
  pub job : ℕ
  pub txn : ℕ
  pub item : Item

-- the same from its parts
abbrev pub numbered : ℕ → ℕ → ℕ → Item → Numbered
numbered w job txn item = record { w = w; job = job; txn = txn; item = item }

-- the item of a message
abbrev pub item_of : Up → Option Numbered
item_of (up.Hello app dial) = None
item_of (up.Recover app session epoch taken dial) = None
item_of (up.Update w job txn op) = Some (numbered w job txn (items.Op op))
item_of (up.Add w job key amount) = Some (numbered w job 0 (items.Op (ops.Add key amount)))
item_of (up.Fetch key) = None
item_of (up.Ask ticket job mode key) = None
item_of (up.Unlock job mode key) = None
item_of (up.Cancel ticket) = None
item_of (up.Commit w job txn wanted) = Some (numbered w job txn (items.Commit txn))
item_of (up.Rollback w job txn) = Some (numbered w job txn (items.Rollback txn))
item_of (up.Sync ticket) = None
item_of up.Done = None
item_of (up.Claim job mode number at key) = None
item_of up.Bare = None

-- the items with a number above all before, which was this at first
abbrev pub items_above : ℕ → List Up → List Numbered
items_above w [] = []
items_above w (m ∷ ms) = elim (item_of m) [
  | None ↦ items_above w ms
  | Some i ↦ (if nat_lt w i.w then i ∷ items_above i.w ms else items_above w ms)
]

-- what was issued in a session, with its numbers above k
abbrev pub issued_from : ℕ → List Issued → List Numbered
issued_from k [] = []
issued_from k (i ∷ is) = numbered (k + 1) i.job i.txn i.item ∷ issued_from (k + 1) is

-- The items that an application end put for a session are, at their first putting, those issued, in order.
abbrev pub ItemsAreIssued : Plain → Sent → Type 0
ItemsAreIssued p sent = (server session : ℕ)
    → items_above 0 (ups_of (lanes_of p sent server session)) ≡ issued_from 0 (issued_in (p.server_at server) session)

-- the entry of an item
abbrev pub as_entry : ℕ → Numbered → Entry
as_entry session i = entry_of_item session i.w i.job i.txn i.item

-- what stood in an order when it began, without its Epoch
abbrev pub kept_in : List Entry → List Entry
kept_in es = take (epoch_place es - 1) es

-- what entered in it
abbrev pub entered_in : List Entry → List Entry
entered_in es = drop (epoch_place es) es

-- The entries of a session that entered in an order are, in order, the items of the messages that were taken whose number was above the count.
abbrev pub TakenAreEntered : Plain → Sent → Type 0
TakenAreEntered p sent = (server session k : ℕ)
    → map (as_entry session) (items_above (count (kept_in (order_at (p.server_at server) k)) session) (ups_taken (sent.lane_at server session k)))
    ≡ filter (is_item_of session) (entered_in (order_at (p.server_at server) k))
