-- What the index of an order says of its entries.
use Rattle.std.specs.Prelude.{◌≡◌, ℕ, true, false, List, Option, Some, None}
use Rattle.std.specs.declared.cmp.Ordering.{Ordering}
use Rattle.std.specs.Ordering.{nat_cmp, ordering_then}
use Rattle.std.specs.BTreeMap as map
use Rattle.std.specs.BTreeSet as set
use Rattle.plain_orders.specs.declared.entry.Entry.{Entry}
use Rattle.plain_orders.specs.Entries.{count, live, live_session, last_epoch}
use Rattle.plain_orders.specs.Fold.{fold, is_begun}
use Rattle.plain_orders.specs.Ordered.{MayFollow, IsOrdered}
use Rattle.plain_programs.specs.declared.transaction_name.TransactionName.{TransactionName}
use Rattle.plain_programs.specs.declared.live_session.LiveSession.{LiveSession}
use Rattle.plain_programs.specs.declared.order_index.OrderIndex.{OrderIndex}

-- the order of names: by job, then by number
abbrev pub name_cmp : TransactionName → TransactionName → Ordering
name_cmp a b = ordering_then (nat_cmp a.job b.job) (nat_cmp a.txn b.txn)

-- what the index says of a live session is what the entries say
pub record IsIndexed (es : List Entry) (s : ℕ) (session : LiveSession) : Type 0 where
  pub is_live : live es s ≡ true
  pub has_app : live_session es session.app ≡ Some s
  pub counts : session.count ≡ count es s
  pub begins : (job txn : ℕ) → set.contains name_cmp session.begun (record { job = job; txn = txn }) ≡ is_begun s job txn (fold es).begun

-- the same of a session that may be missing: it is not live
abbrev pub IsIndexedIf : List Entry → ℕ → Option LiveSession → Type 0
IsIndexedIf es s None = live es s ≡ false
IsIndexedIf es s (Some session) = IsIndexed es s session

-- an index says of the entries what they are
pub record Indexes (es : List Entry) (index : OrderIndex) : Type 0 where
  pub epoch : index.epoch ≡ last_epoch es
  pub apps : (a : ℕ) → map.get nat_cmp index.apps a ≡ live_session es a
  pub sessions : (s : ℕ) → IsIndexedIf es s (map.get nat_cmp index.sessions s)

-- an index of an ordered list, and an entry that may follow it
pub record CanTake (es : List Entry) (e : Entry) (index : OrderIndex) : Type 0 where
  pub is_ordered : IsOrdered es
  pub indexes : Indexes es index
  pub may_follow : MayFollow es e
