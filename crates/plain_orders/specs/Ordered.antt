-- Which lists of entries are ordered.
use Rattle.std.specs.Prelude.{◌≡◌, ◌≢◌, ℕ, ◌+◌, ◌<◌, ◌≤◌, true, List, [], ◌∷◌, ◌++◌, length, None, ℤ, unsigned_abs}
use Rattle.subscript_keys.specs.declared.limits.TheConstants.{VALUE_LIMIT, NUMBER_LIMIT}
use Rattle.subscript_keys.specs.Key.{IsKey, IsWithinLimit}
use Rattle.plain_orders.specs.declared.limits.TheConstants.{EPOCH_END}
use Rattle.plain_orders.specs.declared.op.Op.{Op}
use Rattle.plain_orders.specs.declared.op.Op.TheVariants.{Set, Kill, Add}
use Rattle.plain_orders.specs.declared.entry.Entry.{Entry}
use Rattle.plain_orders.specs.declared.entry.Entry.TheVariants.{Epoch, Opened, Closed, Update, Commit, Rollback}
use Rattle.plain_orders.specs.Entries.{count, live, live_session, last_epoch}
use Rattle.plain_orders.specs.Fold.{fold, is_begun}

-- an Epoch: the first is 1 and each is one higher than the last
pub record EpochMay (before : List Entry) (number : ℕ) : Type 0 where
  pub is_next : number ≡ last_epoch before + 1
  pub in_range : number < EPOCH_END

-- an Open: not in front of the first Epoch, and its session is its position
pub record OpenFollows (before : List Entry) (session app : ℕ) : Type 0 where
  pub is_started : last_epoch before ≢ 0
  pub is_position : session ≡ length before + 1
  pub is_free : live_session before app ≡ None

-- a Close
pub record CloseMay (before : List Entry) (session : ℕ) : Type 0 where
  pub is_live : live before session ≡ true

-- the key of a node within the limit on keys
pub record KeyMay (key : List ℕ) : Type 0 where
  pub is_key : IsKey key
  pub within : IsWithinLimit key

-- a Set's value is within the limit on values
pub record SetMay (key value : List ℕ) : Type 0 where
  pub key_may : KeyMay key
  pub within : length value ≤ VALUE_LIMIT

-- an increment is in no transaction, and its amount has at most DIGIT_LIMIT digits
pub record AddMay (txn : ℕ) (key : List ℕ) (amount : ℤ) : Type 0 where
  pub key_may : KeyMay key
  pub is_alone : txn ≡ 0
  pub within : unsigned_abs amount < NUMBER_LIMIT

-- an operation within the limits
abbrev pub OpMay : ℕ → Op → Type 0
OpMay txn (Set key value) = SetMay key value
OpMay txn (Kill key) = KeyMay key
OpMay txn (Add key amount) = AddMay txn key amount

-- an Update
pub record UpdateMay (before : List Entry) (session w txn : ℕ) (op : Op) : Type 0 where
  pub is_live : live before session ≡ true
  pub is_next : w ≡ count before session + 1
  pub within : OpMay txn op

-- a Commit or Rollback
pub record EndFollows (before : List Entry) (session w job txn : ℕ) : Type 0 where
  pub is_live : live before session ≡ true
  pub is_next : w ≡ count before session + 1
  pub is_begun : is_begun session job txn (fold before).begun ≡ true

-- an entry may follow an ordered list
abbrev pub MayFollow : List Entry → Entry → Type 0
MayFollow before (Epoch number) = EpochMay before number
MayFollow before (Opened session app) = OpenFollows before session app
MayFollow before (Closed session) = CloseMay before session
MayFollow before (Update session w job txn op) = UpdateMay before session w txn op
MayFollow before (Commit session w job txn) = EndFollows before session w job txn
MayFollow before (Rollback session w job txn) = EndFollows before session w job txn

-- entries may follow, one after the other
abbrev pub OrderedFrom : List Entry → List Entry → Type 0
OrderedFrom before [] = Unit {0}
OrderedFrom before (e ∷ es) = MayFollow before e × OrderedFrom (before ++ e ∷ []) es

-- a list is ordered
abbrev pub IsOrdered : List Entry → Type 0
IsOrdered es = OrderedFrom [] es
