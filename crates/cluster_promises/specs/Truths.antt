-- What an Answer says of an order.
use Rattle.std.specs.Prelude.{◌≡◌, ◌≤◌, ◌==◌, ◌&&◌, ℕ, Bool, true, false, List, length, ℤ, IsSomeAnd}
use Rattle.plain_orders.specs.declared.sum.Sum.{Sum}
use Rattle.plain_orders.specs.declared.sum.Sum.TheVariants as sums
use Rattle.plain_orders.specs.declared.entry.Entry.{Entry}
use Rattle.plain_orders.specs.declared.entry.Entry.TheVariants.{Update, Commit, Rollback}
use Rattle.plain_orders.specs.Answers.{sum_at}
use Rattle.plain_orders.specs.Entries.{entry_at}
use Rattle.ecp_messages.specs.declared.about.About.{About}
use Rattle.ecp_messages.specs.declared.about.About.TheVariants as about

-- the entry is the item of this session with this number, by this job, and a Set, a Kill or an increment
abbrev pub is_update_by : ℕ → ℕ → ℕ → Entry → Bool
is_update_by session job number (Update s w j txn op) = s == session && (w == number && j == job)
is_update_by session job number e = false

-- likewise a Commit
abbrev pub is_commit_by : ℕ → ℕ → ℕ → Entry → Bool
is_commit_by session job number (Commit s w j txn) = s == session && (w == number && j == job)
is_commit_by session job number e = false

-- likewise a Rollback
abbrev pub is_rollback_by : ℕ → ℕ → ℕ → Entry → Bool
is_rollback_by session job number (Rollback s w j txn) = s == session && (w == number && j == job)
is_rollback_by session job number e = false

-- an entry of some kind stands at a place
abbrev pub StandsAt : List Entry → ℕ → (Entry → Bool) → Type 0
StandsAt es at kind = IsSomeAnd (entry_at es at) (λ e. kind e ≡ true)

-- an increment stands there and does this
pub record SumsAt (es : List Entry) (session job number at : ℕ) (sum : Sum) : Type 0 where
  pub stands : StandsAt es at (is_update_by session job number)
  pub does : sum_at es at ≡ sum

-- What an Answer says is so on a list of entries: the item stands at that place, with what it does there; for a Sync it is only a length.
abbrev pub IsTrueOn : List Entry → ℕ → About → ℕ → ℕ → ℕ → ℤ → Type 0
IsTrueOn es session about.Counted job number at sum = SumsAt es session job number at (sums.Whole sum)
IsTrueOn es session about.NotWhole job number at sum = SumsAt es session job number at sums.NotWhole
IsTrueOn es session about.Range job number at sum = SumsAt es session job number at sums.Range
IsTrueOn es session about.Committed job number at sum = StandsAt es at (is_commit_by session job number)
IsTrueOn es session about.RolledBack job number at sum = StandsAt es at (is_rollback_by session job number)
IsTrueOn es session about.Synced job number at sum = at ≤ length es
