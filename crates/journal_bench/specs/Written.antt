-- Lists of entries that the program writes: one session, and its updates.
use Rattle.std.specs.Prelude.{◌≡◌, ℕ, true, false, List, Option}
use Rattle.plain_orders.specs.declared.entry.Entry.{Entry}
use Rattle.plain_orders.specs.declared.entry.Entry.TheVariants.{Update}
use Rattle.plain_orders.specs.declared.op.Op.TheVariants.{Set}
use Rattle.plain_orders.specs.Entries.{count, live}
use Rattle.plain_orders.specs.Ordered.{IsOrdered, SetMay}
use Rattle.journal_disk.specs.Settled.{JournalState, IsSettled}

-- the only session
abbrev pub SESSION : ℕ
SESSION = 2

-- an ordered list in which the session lives and has issued so many updates
pub record IsWritten (list : List Entry) (w : ℕ) : Type 0 where
  pub ordered : IsOrdered list
  pub lives : live list SESSION ≡ true
  pub counts : count list SESSION ≡ w

-- the session's update with this running number
abbrev pub IsUpdate : ℕ → Entry → Type 0
IsUpdate w e = (key : List ℕ) × (value : List ℕ) × (e ≡ Update SESSION w 0 0 (Set key value)) × SetMay key value

-- a journal that needs no start, on a disk that is settled for such a list
pub record IsReady (told : Option (List ℕ)) (may_leave : List ℕ → Type 0) (journal : JournalState) (w : ℕ) : Type 0 where
  pub started : journal.needs_start ≡ false
  pub list : List Entry
  pub settled : IsSettled told may_leave journal.gate list
  pub written : IsWritten list w
