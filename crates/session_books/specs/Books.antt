-- What the books of a list say of it.
use Rattle.std.specs.Prelude.{◌≡◌, ℕ, true, false, if◌then◌else◌, cond, List, length, Option, Some, None, is_none, is_some, slice_get}
use Rattle.std.specs.Ordering.{nat_cmp}
use Rattle.std.specs.BTreeMap.{get, is_at}
use Rattle.plain_orders.specs.declared.entry.Entry.{Entry}
use Rattle.plain_orders.specs.declared.sum.Sum.{Sum}
use Rattle.plain_orders.specs.Entries.{count, live, live_session, last_epoch}
use Rattle.plain_orders.specs.Sessions.{app_in, live_sessions, place_of_epoch}
use Rattle.plain_orders.specs.ItemEntries.{is_item_at}
use Rattle.plain_orders.specs.Fold.{fold}
use Rattle.plain_orders.specs.Ordered.{MayFollow, IsOrdered}
use Rattle.plain_orders.specs.Answers.{entry_sum}
use Rattle.session_books.specs.declared.owed.Owed.{Owed}
use Rattle.session_books.specs.declared.session_book.SessionBook.{SessionBook}
use Rattle.session_books.specs.declared.session_books.SessionBooks.{SessionBooks}
use Rattle.session_books.specs.Places.{close_place}
use Rattle.session_books.specs.Owing.{owed_in}

-- what an item of a session is owed, while the session is live
abbrev pub owed_live : List Entry → ℕ → ℕ → Option Owed
owed_live es s w = if live es s then owed_in es s w else None

-- what the book of a session says is what the entries say
pub record IsBookOf (es : List Entry) (s : ℕ) (book : SessionBook) : Type 0 where
  pub app : app_in es s ≡ Some book.app
  pub counts : count es s ≡ book.count
  pub closed : close_place es s ≡ book.closed
  pub lives : live es s ≡ is_none book.closed
  pub owes : (w : ℕ) → get nat_cmp book.owed w ≡ owed_live es s w

-- a session without a book was not opened
pub record IsNoSession (es : List Entry) (s : ℕ) : Type 0 where
  pub app : app_in es s ≡ None
  pub counts : count es s ≡ 0
  pub closed : close_place es s ≡ None
  pub lives : live es s ≡ false
  pub owes : (w : ℕ) → owed_in es s w ≡ None

-- the same of a session that may have a book
abbrev pub IsBookIf : List Entry → ℕ → Option SessionBook → Type 0
IsBookIf es s None = IsNoSession es s
IsBookIf es s (Some book) = IsBookOf es s book

-- books say of the entries what they are
pub record IsBooksOf (es : List Entry) (books : SessionBooks) : Type 0 where
  pub counts : books.length ≡ length es
  pub epoch : books.epoch ≡ last_epoch es
  pub numbers : length books.epochs.items ≡ last_epoch es
  pub epochs : (n : ℕ) → slice_get books.epochs.items n ≡ place_of_epoch n 0 es
  pub apps : (a : ℕ) → get nat_cmp books.apps a ≡ live_session es a
  pub live : books.live.items ≡ live_sessions es
  pub sessions : (s : ℕ) → IsBookIf es s (get nat_cmp books.sessions s)

-- books of an ordered list, and an entry that may follow it, with its sum
pub record CanTake (es : List Entry) (e : Entry) (sum : Sum) (books : SessionBooks) : Type 0 where
  pub is_ordered : IsOrdered es
  pub stands : IsBooksOf es books
  pub may_follow : MayFollow es e
  pub sum_is : sum ≡ entry_sum (fold es).pairs e

-- an entry is the item of this session with this running number
abbrev pub IsItem : ℕ → ℕ → Entry → Type 0
IsItem session w e = is_item_at session w e ≡ true

-- the book of a session that is opened now
pub record IsFresh (app : ℕ) (book : SessionBook) : Type 0 where
  pub app_is : book.app ≡ app
  pub counts : book.count ≡ 0
  pub closed : book.closed ≡ None
  pub owes : (w : ℕ) → get nat_cmp book.owed w ≡ None

-- the book of a session after an item with this running number, with what it is owed, if it is answered
pub record HasTaken (old : SessionBook) (w : ℕ) (owed : Option Owed) (new : SessionBook) : Type 0 where
  pub app : new.app ≡ old.app
  pub counts : new.count ≡ w
  pub closed : new.closed ≡ old.closed
  pub owes : (q : ℕ) → get nat_cmp new.owed q ≡ (if is_some owed then cond (is_at (nat_cmp w) q) owed (get nat_cmp old.owed q) else get nat_cmp old.owed q)

-- the book of a session after its Close at this place
pub record IsClosedFrom (old : SessionBook) (at : ℕ) (new : SessionBook) : Type 0 where
  pub app : new.app ≡ old.app
  pub counts : new.count ≡ old.count
  pub closed : new.closed ≡ Some at
  pub owes : (w : ℕ) → get nat_cmp new.owed w ≡ None
