-- The lists of entries that a store stands for.
use Rattle.std.specs.Prelude.{◌≡◌, false, List}
use Rattle.plain_orders.specs.declared.entry.Entry.{Entry}
use Rattle.plain_orders.specs.Fold.{fold}
use Rattle.plain_orders.specs.Ordered.{IsOrdered}
use Rattle.session_books.specs.Books.{IsBooksOf}
use Rattle.global_store.specs.declared.global_store.GlobalStore.{GlobalStore}

-- a store that is not spent holds what an ordered list makes
pub record IsStoreOf (es : List Entry) (store : GlobalStore) : Type 0 where
  pub is_ordered : IsOrdered es
  pub unspent : store.spent ≡ false
  pub folded : store.folded ≡ fold es
  pub books : IsBooksOf es store.books
