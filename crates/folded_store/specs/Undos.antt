-- What the store keeps to be put back, as the words of a fold.
use Rattle.std.specs.Prelude.{map}
use Rattle.plain_orders.specs.Fold.{Undo, OldValue, OldPairs}
use Rattle.end_words.specs.Runs.{as_entry}
use Rattle.folded_store.specs.declared.undo_item.UndoItem.{UndoItem}
use Rattle.folded_store.specs.declared.undo_item.UndoItem.TheVariants as items

-- an item to be put back
abbrev pub undo_of : UndoItem → Undo
undo_of (items.OldValue key value) = OldValue key value
undo_of (items.OldPairs key pairs) = OldPairs key (map as_entry pairs)
