-- Items to be put back, the newest at the end of a vector and at the head of a list.
use Rattle.std.proofs.Common.{◌≡◌, ◌∙◌, List, [], ◌∷◌, ◌++◌, map, ap}
use Rattle.std.specs.Prelude.{reverse}
use Rattle.std.proofs.lemmas.List.{reverse-append, map-append}
use Rattle.folded_store.specs.declared.undo_item.UndoItem.{UndoItem}
use Rattle.folded_store.specs.Undos.{undo_of}

-- one more at the end is one more at the head
pub newest : (xs : List UndoItem) (x : UndoItem) → reverse (map undo_of (xs ++ x ∷ [])) ≡ undo_of x ∷ reverse (map undo_of xs)
newest xs x = ap reverse (map-append undo_of xs (x ∷ [])) ∙ reverse-append (map undo_of xs) (undo_of x ∷ [])
