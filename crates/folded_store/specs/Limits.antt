-- Maps and entries within the limits on keys and values.
use Rattle.std.specs.Prelude.{ℕ, List, Option, Some, None}
use Rattle.std.specs.List.{AllByRecursion}
use Rattle.plain_orders.specs.declared.entry.Entry.{Entry}
use Rattle.plain_orders.specs.declared.entry.Entry.TheVariants.{Epoch, Opened, Closed, Update, Commit, Rollback}
use Rattle.plain_orders.specs.PairMap.{Map, IsRising}
use Rattle.plain_orders.specs.Fold.{Undo, OldValue, OldPairs, Transaction, Folded}
use Rattle.plain_orders.specs.Ordered.{SetMay, OpMay}

-- pairs of nodes' keys and of values, each within its limit
abbrev pub PairsFit : Map → Type 0
PairsFit m = AllByRecursion (λ p. SetMay p.0 p.1) m

-- such pairs, in the order of their keys
pub record MapFits (m : Map) : Type 0 where
  pub rises : IsRising m
  pub pairs : PairsFit m

-- an old value of this key may be set
abbrev pub ValueFits : List ℕ → Option (List ℕ) → Type 0
ValueFits key None = Unit {0}
ValueFits key (Some value) = SetMay key value

-- what is put back may be set
abbrev pub UndoFits : Undo → Type 0
UndoFits (OldValue key old) = ValueFits key old
UndoFits (OldPairs key pairs) = PairsFit pairs

-- the same of several
abbrev pub UndosFit : List Undo → Type 0
UndosFit us = AllByRecursion UndoFits us

-- the same of all open transactions
abbrev pub BegunFits : List Transaction → Type 0
BegunFits ts = AllByRecursion (λ t. UndosFit t.undo) ts

-- a fold within the limits
pub record FoldedFits (f : Folded) : Type 0 where
  pub pairs : MapFits f.pairs
  pub begun : BegunFits f.begun

-- an entry's operation is within the limits
abbrev pub EntryFits : Entry → Type 0
EntryFits (Epoch number) = Unit {0}
EntryFits (Opened session app) = Unit {0}
EntryFits (Closed session) = Unit {0}
EntryFits (Update session w job txn op) = OpMay txn op
EntryFits (Commit session w job txn) = Unit {0}
EntryFits (Rollback session w job txn) = Unit {0}
