-- Which acts of a data server's step are of items, and that each of them may come in its turn.
use Rattle.std.specs.Prelude.{List, [], ◌∷◌}
use Rattle.plain_orders.specs.declared.act.Act.{Act}
use Rattle.plain_orders.specs.declared.act.Act.TheVariants as act
use Rattle.plain_orders.specs.declared.entry.Entry.{Entry}
use Rattle.plain_orders.specs.declared.entry.Entry.TheVariants as entry
use Rattle.plain_orders.specs.declared.layout.Layout.{Layout}
use Rattle.plain_runs.specs.Plain.{Plain}
use Rattle.plain_runs.specs.Step.{MayCome, after}

-- an entry that is an item may come
abbrev pub EntryItem : Layout → Plain → Entry → Act → Type 0
EntryItem l p (entry.Epoch number) a = Unit {0}
EntryItem l p (entry.Opened session app) a = Unit {0}
EntryItem l p (entry.Closed session) a = Unit {0}
EntryItem l p (entry.Update session w job txn op) a = MayCome l p a
EntryItem l p (entry.Commit session w job txn) a = MayCome l p a
EntryItem l p (entry.Rollback session w job txn) a = MayCome l p a

-- an act that enters an item may come
abbrev pub ItemComes : Layout → Plain → Act → Type 0
ItemComes l p (act.Enter d e) = EntryItem l p e (act.Enter d e)
ItemComes l p a = Unit {0}

-- each of several in its turn
abbrev pub ItemsCome : Layout → Plain → List Act → Type 0
ItemsCome l p [] = Unit {0}
ItemsCome l p (a ∷ acts) = ItemComes l p a × ItemsCome l (after l p a) acts
