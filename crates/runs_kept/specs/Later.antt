-- Which of a data server's acts rest on items, locks and answers: their conditions belong to another part.
use Rattle.std.specs.Prelude.{◌≡◌, List, [], ◌∷◌, true}
use Rattle.std.specs.List.{list_all}
use Rattle.plain_orders.specs.declared.act.Act.{Act}
use Rattle.plain_orders.specs.declared.act.Act.TheVariants as act
use Rattle.plain_orders.specs.declared.entry.Entry.{Entry}
use Rattle.plain_orders.specs.declared.entry.Entry.TheVariants as entry
use Rattle.plain_orders.specs.declared.layout.Layout.{Layout}
use Rattle.plain_orders.specs.Sessions.{live_sessions}
use Rattle.plain_runs.specs.OrderRows.{is_counted, is_told}
use Rattle.plain_runs.specs.Plain.{Plain, Server}
use Rattle.plain_runs.specs.Step.{MayCome, after}

-- Each session that comes back was told of the order, and all that was issued in it has entered.
pub record AllAreBack (s : Server) : Type 0 where
  pub told : list_all (is_told s) (live_sessions s.order) ≡ true
  pub counted : list_all (is_counted s) (live_sessions s.order) ≡ true

-- what an entry rests on beside orders and ends
abbrev pub EntryLater : Layout → Plain → Entry → Act → Type 0
EntryLater l p (entry.Epoch number) a = Unit {0}
EntryLater l p (entry.Opened session app) a = Unit {0}
EntryLater l p (entry.Closed session) a = Unit {0}
EntryLater l p (entry.Update session w job txn op) a = MayCome l p a
EntryLater l p (entry.Commit session w job txn) a = MayCome l p a
EntryLater l p (entry.Rollback session w job txn) a = MayCome l p a

-- what an act does: items, grants, holds that end, and the end of a round
abbrev pub MayLater : Layout → Plain → Act → Type 0
MayLater l p (act.Enter d e) = EntryLater l p e (act.Enter d e)
MayLater l p (act.Grant d session job mode key at) = MayCome l p (act.Grant d session job mode key at)
MayLater l p (act.Free d session job mode key) = MayCome l p (act.Free d session job mode key)
MayLater l p (act.Back d) = AllAreBack (p.server_at d)
MayLater l p a = Unit {0}

-- the same of each of several, one after the other
abbrev pub AllLater : Layout → Plain → List Act → Type 0
AllLater l p [] = Unit {0}
AllLater l p (a ∷ acts) = MayLater l p a × AllLater l (after l p a) acts
