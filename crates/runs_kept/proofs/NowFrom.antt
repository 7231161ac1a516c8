-- What of a run rests on orders and ends: the rest of each act's conditions makes it one.
use Rattle.std.proofs.Common.{◌≡◌, drop, false, true, List, [], ◌∷◌, ◌++◌}
use Rattle.std.specs.Prelude.{is_some}
use Rattle.std.specs.List.{list_any}
use Rattle.plain_orders.specs.declared.act.Act.{Act}
use Rattle.plain_orders.specs.declared.act.Act.TheVariants.{Opened, Enter, Synced, Shut, Release, Met, Told, Back, Crash, Issue, Read, Grant, Granted, GiveUp, Quit, Free, Counted, NotWhole, Range, Committed, RolledBack, Reached, Level, Done, Refused, Broke, Mended, Tick, Lose, Died}
use Rattle.plain_orders.specs.declared.entry.Entry.{Entry}
use Rattle.plain_orders.specs.declared.entry.Entry.TheVariants as entry
use Rattle.plain_orders.specs.declared.layout.Layout.{Layout}
use Rattle.plain_orders.specs.Sessions.{is_close}
use Rattle.plain_runs.specs.Plain.{Plain}
use Rattle.plain_runs.specs.Run.{RunFrom, after_all}
use Rattle.plain_runs.specs.Step.{MayCome, after}
use Rattle.runs_kept.specs.Later.{AllLater, EntryLater, MayLater}

-- what an entry rests on of orders and ends
abbrev pub EntryNow : Layout → Plain → Entry → Act → Type 0
EntryNow l p (entry.Epoch number) a = MayCome l p a
EntryNow l p (entry.Opened session app) a = MayCome l p a
EntryNow l p (entry.Closed session) a = MayCome l p a
EntryNow l p (entry.Update session w job txn op) a = Unit {0}
EntryNow l p (entry.Commit session w job txn) a = Unit {0}
EntryNow l p (entry.Rollback session w job txn) a = Unit {0}

-- and what an act does
abbrev pub MayNow : Layout → Plain → Act → Type 0
MayNow l p (Opened d entries) = MayCome l p (Opened d entries)
MayNow l p (Enter d e) = EntryNow l p e (Enter d e)
MayNow l p (Synced d n) = MayCome l p (Synced d n)
MayNow l p (Shut d session cause) = MayCome l p (Shut d session cause)
MayNow l p (Release d session) = MayCome l p (Release d session)
MayNow l p (Met app d session) = MayCome l p (Met app d session)
MayNow l p (Told app d session epoch kept) = MayCome l p (Told app d session epoch kept)
MayNow l p (Back d) = (is_some (p.server_at d).due ≡ true) × (list_any is_close (drop (p.server_at d).synced (p.server_at d).order) ≡ false)
MayNow l p (Crash d kept) = MayCome l p (Crash d kept)
MayNow l p (Issue job line d w item) = MayCome l p (Issue job line d w item)
MayNow l p (Read job line d at via question) = MayCome l p (Read job line d at via question)
MayNow l p (Grant d session job mode key at) = Unit {0}
MayNow l p (Granted job line d at) = MayCome l p (Granted job line d at)
MayNow l p (GiveUp job line d mode key) = MayCome l p (GiveUp job line d mode key)
MayNow l p (Quit job line d mode key) = MayCome l p (Quit job line d mode key)
MayNow l p (Free d session job mode key) = Unit {0}
MayNow l p (Counted job line d at sum) = MayCome l p (Counted job line d at sum)
MayNow l p (NotWhole job line d at) = MayCome l p (NotWhole job line d at)
MayNow l p (Range job line d at) = MayCome l p (Range job line d at)
MayNow l p (Committed job line d at) = MayCome l p (Committed job line d at)
MayNow l p (RolledBack job line d at) = MayCome l p (RolledBack job line d at)
MayNow l p (Reached job line d at) = MayCome l p (Reached job line d at)
MayNow l p (Level job line level) = MayCome l p (Level job line level)
MayNow l p (Done job line) = MayCome l p (Done job line)
MayNow l p (Refused job line refusal) = MayCome l p (Refused job line refusal)
MayNow l p (Broke app d end time) = MayCome l p (Broke app d end time)
MayNow l p (Mended app d) = MayCome l p (Mended app d)
MayNow l p (Tick time) = MayCome l p (Tick time)
MayNow l p (Lose app d loss) = MayCome l p (Lose app d loss)
MayNow l p (Died app) = MayCome l p (Died app)

-- the same of several, one after the other
abbrev pub NowFrom : Layout → Plain → List Act → Type 0
NowFrom l p [] = Unit {0}
NowFrom l p (a ∷ acts) = MayNow l p a × NowFrom l (after l p a) acts

entry_both : (l : Layout) (p : Plain) (e : Entry) (a : Act) → EntryNow l p e a → EntryLater l p e a → MayCome l p a
entry_both l p (entry.Epoch number) a now later = now
entry_both l p (entry.Opened session app) a now later = now
entry_both l p (entry.Closed session) a now later = now
entry_both l p (entry.Update session w job txn op) a now later = later
entry_both l p (entry.Commit session w job txn) a now later = later
entry_both l p (entry.Rollback session w job txn) a now later = later

both_may : (l : Layout) (p : Plain) (a : Act) → MayNow l p a → MayLater l p a → MayCome l p a
both_may l p (Opened d entries) now later = now
both_may l p (Enter d e) now later = entry_both l p e (Enter d e) now later
both_may l p (Synced d n) now later = now
both_may l p (Shut d session cause) now later = now
both_may l p (Release d session) now later = now
both_may l p (Met app d session) now later = now
both_may l p (Told app d session epoch kept) now later = now
both_may l p (Back d) now later = record { recovering = now.0; told = later.told; counted = later.counted; closes = now.1 }
both_may l p (Crash d kept) now later = now
both_may l p (Issue job line d w item) now later = now
both_may l p (Read job line d at via question) now later = now
both_may l p (Grant d session job mode key at) now later = later
both_may l p (Granted job line d at) now later = now
both_may l p (GiveUp job line d mode key) now later = now
both_may l p (Quit job line d mode key) now later = now
both_may l p (Free d session job mode key) now later = later
both_may l p (Counted job line d at sum) now later = now
both_may l p (NotWhole job line d at) now later = now
both_may l p (Range job line d at) now later = now
both_may l p (Committed job line d at) now later = now
both_may l p (RolledBack job line d at) now later = now
both_may l p (Reached job line d at) now later = now
both_may l p (Level job line level) now later = now
both_may l p (Done job line) now later = now
both_may l p (Refused job line refusal) now later = now
both_may l p (Broke app d end time) now later = now
both_may l p (Mended app d) now later = now
both_may l p (Tick time) now later = now
both_may l p (Lose app d loss) now later = now
both_may l p (Died app) now later = now

-- Both make a run.
pub both_run : (l : Layout) (p : Plain) (acts : List Act) → NowFrom l p acts → AllLater l p acts → RunFrom l p acts
both_run l p [] now later = tt
both_run l p (a ∷ acts) now later = (both_may l p a now.0 later.0, both_run l (after l p a) acts now.1 later.1)

-- acts more
pub now_joined : (l : Layout) (p : Plain) (xs ys : List Act) → NowFrom l p xs → NowFrom l (after_all l p xs) ys → NowFrom l p (xs ++ ys)
now_joined l p [] ys first more = more
now_joined l p (a ∷ xs) ys first more = (first.0, now_joined l (after l p a) xs ys first.1 more)
