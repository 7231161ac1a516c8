-- Short trails that the examples begin with: orders, sessions and connections.
use Rattle.std.specs.Prelude.{ℕ, zero, suc, List, replicate, ◌+◌, ◌++◌, [], ◌∷◌}
use Rattle.plain_orders.specs.declared.act.Act.{Act}
use Rattle.plain_orders.specs.declared.act.Act.TheVariants.{Opened, Enter, Synced, Shut, Met, Told, Crash, Issue, Broke, Tick, Lose, Died}
use Rattle.plain_orders.specs.declared.op.Op.TheVariants.{Set}
use Rattle.plain_orders.specs.declared.item.Item.TheVariants.{Op}
use Rattle.plain_orders.specs.declared.entry.Entry.{Entry}
use Rattle.plain_orders.specs.declared.entry.Entry.TheVariants.{Epoch, Opened as OpenEntry, Update}
use Rattle.plain_orders.specs.declared.causes.ShutCause.TheVariants.{Replaced}
use Rattle.plain_orders.specs.declared.causes.PairEnd.TheVariants.{App as AppEnd, Server as ServerEnd}
use Rattle.plain_orders.specs.declared.causes.Loss.TheVariants.{Reset as ByReset, Expired as ByExpired}
use Rattle.plain_orders.specs.declared.layout.Layout.{Layout}
use Rattle.plain_runs.specs.Step.{MayCome}
use Rattle.plain_runs.specs.Run.{IsRun, state_after}
use Rattle.plain_runs.specs.Conditions.{JustFails, conditions}

-- two data servers and two application servers; the jobs 0 and 2 run on the first, job 1 on the second
abbrev pub small : Layout
small = record { servers = 2; apps = 2; job_apps = 0 ∷ 1 ∷ 0 ∷ []; times = record { retry = 5; trouble = 60; recover = 100; round = 60 } }

-- after this trail the act is accepted
abbrev pub Accepted : List Act → Act → Type 0
Accepted lead a = IsRun small (lead ++ a ∷ [])

-- the trail is a run, and after it the act is refused
abbrev pub MayNotCome : List Act → Act → Type 0
MayNotCome lead a = IsRun small lead × (MayCome small (state_after small lead) a → ⊥)

-- the trail is a run, and after it just one condition of the act fails: the one at this place of its conditions, from 0
abbrev pub FailsAt : ℕ → List Act → Act → Type 0
FailsAt k lead a = IsRun small lead × JustFails k (conditions small (state_after small lead) a)

-- the greatest number of 18 digits
abbrev pub nines_text : List ℕ
nines_text = replicate 18 57

-- a key of 501 bytes
abbrev pub long_key : List ℕ
long_key = 120 ∷ 0 ∷ 64 ∷ replicate 496 97 ++ 0 ∷ 1 ∷ []

-- a key of 500 bytes
abbrev pub full_key : List ℕ
full_key = 120 ∷ 0 ∷ 64 ∷ replicate 495 97 ++ 0 ∷ 1 ∷ []

-- a key below ^x
abbrev pub below_x : List ℕ
below_x = 120 ∷ 0 ∷ 64 ∷ 97 ∷ 0 ∷ 1 ∷ []

-- a text of 496 bytes, whose key below ^x has 501
abbrev pub long_text : List ℕ
long_text = replicate 496 97

-- a value of 3001 bytes
abbrev pub long_value : List ℕ
long_value = replicate 3001 97

-- no act
abbrev pub nothing : List Act
nothing = []

-- a server opens with an empty journal
abbrev pub opened : List Act
opened = nothing ++ Opened 0 [] ∷ []

-- a session is opened
abbrev pub open_entered : List Act
open_entered = opened ++ Enter 0 (OpenEntry 2 0) ∷ []

-- and synced
abbrev pub open_saved : List Act
open_saved = open_entered ++ Synced 0 2 ∷ []

-- and met
abbrev pub met : List Act
met = open_saved ++ Met 0 0 2 ∷ []

-- a set is issued
abbrev pub issued : List Act
issued = met ++ Issue 0 5 0 1 (Op (Set (120 ∷ 0 ∷ []) (53 ∷ []))) ∷ []

-- and enters
abbrev pub applied : List Act
applied = issued ++ Enter 0 (Update 2 1 0 0 (Set (120 ∷ 0 ∷ []) (53 ∷ []))) ∷ []

-- and is synced
abbrev pub kept : List Act
kept = applied ++ Synced 0 3 ∷ []

-- the server crashes and keeps all
abbrev pub server_crashed : List Act
server_crashed = kept ++ Crash 0 3 ∷ []

-- until the round is due
abbrev pub recovering : List Act
recovering = server_crashed ++ Tick 60 ∷ []

-- or nearly
abbrev pub almost_due : List Act
almost_due = server_crashed ++ Tick 59 ∷ []

-- the session is told of the crash
abbrev pub crash_told : List Act
crash_told = server_crashed ++ Told 0 0 2 2 3 ∷ []

-- and closed in the round
abbrev pub crash_told_closed : List Act
crash_told_closed = crash_told ++ Shut 0 2 Replaced ∷ []

-- two sets are issued
abbrev pub issued_more : List Act
issued_more = issued ++ Issue 0 6 0 2 (Op (Set (120 ∷ 0 ∷ []) (53 ∷ []))) ∷ []

-- a session with an item on its way is closed
abbrev pub issued_closed : List Act
issued_closed = issued ++ Shut 0 2 Replaced ∷ []

-- the server crashes before an item enters
abbrev pub issued_cut : List Act
issued_cut = issued ++ Crash 0 2 ∷ []

-- and the session is told
abbrev pub issued_told : List Act
issued_told = issued_cut ++ Told 0 0 2 2 2 ∷ []

-- a crash cuts an item
abbrev pub cut : List Act
cut = applied ++ Crash 0 2 ∷ []

-- and the new Epoch is synced
abbrev pub cut_saved : List Act
cut_saved = cut ++ Synced 0 3 ∷ []

-- the server crashes after a meeting
abbrev pub met_cut : List Act
met_cut = met ++ Crash 0 2 ∷ []

-- and the new Epoch is synced
abbrev pub met_cut_saved : List Act
met_cut_saved = met_cut ++ Synced 0 3 ∷ []

-- a session is closed
abbrev pub closed : List Act
closed = met ++ Shut 0 2 Replaced ∷ []

-- and its Close is synced
abbrev pub closed_saved : List Act
closed_saved = closed ++ Synced 0 3 ∷ []

-- and the session is lost
abbrev pub closed_lost : List Act
closed_lost = closed_saved ++ Lose 0 0 (ByReset 3) ∷ []

-- a new session is opened
abbrev pub replaced : List Act
replaced = closed ++ Enter 0 (OpenEntry 4 0) ∷ []

-- and its data end broke
abbrev pub replaced_broke : List Act
replaced_broke = replaced ++ Broke 0 0 ServerEnd 0 ∷ []

-- for the trouble time
abbrev pub replaced_late : List Act
replaced_late = replaced_broke ++ Tick 60 ∷ []

-- the new session is synced
abbrev pub replaced_saved : List Act
replaced_saved = replaced ++ Synced 0 4 ∷ []

-- and the old one is lost
abbrev pub replaced_lost : List Act
replaced_lost = replaced_saved ++ Lose 0 0 (ByReset 3) ∷ []

-- or the old one breaks
abbrev pub replaced_app_broke : List Act
replaced_app_broke = replaced_saved ++ Broke 0 0 AppEnd 0 ∷ []

-- for the recover time
abbrev pub replaced_app_late : List Act
replaced_app_late = replaced_app_broke ++ Tick 100 ∷ []

-- and is lost
abbrev pub replaced_expired : List Act
replaced_expired = replaced_app_late ++ Lose 0 0 (ByExpired 100) ∷ []

-- time goes by
abbrev pub late : List Act
late = met ++ Tick 60 ∷ []

-- more time goes by
abbrev pub very_late : List Act
very_late = met ++ Tick 100 ∷ []

-- the data end breaks
abbrev pub server_broke : List Act
server_broke = met ++ Broke 0 0 ServerEnd 0 ∷ []

-- for the trouble time
abbrev pub server_late : List Act
server_late = server_broke ++ Tick 60 ∷ []

-- or nearly
abbrev pub server_early : List Act
server_early = server_broke ++ Tick 59 ∷ []

-- the application end breaks
abbrev pub app_broke : List Act
app_broke = met ++ Broke 0 0 AppEnd 0 ∷ []

-- for the recover time
abbrev pub app_late : List Act
app_late = app_broke ++ Tick 100 ∷ []

-- or nearly
abbrev pub app_early : List Act
app_early = app_broke ++ Tick 99 ∷ []

-- an application server dies before it meets its session
abbrev pub saved_dead : List Act
saved_dead = open_saved ++ Died 0 ∷ []

-- or after that
abbrev pub met_dead : List Act
met_dead = met ++ Died 0 ∷ []

-- or after a crash
abbrev pub crashed_dead : List Act
crashed_dead = server_crashed ++ Died 0 ∷ []

-- or after a break
abbrev pub broke_dead : List Act
broke_dead = app_broke ++ Died 0 ∷ []

-- or after a Close
abbrev pub closed_dead : List Act
closed_dead = closed_saved ++ Died 0 ∷ []

-- or after a break for the recover time
abbrev pub late_dead : List Act
late_dead = app_late ++ Died 0 ∷ []

-- a journal holds a session
abbrev pub found : List Act
found = nothing ++ Opened 0 (Epoch 1 ∷ OpenEntry 2 0 ∷ []) ∷ []

-- an Open is cut
abbrev pub open_cut : List Act
open_cut = open_entered ++ Crash 0 1 ∷ []

-- and the new Epoch is synced
abbrev pub open_cut_saved : List Act
open_cut_saved = open_cut ++ Synced 0 2 ∷ []

-- so many Epochs, above a number
abbrev pub epochs : ℕ → ℕ → List Entry
epochs m zero = []
epochs m (suc n) = Epoch (m + 1) ∷ epochs (m + 1) n

-- a journal holds so many Epochs
abbrev pub many_opened : ℕ → List Act
many_opened n = nothing ++ Opened 0 (epochs 0 n) ∷ []
