-- What an act names is declared: each server, application server and job is below its count.
use Rattle.std.specs.Prelude.{ℕ, ◌<◌, List, [], ◌∷◌, length}
use Rattle.plain_orders.specs.declared.act.Act.{Act}
use Rattle.plain_orders.specs.declared.act.Act.TheVariants.{Opened, Enter, Synced, Shut, Release, Met, Told, Back, Crash, Issue, Read, Grant, Granted, GiveUp, Quit, Free, Counted, NotWhole, Range, Committed, RolledBack, Reached, Level, Done, Refused, Broke, Mended, Tick, Lose, Died}
use Rattle.plain_orders.specs.declared.entry.Entry.{Entry}
use Rattle.plain_orders.specs.declared.entry.Entry.TheVariants.{Epoch, Opened as OpenEntry, Closed, Update, Commit, Rollback}
use Rattle.plain_orders.specs.declared.layout.Layout.{Layout}

-- a data server that is declared
abbrev pub IsServer : Layout → ℕ → Type 0
IsServer l d = d < l.servers

-- an application server that is declared
abbrev pub IsApp : Layout → ℕ → Type 0
IsApp l app = app < l.apps

-- a job that is declared
abbrev pub IsJob : Layout → ℕ → Type 0
IsJob l job = job < length l.job_apps

-- the application server or the job that an entry names is declared
abbrev pub IsEntryDeclared : Layout → Entry → Type 0
IsEntryDeclared l (Epoch number) = Unit {0}
IsEntryDeclared l (OpenEntry session app) = IsApp l app
IsEntryDeclared l (Closed session) = Unit {0}
IsEntryDeclared l (Update session w job txn op) = IsJob l job
IsEntryDeclared l (Commit session w job txn) = IsJob l job
IsEntryDeclared l (Rollback session w job txn) = IsJob l job

-- the servers, application servers and jobs that an act names are declared
abbrev pub IsDeclared : Layout → Act → Type 0
IsDeclared l (Opened d entries) = IsServer l d
IsDeclared l (Enter d entry) = IsServer l d × IsEntryDeclared l entry
IsDeclared l (Synced d n) = IsServer l d
IsDeclared l (Shut d session cause) = IsServer l d
IsDeclared l (Release d session) = IsServer l d
IsDeclared l (Met app d session) = IsApp l app × IsServer l d
IsDeclared l (Told app d session epoch kept) = IsApp l app × IsServer l d
IsDeclared l (Back d) = IsServer l d
IsDeclared l (Crash d kept) = IsServer l d
IsDeclared l (Issue job line d w item) = IsJob l job × IsServer l d
IsDeclared l (Read job line d at via question) = IsJob l job × IsServer l d
IsDeclared l (Grant d session job mode key at) = IsJob l job × IsServer l d
IsDeclared l (Granted job line d at) = IsJob l job × IsServer l d
IsDeclared l (GiveUp job line d mode key) = IsJob l job × IsServer l d
IsDeclared l (Quit job line d mode key) = IsJob l job × IsServer l d
IsDeclared l (Free d session job mode key) = IsJob l job × IsServer l d
IsDeclared l (Counted job line d at sum) = IsJob l job × IsServer l d
IsDeclared l (NotWhole job line d at) = IsJob l job × IsServer l d
IsDeclared l (Range job line d at) = IsJob l job × IsServer l d
IsDeclared l (Committed job line d at) = IsJob l job × IsServer l d
IsDeclared l (RolledBack job line d at) = IsJob l job × IsServer l d
IsDeclared l (Reached job line d at) = IsJob l job × IsServer l d
IsDeclared l (Level job line level) = IsJob l job
IsDeclared l (Done job line) = IsJob l job
IsDeclared l (Refused job line refused) = IsJob l job
IsDeclared l (Broke app d end time) = IsApp l app × IsServer l d
IsDeclared l (Mended app d) = IsApp l app × IsServer l d
IsDeclared l (Tick time) = Unit {0}
IsDeclared l (Lose app d loss) = IsApp l app × IsServer l d
IsDeclared l (Died app) = IsApp l app

-- the data server of an act by which one begins
abbrev pub opened_in : Act → List ℕ
opened_in (Opened d entries) = d ∷ []
opened_in act = []
