-- What a line of a script adds: ticks, deaths and crashes to the trail, and pieces to the transcript, where the line puts them. These rules
-- are those of a script that is run line by line.
use Rattle.std.specs.Prelude.{not, ◌&&◌, ◌||◌, ◌==◌, Any, ◌≡◌, ◌≢◌, ◌⊎◌, ℕ, Bool, true, false, ◌+◌, ◌<◌, ◌≤◌, zero, suc, if◌then◌else◌, List, [], ◌∷◌, ◌++◌, length, Option, None, Some, slice_get, IfSome, IsSomeAnd, map, sum, ◌-◌}
use Rattle.std.specs.List.{flat_map, list_any, range_with_len, AllByRecursion}
use Rattle.plain_orders.specs.declared.act.Act.{Act}
use Rattle.plain_orders.specs.declared.act.Act.TheVariants.{Opened, Enter, Synced, Shut, Release, Met, Told, Back, Crash as CrashAct, Issue, Read, Grant, Granted, GiveUp, Quit, Free, Counted, NotWhole, Range, Committed, RolledBack, Reached, Level, Done, Refused, Broke, Mended, Tick as TickAct, Lose, Died}
use Rattle.plain_orders.specs.declared.causes.PairEnd.TheVariants.{App as AppEnd, Server as ServerEnd}
use Rattle.plain_orders.specs.declared.layout.Layout.{Layout}
use Rattle.plain_orders.specs.Times.{until}
use Rattle.plain_runs.specs.Plain.{Plain, app_of, put}
use Rattle.plain_runs.specs.Run.{state_after}
use Rattle.app_job.specs.declared.command.Command.{Command}
use Rattle.app_job.specs.declared.command.Command.TheVariants.{Set, Kill, Get, Shape, Next, Incr, Lock, Unlock, Start, Commit, Rollback, Sync}
use Rattle.app_job.specs.declared.why.Why.{Why}
use Rattle.app_job.specs.declared.why.Why.TheVariants.{State, Queue, Own, Fetch, Grant as GrantWhy, Reply}
use Rattle.job_script.specs.declared.script_line.ScriptLine.{ScriptLine}
use Rattle.job_script.specs.declared.todo.Todo.{Todo}
use Rattle.job_script.specs.declared.todo.Todo.TheVariants.{Job, Hold, Flow, Up, Down, Save, Pump, Tick, Break, Mend, Crash, Restart, Die, Await}
use Rattle.transcript.specs.declared.piece.AnswerLine.{AnswerLine}
use Rattle.transcript.specs.declared.piece.Piece.{Piece}
use Rattle.transcript.specs.declared.piece.Piece.TheVariants.{Pumped, Restarted as RestartedPiece, Gone}
use Rattle.transcript.specs.declared.piece.Restarted.{Restarted}
use Rattle.transcript.specs.declared.piece.Restarted.TheVariants.{Kept, DiskFault, NotAJournal, NotKept, NetFault, Running}
use Rattle.script_fits.specs.JobLines.{CommandLine, commands_of, Ended, ended_of}
use Rattle.script_fits.specs.Pieces.{Waits, answers_in, waits_in, last_why, has_wait, pump_in, restart_in, gone_in, HaltedAt, halt_in}
use Rattle.script_fits.specs.Naming.{IsServer, opened_in}
use Rattle.script_fits.specs.Walk.{Added, SoFar, with_line, down_at, down_after, is_crash, may_save}

-- the time of an act alone, if it is a tick
abbrev pub tick_in : Act → List ℕ
tick_in (TickAct time) = time ∷ []
tick_in act = []

-- the application server of an act alone, if it is a death
abbrev pub death_in : Act → List ℕ
death_in (Died app) = app ∷ []
death_in act = []

-- an act alone, if it is a crash
abbrev pub crash_in : Act → List Act
crash_in (CrashAct d kept) = CrashAct d kept ∷ []
crash_in act = []

-- so many ticks, each one above the last
abbrev pub ticks_from : ℕ → ℕ → List ℕ
ticks_from clock zero = []
ticks_from clock (suc n) = until clock 1 ∷ ticks_from (until clock 1) n

-- the ticks of a line
abbrev pub ticks_of : ℕ → Todo → List ℕ
ticks_of clock (Job job command) = []
ticks_of clock Hold = []
ticks_of clock Flow = []
ticks_of clock (Up app server) = []
ticks_of clock (Down app server) = []
ticks_of clock (Save server) = []
ticks_of clock Pump = []
ticks_of clock (Tick count) = ticks_from clock count
ticks_of clock (Break app server) = []
ticks_of clock (Mend app server) = []
ticks_of clock (Crash server pick) = []
ticks_of clock (Restart server) = []
ticks_of clock (Die app) = []
ticks_of clock (Await job) = []

-- the death at a line, unless the application server died before
abbrev pub deaths_of : Plain → Todo → List ℕ
deaths_of p (Job job command) = []
deaths_of p Hold = []
deaths_of p Flow = []
deaths_of p (Up app server) = []
deaths_of p (Down app server) = []
deaths_of p (Save server) = []
deaths_of p Pump = []
deaths_of p (Tick count) = []
deaths_of p (Break app server) = []
deaths_of p (Mend app server) = []
deaths_of p (Crash server pick) = []
deaths_of p (Restart server) = []
deaths_of p (Die app) = if p.died_at app then [] else app ∷ []
deaths_of p (Await job) = []

-- a job's line says that the job is gone, where its application server died before
abbrev pub gone_of : Layout → Plain → ℕ → Todo → List Piece
gone_of l p line (Job job command) = if p.died_at (app_of l job) then Gone job line ∷ [] else []
gone_of l p line Hold = []
gone_of l p line Flow = []
gone_of l p line (Up app server) = []
gone_of l p line (Down app server) = []
gone_of l p line (Save server) = []
gone_of l p line Pump = []
gone_of l p line (Tick count) = []
gone_of l p line (Break app server) = []
gone_of l p line (Mend app server) = []
gone_of l p line (Crash server pick) = []
gone_of l p line (Restart server) = []
gone_of l p line (Die app) = []
gone_of l p line (Await job) = []

-- what is unsaved at the data servers that run
abbrev pub unsaved : Layout → Plain → (ℕ → Bool) → ℕ
unsaved l p down = sum (map (λ d. if down d then 0 else length (p.server_at d).order - (p.server_at d).synced) (range_with_len 0 l.servers))

-- what a pump leaves, where so much is unsaved: nothing unsaved if it left nothing, else at least that
abbrev pub LeavesMay : ℕ → Option ℕ → Type 0
LeavesMay n None = n ≡ 0
LeavesMay n (Some left) = (0 < left) × (n ≤ left)

-- a pump says once what it left, and no other line does
abbrev pub ArePumps : ℕ → ℕ → Todo → List Piece → Type 0
ArePumps n line (Job job command) pumps = pumps ≡ []
ArePumps n line Hold pumps = pumps ≡ []
ArePumps n line Flow pumps = pumps ≡ []
ArePumps n line (Up app server) pumps = pumps ≡ []
ArePumps n line (Down app server) pumps = pumps ≡ []
ArePumps n line (Save server) pumps = pumps ≡ []
ArePumps n line Pump pumps = (left : Option ℕ) × (pumps ≡ Pumped line left ∷ []) × LeavesMay n left
ArePumps n line (Tick count) pumps = pumps ≡ []
ArePumps n line (Break app server) pumps = pumps ≡ []
ArePumps n line (Mend app server) pumps = pumps ≡ []
ArePumps n line (Crash server pick) pumps = pumps ≡ []
ArePumps n line (Restart server) pumps = pumps ≡ []
ArePumps n line (Die app) pumps = pumps ≡ []
ArePumps n line (Await job) pumps = pumps ≡ []

-- the data server that does an act of its own
abbrev pub doer_of : Act → Option ℕ
doer_of (Opened d entries) = Some d
doer_of (Enter d entry) = Some d
doer_of (Synced d n) = Some d
doer_of (Shut d session cause) = Some d
doer_of (Release d session) = Some d
doer_of (Met app d session) = None
doer_of (Told app d session epoch kept) = None
doer_of (Back d) = Some d
doer_of (CrashAct d kept) = Some d
doer_of (Issue job line d w item) = None
doer_of (Read job line d at via question) = None
doer_of (Grant d session job mode key at) = Some d
doer_of (Granted job line d at) = None
doer_of (GiveUp job line d mode key) = None
doer_of (Quit job line d mode key) = None
doer_of (Free d session job mode key) = Some d
doer_of (Counted job line d at sum) = None
doer_of (NotWhole job line d at) = None
doer_of (Range job line d at) = None
doer_of (Committed job line d at) = None
doer_of (RolledBack job line d at) = None
doer_of (Reached job line d at) = None
doer_of (Level job line level) = None
doer_of (Done job line) = None
doer_of (Refused job line refused) = None
doer_of (Broke app d AppEnd time) = None
doer_of (Broke app d ServerEnd time) = Some d
doer_of (Mended app d) = None
doer_of (TickAct time) = None
doer_of (Lose app d loss) = None
doer_of (Died app) = None

-- a data server does nothing of its own among these
abbrev pub DoesNothing : ℕ → List Act → Type 0
DoesNothing d acts = AllByRecursion (λ a. IfSome (doer_of a) (λ s. s ≢ d)) acts

-- a crash comes first at its line, and the new Epoch is synced right after it
abbrev pub IsKeptBy : ℕ → ℕ → List Act → Type 0
IsKeptBy d kept acts = (rest : List Act) × (acts ≡ CrashAct d kept ∷ Synced d (kept + 1) ∷ rest) × (flat_map crash_in rest ≡ [])

-- the server doesn't begin; or it crashes first at the line, and its new Epoch isn't synced
abbrev pub IsCutShort : ℕ → List Act → Type 0
IsCutShort d acts = DoesNothing d acts ⊎ ((kept : ℕ) × (rest : List Act) × (acts ≡ CrashAct d kept ∷ rest) × DoesNothing d rest)

-- the same; or its new Epoch is synced, and nothing more
abbrev pub IsNotHeard : ℕ → List Act → Type 0
IsNotHeard d acts = IsCutShort d acts ⊎ ((kept : ℕ) × (rest : List Act) × (acts ≡ CrashAct d kept ∷ Synced d (kept + 1) ∷ rest) × DoesNothing d rest)

-- how a restart may end, and what it writes: a running server has no crash, one that is down crashes with the entries kept; after a
-- restart that failed the server does nothing
abbrev pub RestartMay : Bool → ℕ → Restarted → List Act → Type 0
RestartMay down d (Kept entries) acts = (down ≡ true) × IsKeptBy d entries acts
RestartMay down d DiskFault acts = (down ≡ true) × IsCutShort d acts
RestartMay down d (NotAJournal place) acts = (down ≡ true) × DoesNothing d acts
RestartMay down d (NotKept place) acts = (down ≡ true) × DoesNothing d acts
RestartMay down d NetFault acts = (down ≡ true) × IsNotHeard d acts
RestartMay down d Running acts = (down ≡ false) × (flat_map crash_in acts ≡ [])

-- a crash is one of this data server
abbrev pub IsCrashOf : ℕ → Act → Type 0
IsCrashOf d act = IfSome (doer_of act) (λ s. s ≡ d)

-- nothing is restarted
abbrev pub NoRestart : List Piece → List Act → Type 0
NoRestart restarts acts = (restarts ≡ []) × (flat_map crash_in acts ≡ [])

-- a restart says once how it ended, and no other line does; a server crashes at its restart alone
abbrev pub AreRestarts : (ℕ → Bool) → ℕ → Todo → List Piece → List Act → Type 0
AreRestarts down line (Job job command) restarts acts = NoRestart restarts acts
AreRestarts down line Hold restarts acts = NoRestart restarts acts
AreRestarts down line Flow restarts acts = NoRestart restarts acts
AreRestarts down line (Up app server) restarts acts = NoRestart restarts acts
AreRestarts down line (Down app server) restarts acts = NoRestart restarts acts
AreRestarts down line (Save server) restarts acts = NoRestart restarts acts
AreRestarts down line Pump restarts acts = NoRestart restarts acts
AreRestarts down line (Tick count) restarts acts = NoRestart restarts acts
AreRestarts down line (Break app server) restarts acts = NoRestart restarts acts
AreRestarts down line (Mend app server) restarts acts = NoRestart restarts acts
AreRestarts down line (Crash server pick) restarts acts = NoRestart restarts acts
AreRestarts down line (Restart server) restarts acts =
    (outcome : Restarted) × (restarts ≡ RestartedPiece server line outcome ∷ []) × RestartMay (down server) server outcome acts
    × AllByRecursion (IsCrashOf server) (flat_map crash_in acts)
AreRestarts down line (Die app) restarts acts = NoRestart restarts acts
AreRestarts down line (Await job) restarts acts = NoRestart restarts acts

-- a line restarts this data server
abbrev pub is_restart : ℕ → Todo → Bool
is_restart d (Job job command) = false
is_restart d Hold = false
is_restart d Flow = false
is_restart d (Up app server) = false
is_restart d (Down app server) = false
is_restart d (Save server) = false
is_restart d Pump = false
is_restart d (Tick count) = false
is_restart d (Break app server) = false
is_restart d (Mend app server) = false
is_restart d (Crash server pick) = false
is_restart d (Restart server) = server == d
is_restart d (Die app) = false
is_restart d (Await job) = false

-- a data server that does nothing at a line: it is down, and the line doesn't restart it; or the line crashes it
abbrev pub is_still : (ℕ → Bool) → Todo → ℕ → Bool
is_still down todo d = (down d && not (is_restart d todo)) || is_crash d todo

-- an act isn't that of a data server that does nothing
abbrev pub IsOfRunning : (ℕ → Bool) → Todo → Act → Type 0
IsOfRunning down todo act = IfSome (doer_of act) (λ d. is_still down todo d ≡ false)

-- servers halt at this line, each of them once and while it is up; what it had unsaved is so still after the line
abbrev pub AreHalts : Layout → Plain → (ℕ → Bool) → (ℕ → Bool) → ℕ → List HaltedAt → Type 0
AreHalts l p saves down line [] = Unit {0}
AreHalts l p saves down line (h ∷ halts) =
    IsServer l h.server × (h.line ≡ line) × (saves h.server ≡ true) × (down h.server ≡ false)
    × ((p.server_at h.server).synced < length (p.server_at h.server).order) × AreHalts l p saves (put down h.server true) line halts

-- the answer of a command that has its end
abbrev pub answer_line : Ended → AnswerLine
answer_line e = record { job = e.job; line = e.line; answer = e.answer }

-- a place is one of so many from k on
abbrev pub IsWithin : ℕ → ℕ → Ended → Type 0
IsWithin k n e = (k ≤ e.place) × (e.place < k + n)

-- the line of an act that a job makes
abbrev pub line_of : Act → Option ℕ
line_of (Opened d entries) = None
line_of (Enter d entry) = None
line_of (Synced d n) = None
line_of (Shut d session cause) = None
line_of (Release d session) = None
line_of (Met app d session) = None
line_of (Told app d session epoch kept) = None
line_of (Back d) = None
line_of (CrashAct d kept) = None
line_of (Issue job line d w item) = Some line
line_of (Read job line d at via question) = Some line
line_of (Grant d session job mode key at) = None
line_of (Granted job line d at) = Some line
line_of (GiveUp job line d mode key) = Some line
line_of (Quit job line d mode key) = Some line
line_of (Free d session job mode key) = None
line_of (Counted job line d at sum) = Some line
line_of (NotWhole job line d at) = Some line
line_of (Range job line d at) = Some line
line_of (Committed job line d at) = Some line
line_of (RolledBack job line d at) = Some line
line_of (Reached job line d at) = Some line
line_of (Level job line level) = Some line
line_of (Done job line) = Some line
line_of (Refused job line refused) = Some line
line_of (Broke app d end time) = None
line_of (Mended app d) = None
line_of (TickAct time) = None
line_of (Lose app d loss) = None
line_of (Died app) = None

-- a job acts for no later line than this
abbrev pub IsNoLater : ℕ → Act → Type 0
IsNoLater line a = IfSome (line_of a) (λ l. l ≤ line)

-- the first command of a job that has no end yet, among the lines so far
abbrev pub first_open : SoFar → ℕ → Option CommandLine
first_open s j = slice_get (commands_of j s.lines) (length (ended_of j s.ends))

-- an act issues something for a job at a line
abbrev pub is_issue : ℕ → ℕ → Act → Bool
is_issue job line (Issue j k d w item) = j == job && k == line
is_issue job line act = false

-- what a command may wait for, before it issued something at its line and after that
abbrev pub reasons_of : Command → Bool → List Why
reasons_of (Set at value) issued = State ∷ Queue ∷ []
reasons_of (Kill at) issued = State ∷ Queue ∷ []
reasons_of (Get at) issued = State ∷ Fetch ∷ []
reasons_of (Shape at) issued = State ∷ Own ∷ Fetch ∷ []
reasons_of (Next parent sub) issued = State ∷ Own ∷ Fetch ∷ []
reasons_of (Incr at amount) false = State ∷ Queue ∷ Own ∷ []
reasons_of (Incr at amount) true = State ∷ Reply ∷ []
reasons_of (Lock at mode wait) issued = State ∷ GrantWhy ∷ []
reasons_of (Unlock at mode now) issued = State ∷ []
reasons_of Start issued = []
reasons_of (Commit false) issued = State ∷ Queue ∷ []
reasons_of (Commit true) false = State ∷ Queue ∷ []
reasons_of (Commit true) true = State ∷ Reply ∷ []
reasons_of Rollback false = State ∷ Queue ∷ []
reasons_of Rollback true = State ∷ Reply ∷ []
reasons_of (Sync server) issued = State ∷ Own ∷ Reply ∷ []

-- a waiting line is that of this command, for one of its reasons
abbrev pub IsWaitOf : List Act → Waits → CommandLine → Type 0
IsWaitOf acts w c = (c.line ≡ w.line) × Any (λ why. why ≡ w.why) (reasons_of c.command (list_any (is_issue w.job w.line) acts))

-- a waiting line: of a living job's first command without an end, for another reason than was printed last for it
pub record WaitMay (l : Layout) (old new : SoFar) (w : Waits) : Type 0 where
  pub alive : (state_after l new.acts).died_at (app_of l w.job) ≡ false
  pub its : IsSomeAnd (first_open new w.job) (IsWaitOf new.acts w)
  pub another : last_why None w.job w.line (waits_in old.pieces) ≢ Some w.why

-- waiting lines by job, from a job on
abbrev pub AreWaits : Layout → SoFar → SoFar → ℕ → List Waits → Type 0
AreWaits l old new j [] = Unit {0}
AreWaits l old new j (w ∷ ws) = (j ≤ w.job) × WaitMay l old new w × AreWaits l old new (w.job + 1) ws

-- a job is gone, or its first command without an end, if there is one, has a waiting line
abbrev pub IsAccounted : Layout → SoFar → ℕ → Type 0
IsAccounted l s j = ((state_after l s.acts).died_at (app_of l j) ≡ true) ⊎ IfSome (first_open s j) (λ c. has_wait j c.line s.pieces ≡ true)

-- What a line adds.
pub record LineAdds (l : Layout) (s : SoFar) (line : ScriptLine) (added : Added) : Type 0 where
  pub middle : List Piece
  pub waiting : List Piece
  -- the clock rises by one for each tick of the line, and at no other line
  pub ticks : flat_map tick_in added.acts ≡ ticks_of (state_after l s.acts).clock line.todo
  -- an application server dies at its line
  pub deaths : flat_map death_in added.acts ≡ deaths_of (state_after l s.acts) line.todo
  -- no data server begins
  pub opened : flat_map opened_in added.acts ≡ []
  pub restarts : AreRestarts s.down line.line line.todo (flat_map restart_in added.pieces) added.acts
  pub halts :
      AreHalts l (state_after l (s.acts ++ added.acts)) (may_save s.flows line.todo) (down_at s.down line.todo added.pieces) line.line (flat_map halt_in added.pieces)
  -- a data server that is down, or that this line takes down, does nothing of its own
  pub still : AllByRecursion (IsOfRunning s.down line.todo) added.acts
  pub pumps :
      ArePumps (unsaved l (state_after l (s.acts ++ added.acts)) (down_after s.down line.todo added.pieces)) line.line line.todo (flat_map pump_in added.pieces)
  pub gone : flat_map gone_in added.pieces ≡ gone_of l (state_after l s.acts) line.line line.todo
  -- no job acts for a line that is still to come
  pub given : AllByRecursion (IsNoLater line.line) added.acts
  -- the answers are those of the commands that end at this line
  pub answers : answers_in added.pieces ≡ map answer_line added.ends
  pub places : AllByRecursion (IsWithin (length s.acts) (length added.acts)) added.ends
  -- a restart and a job that is gone are told first, then answers and halts, then a pump, and the waiting lines last, by job
  pub pieces :
      added.pieces ≡ flat_map restart_in added.pieces ++ (flat_map gone_in added.pieces ++ (middle ++ (flat_map pump_in added.pieces ++ waiting)))
  pub no_wait : waits_in middle ≡ []
  pub only_waits : length (waits_in waiting) ≡ length waiting
  pub waits : AreWaits l s (with_line s line added) 0 (waits_in waiting)
  -- each job of a living application server that waits has one
  pub accounted : (j : ℕ) → IsAccounted l (with_line s line added) j

-- each line adds what it may, one after the other
abbrev pub LinesAdd : Layout → SoFar → List ScriptLine → List Added → Type 0
LinesAdd l s [] added = added ≡ []
LinesAdd l s (line ∷ lines) [] = ⊥
LinesAdd l s (line ∷ lines) (a ∷ added) = LineAdds l s line a × LinesAdd l (with_line s line a) lines added
