-- What a run of a script goes by.
use Rattle.std.specs.Prelude.{◌≡◌, ℕ, ◌<◌, ◌≤◌, Bool, true, false, List, [], ◌∷◌, ◌++◌, length, Some, None, IfSome, All, map}
use Rattle.std.specs.List.{AllByRecursion}
use Rattle.plain_orders.specs.declared.act.Act.{Act}
use Rattle.plain_orders.specs.declared.entry.Entry.TheVariants.{Epoch}
use Rattle.plain_orders.specs.declared.item.Item.TheVariants.{Op as OpItem}
use Rattle.plain_orders.specs.declared.layout.Layout.{Layout}
use Rattle.plain_orders.specs.declared.op.Op.TheVariants.{Set as SetOp, Kill as KillOp}
use Rattle.plain_orders.specs.Entries.{count, live}
use Rattle.plain_orders.specs.Fold.{fold}
use Rattle.subscript_keys.specs.declared.limits.TheConstants.{VALUE_LIMIT}
use Rattle.subscript_keys.specs.Key.{IsKey, IsSub, IsWithinLimit}
use Rattle.plain_orders.specs.declared.question.Question.{Question}
use Rattle.plain_orders.specs.declared.question.Question.TheVariants.{Get as GetQuestion, Shape as ShapeQuestion, Next as NextQuestion}
use Rattle.plain_orders.specs.Answers.{data_at, next_key, IsSubIn}
use Rattle.plain_orders.specs.Ordered.{KeyMay}
use Rattle.plain_orders.specs.PairMap.{Map, value_at}
use Rattle.global_store.specs.declared.global_store.GlobalStore.{GlobalStore}
use Rattle.global_store.specs.Stores.{IsStoreOf}
use Rattle.plain_runs.specs.JobRows.{asked_key}
use Rattle.plain_runs.specs.Plain.{Plain, Server, Session}
use Rattle.plain_runs.specs.Recording.{state_of}
use Rattle.plain_runs.specs.Run.{state_after}
use Rattle.app_job.specs.declared.answer.Answer.{Answer}
use Rattle.app_job.specs.declared.command.Command.{Command}
use Rattle.app_job.specs.declared.command.Command.TheVariants.{Set, Kill, Get, Shape, Next, Incr, Lock, Unlock, Start, Commit, Rollback, Sync}
use Rattle.app_job.specs.Limits.{NextMay}
use Rattle.app_job.specs.Sites.{Site, IsSite}
use Rattle.job_script.specs.declared.script.Script.{Script}
use Rattle.job_script.specs.declared.todo.Todo.{Todo}
use Rattle.job_script.specs.declared.todo.Todo.TheVariants.{Job, Await}
use Rattle.transcript.specs.ActText.{CanPrintAct}
use Rattle.transcript.specs.declared.piece.AnswerLine.{AnswerLine}
use Rattle.transcript.specs.declared.piece.Piece.{Piece}
use Rattle.transcript.specs.declared.piece.Piece.TheVariants.{Answered}
use Rattle.script_fits.specs.Acting.{Issues, Gets, Shapes, Nexts}
use Rattle.script_fits.specs.Breaks.{Causes, after_act, range_of}
use Rattle.script_fits.specs.Moments.{job_of}
use Rattle.script_fits.specs.Naming.{IsDeclared, opened_in}
use Rattle.script_fits.specs.Lines.{tick_in, death_in, crash_in, line_of}
use Rattle.cluster_call.specs.Stage.{loss_of}
use Rattle.cluster_call.specs.declared.script_run.ScriptRun.{ScriptRun}

-- a node at the only data server
abbrev pub IsHere : Site → Type 0
IsHere at = (at.server ≡ 0) × IsSite at

-- a command that can be run
abbrev pub CommandRuns : Command → Type 0
CommandRuns (Set at value) = IsHere at × (length value ≤ VALUE_LIMIT)
CommandRuns (Kill at) = IsHere at
CommandRuns (Get at) = IsHere at
CommandRuns (Shape at) = IsHere at
CommandRuns (Next parent sub) = IsHere parent × NextMay parent sub
CommandRuns (Incr at amount) = ⊥
CommandRuns (Lock at mode wait) = ⊥
CommandRuns (Unlock at mode now) = ⊥
CommandRuns Start = ⊥
CommandRuns (Commit sync) = ⊥
CommandRuns Rollback = ⊥
CommandRuns (Sync server) = ⊥

-- there is a data server, and a job on the first application server
pub record HasJob (l : Layout) : Type 0 where
  pub server : 0 < l.servers
  pub app : 0 < l.apps
  pub job : l.job_apps ≡ 0 ∷ []

-- a line that can be run: a command of the only job, or an await
abbrev pub TodoRuns : Layout → Todo → Type 0
TodoRuns l (Job job command) = HasJob l × (job ≡ 0) × CommandRuns command
TodoRuns l (Await job) = Unit {0}
TodoRuns l todo = ⊥

-- a script that can be run: one data server at most
pub record CanRun (script : Script) : Type 0 where
  pub few : script.layout.servers ≤ 1
  pub lines : All (λ line. TodoRuns script.layout line.todo) script.lines

-- the only session is the second entry of the list
abbrev pub SESSION : ℕ
SESSION = 2

-- the pair is not connected, and the list has its first entry alone
pub record IsUnmet (s : Server) (issued : ℕ) : Type 0 where
  pub order : s.order ≡ Epoch 1 ∷ []
  pub session : (s.pair_at 0).session ≡ None
  pub fresh : (n : ℕ) → s.session_at n ≡ None
  pub none : issued ≡ 0

-- the pair is connected, and all that was issued has entered
pub record IsMet (s : Server) (issued : ℕ) (its : Session) : Type 0 where
  pub session : (s.pair_at 0).session ≡ Some SESSION
  pub known : s.session_at SESSION ≡ Some its
  pub told : its.told ≡ 0
  pub all_issued : length its.issued ≡ issued
  pub is_live : live s.order SESSION ≡ true
  pub count : count s.order SESSION ≡ issued

abbrev pub IsConnected : Server → ℕ → Bool → Type 0
IsConnected s issued false = IsUnmet s issued
IsConnected s issued true = (its : Session) × IsMet s issued its

-- where the plain machine is between two lines: one list, all of it synced, that the store stands for
pub record IsBetweenLines (p : Plain) (entries issued : ℕ) (connected : Bool) (store : GlobalStore) : Type 0 where
  pub opened : (p.server_at 0).opened ≡ true
  pub past : (p.server_at 0).past ≡ []
  pub size : length (p.server_at 0).order ≡ entries
  pub synced : (p.server_at 0).synced ≡ entries
  pub not_due : (p.server_at 0).due ≡ None
  pub stored : IsStoreOf (p.server_at 0).order store
  pub unbroken : ((p.server_at 0).pair_at 0).broke ≡ None
  pub seen : ((p.server_at 0).known_at 0).seen ≤ entries
  pub free : ((p.server_at 0).known_at 0).bar ≡ None
  pub level : (p.job_at 0).level ≡ 0
  pub rolled : (p.job_at 0).rollback_only ≡ false
  pub alive : p.died_at 0 ≡ false
  pub pair : IsConnected (p.server_at 0) issued connected

-- a run between two lines
abbrev pub IsAtRest : ScriptRun → Type 0
IsAtRest run = IsBetweenLines (state_of run.recorder) run.length run.issued run.is_connected run.store

-- the pairs that the data server's list makes
abbrev pub pairs_in : ScriptRun → Map
pairs_in run = (fold ((state_of run.recorder).server_at 0).order).pairs

-- a question has its answer on these pairs, and its node is within the limits
abbrev pub IsAnswered : Map → Question → Type 0
IsAnswered m (GetQuestion key value) = (value ≡ value_at m key) × KeyMay key
IsAnswered m (ShapeQuestion key code) = (code ≡ data_at m key) × KeyMay key
IsAnswered m (NextQuestion parent sub found) =
    IsSubIn parent (next_key m parent sub) found × IsKey (asked_key parent sub) × IsWithinLimit (asked_key parent sub) × IsKey parent × IfSome sub IsSub × IfSome found IsSub

-- each act can be printed
abbrev pub AllCanPrint : List Act → Type 0
AllCanPrint acts = AllByRecursion CanPrintAct acts

-- An act of such a run: what it names is declared, and it opens no server, finds no connection, moves no clock, ends nothing and breaks
-- nothing.
pub record IsQuiet (l : Layout) (a : Act) : Type 0 where
  pub declared : IsDeclared l a
  pub opened : opened_in a ≡ []
  pub failed : range_of a ≡ []
  pub kept : loss_of a ≡ []
  pub clock : tick_in a ≡ []
  pub deaths : death_in a ≡ []
  pub crashes : crash_in a ≡ []
  pub whole : (c : Causes) → after_act c a ≡ c
  pub printed : CanPrintAct a

-- one that no job makes
pub record IsServed (l : Layout) (a : Act) : Type 0 where
  pub quiet : IsQuiet l a
  pub job : job_of a ≡ None
  pub line : line_of a ≡ None

-- one that the only job makes at a line
pub record IsMade (l : Layout) (line : ℕ) (a : Act) : Type 0 where
  pub quiet : IsQuiet l a
  pub job : job_of a ≡ Some 0
  pub its_line : line_of a ≡ Some line

-- some more acts that no job makes
abbrev pub AddsServed : Layout → List Act → List Act → Type 0
AddsServed l old new = (added : List Act) × (new ≡ old ++ added) × AllByRecursion (IsServed l) added

-- an act of the job at a line, and before and after it some that no job makes; the job hasn't to roll back first
pub record AddsAct (l : Layout) (line : ℕ) (old new : List Act) (act : Act) : Type 0 where
  pub before : List Act
  pub after : List Act
  pub whole : new ≡ old ++ (before ++ act ∷ after)
  pub served_before : AllByRecursion (IsServed l) before
  pub free : ((state_after l (old ++ before)).job_at 0).rollback_only ≡ false
  pub its : IsMade l line act
  pub served_after : AllByRecursion (IsServed l) after

-- the act that a command makes, and its answer
abbrev pub Makes : ℕ → Command → Act → Answer → Type 0
Makes line (Set at value) act answer = Issues 0 line at.server (OpItem (SetOp at.key value)) (act ∷ []) answer
Makes line (Kill at) act answer = Issues 0 line at.server (OpItem (KillOp at.key)) (act ∷ []) answer
Makes line (Get at) act answer = Gets 0 line at (act ∷ []) answer
Makes line (Shape at) act answer = Shapes 0 line at (act ∷ []) answer
Makes line (Next parent sub) act answer = Nexts 0 line parent sub (act ∷ []) answer
Makes line (Incr at amount) act answer = ⊥
Makes line (Lock at mode wait) act answer = ⊥
Makes line (Unlock at mode now) act answer = ⊥
Makes line Start act answer = ⊥
Makes line (Commit sync) act answer = ⊥
Makes line Rollback act answer = ⊥
Makes line (Sync server) act answer = ⊥

-- a command was done: its act, and the answer
pub record DidCommand (l : Layout) (line : ℕ) (command : Command) (old new : List Act) (answer : Answer) : Type 0 where
  pub act : Act
  pub makes : Makes line command act answer
  pub adds : AddsAct l line old new act

-- the line of an answer of the only job
abbrev pub own_line : ℕ → Answer → AnswerLine
own_line line answer = record { job = 0; line = line; answer = answer }

-- the pieces of some answers
abbrev pub pieces_of : List AnswerLine → List Piece
pieces_of answers = map Answered answers

-- a line was done: a command with its answer, or nothing
abbrev pub DidTodo : Layout → ℕ → Todo → List Act → List Act → List AnswerLine → Type 0
DidTodo l line (Job job command) old new answers =
    (answer : Answer) × DidCommand l line command old new answer × (answers ≡ own_line line answer ∷ [])
DidTodo l line todo old new answers = (new ≡ old) × (answers ≡ [])
