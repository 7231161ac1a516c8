-- The lines of a script, a row each: the first word, and the parts after it with what they say.
use Rattle.std.specs.Prelude.{◌≡◌, ◌≢◌, ℕ, Bool, true, false, List, [], ◌∷◌, codes}
use Rattle.plain_orders.specs.declared.mode.Mode.{Mode}
use Rattle.plain_orders.specs.declared.mode.Mode.TheVariants.{Exclusive, Shared}
use Rattle.app_job.specs.declared.command.Command.{Command}
use Rattle.app_job.specs.declared.command.Command.TheVariants.{Set, Kill, Get, Shape, Next, Incr, Lock, Unlock, Start, Commit, Rollback, Sync}
use Rattle.job_script.specs.declared.declared.Declared.{Declared}
use Rattle.job_script.specs.declared.declaration.Declaration.{Declaration}
use Rattle.job_script.specs.declared.declaration.Declaration.TheVariants.{Server as ServerDeclared, App as AppDeclared, Job as JobDeclared, Global as GlobalDeclared, Time as TimeDeclared}
use Rattle.job_script.specs.declared.name_kind.NameKind.TheVariants.{Server, App, Job}
use Rattle.job_script.specs.declared.todo.Todo.{Todo}
use Rattle.job_script.specs.declared.todo.Todo.TheVariants.{Job as JobTodo, Hold, Flow, Up, Down, Save, Pump, Tick, Break, Mend, Crash, Restart, Die, Await}
use Rattle.job_script.specs.Parts.{Part, NewName, NewGlobal, OfKind, ASetting, ANumber, APick, AnAmount, ANode, ANext, AValue, AFlag, AWait, TakesParts}
use Rattle.job_script.specs.Words.{IsAhead, first_word}

-- a row of a table
pub record Row : Type 0 where
  pub word : List ℕ
  pub parts : List Part

abbrev pub row : List ℕ → List Part → Row
row word parts = record { word = word; parts = parts }

-- declarations
abbrev pub declaration_row : Declaration → Row
declaration_row (ServerDeclared name) = row (codes "data") (NewName Server name ∷ [])
declaration_row (AppDeclared name) = row (codes "app") (NewName App name ∷ [])
declaration_row (JobDeclared name app) = row (codes "job") (NewName Job name ∷ OfKind App app ∷ [])
declaration_row (GlobalDeclared name server) = row (codes "global") (NewGlobal name ∷ OfKind Server server ∷ [])
declaration_row (TimeDeclared setting ticks) = row (codes "time") (ASetting setting ∷ ANumber 1 100000 ticks ∷ [])

-- the other lines; a job's line begins with the job's name, so a space, which no word has, stands for its word
abbrev pub todo_row : Todo → Row
todo_row (JobTodo job command) = row (32 ∷ []) []
todo_row Hold = row (codes "hold") []
todo_row Flow = row (codes "flow") []
todo_row (Up app server) = row (codes "up") (OfKind App app ∷ OfKind Server server ∷ [])
todo_row (Down app server) = row (codes "down") (OfKind App app ∷ OfKind Server server ∷ [])
todo_row (Save server) = row (codes "save") (OfKind Server server ∷ [])
todo_row Pump = row (codes "pump") []
todo_row (Tick count) = row (codes "tick") (ANumber 1 10000 count ∷ [])
todo_row (Break app server) = row (codes "break") (OfKind App app ∷ OfKind Server server ∷ [])
todo_row (Mend app server) = row (codes "mend") (OfKind App app ∷ OfKind Server server ∷ [])
todo_row (Crash server pick) = row (codes "crash") (OfKind Server server ∷ APick pick ∷ [])
todo_row (Restart server) = row (codes "restart") (OfKind Server server ∷ [])
todo_row (Die app) = row (codes "die") (OfKind App app ∷ [])
todo_row (Await job) = row (codes "await") (OfKind Job job ∷ [])

abbrev pub is_shared : Mode → Bool
is_shared Exclusive = false
is_shared Shared = true

-- commands of a job
abbrev pub command_row : Command → Row
command_row (Set at value) = row (codes "set") (ANode at ∷ AValue value ∷ [])
command_row (Kill at) = row (codes "kill") (ANode at ∷ [])
command_row (Get at) = row (codes "get") (ANode at ∷ [])
command_row (Shape at) = row (codes "data") (ANode at ∷ [])
command_row (Next parent sub) = row (codes "next") (ANext parent sub ∷ [])
command_row (Incr at amount) = row (codes "incr") (ANode at ∷ AnAmount amount ∷ [])
command_row (Lock at mode wait) = row (codes "lock") (ANode at ∷ AFlag (codes "shared") (is_shared mode) ∷ AWait wait ∷ [])
command_row (Unlock at mode now) = row (codes "unlock") (ANode at ∷ AFlag (codes "shared") (is_shared mode) ∷ AFlag (codes "now") now ∷ [])
command_row Start = row (codes "tstart") []
command_row (Commit sync) = row (codes "tcommit") (AFlag (codes "sync") sync ∷ [])
command_row Rollback = row (codes "trollback") []
command_row (Sync server) = row (codes "sync") (OfKind Server server ∷ [])

-- after this first word of a table a text says this
pub record ReadsBehind {X : Type 0} (row_of : X → Row) (d : Declared) (word text : List ℕ) (x : X) : Type 0 where
  pub word_is : (row_of x).word ≡ word
  pub parts : TakesParts d (row_of x).parts text

-- a text is a line of a table that says this
pub record Reads {X : Type 0} (row_of : X → Row) (d : Declared) (text : List ℕ) (x : X) : Type 0 where
  pub rest : List ℕ
  pub ahead : IsAhead (first_word text) text rest
  pub behind : ReadsBehind row_of d (first_word text) rest x

-- no line of a table begins with this word
abbrev pub IsUnknown : {X : Type 0} → (X → Row) → List ℕ → Type 0
IsUnknown {X} row_of word = (x : X) → (row_of x).word ≢ word
