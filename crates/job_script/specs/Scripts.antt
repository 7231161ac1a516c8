-- Scripts: what a line is after those before it, what it declares, and the script of a text.
use Rattle.std.specs.Prelude.{◌≡◌, ◌≢◌, ◌⊎◌, ℕ, ◌+◌, ◌<◌, ◌≤◌, true, false, List, [], ◌∷◌, ◌++◌, length, None, Some, IfSome, All}
use Rattle.plain_orders.specs.declared.layout.Layout.{Layout}
use Rattle.plain_orders.specs.declared.layout.Names.{Names}
use Rattle.plain_orders.specs.declared.layout.Times.{Times}
use Rattle.app_job.specs.Limits.{CommandMay, server_of}
use Rattle.job_script.specs.declared.declared.Declared.{Declared}
use Rattle.job_script.specs.declared.declaration.Declaration.{Declaration}
use Rattle.job_script.specs.declared.declaration.Declaration.TheVariants.{Server as ServerDeclared, App as AppDeclared, Job as JobDeclared, Global as GlobalDeclared, Time as TimeDeclared}
use Rattle.job_script.specs.declared.declared_line.DeclaredLine.{DeclaredLine}
use Rattle.job_script.specs.declared.declared_line.DeclaringWord.{DeclaringWord}
use Rattle.job_script.specs.declared.declared_line.DeclaringWord.TheVariants.{Data, App as AppWord, Job as JobWord, Global as GlobalWord, Time as TimeWord}
use Rattle.job_script.specs.declared.limits.TheConstants.{LINE_LIMIT}
use Rattle.job_script.specs.declared.line.Line.{Line}
use Rattle.job_script.specs.declared.line.Line.TheVariants.{Nothing, Declares, Asks}
use Rattle.job_script.specs.declared.line_fault.LineFault.{LineFault}
use Rattle.job_script.specs.declared.line_fault.LineFault.TheVariants.{Bad, Unknown as UnknownName, Memory}
use Rattle.job_script.specs.declared.line_kind.LineKind.TheVariants.{Unknown, Late}
use Rattle.job_script.specs.declared.name_kind.NameKind.TheVariants.{Server, App, Job}
use Rattle.job_script.specs.declared.script.Script.{Script}
use Rattle.job_script.specs.declared.script_error.ScriptError.{ScriptError}
use Rattle.job_script.specs.declared.script_error.ScriptError.TheVariants.{BadLine, TooManyLines, UnknownName as UnknownInScript, Memory as NoMemory}
use Rattle.job_script.specs.declared.script_line.ScriptLine.{ScriptLine}
use Rattle.job_script.specs.declared.setting.Setting.{Setting}
use Rattle.job_script.specs.declared.setting.Setting.TheVariants.{Retry, Trouble, Recover, Round}
use Rattle.job_script.specs.declared.todo.Todo.{Todo}
use Rattle.job_script.specs.declared.todo.Todo.TheVariants.{Job as JobTodo, Hold, Flow, Up, Down, Save, Pump, Tick, Break, Mend, Crash, Restart, Die, Await}
use Rattle.job_script.specs.Lines.{script_lines}
use Rattle.job_script.specs.Names.{IsNodeName, index_of, HasRoom}
use Rattle.job_script.specs.Refusals.{RefusesRow}
use Rattle.job_script.specs.Rows.{Reads, IsUnknown, declaration_row, todo_row, command_row}
use Rattle.job_script.specs.Words.{IsAhead, IsSilent, first_word, trimmed}

-- a job's name and a colon come first, and rest stands after
pub record IsJobAhead (name text rest : List ℕ) : Type 0 where
  pub named : IsNodeName name
  pub word : IsAhead (name ++ 58 ∷ []) text rest

-- a line asks for this
abbrev pub ReadsTodo : Declared → List ℕ → Todo → Type 0
ReadsTodo d text (JobTodo job command) =
    (name : List ℕ) × (rest : List ℕ) × IsJobAhead name text rest × (index_of d Job name ≡ Some job) × Reads command_row d rest command
ReadsTodo d text todo = Reads todo_row d text todo

-- what a line is, its spaces at both ends dropped
abbrev pub ReadsText : Declared → List ℕ → Line → Type 0
ReadsText d text Nothing = IsSilent text
ReadsText d text (Declares declaration) = (d.is_closed ≡ false) × Reads declaration_row d text declaration
ReadsText d text (Asks todo) = ReadsTodo d text todo

-- what a line is after these declarations
abbrev pub ReadsLine : Declared → List ℕ → Line → Type 0
ReadsLine d raw line = ReadsText d (trimmed raw) line

-- a job's command is refused, its first word among it
abbrev pub RefusesCommand : Declared → List ℕ → LineFault → Type 0
RefusesCommand d text fault = (IsUnknown command_row (first_word text) × (fault ≡ Bad Unknown)) ⊎ RefusesRow command_row d text fault

-- a job's line asks for this, after its name
abbrev pub ReadsNamed : Declared → List ℕ → List ℕ → Todo → Type 0
ReadsNamed d name text (JobTodo job command) = (index_of d Job name ≡ Some job) × Reads command_row d text command
ReadsNamed d name text todo = ⊥

-- a job's line is refused after its name: the job isn't declared, or its command is refused
abbrev pub RefusesNamed : Declared → List ℕ → List ℕ → LineFault → Type 0
RefusesNamed d name text fault = ((index_of d Job name ≡ None) × (fault ≡ UnknownName)) ⊎ ((index_of d Job name ≢ None) × RefusesCommand d text fault)

-- a job's line is refused: the job isn't declared, or its command is refused
abbrev pub RefusesJob : Declared → List ℕ → LineFault → Type 0
RefusesJob d text fault =
    (name : List ℕ) × (rest : List ℕ) × IsJobAhead name text rest
    × (((index_of d Job name ≡ None) × (fault ≡ UnknownName)) ⊎ ((index_of d Job name ≢ None) × RefusesCommand d rest fault))

-- a declaration stands after a line of another kind
abbrev pub IsLate : Declared → List ℕ → Type 0
IsLate d text = (d.is_closed ≡ true) × ((declaration : Declaration) × ((declaration_row declaration).word ≡ first_word text))

-- the first word is no line's
pub record IsNoLine (text : List ℕ) : Type 0 where
  pub loud : IsSilent text → ⊥
  pub no_declaration : IsUnknown declaration_row (first_word text)
  pub no_todo : IsUnknown todo_row (first_word text)
  pub no_job : (name rest : List ℕ) → IsJobAhead name text rest → ⊥

-- a line is refused, its spaces at both ends dropped; out of memory says nothing
abbrev pub RefusesText : Declared → List ℕ → LineFault → Type 0
RefusesText d text (Memory error) = Unit {0}
RefusesText d text fault =
    (IsNoLine text × (fault ≡ Bad Unknown))
    ⊎ ((IsLate d text × (fault ≡ Bad Late))
    ⊎ (((d.is_closed ≡ false) × RefusesRow declaration_row d text fault)
    ⊎ (RefusesRow todo_row d text fault
    ⊎ RefusesJob d text fault)))

-- a line is refused after these declarations
abbrev pub RefusesLine : Declared → List ℕ → LineFault → Type 0
RefusesLine d raw fault = RefusesText d (trimmed raw) fault

-- one setting changed
abbrev pub with_time : Times → Setting → ℕ → Times
with_time times Retry ticks = record times { retry = ticks }
with_time times Trouble ticks = record times { trouble = ticks }
with_time times Recover ticks = record times { recover = ticks }
with_time times Round ticks = record times { round = ticks }

-- one declaration more
abbrev pub declared_by : Declared → Declaration → Declared
declared_by d (ServerDeclared name) = record d { servers = d.servers ++ name ∷ [] }
declared_by d (AppDeclared name) = record d { apps = d.apps ++ name ∷ [] }
declared_by d (JobDeclared name app) = record d { jobs = d.jobs ++ name ∷ []; job_apps = d.job_apps ++ app ∷ [] }
declared_by d (GlobalDeclared name server) = record d { globals = d.globals ++ record { name = name; server = server } ∷ [] }
declared_by d (TimeDeclared setting ticks) = record d { times = with_time d.times setting ticks }

-- a declaration of a name stays within its kind's limit
abbrev pub HasRoomFor : Declared → Declaration → Type 0
HasRoomFor d (ServerDeclared name) = HasRoom d Server
HasRoomFor d (AppDeclared name) = HasRoom d App
HasRoomFor d (JobDeclared name app) = HasRoom d Job
HasRoomFor d (GlobalDeclared name server) = Unit {0}
HasRoomFor d (TimeDeclared setting ticks) = Unit {0}

-- a line may be taken
abbrev pub MayTake : Declared → Line → Type 0
MayTake d Nothing = Unit {0}
MayTake d (Declares declaration) = HasRoomFor d declaration
MayTake d (Asks todo) = Unit {0}

-- what is declared after a line; a line that asks for something closes the declarations
abbrev pub behind : Declared → Line → Declared
behind d Nothing = d
behind d (Declares declaration) = declared_by d declaration
behind d (Asks todo) = record d { is_closed = true }

-- the times of a script that sets none, in ticks
abbrev pub default_times : Times
default_times = record { retry = 5; trouble = 60; recover = 1200; round = 60 }

-- nothing is declared
abbrev pub nothing_declared : Declared
nothing_declared = record { servers = []; apps = []; jobs = []; job_apps = []; globals = []; times = default_times; is_closed = false }

-- each line is this one after those before it
abbrev pub AreLines : Declared → List (List ℕ) → List Line → Type 0
AreLines d [] [] = Unit {0}
AreLines d [] (line ∷ lines) = ⊥
AreLines d (raw ∷ raws) [] = ⊥
AreLines d (raw ∷ raws) (line ∷ lines) = ReadsLine d raw line × AreLines (behind d line) raws lines

-- the lines in front are good, and the line with number `at` is refused; the first has the number `first`
abbrev pub RefusesAt : Declared → ℕ → List (List ℕ) → ℕ → LineFault → Type 0
RefusesAt d first [] at fault = ⊥
RefusesAt d first (raw ∷ raws) at fault =
    ((at ≡ first) × RefusesLine d raw fault) ⊎ ((line : Line) × ReadsLine d raw line × RefusesAt (behind d line) (first + 1) raws at fault)

-- what is declared after lines
abbrev pub declared_behind : Declared → List Line → Declared
declared_behind d [] = d
declared_behind d (line ∷ lines) = declared_behind (behind d line) lines

-- the word of a declaration
abbrev pub word_of : Declaration → DeclaringWord
word_of (ServerDeclared name) = Data
word_of (AppDeclared name) = AppWord
word_of (JobDeclared name app) = JobWord
word_of (GlobalDeclared name server) = GlobalWord
word_of (TimeDeclared setting ticks) = TimeWord

-- a line that declares, in front of others
abbrev pub declaration_before : ℕ → Line → List DeclaredLine → List DeclaredLine
declaration_before number Nothing others = others
declaration_before number (Declares declaration) others = record { line = number; word = word_of declaration } ∷ others
declaration_before number (Asks todo) others = others

-- the lines that declare, with their numbers
abbrev pub declarations_from : ℕ → List Line → List DeclaredLine
declarations_from number [] = []
declarations_from number (line ∷ lines) = declaration_before number line (declarations_from (number + 1) lines)

-- a line that asks for something, in front of others
abbrev pub todo_before : ℕ → Line → List ScriptLine → List ScriptLine
todo_before number Nothing others = others
todo_before number (Declares declaration) others = others
todo_before number (Asks todo) others = record { line = number; todo = todo } ∷ others

-- the lines that ask for something, with their numbers
abbrev pub todos_from : ℕ → List Line → List ScriptLine
todos_from number [] = []
todos_from number (line ∷ lines) = todo_before number line (todos_from (number + 1) lines)

abbrev pub layout_of : Declared → Layout
layout_of d = record { servers = length d.servers; apps = length d.apps; job_apps = d.job_apps; times = d.times }

abbrev pub declared_names : Declared → Names
declared_names d = record { servers = d.servers; apps = d.apps; jobs = d.jobs }

-- the script of lines, numbered from 1
abbrev pub script_of : List Line → Script
script_of lines =
    record {
      layout = layout_of (declared_behind nothing_declared lines);
      names = declared_names (declared_behind nothing_declared lines);
      declarations = declarations_from 1 lines;
      lines = todos_from 1 lines;
    }

-- a text is this script's
pub record IsScriptText (script : Script) (text : List ℕ) : Type 0 where
  pub few : length (script_lines text) ≤ LINE_LIMIT
  pub lines : List Line
  pub read : AreLines nothing_declared (script_lines text) lines
  pub script_is : script ≡ script_of lines

-- the first bad line, where there are no more lines than may be
pub record HasBadLine (text : List ℕ) (at : ℕ) (fault : LineFault) : Type 0 where
  pub few : length (script_lines text) ≤ LINE_LIMIT
  pub refused : RefusesAt nothing_declared 1 (script_lines text) at fault

-- what each refusal of a text says; out of memory says nothing
abbrev pub RefusesScript : List ℕ → ScriptError → Type 0
RefusesScript text (BadLine line kind) = HasBadLine text line (Bad kind)
RefusesScript text (UnknownInScript line) = HasBadLine text line UnknownName
RefusesScript text TooManyLines = LINE_LIMIT < length (script_lines text)
RefusesScript text (NoMemory error) = Unit {0}

-- what a script is refused for, by the refusal of its line with this number
abbrev pub error_at : ℕ → LineFault → ScriptError
error_at line (Bad kind) = BadLine line kind
error_at line UnknownName = UnknownInScript line
error_at line (Memory error) = NoMemory error

-- the indexes that a line names are declared, and a command is within its limits
abbrev pub TodoMay : Layout → Todo → Type 0
TodoMay l (JobTodo job command) = (job < length l.job_apps) × CommandMay command × IfSome (server_of command) (λ server. server < l.servers)
TodoMay l Hold = Unit {0}
TodoMay l Flow = Unit {0}
TodoMay l (Up app server) = (app < l.apps) × (server < l.servers)
TodoMay l (Down app server) = (app < l.apps) × (server < l.servers)
TodoMay l (Save server) = server < l.servers
TodoMay l Pump = Unit {0}
TodoMay l (Tick count) = (1 ≤ count) × (count ≤ 10000)
TodoMay l (Break app server) = (app < l.apps) × (server < l.servers)
TodoMay l (Mend app server) = (app < l.apps) × (server < l.servers)
TodoMay l (Crash server pick) = server < l.servers
TodoMay l (Restart server) = server < l.servers
TodoMay l (Die app) = app < l.apps
TodoMay l (Await job) = job < length l.job_apps

-- there are no more servers and jobs than may be, and each job's application server is declared
pub record LayoutMay (l : Layout) : Type 0 where
  pub servers : l.servers ≤ 16
  pub apps : l.apps ≤ 16
  pub jobs : length l.job_apps ≤ 256
  pub placed : All (λ app. app < l.apps) l.job_apps

-- what a script's lines may ask for
pub record ScriptMay (script : Script) : Type 0 where
  pub layout : LayoutMay script.layout
  pub lines : All (λ line. TodoMay script.layout line.todo) script.lines

-- out of memory
abbrev pub IsMemory : ScriptError → Type 0
IsMemory (BadLine line kind) = ⊥
IsMemory TooManyLines = ⊥
IsMemory (UnknownInScript line) = ⊥
IsMemory (NoMemory error) = Unit {0}
