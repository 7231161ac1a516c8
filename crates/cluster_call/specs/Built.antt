-- Which lines of a script are built.
use Rattle.std.specs.Prelude.{ℕ, Bool, true, false, if◌then◌else◌, List, [], ◌∷◌, ◌++◌, Option, None, Some}
use Rattle.std.specs.List.{list_any}
use Rattle.app_job.specs.declared.command.Command.{Command}
use Rattle.app_job.specs.declared.command.Command.TheVariants.{Set, Kill, Get, Shape, Next}
use Rattle.job_script.specs.declared.declared_line.DeclaredLine.{DeclaredLine}
use Rattle.job_script.specs.declared.declared_line.DeclaringWord.{DeclaringWord}
use Rattle.job_script.specs.declared.declared_line.DeclaringWord.TheVariants.{Data, App, Job as JobWord, Global, Time}
use Rattle.job_script.specs.declared.script.Script.{Script}
use Rattle.job_script.specs.declared.script_line.ScriptLine.{ScriptLine}
use Rattle.job_script.specs.declared.todo.Todo.{Todo}
use Rattle.job_script.specs.declared.todo.Todo.TheVariants.{Job, Await}

abbrev pub is_same_word : DeclaringWord → DeclaringWord → Bool
is_same_word Data Data = true
is_same_word App App = true
is_same_word JobWord JobWord = true
is_same_word Global Global = true
is_same_word Time Time = true
is_same_word a b = false

-- a line with this word stands among these
abbrev pub has_word : DeclaringWord → List DeclaredLine → Bool
has_word word lines = list_any (λ l. is_same_word word l.word) lines

-- a declaration after these isn't built yet: a time, or a second data server, application server or job
abbrev pub is_unbuilt : List DeclaredLine → DeclaringWord → Bool
is_unbuilt before Data = has_word Data before
is_unbuilt before App = has_word App before
is_unbuilt before JobWord = has_word JobWord before
is_unbuilt before Global = false
is_unbuilt before Time = true

-- the line of the first declaration that isn't built yet, after others
abbrev pub unbuilt_declaration : List DeclaredLine → List DeclaredLine → Option ℕ
unbuilt_declaration before [] = None
unbuilt_declaration before (l ∷ lines) = if is_unbuilt before l.word then Some l.line else unbuilt_declaration (before ++ l ∷ []) lines

-- a command that is built
abbrev pub is_built_command : Command → Bool
is_built_command (Set at value) = true
is_built_command (Kill at) = true
is_built_command (Get at) = true
is_built_command (Shape at) = true
is_built_command (Next parent sub) = true
is_built_command command = false

-- what a line asks for is built
abbrev pub is_built : Todo → Bool
is_built (Job job command) = is_built_command command
is_built (Await job) = true
is_built todo = false

-- the first line that asks for something that isn't built yet
abbrev pub unbuilt_todo : List ScriptLine → Option ℕ
unbuilt_todo [] = None
unbuilt_todo (l ∷ lines) = if is_built l.todo then unbuilt_todo lines else Some l.line

-- this, or that where there is none
abbrev pub first_of : Option ℕ → Option ℕ → Option ℕ
first_of None line = line
first_of (Some line) other = Some line

-- the first line of a script that isn't built yet
abbrev pub first_unbuilt : Script → Option ℕ
first_unbuilt script = first_of (unbuilt_declaration [] script.declarations) (unbuilt_todo script.lines)
