-- A script whose lines are all built can be run.
use Rattle.std.proofs.Common.{◌≡◌, ℕ, ◌+◌, ◌<◌, ◌≤◌, Bool, true, false, if◌then◌else◌, ◌||◌, List, [], ◌∷◌, ◌++◌, length, Option, None, Some, refl, sym, ap, ◌∙◌, subst, arith, All, length-append}
use Rattle.std.specs.List.{AllByRecursion}
use Rattle.std.specs.Option.{IfSome}
use Rattle.std.proofs.lemmas.Bool.{false≢true}
use Rattle.std.proofs.lemmas.List.Elements.{recursion_from_All, All-cons, All-nil}
use Rattle.plain_orders.specs.declared.layout.Layout.{Layout}
use Rattle.app_job.specs.declared.command.Command.{Command}
use Rattle.app_job.specs.declared.command.Command.TheVariants.{Set, Kill, Get, Shape, Next}
use Rattle.app_job.specs.Limits.{CommandMay, server_of}
use Rattle.app_job.specs.Sites.{Site, IsSite}
use Rattle.job_script.specs.declared.declaration.Declaration.TheVariants.{Server as ServerDeclared, App as AppDeclared, Job as JobDeclared, Global as GlobalDeclared, Time as TimeDeclared}
use Rattle.job_script.specs.declared.declared.Declared.{Declared}
use Rattle.job_script.specs.declared.declared_line.DeclaredLine.{DeclaredLine}
use Rattle.job_script.specs.declared.declared_line.DeclaringWord.{DeclaringWord}
use Rattle.job_script.specs.declared.declared_line.DeclaringWord.TheVariants.{Data, App, Job as JobWord, Global, Time}
use Rattle.job_script.specs.declared.line.Line.{Line}
use Rattle.job_script.specs.declared.line.Line.TheVariants.{Nothing, Declares, Asks}
use Rattle.job_script.specs.declared.script.Script.{Script}
use Rattle.job_script.specs.declared.script_line.ScriptLine.{ScriptLine}
use Rattle.job_script.specs.declared.todo.Todo.{Todo}
use Rattle.job_script.specs.declared.todo.Todo.TheVariants.{Job, Await}
use Rattle.job_script.specs.Scripts.{IsScriptText, LayoutMay, ScriptMay, TodoMay, behind, declared_behind, declarations_from, nothing_declared, layout_of}
use Rattle.cluster_call.specs.Built.{first_of, first_unbuilt, has_word, is_built, is_built_command, is_same_word, is_unbuilt, unbuilt_declaration, unbuilt_todo}
use Rattle.cluster_call.specs.Running.{CanRun, CommandRuns, IsHere, TodoRuns}

-- how many of these lines have the word
count_word : DeclaringWord → List DeclaredLine → ℕ
count_word word [] = 0
count_word word (l ∷ lines) = (if is_same_word word l.word then 1 else 0) + count_word word lines

-- a number is none
some_none : (n : ℕ) → Some n ≡ None → ⊥
some_none n e = subst is_there e tt
  where
    is_there : Option ℕ → Type 0
    is_there None = ⊥
    is_there (Some m) = Unit {0}

or_false : (b : Bool) → (b || false) ≡ b
or_false true = refl
or_false false = refl

or_assoc : (a b d : Bool) → (a || (b || d)) ≡ ((a || b) || d)
or_assoc true b d = refl
or_assoc false b d = refl

or_true : (b : Bool) → (b || true) ≡ true
or_true true = refl
or_true false = refl

both_none : (a b : Option ℕ) → first_of a b ≡ None → (a ≡ None) × (b ≡ None)
both_none None b e = (refl, e)
both_none (Some n) b e = absurd (some_none n e)

-- the word of a line, after others
word_behind : (word : DeclaringWord) (before : List DeclaredLine) (l : DeclaredLine) → has_word word (before ++ l ∷ []) ≡ (has_word word before || is_same_word word l.word)
word_behind word [] l = or_false (is_same_word word l.word)
word_behind word (b ∷ before) l = ap (λ t. is_same_word word b.word || t) (word_behind word before l) ∙ or_assoc (is_same_word word b.word) (has_word word before) (is_same_word word l.word)

-- a further data server, application server or job is refused as soon as there is one
record IsSingle (word : DeclaringWord) : Type 0 where
  refused : (before : List DeclaredLine) (other : DeclaringWord) → is_same_word word other ≡ true → is_unbuilt before other ≡ has_word word before

single_data : IsSingle Data
single_data = record { refused = go }
  where
    go : (before : List DeclaredLine) (other : DeclaringWord) → is_same_word Data other ≡ true → is_unbuilt before other ≡ has_word Data before
    go before Data same = refl
    go before App same = absurd (false≢true same)
    go before JobWord same = absurd (false≢true same)
    go before Global same = absurd (false≢true same)
    go before Time same = absurd (false≢true same)

single_app : IsSingle App
single_app = record { refused = go }
  where
    go : (before : List DeclaredLine) (other : DeclaringWord) → is_same_word App other ≡ true → is_unbuilt before other ≡ has_word App before
    go before App same = refl
    go before Data same = absurd (false≢true same)
    go before JobWord same = absurd (false≢true same)
    go before Global same = absurd (false≢true same)
    go before Time same = absurd (false≢true same)

single_job : IsSingle JobWord
single_job = record { refused = go }
  where
    go : (before : List DeclaredLine) (other : DeclaringWord) → is_same_word JobWord other ≡ true → is_unbuilt before other ≡ has_word JobWord before
    go before JobWord same = refl
    go before Data same = absurd (false≢true same)
    go before App same = absurd (false≢true same)
    go before Global same = absurd (false≢true same)
    go before Time same = absurd (false≢true same)

-- after one there is no other
none_more : (word : DeclaringWord) → IsSingle word → (before lines : List DeclaredLine) → has_word word before ≡ true → unbuilt_declaration before lines ≡ None → count_word word lines ≡ 0
unfolding count_word
none_more word single before [] there all = refl
none_more word single before (l ∷ lines) there all = go (none_more word single (before ++ l ∷ []) lines) (is_same_word word l.word) refl (is_unbuilt before l.word) refl all
  where
    go : (has_word word (before ++ l ∷ []) ≡ true → unbuilt_declaration (before ++ l ∷ []) lines ≡ None → count_word word lines ≡ 0) → (s : Bool) → is_same_word word l.word ≡ s → (u : Bool) → is_unbuilt before l.word ≡ u → (if u then Some l.line else unbuilt_declaration (before ++ l ∷ []) lines) ≡ None
        → (if s then 1 else 0) + count_word word lines ≡ 0
    go more true same true un all = absurd (some_none l.line all)
    go more true same false un all = absurd (false≢true (sym un ∙ single.refused before l.word same ∙ there))
    go more false same true un all = absurd (some_none l.line all)
    go more false same false un all = omega (arith, more (word_behind word before l ∙ ap (λ b. b || is_same_word word l.word) there) all)

-- there is one at most
one_at_most : (word : DeclaringWord) → IsSingle word → (before lines : List DeclaredLine) → has_word word before ≡ false → unbuilt_declaration before lines ≡ None → count_word word lines ≤ 1
unfolding count_word
one_at_most word single before [] none all = omega arith
one_at_most word single before (l ∷ lines) none all = go (one_at_most word single (before ++ l ∷ []) lines) (is_same_word word l.word) refl (is_unbuilt before l.word) refl all
  where
    go : (has_word word (before ++ l ∷ []) ≡ false → unbuilt_declaration (before ++ l ∷ []) lines ≡ None → count_word word lines ≤ 1) → (s : Bool) → is_same_word word l.word ≡ s → (u : Bool) → is_unbuilt before l.word ≡ u → (if u then Some l.line else unbuilt_declaration (before ++ l ∷ []) lines) ≡ None
        → (if s then 1 else 0) + count_word word lines ≤ 1
    go more true same true un all = absurd (some_none l.line all)
    go more true same false un all = omega (arith, none_more word single (before ++ l ∷ []) lines (word_behind word before l ∙ ap (λ b. has_word word before || b) same ∙ or_true (has_word word before)) all)
    go more false same true un all = absurd (some_none l.line all)
    go more false same false un all = omega (arith, more (word_behind word before l ∙ ap (λ b. b || is_same_word word l.word) none ∙ same) all)

no_more : (n : ℕ) → n + 0 ≡ n
no_more n = omega arith

-- each declaration adds to its own list alone
servers_counted : (d : Declared) (n : ℕ) (lines : List Line) → length (declared_behind d lines).servers ≡ length d.servers + count_word Data (declarations_from n lines)
unfolding count_word
servers_counted d n [] = sym (no_more (length d.servers))
servers_counted d n (Nothing ∷ lines) = omega (arith, servers_counted d (n + 1) lines)
servers_counted d n (Asks todo ∷ lines) = omega (arith, servers_counted (behind d (Asks todo)) (n + 1) lines)
servers_counted d n (Declares (ServerDeclared name) ∷ lines) = omega (arith, servers_counted (behind d (Declares (ServerDeclared name))) (n + 1) lines, length-append d.servers (name ∷ []))
servers_counted d n (Declares (AppDeclared name) ∷ lines) = omega (arith, servers_counted (behind d (Declares (AppDeclared name))) (n + 1) lines)
servers_counted d n (Declares (JobDeclared name app) ∷ lines) = omega (arith, servers_counted (behind d (Declares (JobDeclared name app))) (n + 1) lines)
servers_counted d n (Declares (GlobalDeclared name server) ∷ lines) = omega (arith, servers_counted (behind d (Declares (GlobalDeclared name server))) (n + 1) lines)
servers_counted d n (Declares (TimeDeclared setting ticks) ∷ lines) = omega (arith, servers_counted (behind d (Declares (TimeDeclared setting ticks))) (n + 1) lines)

apps_counted : (d : Declared) (n : ℕ) (lines : List Line) → length (declared_behind d lines).apps ≡ length d.apps + count_word App (declarations_from n lines)
unfolding count_word
apps_counted d n [] = sym (no_more (length d.apps))
apps_counted d n (Nothing ∷ lines) = omega (arith, apps_counted d (n + 1) lines)
apps_counted d n (Asks todo ∷ lines) = omega (arith, apps_counted (behind d (Asks todo)) (n + 1) lines)
apps_counted d n (Declares (ServerDeclared name) ∷ lines) = omega (arith, apps_counted (behind d (Declares (ServerDeclared name))) (n + 1) lines)
apps_counted d n (Declares (AppDeclared name) ∷ lines) = omega (arith, apps_counted (behind d (Declares (AppDeclared name))) (n + 1) lines, length-append d.apps (name ∷ []))
apps_counted d n (Declares (JobDeclared name app) ∷ lines) = omega (arith, apps_counted (behind d (Declares (JobDeclared name app))) (n + 1) lines)
apps_counted d n (Declares (GlobalDeclared name server) ∷ lines) = omega (arith, apps_counted (behind d (Declares (GlobalDeclared name server))) (n + 1) lines)
apps_counted d n (Declares (TimeDeclared setting ticks) ∷ lines) = omega (arith, apps_counted (behind d (Declares (TimeDeclared setting ticks))) (n + 1) lines)

jobs_counted : (d : Declared) (n : ℕ) (lines : List Line) → length (declared_behind d lines).job_apps ≡ length d.job_apps + count_word JobWord (declarations_from n lines)
unfolding count_word
jobs_counted d n [] = sym (no_more (length d.job_apps))
jobs_counted d n (Nothing ∷ lines) = omega (arith, jobs_counted d (n + 1) lines)
jobs_counted d n (Asks todo ∷ lines) = omega (arith, jobs_counted (behind d (Asks todo)) (n + 1) lines)
jobs_counted d n (Declares (ServerDeclared name) ∷ lines) = omega (arith, jobs_counted (behind d (Declares (ServerDeclared name))) (n + 1) lines)
jobs_counted d n (Declares (AppDeclared name) ∷ lines) = omega (arith, jobs_counted (behind d (Declares (AppDeclared name))) (n + 1) lines)
jobs_counted d n (Declares (JobDeclared name app) ∷ lines) = omega (arith, jobs_counted (behind d (Declares (JobDeclared name app))) (n + 1) lines, length-append d.job_apps (app ∷ []))
jobs_counted d n (Declares (GlobalDeclared name server) ∷ lines) = omega (arith, jobs_counted (behind d (Declares (GlobalDeclared name server))) (n + 1) lines)
jobs_counted d n (Declares (TimeDeclared setting ticks) ∷ lines) = omega (arith, jobs_counted (behind d (Declares (TimeDeclared setting ticks))) (n + 1) lines)

-- one data server, one application server and one job at most
record HasOneEach (l : Layout) : Type 0 where
  servers : l.servers ≤ 1
  apps : l.apps ≤ 1
  jobs : length l.job_apps ≤ 1

one_each : (lines : List Line) → unbuilt_declaration [] (declarations_from 1 lines) ≡ None → HasOneEach (layout_of (declared_behind nothing_declared lines))
one_each lines all = record {
  servers = omega (arith, servers_counted nothing_declared 1 lines, one_at_most Data single_data [] (declarations_from 1 lines) refl all);
  apps = omega (arith, apps_counted nothing_declared 1 lines, one_at_most App single_app [] (declarations_from 1 lines) refl all);
  jobs = omega (arith, jobs_counted nothing_declared 1 lines, one_at_most JobWord single_job [] (declarations_from 1 lines) refl all);
}

-- a node at the only data server
here : (l : Layout) → HasOneEach l → (at : Site) → IsSite at → at.server < l.servers → IsHere at
here l one at is low = (omega (arith, low, one.servers), is)

command_runs : (l : Layout) → HasOneEach l → (command : Command) → is_built_command command ≡ true → CommandMay command → IfSome (server_of command) (λ server. server < l.servers) → CommandRuns command × (0 < l.servers)
command_runs l one (Set at value) built may low = ((here l one at may.0 low, may.1), omega (arith, low))
command_runs l one (Kill at) built may low = (here l one at may low, omega (arith, low))
command_runs l one (Get at) built may low = (here l one at may low, omega (arith, low))
command_runs l one (Shape at) built may low = (here l one at may low, omega (arith, low))
command_runs l one (Next parent sub) built may low = ((here l one parent may.0 low, may.1), omega (arith, low))
command_runs l one _ built may low = absurd (false≢true built)

-- the only job is on the first application server
placed : (l : Layout) → HasOneEach l → LayoutMay l → (job : ℕ) → job < length l.job_apps → (l.job_apps ≡ 0 ∷ []) × (job ≡ 0) × (0 < l.apps)
placed l one may job low = go l.job_apps low one.jobs (recursion_from_All (λ app. app < l.apps) l.job_apps may.placed)
  where
    go : (apps : List ℕ) → job < length apps → length apps ≤ 1 → AllByRecursion (λ app. app < l.apps) apps → (apps ≡ 0 ∷ []) × (job ≡ 0) × (0 < l.apps)
    go [] low few all = absurd (omega (arith, low))
    go (app ∷ []) low few all = (ap (λ n. n ∷ []) (omega (arith, all.0, one.apps)), omega (arith, low), omega (arith, all.0))
    go (app ∷ other ∷ apps) low few all = absurd (omega (arith, few))

todo_runs : (l : Layout) → HasOneEach l → LayoutMay l → (todo : Todo) → is_built todo ≡ true → TodoMay l todo → TodoRuns l todo
todo_runs l one may (Job job command) built its =
    let runs = command_runs l one command built its.1 its.2 in
    let at = placed l one may job its.0 in
    (record { server = runs.1; app = at.2; job = at.0 }, at.1, runs.0)
todo_runs l one may (Await job) built its = tt
todo_runs l one may _ built its = absurd (false≢true built)

lines_run : (l : Layout) → HasOneEach l → LayoutMay l → (lines : List ScriptLine) → unbuilt_todo lines ≡ None → AllByRecursion (λ (x : ScriptLine). TodoMay l x.todo) lines → All (λ (x : ScriptLine). TodoRuns l x.todo) lines
lines_run l one may [] all its = All-nil (λ (x : ScriptLine). TodoRuns l x.todo)
lines_run l one may (x ∷ lines) all its = go (λ none. lines_run l one may lines none its.1) (is_built x.todo) refl all
  where
    go : (unbuilt_todo lines ≡ None → All (λ (y : ScriptLine). TodoRuns l y.todo) lines) → (b : Bool) → is_built x.todo ≡ b → (if b then unbuilt_todo lines else Some x.line) ≡ None → All (λ (y : ScriptLine). TodoRuns l y.todo) (x ∷ lines)
    go more true built all = All-cons (λ (y : ScriptLine). TodoRuns l y.todo) x lines (todo_runs l one may x.todo built its.0) (more all)
    go more false built all = absurd (some_none x.line all)

-- a script whose lines are all built can be run
pub can_run : (script : Script) (text : List ℕ) → IsScriptText script text → ScriptMay script → first_unbuilt script ≡ None → CanRun script
can_run script text is may built =
    let parts : (unbuilt_declaration [] script.declarations ≡ None) × (unbuilt_todo script.lines ≡ None) = both_none (unbuilt_declaration [] script.declarations) (unbuilt_todo script.lines) built in
    let one : HasOneEach script.layout = subst (λ (s : Script). unbuilt_declaration [] s.declarations ≡ None → HasOneEach s.layout) (sym is.script_is) (one_each is.lines) parts.0 in
    record {
      few = one.servers;
      lines = lines_run script.layout one may.layout script.lines parts.1 (recursion_from_All (λ (x : ScriptLine). TodoMay script.layout x.todo) script.lines may.lines);
    }
