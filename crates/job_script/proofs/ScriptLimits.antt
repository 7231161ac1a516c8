-- What a script's text asks for is within its limits and declared.
use Rattle.std.proofs.Common.{◌≡◌, ℕ, ◌+◌, ◌<◌, true, List, [], ◌∷◌, ◌++◌, length, refl, sym, subst, ◌∙◌, arith}
use Rattle.std.specs.Prelude.{All}
use Rattle.std.specs.List.{AllByRecursion}
use Rattle.std.proofs.lemmas.Bool.{false≢true}
use Rattle.std.proofs.lemmas.List.{length_push}
use Rattle.std.proofs.lemmas.List.Elements.{All-nil, All-cons, All-push, All-weaker}
use Rattle.subscript_keys.specs.Key.{AreBytes}
use Rattle.plain_orders.specs.declared.layout.Layout.{Layout}
use Rattle.job_script.specs.declared.declared.Declared.{Declared}
use Rattle.job_script.specs.declared.declaration.Declaration.{Declaration}
use Rattle.job_script.specs.declared.declaration.Declaration.TheVariants.{Server as ServerDeclared, App as AppDeclared, Job as JobDeclared, Global as GlobalDeclared, Time as TimeDeclared}
use Rattle.job_script.specs.declared.global.Global.{Global}
use Rattle.job_script.specs.declared.line.Line.{Line}
use Rattle.job_script.specs.declared.line.Line.TheVariants.{Nothing, Declares, Asks}
use Rattle.job_script.specs.declared.name_kind.NameKind.TheVariants.{Server, App}
use Rattle.job_script.specs.declared.script.Script.{Script}
use Rattle.job_script.specs.Lines.{script_lines}
use Rattle.job_script.specs.Parts.{TakesParts}
use Rattle.job_script.specs.Rows.{declaration_row}
use Rattle.job_script.specs.Scripts.{ReadsLine, declared_by, behind, nothing_declared, AreLines, declared_behind, todos_from, layout_of, script_of, IsScriptText, TodoMay, LayoutMay, ScriptMay}
use Rattle.job_script.specs.Words.{trimmed}
use Rattle.job_script.proofs.CommandLimits.{IsSound, part-below, todo-may}
use Rattle.job_script.proofs.TextBytes.{trimmed-bytes, script-bytes}

-- globals stay at declared servers where one more is declared
more-servers : (count : ℕ) (globals : List Global) → AllByRecursion (λ g. g.server < count) globals → AllByRecursion (λ g. g.server < count + 1) globals
more-servers count [] all = tt
more-servers count (g ∷ globals) all = (let below : g.server < count = all.0 in omega arith, more-servers count globals all.1)

push-global : (count : ℕ) (globals : List Global) (g : Global) → AllByRecursion (λ g. g.server < count) globals → g.server < count → AllByRecursion (λ g. g.server < count) (globals ++ g ∷ [])
push-global count [] g all below = (below, tt)
push-global count (f ∷ globals) g all below = (all.0, push-global count globals g all.1 below)

-- a declaration keeps what is declared within its limits
declared-sound : (d : Declared) → IsSound d → (x : Declaration) (text : List ℕ) → TakesParts d (declaration_row x).parts text → IsSound (declared_by d x)
declared-sound d sound (ServerDeclared name) text (r, first, e) =
    let count : length (d.servers ++ name ∷ []) ≡ length d.servers + 1 = length_push d.servers name in
    record {
      servers = omega (arith, count, first.3);
      apps = sound.apps;
      jobs = sound.jobs;
      job_apps = sound.job_apps;
      placed = sound.placed;
      globals = subst (λ (n : ℕ). AllByRecursion (λ g. g.server < n) d.globals) (sym count) (more-servers (length d.servers) d.globals sound.globals);
    }
declared-sound d sound (AppDeclared name) text (r, first, e) =
    let count : length (d.apps ++ name ∷ []) ≡ length d.apps + 1 = length_push d.apps name in
    record {
      servers = sound.servers;
      apps = omega (arith, count, first.3);
      jobs = sound.jobs;
      job_apps = sound.job_apps;
      placed = All-weaker (λ app. app < length d.apps) (λ app. app < length (d.apps ++ name ∷ [])) (λ app below. omega (arith, below, count)) d.job_apps sound.placed;
      globals = sound.globals;
    }
declared-sound d sound (JobDeclared name app) text (r, first, (s, second, e)) =
    let below : app < length d.apps = part-below d App app r s second in
    let count : length (d.jobs ++ name ∷ []) ≡ length d.jobs + 1 = length_push d.jobs name in
    let places : length (d.job_apps ++ app ∷ []) ≡ length d.job_apps + 1 = length_push d.job_apps app in
    record {
      servers = sound.servers;
      apps = sound.apps;
      jobs = omega (arith, count, first.3);
      job_apps = omega (arith, count, places, sound.job_apps);
      placed = All-push (λ app. app < length d.apps) d.job_apps app sound.placed below;
      globals = sound.globals;
    }
declared-sound d sound (GlobalDeclared name server) text (r, first, (s, second, e)) =
    let below : server < length d.servers = part-below d Server server r s second in
    record {
      servers = sound.servers;
      apps = sound.apps;
      jobs = sound.jobs;
      job_apps = sound.job_apps;
      placed = sound.placed;
      globals = push-global (length d.servers) d.globals (record { name = name; server = server }) sound.globals below;
    }
declared-sound d sound (TimeDeclared setting ticks) text t =
    record { servers = sound.servers; apps = sound.apps; jobs = sound.jobs; job_apps = sound.job_apps; placed = sound.placed; globals = sound.globals }

line-sound : (d : Declared) → IsSound d → (raw : List ℕ) (line : Line) → ReadsLine d raw line → IsSound (behind d line)
line-sound d sound raw Nothing read = sound
line-sound d sound raw (Declares x) read = declared-sound d sound x read.1.rest read.1.behind.parts
line-sound d sound raw (Asks todo) read =
    record { servers = sound.servers; apps = sound.apps; jobs = sound.jobs; job_apps = sound.job_apps; placed = sound.placed; globals = sound.globals }

lines-sound : (d : Declared) → IsSound d → (raws : List (List ℕ)) (lines : List Line) → AreLines d raws lines → IsSound (declared_behind d lines)
lines-sound d sound [] [] read = sound
lines-sound d sound [] (x ∷ xs) read = absurd read
lines-sound d sound (raw ∷ raws) [] read = absurd read
lines-sound d sound (raw ∷ raws) (x ∷ xs) read = lines-sound (behind d x) (line-sound d sound raw x read.0) raws xs read.1

-- after a line that asks for something nothing is declared
closed-same : (d : Declared) (raws : List (List ℕ)) (lines : List Line) → d.is_closed ≡ true → AreLines d raws lines → layout_of (declared_behind d lines) ≡ layout_of d
closed-same d [] [] closed read = refl
closed-same d [] (x ∷ xs) closed read = absurd read
closed-same d (raw ∷ raws) [] closed read = absurd read
closed-same d (raw ∷ raws) (Nothing ∷ xs) closed read = closed-same d raws xs closed read.1
closed-same d (raw ∷ raws) (Declares x ∷ xs) closed read = absurd (false≢true (sym read.0.0 ∙ closed))
closed-same d (raw ∷ raws) (Asks todo ∷ xs) closed read = closed-same (behind d (Asks todo)) raws xs refl read.1

-- what each line asks for may be done
lines-may : (d : Declared) → IsSound d → (number : ℕ) (raws : List (List ℕ)) (lines : List Line) → AllByRecursion AreBytes raws → AreLines d raws lines → All (λ line. TodoMay (layout_of (declared_behind d lines)) line.todo) (todos_from number lines)
lines-may d sound number [] [] bytes read = All-nil (λ line. TodoMay (layout_of d) line.todo)
lines-may d sound number [] (x ∷ xs) bytes read = absurd read
lines-may d sound number (raw ∷ raws) [] bytes read = absurd read
lines-may d sound number (raw ∷ raws) (Nothing ∷ xs) bytes read = lines-may d sound (number + 1) raws xs bytes.1 read.1
lines-may d sound number (raw ∷ raws) (Declares x ∷ xs) bytes read =
    lines-may (behind d (Declares x)) (line-sound d sound raw (Declares x) read.0) (number + 1) raws xs bytes.1 read.1
lines-may d sound number (raw ∷ raws) (Asks todo ∷ xs) bytes read =
    let after = behind d (Asks todo) in
    let same : layout_of (declared_behind after xs) ≡ layout_of d = closed-same after raws xs refl read.1 in
    let may = todo-may d sound (trimmed raw) todo (trimmed-bytes raw bytes.0) read.0 in
    let rest = lines-may after (line-sound d sound raw (Asks todo) read.0) (number + 1) raws xs bytes.1 read.1 in
    All-cons (λ line. TodoMay (layout_of (declared_behind after xs)) line.todo) (record { line = number; todo = todo }) (todos_from (number + 1) xs) (subst (λ (l : Layout). TodoMay l todo) (sym same) may) rest

nothing-sound : IsSound nothing_declared
nothing-sound = record { servers = omega arith; apps = omega arith; jobs = omega arith; job_apps = refl; placed = All-nil (λ app. app < 0); globals = tt }

layout-may : (d : Declared) → IsSound d → LayoutMay (layout_of d)
layout-may d sound = record { servers = sound.servers; apps = sound.apps; jobs = omega (arith, sound.jobs, sound.job_apps); placed = sound.placed }

pub script_may : (script : Script) (text : List ℕ) → AreBytes text → IsScriptText script text → ScriptMay script
script_may script text bytes is =
    let sound = lines-sound nothing_declared nothing-sound (script_lines text) is.lines is.read in
    let may : ScriptMay (script_of is.lines) = record {
      layout = layout-may (declared_behind nothing_declared is.lines) sound;
      lines = lines-may nothing_declared nothing-sound 1 (script_lines text) is.lines (script-bytes text bytes) is.read;
    } in
    subst ScriptMay (sym is.script_is) may
