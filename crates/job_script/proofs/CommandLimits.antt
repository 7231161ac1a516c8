-- What a line asks for is declared, and a command is within its limits.
use Rattle.std.proofs.Common.{◌≡◌, ◌≢◌, ℕ, ◌<◌, ◌≤◌, Bool, true, false, List, [], ◌∷◌, ◌++◌, length, sym, ap, subst, arith, length-append}
use Rattle.std.specs.Prelude.{Option, None, Some, IfSome, All, if◌then◌else◌}
use Rattle.std.specs.List.{AllByRecursion}
use Rattle.std.proofs.lemmas.List.Quantifiers.{position-Some}
use Rattle.subscript_keys.specs.declared.sub.Sub.{Sub}
use Rattle.subscript_keys.specs.declared.sub.Sub.TheVariants.{Num, Text}
use Rattle.subscript_keys.specs.Key.{AreBytes, HasForm, IsWithinLimit, key_of, sub_bytes, subs_bytes}
use Rattle.global_text.specs.Nodes.{HasBytes, key_length}
use Rattle.global_text.proofs.KeyLengths.{subs-size, full-sub, full-subs}
use Rattle.job_script.proofs.NodeFaults.{no-empty}
use Rattle.global_text.proofs.NodeParts.{parts-forms, parts-limit}
use Rattle.global_text.proofs.ByteReads.{last-bytes}
use Rattle.app_job.specs.Limits.{IsWait, NextMay, CommandMay, server_of as named_server}
use Rattle.app_job.specs.Sites.{Site, IsSite}
use Rattle.app_job.specs.declared.command.Command.{Command}
use Rattle.app_job.specs.declared.command.Command.TheVariants.{Set, Kill, Get, Shape, Next, Incr, Lock, Unlock, Start, Commit, Rollback, Sync}
use Rattle.job_script.specs.declared.declared.Declared.{Declared}
use Rattle.job_script.specs.declared.global.Global.{Global}
use Rattle.job_script.specs.declared.name_kind.NameKind.{NameKind}
use Rattle.job_script.specs.declared.name_kind.NameKind.TheVariants.{Server, App, Job}
use Rattle.job_script.specs.declared.todo.Todo.{Todo}
use Rattle.job_script.specs.declared.todo.Todo.TheVariants.{Job as JobTodo, Hold, Flow, Up, Down, Save, Pump, Tick, Break, Mend, Crash, Restart, Die, Await}
use Rattle.job_script.specs.Names.{is_same, names_of, index_of, server_of}
use Rattle.job_script.specs.Parts.{asked, OfKind, ANode, ANext, TakesPart, TakesParts, TakesWait}
use Rattle.job_script.specs.Rows.{Reads, command_row}
use Rattle.job_script.specs.Scripts.{ReadsTodo, TodoMay, layout_of}
use Rattle.job_script.specs.Words.{first_word}
use Rattle.job_script.proofs.TextBytes.{ahead-bytes}

-- what lines in front declare is within its limits, and refers to what is declared
pub record IsSound (d : Declared) : Type 0 where
  pub servers : length d.servers ≤ 16
  pub apps : length d.apps ≤ 16
  pub jobs : length d.jobs ≤ 256
  pub job_apps : length d.job_apps ≡ length d.jobs
  pub placed : All (λ app. app < length d.apps) d.job_apps
  pub globals : AllByRecursion (λ g. g.server < length d.servers) d.globals

-- an index is below the length
pub index-below : (d : Declared) (kind : NameKind) (name : List ℕ) (index : ℕ) → index_of d kind name ≡ Some index → index < length (names_of d kind)
index-below d kind name index e = (position-Some (λ other. is_same other name) (names_of d kind) index [] e).0

pub part-below : (d : Declared) (kind : NameKind) (index : ℕ) (text rest : List ℕ) → TakesPart d (OfKind kind index) text rest → index < length (names_of d kind)
part-below d kind index text rest (name, ahead, named, at) = index-below d kind name index at

-- a declared global's server is declared
pub server-below : (count : ℕ) (globals : List Global) (name : List ℕ) (server : ℕ) → AllByRecursion (λ g. g.server < count) globals → server_of globals name ≡ Some server → server < count
server-below count [] name server all e = cc
server-below count (g ∷ globals) name server all e = either (is_same g.name name) g.server (server_of globals name) all.0 (server-below count globals name server all.1) e
  where
    either : (t : Bool) (own : ℕ) (other : Option ℕ) → own < count → (other ≡ Some server → server < count) → (if t then Some own else other) ≡ Some server → server < count
    either true own other below rest e = let same : own ≡ server = cc in subst (λ (n : ℕ). n < count) same below
    either false own other below rest e = rest e

-- the key with the subscript after which a next looks is within the limit
asked-within : (parent : Site) (last : Sub) → IsSite parent → key_length parent.node.name (parent.node.subs ++ last ∷ []) ≤ 500 → last ≢ Text [] → IsWithinLimit (parent.key ++ sub_bytes last)
unfolding key_of
asked-within parent last site within some = omega (
  arith,
  within,
  ap length site.key,
  length-append parent.key (sub_bytes last),
  length-append parent.node.name (0 ∷ subs_bytes parent.node.subs),
  subs-size parent.node.subs last,
  full-subs parent.node.subs (no-empty parent.node.subs site.node.subs),
  full-sub last some,
)

next-may : (parent : Site) (last : Sub) → HasForm last → HasBytes last → (last ≢ Text [] → IsWithinLimit (parent.key ++ sub_bytes last)) → NextMay parent (asked last)
next-may parent (Num number) form bytes within = (form, within (λ e. cc))
next-may parent (Text []) form bytes within = tt
next-may parent (Text (b ∷ text)) form bytes within = (record { some = λ e. cc; no_number = form; bytes = bytes }, within (λ e. cc))

last-form : (subs : List Sub) (last : Sub) → AllByRecursion HasForm (subs ++ last ∷ []) → HasForm last
last-form [] last p = p.0
last-form (s ∷ subs) last p = last-form subs last p.1

next-part : (d : Declared) (parent : Site) (sub : Option Sub) (text rest : List ℕ) → AreBytes text → TakesPart d (ANext parent sub) text rest → IsSite parent × NextMay parent sub × (server_of d.globals parent.node.name ≡ Some parent.server)
next-part d parent sub text rest bytes (last, behind, read, is, site, known, ends) =
    let subs = parent.node.subs ++ last ∷ [] in
    let form = last-form parent.node.subs last (parts-forms parent.node.name text behind subs read) in
    let few = last-bytes parent.node.name text behind parent.node.subs last read bytes in
    let within = asked-within parent last site (parts-limit parent.node.name text behind subs read) in
    let may = next-may parent last form few within in
    (site, subst (λ (s : Option Sub). NextMay parent s) (sym is) may, known)

wait-may : (wait : Option ℕ) (text rest : List ℕ) → TakesWait wait text rest → IfSome wait IsWait
wait-may None text rest t = tt
wait-may (Some ticks) text rest (behind, ahead, number, is) = is

-- a command's limits, and its server
abbrev pub CommandFits : Declared → Command → Type 0
CommandFits d command = CommandMay command × IfSome (named_server command) (λ server. server < length d.servers)

site-fits : (d : Declared) → IsSound d → (site : Site) (text rest : List ℕ) → TakesPart d (ANode site) text rest → IsSite site × (site.server < length d.servers)
site-fits d sound site text rest (behind, read, is, known, ends) = (is, server-below (length d.servers) d.globals site.node.name site.server sound.globals known)

parts-fit : (d : Declared) → IsSound d → (command : Command) (text : List ℕ) → AreBytes text → TakesParts d (command_row command).parts text → CommandFits d command
parts-fit d sound (Set at value) text bytes (r, first, (s, (behind, read, short, ends), e)) = let fits = site-fits d sound at text r first in ((fits.0, short), fits.1)
parts-fit d sound (Kill at) text bytes (r, first, e) = site-fits d sound at text r first
parts-fit d sound (Get at) text bytes (r, first, e) = site-fits d sound at text r first
parts-fit d sound (Shape at) text bytes (r, first, e) = site-fits d sound at text r first
parts-fit d sound (Next parent sub) text bytes (r, first, e) =
    let next = next-part d parent sub text r bytes first in
    ((next.0, next.1), server-below (length d.servers) d.globals parent.node.name parent.server sound.globals next.2)
parts-fit d sound (Incr at amount) text bytes (r, first, (s, second, e)) = let fits = site-fits d sound at text r first in ((fits.0, second.1), fits.1)
parts-fit d sound (Lock at mode wait) text bytes (r, first, (s, second, (t, third, e))) = let fits = site-fits d sound at text r first in ((fits.0, wait-may wait s t third), fits.1)
parts-fit d sound (Unlock at mode now) text bytes (r, first, more) = site-fits d sound at text r first
parts-fit d sound Start text bytes e = (tt, tt)
parts-fit d sound (Commit sync) text bytes t = (tt, tt)
parts-fit d sound Rollback text bytes e = (tt, tt)
parts-fit d sound (Sync server) text bytes (r, first, e) = (tt, part-below d Server server text r first)

command-fits : (d : Declared) → IsSound d → (text : List ℕ) (command : Command) → AreBytes text → Reads command_row d text command → CommandFits d command
command-fits d sound text command bytes read =
    parts-fit d sound command read.rest (ahead-bytes (first_word text) text read.rest read.ahead bytes) read.behind.parts

pair-fits : (d : Declared) (app server : ℕ) (text : List ℕ) → TakesParts d (OfKind App app ∷ OfKind Server server ∷ []) text → (app < length d.apps) × (server < length d.servers)
pair-fits d app server text (r, first, (s, second, e)) = (part-below d App app text r first, part-below d Server server r s second)

-- what a line asks for may be done
pub todo-may : (d : Declared) → IsSound d → (text : List ℕ) (todo : Todo) → AreBytes text → ReadsTodo d text todo → TodoMay (layout_of d) todo
todo-may d sound text (JobTodo job command) bytes (name, rest, ahead, at, read) =
    let fits = command-fits d sound rest command (ahead-bytes (name ++ 58 ∷ []) text rest ahead.word bytes) read in
    let below : job < length d.jobs = index-below d Job name job at in
    (omega (arith, below, sound.job_apps), fits.0, fits.1)
todo-may d sound text Hold bytes read = tt
todo-may d sound text Flow bytes read = tt
todo-may d sound text (Up app server) bytes read = pair-fits d app server read.rest read.behind.parts
todo-may d sound text (Down app server) bytes read = pair-fits d app server read.rest read.behind.parts
todo-may d sound text (Save server) bytes read = part-below d Server server read.rest read.behind.parts.0 read.behind.parts.1
todo-may d sound text Pump bytes read = tt
todo-may d sound text (Tick count) bytes read = (read.behind.parts.1.1, read.behind.parts.1.2)
todo-may d sound text (Break app server) bytes read = pair-fits d app server read.rest read.behind.parts
todo-may d sound text (Mend app server) bytes read = pair-fits d app server read.rest read.behind.parts
todo-may d sound text (Crash server pick) bytes read = part-below d Server server read.rest read.behind.parts.0 read.behind.parts.1
todo-may d sound text (Restart server) bytes read = part-below d Server server read.rest read.behind.parts.0 read.behind.parts.1
todo-may d sound text (Die app) bytes read = part-below d App app read.rest read.behind.parts.0 read.behind.parts.1
todo-may d sound text (Await job) bytes read =
    let below : job < length d.jobs = part-below d Job job read.rest read.behind.parts.0 read.behind.parts.1 in
    omega (arith, below, sound.job_apps)
