-- What a line is, by its first word.
use Rattle.std.proofs.Common.{◌≡◌, ◌≢◌, ◌⊎◌, ℕ, true, false, if◌then◌else◌, List, [], ◌∷◌, ◌++◌, refl, sym, ap, ◌∙◌, subst, inl, inr}
use Rattle.std.proofs.lemmas.Bool.{cases_eq, eq-eqb, ne_eqb}
use Rattle.job_script.specs.declared.declared.Declared.{Declared}
use Rattle.job_script.specs.declared.declaration.Declaration.{Declaration}
use Rattle.job_script.specs.declared.declaration.Declaration.TheVariants.{Server as ServerDeclared, App as AppDeclared, Job as JobDeclared, Global as GlobalDeclared, Time as TimeDeclared}
use Rattle.job_script.specs.declared.declared_line.DeclaringWord.{DeclaringWord}
use Rattle.job_script.specs.declared.declared_line.DeclaringWord.TheVariants.{Data, App as AppWord, Job as JobWord, Global as GlobalWord, Time as TimeWord}
use Rattle.job_script.specs.declared.line.Line.TheVariants.{Declares, Asks}
use Rattle.job_script.specs.declared.line_fault.LineFault.{LineFault}
use Rattle.job_script.specs.declared.line_fault.LineFault.TheVariants.{Bad, Unknown as UnknownName, Memory}
use Rattle.job_script.specs.declared.line_kind.LineKind.TheVariants.{Unknown, Late}
use Rattle.job_script.specs.declared.setting.Setting.TheVariants.{Retry}
use Rattle.job_script.specs.declared.todo.Todo.{Todo}
use Rattle.job_script.specs.declared.todo.Todo.TheVariants.{Job as JobTodo, Hold, Flow, Up, Down, Save, Pump, Tick, Break, Mend, Crash, Restart, Die, Await}
use Rattle.job_script.specs.declared.todo_word.TodoWord.{TodoWord}
use Rattle.job_script.specs.declared.todo_word.TodoWord.TheVariants.{Hold as HoldWord, Flow as FlowWord, Up as UpWord, Down as DownWord, Save as SaveWord, Pump as PumpWord, Tick as TickWord, Break as BreakWord, Mend as MendWord, Crash as CrashWord, Restart as RestartWord, Die as DieWord, Await as AwaitWord}
use Rattle.job_script.specs.FirstWords.{declaring_text, todo_text}
use Rattle.job_script.specs.Names.{IsNodeName}
use Rattle.job_script.specs.Refusals.{IsMemoryFault, RefusesRow, RefusesBehind}
use Rattle.job_script.specs.Rows.{Row, Reads, ReadsBehind, IsUnknown, declaration_row, todo_row}
use Rattle.job_script.specs.Scripts.{IsJobAhead, ReadsTodo, ReadsText, ReadsNamed, RefusesText, RefusesNamed, RefusesJob, IsLate, IsNoLine}
use Rattle.job_script.specs.Words.{IsAhead, IsSilent, first_word, behind_word}

-- what a split of a line that isn't silent knows
pub record IsSplit (text word rest : List ℕ) : Type 0 where
  pub loud : IsSilent text → ⊥
  pub first : first_word text ≡ word
  pub behind : behind_word text ≡ rest

some-of : (text : List ℕ) → (IsSilent text → ⊥) → text ≢ []
some-of text loud none = loud (subst IsSilent (sym none) tt)

ahead-of : (text word rest : List ℕ) → IsSplit text word rest → IsAhead (first_word text) text rest
ahead-of text word rest s = record { some = some-of text s.loud; first = refl; behind = s.behind }

-- a row's reader and the split make a line of the table
reads-ahead : {X : Type 0} (row_of : X → Row) (d : Declared) (text word rest other : List ℕ) (x : X) → IsSplit text word rest → word ≡ other → ReadsBehind row_of d other rest x → Reads row_of d text x
reads-ahead row_of d text word rest other x s same r = record {
  rest = rest;
  ahead = ahead-of text word rest s;
  behind = record { word_is = r.word_is ∙ sym same ∙ sym s.first; parts = r.parts };
}

refuses-ahead : {X : Type 0} (row_of : X → Row) (d : Declared) (text word rest other : List ℕ) (fault : LineFault) → IsSplit text word rest → word ≡ other → RefusesBehind row_of d other rest fault → RefusesRow row_of d text fault
refuses-ahead row_of d text word rest other fault s same r = record {
  rest = rest;
  ahead = ahead-of text word rest s;
  behind = record { line = r.line; word_is = r.word_is ∙ sym same ∙ sym s.first; parts = r.parts };
}

-- a word has no space
pub no-space_word : (text : List ℕ) → first_word text ≢ 32 ∷ []
no-space_word [] e = cc
no-space_word (b ∷ bytes) e = elim (cases_eq b 32) [
  | inl is ↦ empty_word (sym (ap (λ t. if t then [] else b ∷ first_word bytes) (eq-eqb b 32 is)) ∙ e)
  | inr ne ↦ other_word (sym (ap (λ t. if t then [] else b ∷ first_word bytes) (ne_eqb b 32 ne)) ∙ e) ne
]
  where
    empty_word : (λ (xs : List ℕ). xs ≢ 32 ∷ []) []
    empty_word none = cc

    other_word : b ∷ first_word bytes ≡ 32 ∷ [] → b ≢ 32 → ⊥
    other_word same ne = let is : b ≡ 32 = cc in ne is

-- a line of the table of what lines ask for is no job's
todo-reads : (d : Declared) (text : List ℕ) (todo : Todo) → Reads todo_row d text todo → ReadsTodo d text todo
todo-reads d text (JobTodo job command) r = absurd (no-space_word text (sym r.behind.word_is))
todo-reads d text Hold r = r
todo-reads d text Flow r = r
todo-reads d text (Up app server) r = r
todo-reads d text (Down app server) r = r
todo-reads d text (Save server) r = r
todo-reads d text Pump r = r
todo-reads d text (Tick count) r = r
todo-reads d text (Break app server) r = r
todo-reads d text (Mend app server) r = r
todo-reads d text (Crash server pick) r = r
todo-reads d text (Restart server) r = r
todo-reads d text (Die app) r = r
todo-reads d text (Await job) r = r

-- a job's line
job-ahead : (text word rest name : List ℕ) → IsSplit text word rest → IsNodeName name → word ≡ name ++ 58 ∷ [] → IsJobAhead name text rest
job-ahead text word rest name s named is = record { named = named; word = record { some = some-of text s.loud; first = s.first ∙ is; behind = s.behind } }

named-reads : (d : Declared) (text rest name : List ℕ) (todo : Todo) → IsJobAhead name text rest → ReadsNamed d name rest todo → ReadsTodo d text todo
named-reads d text rest name (JobTodo job command) ahead r = (name, rest, ahead, r.0, r.1)
named-reads d text rest name Hold ahead r = absurd r
named-reads d text rest name Flow ahead r = absurd r
named-reads d text rest name (Up app server) ahead r = absurd r
named-reads d text rest name (Down app server) ahead r = absurd r
named-reads d text rest name (Save server) ahead r = absurd r
named-reads d text rest name Pump ahead r = absurd r
named-reads d text rest name (Tick count) ahead r = absurd r
named-reads d text rest name (Break app server) ahead r = absurd r
named-reads d text rest name (Mend app server) ahead r = absurd r
named-reads d text rest name (Crash server pick) ahead r = absurd r
named-reads d text rest name (Restart server) ahead r = absurd r
named-reads d text rest name (Die app) ahead r = absurd r
named-reads d text rest name (Await job) ahead r = absurd r

-- a declaration is read
pub declares_read : (d : Declared) (text word rest : List ℕ) (w : DeclaringWord) (x : Declaration) → IsSplit text word rest → word ≡ declaring_text w → d.is_closed ≡ false → ReadsBehind declaration_row d (declaring_text w) rest x → ReadsText d text (Declares x)
declares_read d text word rest w x s is free r = (free, reads-ahead declaration_row d text word rest (declaring_text w) x s is r)

-- what another line asks for is read
pub asks_read : (d : Declared) (text word rest : List ℕ) (w : TodoWord) (x : Todo) → IsSplit text word rest → word ≡ todo_text w → ReadsBehind todo_row d (todo_text w) rest x → ReadsText d text (Asks x)
asks_read d text word rest w x s is r = todo-reads d text x (reads-ahead todo_row d text word rest (todo_text w) x s is r)

-- and what a job's line asks for
pub named_read : (d : Declared) (text word rest name : List ℕ) (x : Todo) → IsSplit text word rest → IsNodeName name → word ≡ name ++ 58 ∷ [] → ReadsNamed d name rest x → ReadsText d text (Asks x)
named_read d text word rest name x s named is r = named-reads d text rest name x (job-ahead text word rest name s named is) r

-- the five reasons refuse a line
refuses-text : (d : Declared) (text : List ℕ) (fault : LineFault) → (IsNoLine text × (fault ≡ Bad Unknown)) ⊎ ((IsLate d text × (fault ≡ Bad Late)) ⊎ (((d.is_closed ≡ false) × RefusesRow declaration_row d text fault) ⊎ (RefusesRow todo_row d text fault ⊎ RefusesJob d text fault))) → RefusesText d text fault
refuses-text d text (Bad kind) r = r
refuses-text d text UnknownName r = r
refuses-text d text (Memory error) r = tt

memory-text : (d : Declared) (text : List ℕ) (fault : LineFault) → IsMemoryFault fault → RefusesText d text fault
memory-text d text (Bad kind) m = absurd m
memory-text d text UnknownName m = absurd m
memory-text d text (Memory error) m = tt

-- a declaration of each word
declared-of : (w : DeclaringWord) → (x : Declaration) × ((declaration_row x).word ≡ declaring_text w)
declared-of Data = (ServerDeclared [], refl)
declared-of AppWord = (AppDeclared [], refl)
declared-of JobWord = (JobDeclared [] 0, refl)
declared-of GlobalWord = (GlobalDeclared [] 0, refl)
declared-of TimeWord = (TimeDeclared Retry 0, refl)

pub late_refused : (d : Declared) (text word rest : List ℕ) (w : DeclaringWord) → IsSplit text word rest → word ≡ declaring_text w → d.is_closed ≡ true → RefusesText d text (Bad Late)
late_refused d text word rest w s is closed =
    let sample = declared-of w in
    refuses-text d text (Bad Late) (inr (inl ((closed, (sample.0, sample.1 ∙ sym is ∙ sym s.first)), refl)))

pub declares_refused : (d : Declared) (text word rest : List ℕ) (w : DeclaringWord) (fault : LineFault) → IsSplit text word rest → word ≡ declaring_text w → d.is_closed ≡ false → RefusesBehind declaration_row d (declaring_text w) rest fault → RefusesText d text fault
declares_refused d text word rest w fault s is free r = refuses-text d text fault (inr (inr (inl (free, refuses-ahead declaration_row d text word rest (declaring_text w) fault s is r))))

pub asks_refused : (d : Declared) (text word rest : List ℕ) (w : TodoWord) (fault : LineFault) → IsSplit text word rest → word ≡ todo_text w → RefusesBehind todo_row d (todo_text w) rest fault → RefusesText d text fault
asks_refused d text word rest w fault s is r = refuses-text d text fault (inr (inr (inr (inl (refuses-ahead todo_row d text word rest (todo_text w) fault s is r)))))

pub named_refused : (d : Declared) (text word rest name : List ℕ) (fault : LineFault) → IsSplit text word rest → IsNodeName name → word ≡ name ++ 58 ∷ [] → IsMemoryFault fault ⊎ RefusesNamed d name rest fault → RefusesText d text fault
named_refused d text word rest name fault s named is (inl m) = memory-text d text fault m
named_refused d text word rest name fault s named is (inr r) = refuses-text d text fault (inr (inr (inr (inr (name, rest, job-ahead text word rest name s named is, r)))))

-- no row has another first word
no-declaration : (word : List ℕ) → ((w : DeclaringWord) → word ≢ declaring_text w) → IsUnknown declaration_row word
no-declaration word none (ServerDeclared name) e = none Data (sym e)
no-declaration word none (AppDeclared name) e = none AppWord (sym e)
no-declaration word none (JobDeclared name app) e = none JobWord (sym e)
no-declaration word none (GlobalDeclared name server) e = none GlobalWord (sym e)
no-declaration word none (TimeDeclared setting ticks) e = none TimeWord (sym e)

no-todo : (word : List ℕ) → word ≢ 32 ∷ [] → ((w : TodoWord) → word ≢ todo_text w) → IsUnknown todo_row word
no-todo word space none (JobTodo job command) e = space (sym e)
no-todo word space none Hold e = none HoldWord (sym e)
no-todo word space none Flow e = none FlowWord (sym e)
no-todo word space none (Up app server) e = none UpWord (sym e)
no-todo word space none (Down app server) e = none DownWord (sym e)
no-todo word space none (Save server) e = none SaveWord (sym e)
no-todo word space none Pump e = none PumpWord (sym e)
no-todo word space none (Tick count) e = none TickWord (sym e)
no-todo word space none (Break app server) e = none BreakWord (sym e)
no-todo word space none (Mend app server) e = none MendWord (sym e)
no-todo word space none (Crash server pick) e = none CrashWord (sym e)
no-todo word space none (Restart server) e = none RestartWord (sym e)
no-todo word space none (Die app) e = none DieWord (sym e)
no-todo word space none (Await job) e = none AwaitWord (sym e)

pub unknown_refused : (d : Declared) (text word rest : List ℕ) → IsSplit text word rest → ((w : DeclaringWord) → word ≢ declaring_text w) → ((w : TodoWord) → word ≢ todo_text w) → ((name : List ℕ) → IsNodeName name → word ≢ name ++ 58 ∷ []) → RefusesText d text (Bad Unknown)
unknown_refused d text word rest s declaring asking job = refuses-text d text (Bad Unknown) (inl (
  record {
    loud = s.loud;
    no_declaration = no-declaration (first_word text) (λ w e. declaring w (sym s.first ∙ e));
    no_todo = no-todo (first_word text) (no-space_word text) (λ w e. asking w (sym s.first ∙ e));
    no_job = λ name more ahead. job name ahead.named (sym s.first ∙ ahead.word.first);
  },
  refl,
))
