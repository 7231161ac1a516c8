-- A line is one thing at most, and is refused for one fault at most.
use Rattle.std.proofs.Common.{◌≡◌, ◌⊎◌, ℕ, Bool, true, false, List, [], ◌∷◌, ◌++◌, refl, sym, ap, subst, ◌∙◌, inl, inr}
use Rattle.std.specs.Prelude.{None, Some}
use Rattle.std.proofs.lemmas.Bool.{false≢true}
use Rattle.app_job.specs.declared.command.Command.{Command}
use Rattle.job_script.specs.declared.declared.Declared.{Declared}
use Rattle.job_script.specs.declared.declaration.Declaration.{Declaration}
use Rattle.job_script.specs.declared.line.Line.{Line}
use Rattle.job_script.specs.declared.line.Line.TheVariants.{Nothing, Declares, Asks}
use Rattle.job_script.specs.declared.line_fault.LineFault.{LineFault}
use Rattle.job_script.specs.declared.line_fault.LineFault.TheVariants.{Bad, Unknown as UnknownName, Memory}
use Rattle.job_script.specs.declared.line_kind.LineKind.TheVariants.{Unknown, Late}
use Rattle.job_script.specs.declared.name_kind.NameKind.TheVariants.{Job}
use Rattle.job_script.specs.declared.todo.Todo.{Todo}
use Rattle.job_script.specs.declared.todo.Todo.TheVariants.{Job as JobTodo, Hold, Flow, Up, Down, Save, Pump, Tick, Break, Mend, Crash, Restart, Die, Await}
use Rattle.job_script.specs.Names.{index_of}
use Rattle.job_script.specs.Refusals.{IsMemoryFault, RefusesRow}
use Rattle.job_script.specs.Rows.{Row, Reads, IsUnknown, declaration_row, todo_row, command_row}
use Rattle.job_script.specs.Scripts.{IsJobAhead, ReadsTodo, ReadsText, RefusesCommand, RefusesJob, IsLate, IsNoLine, RefusesText}
use Rattle.job_script.specs.Words.{IsSilent, first_word}
use Rattle.job_script.proofs.WordLaws.{one-ahead, has_colon, colon-behind, one-name-before, has_hash, silent-hash, name-no-hash}
use Rattle.job_script.proofs.FaultLaws.{AreOne}
use Rattle.job_script.proofs.RowLaws.{row-taken, one-row-refusal}
use Rattle.job_script.proofs.TableLaws.{declaration-table, one-declaration, todo-table, one-todo, command-table, one-command, is_declaring, declaring-word, declaration-plain, todo-plain, todo-no-declaring}

-- the line begins with the word of a row
abbrev BeginsRow : {X : Type 0} → (X → Row) → List ℕ → Type 0
BeginsRow {X} row_of text = (x : X) × ((row_of x).word ≡ first_word text)

-- a job's line asks for this
abbrev ReadsJob : Declared → List ℕ → Todo → Type 0
ReadsJob d text todo =
    (job : ℕ) × (command : Command) × (name : List ℕ) × (rest : List ℕ) × (todo ≡ JobTodo job command) × IsJobAhead name text rest
    × (index_of d Job name ≡ Some job) × Reads command_row d rest command

-- a line that asks for something is a job's, or one of the table
todo-cases : (d : Declared) (text : List ℕ) (todo : Todo) → ReadsTodo d text todo → ReadsJob d text todo ⊎ Reads todo_row d text todo
todo-cases d text (JobTodo job command) (name, rest, ahead, at, read) = inl (job, command, name, rest, refl, ahead, at, read)
todo-cases d text Hold h = inr h
todo-cases d text Flow h = inr h
todo-cases d text (Up app server) h = inr h
todo-cases d text (Down app server) h = inr h
todo-cases d text (Save server) h = inr h
todo-cases d text Pump h = inr h
todo-cases d text (Tick count) h = inr h
todo-cases d text (Break app server) h = inr h
todo-cases d text (Mend app server) h = inr h
todo-cases d text (Crash server pick) h = inr h
todo-cases d text (Restart server) h = inr h
todo-cases d text (Die app) h = inr h
todo-cases d text (Await job) h = inr h

reads-begins : {X : Type 0} (row_of : X → Row) (d : Declared) (text : List ℕ) (x : X) → Reads row_of d text x → BeginsRow row_of text
reads-begins row_of d text x p = (x, p.behind.word_is)

refused-begins : {X : Type 0} (row_of : X → Row) (d : Declared) (text : List ℕ) (fault : LineFault) → RefusesRow row_of d text fault → BeginsRow row_of text
refused-begins row_of d text fault p = (p.behind.line, p.behind.word_is)

-- no line begins with the words of two kinds
declaration-no-todo : (text : List ℕ) → BeginsRow declaration_row text → BeginsRow todo_row text → ⊥
declaration-no-todo text (x, e) (y, k) = false≢true (sym (todo-no-declaring y) ∙ ap is_declaring (k ∙ sym e) ∙ declaring-word x)

colon-ahead : (name text rest : List ℕ) → IsJobAhead name text rest → has_colon (first_word text) ≡ true
colon-ahead name text rest p = ap has_colon p.word.first ∙ colon-behind name

declaration-no-job : (name text rest : List ℕ) → BeginsRow declaration_row text → IsJobAhead name text rest → ⊥
declaration-no-job name text rest (x, e) p = false≢true (sym (declaration-plain x).no_colon ∙ ap has_colon e ∙ colon-ahead name text rest p)

todo-no-job : (name text rest : List ℕ) → BeginsRow todo_row text → IsJobAhead name text rest → ⊥
todo-no-job name text rest (x, e) p = false≢true (sym (todo-plain x).no_colon ∙ ap has_colon e ∙ colon-ahead name text rest p)

-- nor does one that does nothing
silent-no-declaration : (text : List ℕ) → IsSilent text → BeginsRow declaration_row text → ⊥
silent-no-declaration [] silent (x, e) = false≢true (ap is_declaring (sym e) ∙ declaring-word x)
silent-no-declaration (b ∷ bytes) silent (x, e) = false≢true (sym (declaration-plain x).no_hash ∙ ap has_hash e ∙ silent-hash (b ∷ bytes) silent (λ k. cc))

silent-no-todo : (text : List ℕ) → IsSilent text → (text ≡ [] → ⊥) → BeginsRow todo_row text → ⊥
silent-no-todo text silent some (x, e) = false≢true (sym (todo-plain x).no_hash ∙ ap has_hash e ∙ silent-hash text silent some)

silent-no-job : (name text rest : List ℕ) → IsSilent text → IsJobAhead name text rest → ⊥
silent-no-job name text rest silent p =
    false≢true (sym (name-no-hash name (58 ∷ []) p.named) ∙ ap has_hash (sym p.word.first) ∙ silent-hash text silent p.word.some)

silent-no-asks : (d : Declared) (text : List ℕ) (todo : Todo) → IsSilent text → ReadsTodo d text todo → ⊥
silent-no-asks d text todo silent read = elim (todo-cases d text todo read) [
  | inl (job, command, name, rest, e, ahead, at, of) ↦ silent-no-job name text rest silent ahead
  | inr of ↦ silent-no-todo text silent of.ahead.some (reads-begins todo_row d text todo of)
]

declaration-no-asks : (d : Declared) (text : List ℕ) (todo : Todo) → BeginsRow declaration_row text → ReadsTodo d text todo → ⊥
declaration-no-asks d text todo begins read = elim (todo-cases d text todo read) [
  | inl (job, command, name, rest, e, ahead, at, of) ↦ declaration-no-job name text rest begins ahead
  | inr of ↦ declaration-no-todo text begins (reads-begins todo_row d text todo of)
]

-- the job's name and what follows its colon are one
one-job-ahead : (name other text rest behind : List ℕ) → IsJobAhead name text rest → IsJobAhead other text behind → (name ≡ other) × (rest ≡ behind)
one-job-ahead name other text rest behind p q =
    let same = one-ahead (name ++ 58 ∷ []) (other ++ 58 ∷ []) text rest behind p.word q.word in
    (one-name-before name other same.0, same.1)

one-job : (d : Declared) (text : List ℕ) (x y : Todo) → ReadsJob d text x → ReadsJob d text y → x ≡ y
one-job d text x y (i, a, name, rest, e, ahead, at, read) (j, b, other, behind, k, first, place, also) =
    let same = one-job-ahead name other text rest behind ahead first in
    let indexes : Some i ≡ Some j = sym at ∙ ap (λ n. index_of d Job n) same.0 ∙ place in
    let index : i ≡ j = cc in
    let command = one-command d behind a b (subst (λ (t : List ℕ). Reads command_row d t a) same.1 read) also in
    e ∙ ap (λ n. JobTodo n a) index ∙ ap (λ c. JobTodo j c) command ∙ sym k

one-asks : (d : Declared) (text : List ℕ) (x y : Todo) → ReadsTodo d text x → ReadsTodo d text y → x ≡ y
one-asks d text x y p q = elim (todo-cases d text x p) [
  | inl h ↦ elim (todo-cases d text y q) [
    | inl k ↦ one-job d text x y h k
    | inr k ↦ absurd (todo-no-job h.2 text h.3 (reads-begins todo_row d text y k) h.5)
  ]
  | inr h ↦ elim (todo-cases d text y q) [
    | inl k ↦ absurd (todo-no-job k.2 text k.3 (reads-begins todo_row d text x h) k.5)
    | inr k ↦ one-todo d text x y h k
  ]
]

-- a line is one thing
pub one-line : (d : Declared) (text : List ℕ) (a b : Line) → ReadsText d text a → ReadsText d text b → a ≡ b
one-line d text Nothing Nothing p q = refl
one-line d text Nothing (Declares y) p q = absurd (silent-no-declaration text p (reads-begins declaration_row d text y q.1))
one-line d text Nothing (Asks y) p q = absurd (silent-no-asks d text y p q)
one-line d text (Declares x) Nothing p q = absurd (silent-no-declaration text q (reads-begins declaration_row d text x p.1))
one-line d text (Declares x) (Declares y) p q = ap Declares (one-declaration d text x y p.1 q.1)
one-line d text (Declares x) (Asks y) p q = absurd (declaration-no-asks d text y (reads-begins declaration_row d text x p.1) q)
one-line d text (Asks x) Nothing p q = absurd (silent-no-asks d text x q p)
one-line d text (Asks x) (Declares y) p q = absurd (declaration-no-asks d text x (reads-begins declaration_row d text y q.1) p)
one-line d text (Asks x) (Asks y) p q = ap Asks (one-asks d text x y p q)

-- why a line is refused, in five cases
abbrev Reasons : Declared → List ℕ → LineFault → Type 0
Reasons d text fault =
    (IsNoLine text × (fault ≡ Bad Unknown))
    ⊎ ((IsLate d text × (fault ≡ Bad Late))
    ⊎ (((d.is_closed ≡ false) × RefusesRow declaration_row d text fault)
    ⊎ (RefusesRow todo_row d text fault
    ⊎ RefusesJob d text fault)))

reasons : (d : Declared) (text : List ℕ) (fault : LineFault) → RefusesText d text fault → IsMemoryFault fault ⊎ Reasons d text fault
reasons d text (Memory error) h = inl tt
reasons d text (Bad kind) h = inr h
reasons d text UnknownName h = inr h

late-begins : (d : Declared) (text : List ℕ) → IsLate d text → BeginsRow declaration_row text
late-begins d text p = p.1

closed-late : (b : Bool) → b ≡ false → b ≡ true → ⊥
closed-late b p q = false≢true (sym p ∙ q)

unknown-no-row : {X : Type 0} (row_of : X → Row) (text : List ℕ) → IsUnknown row_of (first_word text) → BeginsRow row_of text → ⊥
unknown-no-row row_of text none (x, e) = none x e

job-no-line : (d : Declared) (text : List ℕ) (fault : LineFault) → IsNoLine text → RefusesJob d text fault → ⊥
job-no-line d text fault none (name, rest, ahead, h) = none.no_job name rest ahead

-- a command is not refused where it is read, and else for one fault
command-taken : (d : Declared) (text : List ℕ) (x : Command) (fault : LineFault) → Reads command_row d text x → RefusesCommand d text fault → IsMemoryFault fault
command-taken d text x fault p (inl h) = absurd (unknown-no-row command_row text h.0 (reads-begins command_row d text x p))
command-taken d text x fault p (inr h) = row-taken command_row command-table d text x fault p h

one-command-refusal : (d : Declared) (text : List ℕ) (fault other : LineFault) → RefusesCommand d text fault → RefusesCommand d text other → AreOne fault other
one-command-refusal d text fault other (inl p) (inl q) = inr (inr (p.1 ∙ sym q.1))
one-command-refusal d text fault other (inl p) (inr q) = absurd (unknown-no-row command_row text p.0 (refused-begins command_row d text other q))
one-command-refusal d text fault other (inr p) (inl q) = absurd (unknown-no-row command_row text q.0 (refused-begins command_row d text fault p))
one-command-refusal d text fault other (inr p) (inr q) = one-row-refusal command_row command-table d text fault other p q

-- so a job's line
job-taken : (d : Declared) (text : List ℕ) (todo : Todo) (fault : LineFault) → ReadsJob d text todo → RefusesJob d text fault → IsMemoryFault fault
job-taken d text todo fault (i, a, name, rest, e, ahead, at, read) (other, behind, first, inl h) =
    let same = one-job-ahead name other text rest behind ahead first in
    let none : Some i ≡ None = sym at ∙ ap (λ n. index_of d Job n) same.0 ∙ h.0 in
    cc
job-taken d text todo fault (i, a, name, rest, e, ahead, at, read) (other, behind, first, inr h) =
    let same = one-job-ahead name other text rest behind ahead first in
    command-taken d behind a fault (subst (λ (t : List ℕ). Reads command_row d t a) same.1 read) h.1

one-job-refusal : (d : Declared) (text : List ℕ) (fault other : LineFault) → RefusesJob d text fault → RefusesJob d text other → AreOne fault other
one-job-refusal d text fault other (a, rest, ahead, inl p) (b, behind, first, inl q) = inr (inr (p.1 ∙ sym q.1))
one-job-refusal d text fault other (a, rest, ahead, inl p) (b, behind, first, inr q) =
    absurd (q.0 (ap (λ n. index_of d Job n) (sym (one-job-ahead a b text rest behind ahead first).0) ∙ p.0))
one-job-refusal d text fault other (a, rest, ahead, inr p) (b, behind, first, inl q) =
    absurd (p.0 (ap (λ n. index_of d Job n) (one-job-ahead a b text rest behind ahead first).0 ∙ q.0))
one-job-refusal d text fault other (a, rest, ahead, inr p) (b, behind, first, inr q) =
    one-command-refusal d behind fault other (subst (λ (t : List ℕ). RefusesCommand d t fault) (one-job-ahead a b text rest behind ahead first).1 p.1) q.1

-- a line that does nothing
silent-taken : (d : Declared) (text : List ℕ) (fault : LineFault) → IsSilent text → Reasons d text fault → IsMemoryFault fault
silent-taken d text fault p (inl h) = absurd (h.0.loud p)
silent-taken d text fault p (inr (inl h)) = absurd (silent-no-declaration text p (late-begins d text h.0))
silent-taken d text fault p (inr (inr (inl h))) = absurd (silent-no-declaration text p (refused-begins declaration_row d text fault h.1))
silent-taken d text fault p (inr (inr (inr (inl h)))) = absurd (silent-no-todo text p h.ahead.some (refused-begins todo_row d text fault h))
silent-taken d text fault p (inr (inr (inr (inr (name, rest, ahead, h))))) = absurd (silent-no-job name text rest p ahead)

-- a line that declares something
declares-taken : (d : Declared) (text : List ℕ) (x : Declaration) (fault : LineFault) → d.is_closed ≡ false → Reads declaration_row d text x → Reasons d text fault → IsMemoryFault fault
declares-taken d text x fault fresh p (inl h) = absurd (h.0.no_declaration x p.behind.word_is)
declares-taken d text x fault fresh p (inr (inl h)) = absurd (closed-late d.is_closed fresh h.0.0)
declares-taken d text x fault fresh p (inr (inr (inl h))) = row-taken declaration_row declaration-table d text x fault p h.1
declares-taken d text x fault fresh p (inr (inr (inr (inl h)))) = absurd (declaration-no-todo text (reads-begins declaration_row d text x p) (refused-begins todo_row d text fault h))
declares-taken d text x fault fresh p (inr (inr (inr (inr (name, rest, ahead, h))))) = absurd (declaration-no-job name text rest (reads-begins declaration_row d text x p) ahead)

-- a line of the other table
todo-taken : (d : Declared) (text : List ℕ) (x : Todo) (fault : LineFault) → Reads todo_row d text x → Reasons d text fault → IsMemoryFault fault
todo-taken d text x fault p (inl h) = absurd (h.0.no_todo x p.behind.word_is)
todo-taken d text x fault p (inr (inl h)) = absurd (declaration-no-todo text (late-begins d text h.0) (reads-begins todo_row d text x p))
todo-taken d text x fault p (inr (inr (inl h))) = absurd (declaration-no-todo text (refused-begins declaration_row d text fault h.1) (reads-begins todo_row d text x p))
todo-taken d text x fault p (inr (inr (inr (inl h)))) = row-taken todo_row todo-table d text x fault p h
todo-taken d text x fault p (inr (inr (inr (inr (name, rest, ahead, h))))) = absurd (todo-no-job name text rest (reads-begins todo_row d text x p) ahead)

-- a job's line
job-line-taken : (d : Declared) (text : List ℕ) (x : Todo) (fault : LineFault) → ReadsJob d text x → Reasons d text fault → IsMemoryFault fault
job-line-taken d text x fault p (inl h) = absurd (h.0.no_job p.2 p.3 p.5)
job-line-taken d text x fault p (inr (inl h)) = absurd (declaration-no-job p.2 text p.3 (late-begins d text h.0) p.5)
job-line-taken d text x fault p (inr (inr (inl h))) = absurd (declaration-no-job p.2 text p.3 (refused-begins declaration_row d text fault h.1) p.5)
job-line-taken d text x fault p (inr (inr (inr (inl h)))) = absurd (todo-no-job p.2 text p.3 (refused-begins todo_row d text fault h) p.5)
job-line-taken d text x fault p (inr (inr (inr (inr h)))) = job-taken d text x fault p h

line-reasons : (d : Declared) (text : List ℕ) (line : Line) (fault : LineFault) → ReadsText d text line → Reasons d text fault → IsMemoryFault fault
line-reasons d text Nothing fault p h = silent-taken d text fault p h
line-reasons d text (Declares x) fault p h = declares-taken d text x fault p.0 p.1 h
line-reasons d text (Asks x) fault p h = elim (todo-cases d text x p) [
  | inl k ↦ job-line-taken d text x fault k h
  | inr k ↦ todo-taken d text x fault k h
]

-- a line that is read is not refused
pub line-taken : (d : Declared) (text : List ℕ) (line : Line) (fault : LineFault) → ReadsText d text line → RefusesText d text fault → IsMemoryFault fault
line-taken d text line fault p h = elim (reasons d text fault h) [
  | inl k ↦ k
  | inr k ↦ line-reasons d text line fault p k
]

one-reason : (d : Declared) (text : List ℕ) (fault other : LineFault) → Reasons d text fault → Reasons d text other → AreOne fault other
one-reason d text fault other (inl p) (inl q) = inr (inr (p.1 ∙ sym q.1))
one-reason d text fault other (inl p) (inr (inl q)) = absurd (unknown-no-row declaration_row text p.0.no_declaration (late-begins d text q.0))
one-reason d text fault other (inl p) (inr (inr (inl q))) = absurd (unknown-no-row declaration_row text p.0.no_declaration (refused-begins declaration_row d text other q.1))
one-reason d text fault other (inl p) (inr (inr (inr (inl q)))) = absurd (unknown-no-row todo_row text p.0.no_todo (refused-begins todo_row d text other q))
one-reason d text fault other (inl p) (inr (inr (inr (inr q)))) = absurd (job-no-line d text other p.0 q)
one-reason d text fault other (inr (inl p)) (inl q) = absurd (unknown-no-row declaration_row text q.0.no_declaration (late-begins d text p.0))
one-reason d text fault other (inr (inl p)) (inr (inl q)) = inr (inr (p.1 ∙ sym q.1))
one-reason d text fault other (inr (inl p)) (inr (inr (inl q))) = absurd (closed-late d.is_closed q.0 p.0.0)
one-reason d text fault other (inr (inl p)) (inr (inr (inr (inl q)))) = absurd (declaration-no-todo text (late-begins d text p.0) (refused-begins todo_row d text other q))
one-reason d text fault other (inr (inl p)) (inr (inr (inr (inr (name, rest, ahead, q))))) = absurd (declaration-no-job name text rest (late-begins d text p.0) ahead)
one-reason d text fault other (inr (inr (inl p))) (inl q) = absurd (unknown-no-row declaration_row text q.0.no_declaration (refused-begins declaration_row d text fault p.1))
one-reason d text fault other (inr (inr (inl p))) (inr (inl q)) = absurd (closed-late d.is_closed p.0 q.0.0)
one-reason d text fault other (inr (inr (inl p))) (inr (inr (inl q))) = one-row-refusal declaration_row declaration-table d text fault other p.1 q.1
one-reason d text fault other (inr (inr (inl p))) (inr (inr (inr (inl q)))) = absurd (declaration-no-todo text (refused-begins declaration_row d text fault p.1) (refused-begins todo_row d text other q))
one-reason d text fault other (inr (inr (inl p))) (inr (inr (inr (inr (name, rest, ahead, q))))) = absurd (declaration-no-job name text rest (refused-begins declaration_row d text fault p.1) ahead)
one-reason d text fault other (inr (inr (inr (inl p)))) (inl q) = absurd (unknown-no-row todo_row text q.0.no_todo (refused-begins todo_row d text fault p))
one-reason d text fault other (inr (inr (inr (inl p)))) (inr (inl q)) = absurd (declaration-no-todo text (late-begins d text q.0) (refused-begins todo_row d text fault p))
one-reason d text fault other (inr (inr (inr (inl p)))) (inr (inr (inl q))) = absurd (declaration-no-todo text (refused-begins declaration_row d text other q.1) (refused-begins todo_row d text fault p))
one-reason d text fault other (inr (inr (inr (inl p)))) (inr (inr (inr (inl q)))) = one-row-refusal todo_row todo-table d text fault other p q
one-reason d text fault other (inr (inr (inr (inl p)))) (inr (inr (inr (inr (name, rest, ahead, q))))) = absurd (todo-no-job name text rest (refused-begins todo_row d text fault p) ahead)
one-reason d text fault other (inr (inr (inr (inr p)))) (inl q) = absurd (job-no-line d text fault q.0 p)
one-reason d text fault other (inr (inr (inr (inr p)))) (inr (inl q)) = absurd (declaration-no-job p.0 text p.1 (late-begins d text q.0) p.2)
one-reason d text fault other (inr (inr (inr (inr p)))) (inr (inr (inl q))) = absurd (declaration-no-job p.0 text p.1 (refused-begins declaration_row d text other q.1) p.2)
one-reason d text fault other (inr (inr (inr (inr p)))) (inr (inr (inr (inl q)))) = absurd (todo-no-job p.0 text p.1 (refused-begins todo_row d text other q) p.2)
one-reason d text fault other (inr (inr (inr (inr p)))) (inr (inr (inr (inr q)))) = one-job-refusal d text fault other p q

-- a line has one fault
pub one-refusal : (d : Declared) (text : List ℕ) (fault other : LineFault) → RefusesText d text fault → RefusesText d text other → AreOne fault other
one-refusal d text fault other p q = elim (reasons d text fault p) [
  | inl h ↦ inl h
  | inr h ↦ elim (reasons d text other q) [
    | inl k ↦ inr (inl k)
    | inr k ↦ one-reason d text fault other h k
  ]
]
