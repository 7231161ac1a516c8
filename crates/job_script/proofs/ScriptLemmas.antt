-- A script read line by line.
use Rattle.std.proofs.Common.{◌≡◌, ◌≢◌, ℕ, ◌+◌, ◌≤◌, List, [], ◌∷◌, ◌++◌, length, refl, sym, ap, ◌∙◌, subst, inl, inr, append_assoc, append-nil, arith, length-append}
use Rattle.plain_orders.specs.declared.layout.Layout.{Layout}
use Rattle.plain_orders.specs.declared.layout.Names.{Names}
use Rattle.job_script.specs.declared.declared.Declared.{Declared}
use Rattle.job_script.specs.declared.declaration.Declaration.{Declaration}
use Rattle.job_script.specs.declared.declaration.Declaration.TheVariants.{Server as ServerDeclared, App as AppDeclared, Job as JobDeclared, Global as GlobalDeclared, Time as TimeDeclared}
use Rattle.job_script.specs.declared.declared_line.DeclaredLine.{DeclaredLine}
use Rattle.job_script.specs.declared.limits.TheConstants.{LINE_LIMIT}
use Rattle.job_script.specs.declared.line.Line.{Line}
use Rattle.job_script.specs.declared.line.Line.TheVariants.{Nothing, Declares, Asks}
use Rattle.job_script.specs.declared.line_fault.LineFault.{LineFault}
use Rattle.job_script.specs.declared.line_fault.LineFault.TheVariants.{Bad, Unknown as UnknownName, Memory}
use Rattle.job_script.specs.declared.script.Script.{Script}
use Rattle.job_script.specs.declared.script_error.ScriptError.TheVariants.{TooManyLines}
use Rattle.job_script.specs.declared.script_line.ScriptLine.{ScriptLine}
use Rattle.job_script.specs.Lines.{script_lines}
use Rattle.job_script.specs.Scripts.{ReadsLine, RefusesLine, AreLines, RefusesAt, HasRoomFor, MayTake, behind, declared_by, nothing_declared, declared_behind, declaration_before, declarations_from, todo_before, todos_from, layout_of, declared_names, IsScriptText, RefusesScript, error_at}

-- one line more is read
AreLines-more : (d : Declared) (raws : List (List ℕ)) (lines : List Line) (raw : List ℕ) (line : Line) → AreLines d raws lines → ReadsLine (declared_behind d lines) raw line → AreLines d (raws ++ raw ∷ []) (lines ++ line ∷ [])
AreLines-more d [] [] raw line are reads = (reads, tt)
AreLines-more d [] (l ∷ lines) raw line are reads = absurd are
AreLines-more d (r ∷ raws) [] raw line are reads = absurd are
AreLines-more d (r ∷ raws) (l ∷ lines) raw line are reads = (are.0, AreLines-more (behind d l) raws lines raw line are.1 reads)

-- what is declared after it
declared_behind-more : (d : Declared) (lines : List Line) (line : Line) → declared_behind d (lines ++ line ∷ []) ≡ behind (declared_behind d lines) line
declared_behind-more d [] line = refl
declared_behind-more d (l ∷ lines) line = declared_behind-more (behind d l) lines line

-- a line stands before the others
declaration-front : (number : ℕ) (line : Line) (xs ys : List DeclaredLine) → declaration_before number line (xs ++ ys) ≡ declaration_before number line xs ++ ys
declaration-front number Nothing xs ys = refl
declaration-front number (Declares declaration) xs ys = refl
declaration-front number (Asks todo) xs ys = refl

todo-front : (number : ℕ) (line : Line) (xs ys : List ScriptLine) → todo_before number line (xs ++ ys) ≡ todo_before number line xs ++ ys
todo-front number Nothing xs ys = refl
todo-front number (Declares declaration) xs ys = refl
todo-front number (Asks todo) xs ys = refl

-- the lines that declare, and one line more
declarations-more : (number : ℕ) (lines : List Line) (line : Line) → declarations_from number (lines ++ line ∷ []) ≡ declarations_from number lines ++ declaration_before (number + length lines) line []
declarations-more number [] line = ap (λ n. declaration_before n line []) (omega arith)
declarations-more number (l ∷ lines) line =
    ap (declaration_before number l) (declarations-more (number + 1) lines line ∙ ap (λ n. declarations_from (number + 1) lines ++ declaration_before n line []) (omega arith))
    ∙ declaration-front number l (declarations_from (number + 1) lines) _

-- the lines that ask for something, and one line more
todos-more : (number : ℕ) (lines : List Line) (line : Line) → todos_from number (lines ++ line ∷ []) ≡ todos_from number lines ++ todo_before (number + length lines) line []
todos-more number [] line = ap (λ n. todo_before n line []) (omega arith)
todos-more number (l ∷ lines) line =
    ap (todo_before number l) (todos-more (number + 1) lines line ∙ ap (λ n. todos_from (number + 1) lines ++ todo_before n line []) (omega arith))
    ∙ todo-front number l (todos_from (number + 1) lines) _

-- the first bad line, after good ones
refuses-at : (d : Declared) (first : ℕ) (raws : List (List ℕ)) (lines : List Line) (raw : List ℕ) (others : List (List ℕ)) (fault : LineFault) → AreLines d raws lines → RefusesLine (declared_behind d lines) raw fault → RefusesAt d first (raws ++ raw ∷ others) (first + length lines) fault
refuses-at d first [] [] raw others fault are r = inl (omega arith, r)
refuses-at d first [] (l ∷ lines) raw others fault are r = absurd are
refuses-at d first (x ∷ raws) [] raw others fault are r = absurd are
refuses-at d first (x ∷ raws) (l ∷ lines) raw others fault are r =
    let step : first + 1 + length lines ≡ first + length (l ∷ lines) = omega arith in
    inr (l, are.0, subst (λ n. RefusesAt (behind d l) (first + 1) (raws ++ raw ∷ others) n fault) step (refuses-at (behind d l) (first + 1) raws lines raw others fault are.1 r))

-- as many lines as texts
same-length : (d : Declared) (raws : List (List ℕ)) (lines : List Line) → AreLines d raws lines → length raws ≡ length lines
same-length d [] [] are = refl
same-length d [] (l ∷ lines) are = absurd are
same-length d (r ∷ raws) [] are = absurd are
same-length d (r ∷ raws) (l ∷ lines) are = omega (arith, same-length (behind d l) raws lines are.1)

-- a declaration that is read has room
reads-room : (d : Declared) (raw : List ℕ) (x : Declaration) → ReadsLine d raw (Declares x) → HasRoomFor d x
reads-room d raw (ServerDeclared name) r = r.1.behind.parts.1.3
reads-room d raw (AppDeclared name) r = r.1.behind.parts.1.3
reads-room d raw (JobDeclared name app) r = r.1.behind.parts.1.3
reads-room d raw (GlobalDeclared name server) r = tt
reads-room d raw (TimeDeclared setting ticks) r = tt

pub reads-may : (d : Declared) (raw : List ℕ) (line : Line) → ReadsLine d raw line → MayTake d line
reads-may d raw Nothing r = tt
reads-may d raw (Declares x) r = reads-room d raw x r
reads-may d raw (Asks todo) r = tt

-- few enough servers and application servers are declared
pub record IsFew (d : Declared) : Type 0 where
  pub servers : length d.servers ≤ 16
  pub apps : length d.apps ≤ 16

few-declared : (d : Declared) (x : Declaration) → IsFew d → HasRoomFor d x → IsFew (declared_by d x)
few-declared d (ServerDeclared name) few room = record { servers = omega (arith, room, few.servers, length-append d.servers (name ∷ [])); apps = few.apps }
few-declared d (AppDeclared name) few room = record { servers = few.servers; apps = omega (arith, room, few.apps, length-append d.apps (name ∷ [])) }
few-declared d (JobDeclared name app) few room = record { servers = few.servers; apps = few.apps }
few-declared d (GlobalDeclared name server) few room = record { servers = few.servers; apps = few.apps }
few-declared d (TimeDeclared setting ticks) few room = record { servers = few.servers; apps = few.apps }

few-behind : (d : Declared) (line : Line) → IsFew d → MayTake d line → IsFew (behind d line)
few-behind d Nothing few may = few
few-behind d (Declares x) few may = few-declared d x few may
few-behind d (Asks todo) few may = record { servers = few.servers; apps = few.apps }

-- the lines read so far, and what is left of the text
pub record IsReadTo (raws : List (List ℕ)) (lines : List Line) (text rest : List ℕ) (declared : Declared) (declarations : List DeclaredLine) (todos : List ScriptLine) (number : ℕ) : Type 0 where
  pub texts : script_lines text ≡ raws ++ script_lines rest
  pub read : AreLines nothing_declared raws lines
  pub declares : declared ≡ declared_behind nothing_declared lines
  pub declaring : declarations ≡ declarations_from 1 lines
  pub asking : todos ≡ todos_from 1 lines
  pub place : number ≡ 1 + length lines
  pub few : IsFew declared

pub read_none : (text : List ℕ) → IsReadTo [] [] text text nothing_declared [] [] 1
read_none text = record { texts = refl; read = tt; declares = refl; declaring = refl; asking = refl; place = refl; few = record { servers = omega arith; apps = omega arith } }

-- how many lines are left
pub lines-left : (raws : List (List ℕ)) (lines : List Line) (text rest : List ℕ) (declared : Declared) (declarations : List DeclaredLine) (todos : List ScriptLine) (number : ℕ) → IsReadTo raws lines text rest declared declarations todos number → number + length (script_lines rest) ≡ length (script_lines text) + 1
lines-left raws lines text rest declared declarations todos number r =
    omega (arith, r.place, same-length nothing_declared raws lines r.read, ap length r.texts, length-append raws (script_lines rest))

-- the first of those left
pub one-more : (rest raw left : List ℕ) → script_lines rest ≡ raw ∷ script_lines left → length (script_lines rest) ≡ length (script_lines left) + 1
one-more rest raw left e = omega (arith, ap length e)

-- one line more
pub read-more : (raws : List (List ℕ)) (lines : List Line) (text rest : List ℕ) (declared : Declared) (declarations : List DeclaredLine) (todos : List ScriptLine) (number : ℕ) (raw left : List ℕ) (line : Line) (next : Declared) (more : List DeclaredLine) (asked : List ScriptLine) (following : ℕ)
    → IsReadTo raws lines text rest declared declarations todos number → script_lines rest ≡ raw ∷ script_lines left → ReadsLine declared raw line
    → next ≡ behind declared line → more ≡ declarations ++ declaration_before number line [] → asked ≡ todos ++ todo_before number line [] → following ≡ number + 1
    → IsReadTo (raws ++ raw ∷ []) (lines ++ line ∷ []) text left next more asked following
read-more raws lines text rest declared declarations todos number raw left line next more asked following r split reads is declaring asking follows = record {
  texts = r.texts ∙ ap (λ xs. raws ++ xs) split ∙ sym (append_assoc raws (raw ∷ []) (script_lines left));
  read = AreLines-more nothing_declared raws lines raw line r.read (subst (λ d. ReadsLine d raw line) r.declares reads);
  declares = is ∙ ap (λ d. behind d line) r.declares ∙ sym (declared_behind-more nothing_declared lines line);
  declaring =
      declaring ∙ ap (λ xs. xs ++ declaration_before number line []) r.declaring
      ∙ ap (λ n. declarations_from 1 lines ++ declaration_before n line []) r.place
      ∙ sym (declarations-more 1 lines line);
  asking =
      asking ∙ ap (λ xs. xs ++ todo_before number line []) r.asking
      ∙ ap (λ n. todos_from 1 lines ++ todo_before n line []) r.place
      ∙ sym (todos-more 1 lines line);
  place = omega (arith, r.place, follows, length-append lines (line ∷ []));
  few = subst IsFew (sym is) (few-behind declared line r.few (reads-may declared raw line reads));
}

-- a text of no length has no lines
no-lines : (text : List ℕ) → length text ≡ 0 → script_lines text ≡ []
no-lines [] e = refl
no-lines (b ∷ text) e = absurd (omega arith)

-- a script of these parts
abbrev made : Layout → Names → List DeclaredLine → List ScriptLine → Script
made layout names declarations lines = record { layout = layout; names = names; declarations = declarations; lines = lines }

-- nothing is left
pub read-all : (raws : List (List ℕ)) (lines : List Line) (text rest : List ℕ) (declared : Declared) (declarations : List DeclaredLine) (todos : List ScriptLine) (number : ℕ) (script : Script)
    → IsReadTo raws lines text rest declared declarations todos number → length rest ≡ 0 → length (script_lines text) ≤ LINE_LIMIT
    → script.layout ≡ layout_of declared → script.names ≡ declared_names declared → script.declarations ≡ declarations → script.lines ≡ todos
    → IsScriptText script text
read-all raws lines text rest declared declarations todos number script r none few layout names declaring asking = record {
  few = few;
  lines = lines;
  read = subst (λ xs. AreLines nothing_declared xs lines) (sym (r.texts ∙ ap (λ xs. raws ++ xs) (no-lines rest none) ∙ append-nil raws)) r.read;
  script_is =
      let a : script.layout ≡ layout_of (declared_behind nothing_declared lines) = layout ∙ ap layout_of r.declares in
      let b : script.names ≡ declared_names (declared_behind nothing_declared lines) = names ∙ ap declared_names r.declares in
      let e : script.declarations ≡ declarations_from 1 lines = declaring ∙ r.declaring in
      let f : script.lines ≡ todos_from 1 lines = asking ∙ r.asking in
      ap (λ x. made x script.names script.declarations script.lines) a
      ∙ ap (λ x. made (layout_of (declared_behind nothing_declared lines)) x script.declarations script.lines) b
      ∙ ap (λ x. made (layout_of (declared_behind nothing_declared lines)) (declared_names (declared_behind nothing_declared lines)) x script.lines) e
      ∙ ap (λ x. made (layout_of (declared_behind nothing_declared lines)) (declared_names (declared_behind nothing_declared lines)) (declarations_from 1 lines) x) f;
}

-- a line is bad
pub read-bad : (raws : List (List ℕ)) (lines : List Line) (text rest : List ℕ) (declared : Declared) (declarations : List DeclaredLine) (todos : List ScriptLine) (number : ℕ) (raw left : List ℕ) (fault : LineFault)
    → IsReadTo raws lines text rest declared declarations todos number → script_lines rest ≡ raw ∷ script_lines left → RefusesLine declared raw fault → length (script_lines text) ≤ LINE_LIMIT
    → RefusesScript text (error_at number fault)
read-bad raws lines text rest declared declarations todos number raw left fault r split refused few = refuses fault at-line
  where
    at-line : RefusesAt nothing_declared 1 (script_lines text) number fault
    at-line =
        let whole : script_lines text ≡ raws ++ raw ∷ script_lines left = r.texts ∙ ap (λ xs. raws ++ xs) split in
        let bad = refuses-at nothing_declared 1 raws lines raw (script_lines left) fault r.read (subst (λ d. RefusesLine d raw fault) r.declares refused) in
        subst (λ xs. RefusesAt nothing_declared 1 xs number fault) (sym whole) (subst (λ n. RefusesAt nothing_declared 1 (raws ++ raw ∷ script_lines left) n fault) (sym r.place) bad)

    refuses : (f : LineFault) → RefusesAt nothing_declared 1 (script_lines text) number f → RefusesScript text (error_at number f)
    refuses (Bad kind) bad = record { few = few; refused = bad }
    refuses UnknownName bad = record { few = few; refused = bad }
    refuses (Memory error) bad = tt

-- that isn't for the count of lines
pub not-too_many : (number : ℕ) (fault : LineFault) → error_at number fault ≢ TooManyLines
not-too_many number (Bad kind) e = cc
not-too_many number UnknownName e = cc
not-too_many number (Memory error) e = cc
