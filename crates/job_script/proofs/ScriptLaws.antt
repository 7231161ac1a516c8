-- A text is one script at most, and is refused for one error at most.
use Rattle.std.proofs.Common.{◌≡◌, ◌⊎◌, ℕ, ◌+◌, ◌<◌, List, [], ◌∷◌, length, refl, sym, ap, subst, ◌∙◌, inl, inr, arith}
use Rattle.job_script.specs.declared.declared.Declared.{Declared}
use Rattle.job_script.specs.declared.limits.TheConstants.{LINE_LIMIT}
use Rattle.job_script.specs.declared.line.Line.{Line}
use Rattle.job_script.specs.declared.line_fault.LineFault.{LineFault}
use Rattle.job_script.specs.declared.line_fault.LineFault.TheVariants.{Bad, Unknown as UnknownName}
use Rattle.job_script.specs.declared.script.Script.{Script}
use Rattle.job_script.specs.declared.script_error.ScriptError.{ScriptError}
use Rattle.job_script.specs.declared.script_error.ScriptError.TheVariants.{BadLine, TooManyLines, UnknownName as UnknownInScript, Memory as NoMemory}
use Rattle.job_script.specs.Lines.{script_lines}
use Rattle.job_script.specs.Refusals.{IsMemoryFault}
use Rattle.job_script.specs.Scripts.{behind, nothing_declared, AreLines, RefusesAt, script_of, IsScriptText, HasBadLine, RefusesScript, IsMemory}
use Rattle.job_script.specs.Words.{trimmed}
use Rattle.job_script.proofs.LineLaws.{one-line, line-taken, one-refusal}

-- the lines of a text are one list
one-lines : (d : Declared) (raws : List (List ℕ)) (xs ys : List Line) → AreLines d raws xs → AreLines d raws ys → xs ≡ ys
one-lines d [] [] [] p q = refl
one-lines d [] [] (y ∷ ys) p q = absurd q
one-lines d [] (x ∷ xs) ys p q = absurd p
one-lines d (raw ∷ raws) [] ys p q = absurd p
one-lines d (raw ∷ raws) (x ∷ xs) [] p q = absurd q
one-lines d (raw ∷ raws) (x ∷ xs) (y ∷ ys) p q =
    let same = one-line d (trimmed raw) x y p.0 q.0 in
    let rest = one-lines (behind d y) raws xs ys (subst (λ (l : Line). AreLines (behind d l) raws xs) same p.1) q.1 in
    ap (λ l. l ∷ xs) same ∙ ap (λ ls. y ∷ ls) rest

-- none of them is refused
lines-taken : (d : Declared) (first : ℕ) (raws : List (List ℕ)) (lines : List Line) (at : ℕ) (fault : LineFault) → AreLines d raws lines → RefusesAt d first raws at fault → IsMemoryFault fault
lines-taken d first [] lines at fault p h = absurd h
lines-taken d first (raw ∷ raws) [] at fault p h = absurd p
lines-taken d first (raw ∷ raws) (x ∷ xs) at fault p (inl h) = line-taken d (trimmed raw) x fault p.0 h.1
lines-taken d first (raw ∷ raws) (x ∷ xs) at fault p (inr (y, read, h)) =
    let same = one-line d (trimmed raw) x y p.0 read in
    lines-taken (behind d y) (first + 1) raws xs at fault (subst (λ (l : Line). AreLines (behind d l) raws xs) same p.1) h

-- one of them is refused, for one fault
abbrev AreOneAt : ℕ → ℕ → LineFault → LineFault → Type 0
AreOneAt at place fault other = IsMemoryFault fault ⊎ (IsMemoryFault other ⊎ ((at ≡ place) × (fault ≡ other)))

one-bad-line : (d : Declared) (first : ℕ) (raws : List (List ℕ)) (at place : ℕ) (fault other : LineFault) → RefusesAt d first raws at fault → RefusesAt d first raws place other → AreOneAt at place fault other
one-bad-line d first [] at place fault other p q = absurd p
one-bad-line d first (raw ∷ raws) at place fault other (inl p) (inl q) = elim (one-refusal d (trimmed raw) fault other p.1 q.1) [
  | inl h ↦ inl h
  | inr (inl h) ↦ inr (inl h)
  | inr (inr h) ↦ inr (inr (p.0 ∙ sym q.0, h))
]
one-bad-line d first (raw ∷ raws) at place fault other (inl p) (inr (y, read, q)) = inl (line-taken d (trimmed raw) y fault read p.1)
one-bad-line d first (raw ∷ raws) at place fault other (inr (x, read, p)) (inl q) = inr (inl (line-taken d (trimmed raw) x other read q.1))
one-bad-line d first (raw ∷ raws) at place fault other (inr (x, read, p)) (inr (y, also, q)) =
    let same = one-line d (trimmed raw) x y read also in
    one-bad-line (behind d y) (first + 1) raws at place fault other (subst (λ (l : Line). RefusesAt (behind d l) (first + 1) raws at fault) same p) q

-- a text is one script
pub one-script : (a b : Script) (text : List ℕ) → IsScriptText a text → IsScriptText b text → a ≡ b
one-script a b text p q = p.script_is ∙ ap script_of (one-lines nothing_declared (script_lines text) p.lines q.lines p.read q.read) ∙ sym q.script_is

-- which is not refused
pub script-taken : (script : Script) (text : List ℕ) (error : ScriptError) → IsScriptText script text → RefusesScript text error → IsMemory error
script-taken script text (BadLine line kind) p h = lines-taken nothing_declared 1 (script_lines text) p.lines line (Bad kind) p.read h.refused
script-taken script text (UnknownInScript line) p h = lines-taken nothing_declared 1 (script_lines text) p.lines line UnknownName p.read h.refused
script-taken script text TooManyLines p h = absurd (omega (arith, p.few, h))
script-taken script text (NoMemory error) p h = tt

bad-lines : (text : List ℕ) (at place : ℕ) (fault other : LineFault) → HasBadLine text at fault → HasBadLine text place other → AreOneAt at place fault other
bad-lines text at place fault other p q = one-bad-line nothing_declared 1 (script_lines text) at place fault other p.refused q.refused

too-many : (text : List ℕ) (at : ℕ) (fault : LineFault) → HasBadLine text at fault → LINE_LIMIT < length (script_lines text) → ⊥
too-many text at fault p h = absurd (omega (arith, p.few, h))

-- and else for one error
pub one-error : (text : List ℕ) (error other : ScriptError) → RefusesScript text error → RefusesScript text other → IsMemory error ⊎ (IsMemory other ⊎ (error ≡ other))
one-error text (NoMemory error) other p q = inl tt
one-error text (BadLine line kind) (NoMemory other) p q = inr (inl tt)
one-error text (UnknownInScript line) (NoMemory other) p q = inr (inl tt)
one-error text TooManyLines (NoMemory other) p q = inr (inl tt)
one-error text TooManyLines TooManyLines p q = inr (inr refl)
one-error text TooManyLines (BadLine place other) p q = absurd (too-many text place (Bad other) q p)
one-error text TooManyLines (UnknownInScript place) p q = absurd (too-many text place UnknownName q p)
one-error text (BadLine line kind) TooManyLines p q = absurd (too-many text line (Bad kind) p q)
one-error text (UnknownInScript line) TooManyLines p q = absurd (too-many text line UnknownName p q)
one-error text (BadLine line kind) (BadLine place other) p q = elim (bad-lines text line place (Bad kind) (Bad other) p q) [
  | inl h ↦ absurd h
  | inr (inl h) ↦ absurd h
  | inr (inr h) ↦ let same : line ≡ place = h.0 in let whole : Bad kind ≡ Bad other = h.1 in let kinds : kind ≡ other = cc in inr (inr cc)
]
one-error text (BadLine line kind) (UnknownInScript place) p q = elim (bad-lines text line place (Bad kind) UnknownName p q) [
  | inl h ↦ absurd h
  | inr (inl h) ↦ absurd h
  | inr (inr h) ↦ let apart : Bad kind ≡ UnknownName = h.1 in cc
]
one-error text (UnknownInScript line) (BadLine place other) p q = elim (bad-lines text line place UnknownName (Bad other) p q) [
  | inl h ↦ absurd h
  | inr (inl h) ↦ absurd h
  | inr (inr h) ↦ let apart : UnknownName ≡ Bad other = h.1 in cc
]
one-error text (UnknownInScript line) (UnknownInScript place) p q = elim (bad-lines text line place UnknownName UnknownName p q) [
  | inl h ↦ absurd h
  | inr (inl h) ↦ absurd h
  | inr (inr h) ↦ inr (inr (ap UnknownInScript h.0))
]
