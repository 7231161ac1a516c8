-- Lines of a text.
use Rattle.std.proofs.Common.{◌≡◌, ◌≢◌, ℕ, ◌+◌, ◌<◌, if◌then◌else◌, List, [], ◌∷◌, ◌++◌, length, length-append, All, refl, sym, ap, ◌∙◌, arith, append_assoc, append-nil}
use Rattle.std.proofs.lemmas.Bool.{eq-eqb, ne_eqb}
use Rattle.std.proofs.lemmas.List.Elements.{All-head, All-tail}
use Rattle.job_script.specs.Lines.{without_cr, lines_behind, script_lines}

-- by the last byte
pub without_cr_ended : (front : List ℕ) (last : ℕ) → last ≡ 13 → without_cr (front ++ last ∷ []) ≡ front
without_cr_ended [] last e = ap (λ t. if t then [] else last ∷ []) (eq-eqb last 13 e)
without_cr_ended (b ∷ []) last e = ap (λ xs. b ∷ xs) (without_cr_ended [] last e)
without_cr_ended (b ∷ c ∷ front) last e = ap (λ xs. b ∷ xs) (without_cr_ended (c ∷ front) last e)

pub without_cr_plain : (front : List ℕ) (last : ℕ) → last ≢ 13 → without_cr (front ++ last ∷ []) ≡ front ++ last ∷ []
without_cr_plain [] last ne = ap (λ t. if t then [] else last ∷ []) (ne_eqb last 13 ne)
without_cr_plain (b ∷ []) last ne = ap (λ xs. b ∷ xs) (without_cr_plain [] last ne)
without_cr_plain (b ∷ c ∷ front) last ne = ap (λ xs. b ∷ xs) (without_cr_plain (c ∷ front) last ne)

pub cr_last : (line front : List ℕ) (last : ℕ) → line ≡ front ++ last ∷ [] → last ≡ 13 → without_cr line ≡ front
cr_last line front last e is = ap without_cr e ∙ without_cr_ended front last is

pub no_cr_last : (line front : List ℕ) (last : ℕ) → line ≡ front ++ last ∷ [] → last ≢ 13 → without_cr line ≡ line
no_cr_last line front last e ne = ap without_cr e ∙ without_cr_plain front last ne ∙ sym e

pub ruleset line_ends = (cr_last, no_cr_last)

-- one byte of a line, and its end
lines-more : (front text : List ℕ) (b : ℕ) → b ≢ 10 → lines_behind front (b ∷ text) ≡ lines_behind (front ++ b ∷ []) text
lines-more [] text b ne = ap (λ t. if t then without_cr [] ∷ lines_behind [] text else lines_behind (b ∷ []) text) (ne_eqb b 10 ne)
lines-more (c ∷ front) text b ne = ap (λ t. if t then without_cr (c ∷ front) ∷ lines_behind [] text else lines_behind ((c ∷ front) ++ b ∷ []) text) (ne_eqb b 10 ne)

lines-end : (front text : List ℕ) → lines_behind front (10 ∷ text) ≡ without_cr front ∷ lines_behind [] text
lines-end [] text = refl
lines-end (c ∷ front) text = refl

lines-last : (front : List ℕ) → 0 < length front → lines_behind front [] ≡ front ∷ []
lines-last [] some = absurd (omega arith)
lines-last (b ∷ front) some = refl

lines-cut : (front raw rest : List ℕ) → All (λ b. b ≢ 10) raw → lines_behind front (raw ++ 10 ∷ rest) ≡ without_cr (front ++ raw) ∷ lines_behind [] rest
lines-cut front [] rest none = lines-end front rest ∙ ap (λ xs. without_cr xs ∷ lines_behind [] rest) (sym (append-nil front))
lines-cut front (b ∷ raw) rest none =
    lines-more front (raw ++ 10 ∷ rest) b (All-head (λ x. x ≢ 10) b raw none)
    ∙ lines-cut (front ++ b ∷ []) raw rest (All-tail (λ x. x ≢ 10) b raw none)
    ∙ ap (λ xs. without_cr xs ∷ lines_behind [] rest) (append_assoc front (b ∷ []) raw)

lines-open : (front raw : List ℕ) → All (λ b. b ≢ 10) raw → 0 < length front + length raw → lines_behind front raw ≡ (front ++ raw) ∷ []
lines-open front [] none some = lines-last front (omega arith) ∙ ap (λ xs. xs ∷ []) (sym (append-nil front))
lines-open front (b ∷ raw) none some =
    lines-more front raw b (All-head (λ x. x ≢ 10) b raw none)
    ∙ lines-open (front ++ b ∷ []) raw (All-tail (λ x. x ≢ 10) b raw none) (omega (arith, length-append front (b ∷ [])))
    ∙ ap (λ xs. xs ∷ []) (append_assoc front (b ∷ []) raw)

-- the first line up to its LF
pub line_cut : (text raw rest : List ℕ) → text ≡ raw ++ 10 ∷ rest → All (λ b. b ≢ 10) raw → script_lines text ≡ without_cr raw ∷ script_lines rest
line_cut text raw rest e none = ap script_lines e ∙ lines-cut [] raw rest none

-- a line without LF
pub line_open : (text : List ℕ) → All (λ b. b ≢ 10) text → 0 < length text → script_lines text ≡ text ∷ []
line_open text none some = lines-open [] text none (omega arith)

-- what stands after a cut is shorter
pub cut_shorter : (text raw rest : List ℕ) → text ≡ raw ++ 10 ∷ rest → length rest < length text
cut_shorter text raw rest e = omega (arith, ap length e, length-append raw (10 ∷ rest))

pub ruleset first_line = (line_cut, line_open, cut_shorter)

-- a text of no length has no lines
pub no_lines : (text : List ℕ) → length text ≡ 0 → length (script_lines text) ≡ 0
no_lines [] e = refl
no_lines (b ∷ text) e = absurd (omega arith)

pub one_more_line : (text raw rest : List ℕ) → script_lines text ≡ raw ∷ script_lines rest → length (script_lines text) ≡ length (script_lines rest) + 1
one_more_line text raw rest e = omega (arith, ap length e)

pub ruleset line_counts = (no_lines, one_more_line)
