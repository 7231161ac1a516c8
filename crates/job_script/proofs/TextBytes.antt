-- The lines of bytes are bytes, and so is what stands after a word.
use Rattle.std.proofs.Common.{ℕ, Bool, true, false, List, [], ◌∷◌, ◌++◌, sym, subst}
use Rattle.std.specs.Prelude.{◌==◌, if◌then◌else◌, reverse}
use Rattle.std.specs.List.{AllByRecursion}
use Rattle.std.proofs.lemmas.List.{reverse-append}
use Rattle.subscript_keys.specs.Key.{AreBytes}
use Rattle.subscript_keys.proofs.KeyForms.{bytes-join}
use Rattle.job_script.specs.Lines.{LF, without_cr, lines_behind, script_lines}
use Rattle.job_script.specs.Words.{SPACE, IsAhead, spaces_off, trimmed, behind_word}

either : (t : Bool) (x y : List ℕ) → AreBytes x → AreBytes y → AreBytes (if t then x else y)
either true x y p q = p
either false x y p q = q

reversed-bytes : (bytes : List ℕ) → AreBytes bytes → AreBytes (reverse bytes)
reversed-bytes [] p = tt
reversed-bytes (b ∷ bytes) p =
    let whole : AreBytes (reverse bytes ++ b ∷ []) = bytes-join (reverse bytes) (b ∷ []) (reversed-bytes bytes p.1) (p.0, tt) in
    subst AreBytes (sym (reverse-append (b ∷ []) bytes)) whole

spaces-bytes : (bytes : List ℕ) → AreBytes bytes → AreBytes (spaces_off bytes)
spaces-bytes [] p = tt
spaces-bytes (b ∷ bytes) p = either (b == SPACE) (spaces_off bytes) (b ∷ bytes) (spaces-bytes bytes p.1) p

pub trimmed-bytes : (bytes : List ℕ) → AreBytes bytes → AreBytes (trimmed bytes)
trimmed-bytes bytes p =
    let front = spaces-bytes bytes p in
    let back = spaces-bytes (reverse (spaces_off bytes)) (reversed-bytes (spaces_off bytes) front) in
    reversed-bytes (spaces_off (reverse (spaces_off bytes))) back

behind-bytes : (bytes : List ℕ) → AreBytes bytes → AreBytes (behind_word bytes)
behind-bytes [] p = tt
behind-bytes (b ∷ bytes) p = either (b == SPACE) (spaces_off bytes) (behind_word bytes) (spaces-bytes bytes p.1) (behind-bytes bytes p.1)

pub ahead-bytes : (word text rest : List ℕ) → IsAhead word text rest → AreBytes text → AreBytes rest
ahead-bytes word text rest ahead p = subst AreBytes ahead.behind (behind-bytes text p)

without-cr-bytes : (bytes : List ℕ) → AreBytes bytes → AreBytes (without_cr bytes)
without-cr-bytes [] p = tt
without-cr-bytes (b ∷ []) p = either (b == 13) [] (b ∷ []) tt p
without-cr-bytes (b ∷ c ∷ bytes) p = (p.0, without-cr-bytes (c ∷ bytes) p.1)

either-lines : (t : Bool) (x y : List (List ℕ)) → AllByRecursion AreBytes x → AllByRecursion AreBytes y → AllByRecursion AreBytes (if t then x else y)
either-lines true x y p q = p
either-lines false x y p q = q

lines-bytes : (front text : List ℕ) → AreBytes front → AreBytes text → AllByRecursion AreBytes (lines_behind front text)
lines-bytes [] [] p q = tt
lines-bytes (b ∷ front) [] p q = (p, tt)
lines-bytes front (b ∷ text) p q =
    either-lines (b == LF) (without_cr front ∷ lines_behind [] text) (lines_behind (front ++ b ∷ []) text)
    (without-cr-bytes front p, lines-bytes [] text tt q.1)
    (lines-bytes (front ++ b ∷ []) text (bytes-join front (b ∷ []) p (q.0, tt)) q.1)

pub script-bytes : (text : List ℕ) → AreBytes text → AllByRecursion AreBytes (script_lines text)
script-bytes text p = lines-bytes [] text tt p
