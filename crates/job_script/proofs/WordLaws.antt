-- The first word of a text, and what follows it, are one.
use Rattle.std.proofs.Common.{◌≡◌, ℕ, Bool, true, false, List, [], ◌∷◌, ◌++◌, IsTrue, refl, sym, ap, subst, ◌∙◌, inl, inr, arith}
use Rattle.std.specs.Prelude.{◌==◌, if◌then◌else◌}
use Rattle.std.specs.Char.{is_ascii_alphabetic}
use Rattle.std.proofs.lemmas.Bool.{cases_eq, eq-eqb, ne_eqb, false≢true}
use Rattle.std.proofs.lemmas.List.{append_cancel_right}
use Rattle.job_script.specs.Names.{IsNodeName}
use Rattle.job_script.specs.Words.{IsAhead, IsSilent, first_word}

pub one-ahead : (w v text r q : List ℕ) → IsAhead w text r → IsAhead v text q → (w ≡ v) × (r ≡ q)
one-ahead w v text r q p o = (sym p.first ∙ o.first, sym p.behind ∙ o.behind)

-- a word that begins a text has no space in front
pub no-space-ahead : (text more : List ℕ) → 32 ∷ more ≡ first_word text → ⊥
no-space-ahead [] more e = cc
no-space-ahead (b ∷ bytes) more e = elim (cases_eq b 32) [
  | inl k ↦ let h : 32 ∷ more ≡ [] = e ∙ ap (λ t. if t then [] else b ∷ first_word bytes) (eq-eqb b 32 k) in cc
  | inr n ↦ let h : 32 ∷ more ≡ b ∷ first_word bytes = e ∙ ap (λ t. if t then [] else b ∷ first_word bytes) (ne_eqb b 32 n) in let same : b ≡ 32 = cc in absurd (n same)
]

-- a colon stands somewhere
abbrev pub has_colon : List ℕ → Bool
has_colon [] = false
has_colon (b ∷ bytes) = if b == 58 then true else has_colon bytes

pub colon-behind : (name : List ℕ) → has_colon (name ++ 58 ∷ []) ≡ true
colon-behind [] = refl
colon-behind (b ∷ name) = elim (cases_eq b 58) [
  | inl k ↦ ap (λ t. if t then true else has_colon (name ++ 58 ∷ [])) (eq-eqb b 58 k)
  | inr n ↦ ap (λ t. if t then true else has_colon (name ++ 58 ∷ [])) (ne_eqb b 58 n) ∙ colon-behind name
]

pub one-name-before : (a b : List ℕ) → a ++ 58 ∷ [] ≡ b ++ 58 ∷ [] → a ≡ b
one-name-before a b e = append_cancel_right a b (58 ∷ []) e

-- the first byte is a hash
abbrev pub has_hash : List ℕ → Bool
has_hash [] = false
has_hash (b ∷ bytes) = b == 35

hash-word : (b : ℕ) (bytes : List ℕ) → b ≡ 35 → has_hash (first_word (b ∷ bytes)) ≡ true
hash-word b bytes e =
    let apart : (b ≡ 32 → ⊥) = λ k. absurd (omega arith) in
    ap (λ t. has_hash (if t then [] else b ∷ first_word bytes)) (ne_eqb b 32 apart) ∙ eq-eqb b 35 e

-- a line that does nothing is empty, or its first word begins with a hash
pub silent-hash : (text : List ℕ) → IsSilent text → (text ≡ [] → ⊥) → has_hash (first_word text) ≡ true
silent-hash [] silent some = absurd (some refl)
silent-hash (b ∷ bytes) silent some = hash-word b bytes silent

-- a name begins with a letter
pub name-no-hash : (name more : List ℕ) → IsNodeName name → has_hash (name ++ more) ≡ false
name-no-hash [] more is = absurd is.letter
name-no-hash (b ∷ name) more is = elim (cases_eq b 35) [
  | inl k ↦ absurd (false≢true (letter b k is.letter))
  | inr n ↦ ne_eqb b 35 n
]
  where
    letter : (b : ℕ) → b ≡ 35 → IsTrue (is_ascii_alphabetic b) → false ≡ true
    letter b k is = subst (λ (x : ℕ). is_ascii_alphabetic x ≡ true) k is

pub name-some : IsNodeName [] → ⊥
name-some is = is.letter
