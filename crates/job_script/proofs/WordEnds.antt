-- The end of a string or a node within a line.
use Rattle.std.proofs.Common.{◌≡◌, ◌≢◌, ℕ, if◌then◌else◌, List, [], ◌∷◌, sym, ap, ◌∙◌, inl, inr}
use Rattle.std.proofs.lemmas.Bool.{cases_eq, eq-eqb, ne_eqb}
use Rattle.job_script.specs.Words.{IsWordEnd, spaces_off, first_word, behind_word}
use Rattle.job_script.specs.Parts.{EndsBefore}

-- no word comes first where a space or the end stands
pub ends_before : (text word rest : List ℕ) → first_word text ≡ word → behind_word text ≡ rest → word ≡ [] → EndsBefore text rest
ends_before [] word rest e f g = record { end = tt; rest_is = f }
ends_before (b ∷ text) word rest e f g = elim (cases_eq b 32) [
  | inl is ↦ record {
    end = is;
    rest_is = ap (λ t. if t then spaces_off text else b ∷ text) (eq-eqb b 32 is) ∙ (sym (ap (λ t. if t then spaces_off text else behind_word text) (eq-eqb b 32 is)) ∙ f);
  }
  | inr ne ↦ absurd (some-word b text (sym (ap (λ t. if t then [] else b ∷ first_word text) (ne_eqb b 32 ne)) ∙ (e ∙ g)))
]
  where
    some-word : (b : ℕ) (text : List ℕ) → b ∷ first_word text ≡ [] → ⊥
    some-word b text e = cc

-- and a word where none does
pub no_word_end : (text word : List ℕ) → first_word text ≡ word → word ≢ [] → IsWordEnd text → ⊥
no_word_end [] word e ne end = ne (sym e)
no_word_end (b ∷ text) word e ne end = ne (sym e ∙ ap (λ t. if t then [] else b ∷ first_word text) (eq-eqb b 32 end))

pub ruleset word_ends = (ends_before, no_word_end)
