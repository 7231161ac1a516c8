-- Words of a line.
use Rattle.std.proofs.Common.{◌≡◌, ◌≢◌, ℕ, zero, suc, ◌<◌, if◌then◌else◌, List, [], ◌∷◌, ◌++◌, length, take, drop, get_or, All, reverse, refl, sym, ap, ◌∙◌, arith, add-one}
use Rattle.std.proofs.lemmas.Bool.{eq-eqb, ne_eqb}
use Rattle.std.proofs.lemmas.List.{reverse-append, reverse-reverse, drop-drop}
use Rattle.std.proofs.lemmas.List.Elements.{All-head, All-tail}
use Rattle.job_script.specs.Words.{spaces_off, first_word, behind_word}

-- a list at a place
at-place : (text : List ℕ) (at : ℕ) → at < length text → text ≡ take at text ++ get_or text at 0 ∷ drop (suc at) text
at-place [] at low = absurd (omega arith)
at-place (b ∷ text) zero low = refl
at-place (b ∷ text) (suc at) low = ap (λ xs. b ∷ xs) (at-place text at (omega arith))

-- a text cut at a byte
pub cut_at : (text front ended rest : List ℕ) (at byte : ℕ) → front ≡ take at text → ended ≡ drop at text → rest ≡ drop 1 ended → at < length text → get_or text at 0 ≡ byte → text ≡ front ++ byte ∷ rest
cut_at text front ended rest at byte e f g low is =
    at-place text at low
    ∙ ap (λ xs. xs ++ get_or text at 0 ∷ drop (suc at) text) (sym e)
    ∙ ap (λ b. front ++ b ∷ drop (suc at) text) is
    ∙ ap (λ xs. front ++ byte ∷ xs) (ap (λ n. drop n text) (sym (add-one at)) ∙ sym (drop-drop 1 at text) ∙ ap (drop 1) (sym f) ∙ sym g)

pub spaces_off_space : (first : ℕ) (others : List ℕ) → first ≡ 32 → spaces_off (first ∷ others) ≡ spaces_off others
spaces_off_space first others e = ap (λ t. if t then spaces_off others else first ∷ others) (eq-eqb first 32 e)

pub spaces_off_other : (first : ℕ) (others : List ℕ) → first ≢ 32 → spaces_off (first ∷ others) ≡ first ∷ others
spaces_off_other first others ne = ap (λ t. if t then spaces_off others else first ∷ others) (ne_eqb first 32 ne)

-- a space in front goes
pub space_first : (text others : List ℕ) (first : ℕ) → text ≡ first ∷ others → first ≡ 32 → spaces_off text ≡ spaces_off others
space_first text others first e is = ap spaces_off e ∙ spaces_off_space first others is

-- another byte stays
pub other_first : (text others : List ℕ) (first : ℕ) → text ≡ first ∷ others → first ≢ 32 → spaces_off text ≡ text
other_first text others first e ne = ap spaces_off e ∙ spaces_off_other first others ne ∙ sym e

-- a space at the end goes
pub space_last : (text others : List ℕ) (last : ℕ) → text ≡ others ++ last ∷ [] → last ≡ 32 → spaces_off (reverse text) ≡ spaces_off (reverse others)
space_last text others last e is = ap (λ xs. spaces_off (reverse xs)) e ∙ ap spaces_off (reverse-append others (last ∷ [])) ∙ spaces_off_space last (reverse others) is

pub other_last : (text others : List ℕ) (last : ℕ) → text ≡ others ++ last ∷ [] → last ≢ 32 → reverse (spaces_off (reverse text)) ≡ text
other_last text others last e ne =
    let turned : reverse text ≡ last ∷ reverse others = ap reverse e ∙ reverse-append others (last ∷ []) in
    ap (λ xs. reverse (spaces_off xs)) turned ∙ ap reverse (spaces_off_other last (reverse others) ne ∙ sym turned) ∙ reverse-reverse text

pub ruleset spaces = (space_first, other_first, space_last, other_last)

-- a word before a space
pub first_word_cut : (word rest : List ℕ) → All (λ b. b ≢ 32) word → first_word (word ++ 32 ∷ rest) ≡ word
first_word_cut [] rest none = refl
first_word_cut (b ∷ word) rest none =
    ap (λ t. if t then [] else b ∷ first_word (word ++ 32 ∷ rest)) (ne_eqb b 32 (All-head (λ x. x ≢ 32) b word none))
    ∙ ap (λ xs. b ∷ xs) (first_word_cut word rest (All-tail (λ x. x ≢ 32) b word none))

pub behind_word_cut : (word rest : List ℕ) → All (λ b. b ≢ 32) word → behind_word (word ++ 32 ∷ rest) ≡ spaces_off rest
behind_word_cut [] rest none = refl
behind_word_cut (b ∷ word) rest none =
    ap (λ t. if t then spaces_off (word ++ 32 ∷ rest) else behind_word (word ++ 32 ∷ rest)) (ne_eqb b 32 (All-head (λ x. x ≢ 32) b word none))
    ∙ behind_word_cut word rest (All-tail (λ x. x ≢ 32) b word none)

pub first_word_whole : (word : List ℕ) → All (λ b. b ≢ 32) word → first_word word ≡ word
first_word_whole [] none = refl
first_word_whole (b ∷ word) none =
    ap (λ t. if t then [] else b ∷ first_word word) (ne_eqb b 32 (All-head (λ x. x ≢ 32) b word none))
    ∙ ap (λ xs. b ∷ xs) (first_word_whole word (All-tail (λ x. x ≢ 32) b word none))

pub behind_word_whole : (word : List ℕ) → All (λ b. b ≢ 32) word → behind_word word ≡ []
behind_word_whole [] none = refl
behind_word_whole (b ∷ word) none =
    ap (λ t. if t then spaces_off word else behind_word word) (ne_eqb b 32 (All-head (λ x. x ≢ 32) b word none))
    ∙ behind_word_whole word (All-tail (λ x. x ≢ 32) b word none)

pub word_first : (text word rest : List ℕ) → text ≡ word ++ 32 ∷ rest → All (λ b. b ≢ 32) word → first_word text ≡ word
word_first text word rest e none = ap first_word e ∙ first_word_cut word rest none

pub word_behind : (text word rest : List ℕ) → text ≡ word ++ 32 ∷ rest → All (λ b. b ≢ 32) word → behind_word text ≡ spaces_off rest
word_behind text word rest e none = ap behind_word e ∙ behind_word_cut word rest none

pub ruleset words = (word_first, word_behind, first_word_whole, behind_word_whole)

-- a text that a word begins isn't empty
pub word_some : (text word : List ℕ) → first_word text ≡ word → word ≢ [] → text ≢ []
word_some text word e some none = some (sym e ∙ ap first_word none)
