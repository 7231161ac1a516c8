-- Items of quoted strings: which byte they stand for, and where they end.
use Rattle.std.proofs.Common.{◌≡◌, ◌≢◌, ℕ, ◌+◌, ◌*◌, ◌/◌, ◌%◌, ◌<◌, List, [], ◌∷◌, ◌++◌, refl, ap, ◌∙◌, inl, inr, arith}
use Rattle.global_text.specs.Strings.{hex_digit, IsItem}

-- an item for the byte begins the text, and rest follows
abbrev pub Takes : ℕ → List ℕ → List ℕ → Type 0
Takes b text rest = (item : List ℕ) × IsItem b item × (text ≡ item ++ rest)

pub quote-taken : (text rest : List ℕ) → text ≡ 34 ∷ 34 ∷ rest → Takes 34 text rest
quote-taken text rest e = (34 ∷ 34 ∷ [], inl (refl, refl), e)

pub backslash-taken : (text rest : List ℕ) → text ≡ 92 ∷ 92 ∷ rest → Takes 92 text rest
backslash-taken text rest e = (92 ∷ 92 ∷ [], inr (inl (refl, refl)), e)

pub code-taken : (text rest : List ℕ) (b h l c d : ℕ) → text ≡ 92 ∷ c ∷ d ∷ rest → c ≡ hex_digit h → d ≡ hex_digit l → h < 16 → l < 16 → b ≡ h * 16 + l → Takes b text rest
code-taken text rest b h l c d e p q small also number =
    let high : h ≡ b / 16 = omega arith in
    let low : l ≡ b % 16 = omega arith in
    (92 ∷ hex_digit (b / 16) ∷ hex_digit (b % 16) ∷ [], inr (inr (inl (omega arith, refl))), e ∙ ap (λ x. 92 ∷ x ∷ d ∷ rest) (p ∙ ap hex_digit high) ∙ ap (λ x. 92 ∷ hex_digit (b / 16) ∷ x ∷ rest) (q ∙ ap hex_digit low))

pub plain-taken : (text rest : List ℕ) (b : ℕ) → text ≡ b ∷ rest → b ≢ 10 → b ≢ 34 → b ≢ 92 → Takes b text rest
plain-taken text rest b e n m k = (b ∷ [], inr (inr (inr ((n, m, k), refl))), e)
