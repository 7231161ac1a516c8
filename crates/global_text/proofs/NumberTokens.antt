-- Canonical numbers, and the bytes that belong to them.
use Rattle.std.proofs.Common.{◌≡◌, ◌≢◌, ◌⊎◌, ◌↔◌, ℕ, suc, ◌-◌, ◌<◌, Bool, true, false, not, List, [], ◌∷◌, ◌++◌, length, length-append, get_or, refl, sym, ap, subst, ◌∙◌, inl, inr, arith}
use Rattle.std.specs.Prelude.{nat_eq, ◌==◌, ◌||◌, IsTrue}
use Rattle.std.specs.Char.{is_ascii_digit}
use Rattle.std.proofs.lemmas.Bool.{cases_eq, eq-eqb, ne_eqb, false≢true}
use Rattle.std.proofs.lemmas.List.{append-nil}
use Rattle.global_text.specs.Numbers.{Every, BeginsOtherwise, EndsInNonzeroDigit, IsWhole, IsFraction, IsUnsigned, IsNumber, is_number_byte}

-- bytes that pass, and then one that doesn't, in one way
pub one-span : (p : ℕ → Bool) (a b r q : List ℕ) → Every p a → Every p b → BeginsOtherwise p r → BeginsOtherwise p q → a ++ r ≡ b ++ q → (a ≡ b) × (r ≡ q)
one-span p [] [] r q u v n m e = (refl, e)
one-span p [] (d ∷ b) [] q u v n m e = cc
one-span p [] (d ∷ b) (c ∷ r) q u v n m e = let first : d ≡ c = cc in absurd (n (subst (λ (x : ℕ). IsTrue (p x)) first v.0))
one-span p (c ∷ a) [] r [] u v n m e = cc
one-span p (c ∷ a) [] r (d ∷ q) u v n m e = let first : c ≡ d = cc in absurd (m (subst (λ (x : ℕ). IsTrue (p x)) first u.0))
one-span p (c ∷ a) (d ∷ b) r q u v n m e =
    let first : c ≡ d = cc in
    let others : a ++ r ≡ b ++ q = cc in
    let rest = one-span p a b r q u.1 v.1 n m others in
    let same : a ≡ b = rest.0 in
    (cc, rest.1)

last-next : (c d : ℕ) (cs : List ℕ) → get_or (c ∷ d ∷ cs) (length (c ∷ d ∷ cs) - 1) 0 ≡ get_or (d ∷ cs) (length (d ∷ cs) - 1) 0
last-next c d cs = let step : length (c ∷ d ∷ cs) - 1 ≡ suc (length (d ∷ cs) - 1) = omega arith in ap (λ k. get_or (c ∷ d ∷ cs) k 0) step

-- what the last byte tells
pub ends-test : (cs : List ℕ) → 0 < length cs → ((not (nat_eq (get_or cs (length cs - 1) 0) 48)) ≡ true) ↔ EndsInNonzeroDigit cs
ends-test [] h = absurd (omega arith)
ends-test (c ∷ []) h =
    elim (cases_eq c 48) [
      | inl e ↦ (λ t. absurd (false≢true (sym (ap not (eq-eqb c 48 e)) ∙ t)), λ n. absurd (n e))
      | inr n ↦ (λ t. n, λ t. ap not (ne_eqb c 48 n))
    ]
ends-test (c ∷ d ∷ cs) h =
    let P : ℕ → Type 0 = λ k. ((not (nat_eq k 48)) ≡ true) ↔ EndsInNonzeroDigit (d ∷ cs) in
    subst P (sym (last-next c d cs)) (ends-test (d ∷ cs) (omega arith))

-- what follows the digits is no fraction's
pub no-fraction : (text digits rest : List ℕ) → text ≡ digits ++ rest → Every is_ascii_digit digits → BeginsOtherwise is_ascii_digit rest → 0 < length rest → IsFraction text → ⊥
no-fraction text digits rest e p n some is =
    let same = one-span is_ascii_digit digits text rest [] p is.digits n tt (sym e ∙ sym (append-nil text)) in
    absurd (omega (arith, ap length same.1))

-- digits of a number, and what follows them
pub record Parts (digits rest : List ℕ) : Type 0 where
  pub whole : IsWhole digits
  pub form : ((rest ≡ []) × (digits ≢ [])) ⊎ ((fraction : List ℕ) × IsFraction fraction × (rest ≡ 46 ∷ fraction))

no-digit : IsTrue (is_ascii_digit 46) → ⊥
no-digit t = false≢true t

pub unsigned-parts : (text digits rest : List ℕ) → text ≡ digits ++ rest → Every is_ascii_digit digits → BeginsOtherwise is_ascii_digit rest → IsUnsigned text → Parts digits rest
unsigned-parts text digits rest e p n (inl (is, some)) =
    let same = one-span is_ascii_digit digits text rest [] p is.digits n tt (sym e ∙ sym (append-nil text)) in
    record { whole = subst IsWhole (sym same.0) is; form = inl (same.1, λ none. some (sym same.0 ∙ none)) }
unsigned-parts text digits rest e p n (inr (w, f, is, more, k)) =
    let same = one-span is_ascii_digit digits w rest (46 ∷ f) p is.digits n no-digit (sym e ∙ k) in
    record { whole = subst IsWhole (sym same.0) is; form = inr (f, more, same.1) }

-- a point follows the digits
pub at-point : (text digits rest fraction : List ℕ) (c : ℕ) (b : Bool) → text ≡ digits ++ rest → Every is_ascii_digit digits → BeginsOtherwise is_ascii_digit rest → BeginsOtherwise (λ d. d == 48) digits → rest ≡ c ∷ fraction → c ≡ 46 → (IsTrue b ↔ IsFraction fraction) → (IsTrue b ↔ IsUnsigned text)
at-point text digits rest fraction c b e p n first k point test = (
  λ t. inr (digits, fraction, record { digits = p; first = first }, test.0 t, e ∙ ap (λ x. digits ++ x) (k ∙ ap (λ x. x ∷ fraction) point)),
  λ is. elim (unsigned-parts text digits rest e p n is).form [
    | inl (none, some) ↦ absurd (omega (arith, ap length (sym k ∙ none)))
    | inr (f, more, l) ↦ let same : f ≡ fraction = cc in test.1 (subst IsFraction same more)
  ],
)

-- or another byte
pub at-other : (text digits rest fraction : List ℕ) (c : ℕ) → text ≡ digits ++ rest → Every is_ascii_digit digits → BeginsOtherwise is_ascii_digit rest → rest ≡ c ∷ fraction → c ≢ 46 → IsUnsigned text → ⊥
at-other text digits rest fraction c e p n k other is = elim (unsigned-parts text digits rest e p n is).form [
  | inl (none, some) ↦ absurd (omega (arith, ap length (sym k ∙ none)))
  | inr (f, more, l) ↦ let same : c ≡ 46 = cc in other same
]

digit-passes : (ds : List ℕ) → Every is_ascii_digit ds → Every is_number_byte ds
digit-passes [] p = tt
digit-passes (d ∷ ds) p = (or_left-true (is_ascii_digit d) (d == 46 || d == 45) p.0, digit-passes ds p.1)
  where
    or_left-true : (x y : Bool) → x ≡ true → (x || y) ≡ true
    or_left-true true y e = refl
    or_left-true false y e = absurd (false≢true e)

every-append : (p : ℕ → Bool) (a b : List ℕ) → Every p a → Every p b → Every p (a ++ b)
every-append p [] b u v = v
every-append p (c ∷ a) b u v = (u.0, every-append p a b u.1 v)

unsigned-bytes : (text : List ℕ) → IsUnsigned text → Every is_number_byte text
unsigned-bytes text (inl (is, some)) = digit-passes text is.digits
unsigned-bytes text (inr (w, f, is, more, e)) = subst (λ (t : List ℕ). Every is_number_byte t) (sym e) (every-append is_number_byte w (46 ∷ f) (digit-passes w is.digits) (refl, digit-passes f more.digits))

-- a canonical number's bytes are digits, points and minus signs
pub number-bytes : (text : List ℕ) → IsNumber text → Every is_number_byte text
number-bytes text (inl e) = subst (λ (t : List ℕ). Every is_number_byte t) (sym e) (refl, tt)
number-bytes text (inr (inl is)) = unsigned-bytes text is
number-bytes text (inr (inr (u, is, e))) = subst (λ (t : List ℕ). Every is_number_byte t) (sym e) (refl, unsigned-bytes u is)

unsigned-some : (text : List ℕ) → IsUnsigned text → 0 < length text
unsigned-some [] (inl (is, some)) = absurd (some refl)
unsigned-some (c ∷ text) (inl is) = omega arith
unsigned-some text (inr (w, f, is, more, e)) = omega (arith, ap length e, length-append w (46 ∷ f))

-- a canonical number isn't empty
pub number-some : (text : List ℕ) → IsNumber text → 0 < length text
number-some text (inl e) = omega (arith, ap length e)
number-some text (inr (inl is)) = unsigned-some text is
number-some text (inr (inr (u, is, e))) = omega (arith, ap length e)
