-- Reading a subscript in a key: its tag tells its kind.
use Rattle.std.proofs.Common.{◌≡◌, ◌≢◌, ◌⊎◌, ℕ, List, [], ◌∷◌, ◌++◌, length, refl, sym, ap, subst, ◌∙◌, inl, inr, arith, append_assoc}
use Rattle.std.specs.Prelude.{Option, Some, None, Result, Ok, Err, IfOk, IfNone}
use Rattle.std.specs.Ordering.{nat_cmp}
use Rattle.std.specs.Cmp.Lexicographic.{slice_cmp}
use Rattle.std.specs.declared.cmp.Ordering.TheVariants.{Equal}
use Rattle.std.proofs.lemmas.Bool.{eqb-false}
use Rattle.subscript_keys.specs.declared.decimal.Decimal.{Decimal}
use Rattle.subscript_keys.specs.declared.sub.Sub.{Sub}
use Rattle.subscript_keys.specs.declared.sub.Sub.TheVariants.{Num, Text}
use Rattle.subscript_keys.specs.Decimal.{IsDecimal, IsNumberText}
use Rattle.subscript_keys.specs.Key.{AreBytes, decimal_bytes, negative_bytes, positive_bytes, escaped, text_bytes, sub_bytes, IsText, IsSub}
use Rattle.subscript_keys.proofs.Orders.{cmp-escaped}
use Rattle.subscript_keys.proofs.NumberForms.{NumberForm, number-form}
use Rattle.subscript_keys.proofs.NumberForms.NumberForm.{null, below, above}
use Rattle.subscript_keys.proofs.KeyOrders.{sub-tag}
use Rattle.subscript_keys.proofs.KeyForms.{bytes-parts, unescaped-bytes}
use Rattle.subscript_keys.proofs.Ties.{then-equal, same_lists, itself}

form-tags : (d : Decimal) → NumberForm d → (tag : ℕ) × (rest : List ℕ) × (decimal_bytes d ≡ tag ∷ rest) × ((tag ≡ 0x10) ⊎ ((tag ≡ 0x20) ⊎ (tag ≡ 0x30)))
unfolding positive_bytes negative_bytes
form-tags d (null z) = (0x20, [], z.bytes, inr (inl refl))
form-tags d (below w ds b) = (0x10, _, b.bytes, inl refl)
form-tags d (above w ds a) = (0x30, _, a.bytes, inr (inr refl))

-- a number follows no other tag
pub no-number : (tag : ℕ) (left bytes : List ℕ) → tag ≢ 0x10 → tag ≢ 0x20 → tag ≢ 0x30 → bytes ≡ tag ∷ left → (d : Decimal) (rest : List ℕ) → IsDecimal d → bytes ≡ decimal_bytes d ++ rest → ⊥
no-number tag left bytes low zero high s d rest p e =
    let t = form-tags d (number-form d p) in
    let whole : tag ∷ left ≡ t.0 ∷ (t.1 ++ rest) = sym s ∙ e ∙ ap (λ x. x ++ rest) t.2 in
    let same : tag ≡ t.0 = cc in
    elim t.3 [ inl x ↦ low (same ∙ x) | inr o ↦ elim o [ inl x ↦ zero (same ∙ x) | inr x ↦ high (same ∙ x) ] ]

-- a subscript has a byte
pub no-sub-left : (bytes : List ℕ) (s : Sub) (rest : List ℕ) → IsSub s → length bytes ≡ 0 → bytes ≡ sub_bytes s ++ rest → ⊥
no-sub-left bytes s rest p h e =
    let t = sub-tag s p in
    let whole : bytes ≡ t.0 ∷ (t.1 ++ rest) = e ∙ ap (λ x. x ++ rest) t.2 in
    absurd (omega (arith, ap length whole))

text-after : (t rest : List ℕ) → text_bytes t ++ rest ≡ 0x40 ∷ (escaped t ++ 0 ∷ 1 ∷ rest)
unfolding text_bytes
text-after t rest = ap (λ x. 0x40 ∷ x) (append_assoc (escaped t) (0 ∷ 1 ∷ []) rest)

-- what follows the tag
pub text-tail : (t rest bytes : List ℕ) → 0x40 ∷ bytes ≡ text_bytes t ++ rest → bytes ≡ escaped t ++ 0 ∷ 1 ∷ rest
text-tail t rest bytes e = let whole : 0x40 ∷ bytes ≡ 0x40 ∷ (escaped t ++ 0 ∷ 1 ∷ rest) = e ∙ text-after t rest in cc

one-escaped : (s t r q : List ℕ) → escaped s ++ 0 ∷ 1 ∷ r ≡ escaped t ++ 0 ∷ 1 ∷ q → s ≡ t
one-escaped s t r q e =
    let level : slice_cmp nat_cmp (escaped s ++ 0 ∷ 1 ∷ r) (escaped t ++ 0 ∷ 1 ∷ q) ≡ Equal = ap (slice_cmp nat_cmp (escaped s ++ 0 ∷ 1 ∷ r)) (sym e) ∙ itself (escaped s ++ 0 ∷ 1 ∷ r) in
    same_lists s t (then-equal (slice_cmp nat_cmp s t) (slice_cmp nat_cmp r q) (sym (cmp-escaped s t r q) ∙ level)).0

-- no other text stands there
pub one-text-sub : (s t r q bytes : List ℕ) → bytes ≡ escaped s ++ 0 ∷ 1 ∷ r → 0x40 ∷ bytes ≡ text_bytes t ++ q → t ≡ s
one-text-sub s t r q bytes e k = one-escaped t s q r (sym (text-tail t q bytes k) ∙ e)

-- what was read is a text and stands there
pub text-stands : (value text bytes rest : List ℕ) → value ≡ text → text ≢ [] → (IsNumberText text → ⊥) → AreBytes bytes → bytes ≡ escaped text ++ 0 ∷ 1 ∷ rest → IsText value × (0x40 ∷ bytes ≡ text_bytes value ++ rest)
text-stands value text bytes rest v full plain b e =
    let is : IsText text = record { some = full; no_number = plain; bytes = unescaped-bytes text (bytes-parts (escaped text) (0 ∷ 1 ∷ rest) (subst AreBytes e b)).0 } in
    let stands : 0x40 ∷ bytes ≡ text_bytes text ++ rest = ap (λ x. 0x40 ∷ x) e ∙ sym (text-after text rest) in
    (subst IsText (sym v) is, stands ∙ ap (λ t. text_bytes t ++ rest) (sym v))

-- a text follows no other tag than 40, and nothing else follows 40
pub other-tag : (tag : ℕ) (left bytes : List ℕ) → tag ≢ 0x40 → bytes ≡ tag ∷ left → ((d : Decimal) (rest : List ℕ) → IsDecimal d → bytes ≡ decimal_bytes d ++ rest → ⊥) → (s : Sub) (rest : List ℕ) → IsSub s → bytes ≡ sub_bytes s ++ rest → ⊥
other-tag tag left bytes n s none (Num d) rest p e = none d rest p e
other-tag tag left bytes n s none (Text t) rest p e =
    let whole : tag ∷ left ≡ 0x40 ∷ (escaped t ++ 0 ∷ 1 ∷ rest) = sym s ∙ e ∙ text-after t rest in
    let same : tag ≡ 0x40 = cc in
    n same

pub text-tag : (tag : ℕ) (left bytes : List ℕ) → tag ≡ 0x40 → bytes ≡ tag ∷ left → ((text rest : List ℕ) → IsText text → 0x40 ∷ left ≡ text_bytes text ++ rest → ⊥) → (s : Sub) (rest : List ℕ) → IsSub s → bytes ≡ sub_bytes s ++ rest → ⊥
text-tag tag left bytes n s none (Num d) rest p e =
    no-number 0x40 left (0x40 ∷ left) (λ z. absurd (eqb-false 0x40 0x10 refl z)) (λ z. absurd (eqb-false 0x40 0x20 refl z)) (λ z. absurd (eqb-false 0x40 0x30 refl z)) refl d rest p (ap (λ x. x ∷ left) (sym n) ∙ sym s ∙ e)
text-tag tag left bytes n s none (Text t) rest p e = none t rest p (ap (λ x. x ∷ left) (sym n) ∙ sym s ∙ e)

pub none-to : {X E : Type 0} (r : Result (Option X) E) (P Q : Type 0) → (P → Q) → IfOk r (λ t. IfNone t P) → IfOk r (λ t. IfNone t Q)
none-to (Ok None) P Q f p = f p
none-to (Ok (Some x)) P Q f p = p
none-to (Err e) P Q f p = p
