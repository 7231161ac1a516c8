-- Keys of the examples.
use Rattle.std.proofs.Common.{◌≡◌, ℕ, zero, suc, ◌<◌, List, [], ◌∷◌, ◌++◌, replicate, ap, refl, subst, inl, inr, arith, Bool, true, false, Some}
use Rattle.std.proofs.lemmas.List.{append-nil}
use Rattle.subscript_keys.specs.declared.sub.Sub.TheVariants.{Text}
use Rattle.subscript_keys.specs.Key.{AreBytes, IsKey, IsText, escaped, key_of, text_bytes}
use Rattle.subscript_keys.specs.Decimal.{AreDigits, IsNumberText, number_text}
use Rattle.plain_runs.specs.JobRows.{asked_key}
use Rattle.plain_examples.specs.Leads.{below_x, full_key, long_key, long_text}
use Rattle.plain_orders.specs.Ordered.{KeyMay}

-- ^x is a node
pub x_key : IsKey (120 ∷ 0 ∷ [])
unfolding key_of
x_key = (record { name = 120 ∷ []; subs = [] }, record { name = (refl, tt, omega arith); subs = tt }, refl)

pub x_may : KeyMay (120 ∷ 0 ∷ [])
x_may = record { is_key = x_key; within = omega arith }

-- and so is ^y
pub y_key : IsKey (121 ∷ 0 ∷ [])
unfolding key_of
y_key = (record { name = 121 ∷ []; subs = [] }, record { name = (refl, tt, omega arith); subs = tt }, refl)

pub y_may : KeyMay (121 ∷ 0 ∷ [])
y_may = record { is_key = y_key; within = omega arith }

-- no node has an empty key
pub no_empty_key : IsKey [] → ⊥
unfolding key_of
no_empty_key k = go k.0.name _ k.2
  where
    go : (name rest : List ℕ) → name ++ 0 ∷ rest ≡ [] → ⊥
    go [] rest e = absurd (cc (e))
    go (b ∷ bs) rest e = absurd (cc (e))

-- letters are bytes
letters : (n : ℕ) → AreBytes (replicate n 97)
letters zero = tt
letters (suc n) = (omega arith, letters n)

-- and none of them is escaped
letters_escaped : (n : ℕ) → escaped (replicate n 97) ≡ replicate n 97
letters_escaped zero = refl
letters_escaped (suc n) = ap (λ cs. 97 ∷ cs) (letters_escaped n)

-- the first byte of a text, or 0
abbrev first : List ℕ → ℕ
first [] = 0
first (c ∷ cs) = c

-- the first byte of a number is no letter
low_first : (negative : Bool) (whole fraction : List ℕ) → AreDigits whole → first (number_text negative whole fraction) < 97
low_first true whole fraction digits = omega arith
low_first false [] [] digits = omega arith
low_first false [] (d ∷ ds) digits = omega arith
low_first false (d ∷ ds) fraction digits = omega (arith, digits.0)

-- a text that begins with a letter is no number
no_number : (n : ℕ) (cs : List ℕ) → n ≡ 97 → IsNumberText (n ∷ cs) → ⊥
no_number n cs letter (inl e) = let same : n ≡ 48 = ap first e in omega (arith, same, letter)
no_number n cs letter (inr w) =
    let same : n ≡ first (number_text w.0 w.1 w.2) = ap first w.4 in
    omega (arith, same, letter, low_first w.0 w.1 w.2 (w.3).whole_digits)

letters_text : (n : ℕ) → IsText (97 ∷ replicate n 97)
letters_text n = record { some = λ e. absurd (cc (e)); no_number = no_number 97 (replicate n 97) refl; bytes = (omega arith, letters n) }

-- ^x with a text of letters
letters_key : (n : ℕ) → IsKey (120 ∷ 0 ∷ text_bytes (97 ∷ replicate n 97))
unfolding key_of
letters_key n = (record { name = 120 ∷ []; subs = Text (97 ∷ replicate n 97) ∷ [] }, record { name = (refl, tt, omega arith); subs = (letters_text n, tt) }, ap (λ cs. 120 ∷ 0 ∷ cs) (append-nil (text_bytes (97 ∷ replicate n 97))))

pub x_long_is_key : IsKey (asked_key (120 ∷ 0 ∷ []) (Some (Text long_text)))
x_long_is_key = letters_key 495

pub long_key_is_key : IsKey long_key
unfolding text_bytes
long_key_is_key = subst IsKey (ap (λ cs. 120 ∷ 0 ∷ 64 ∷ cs ++ 0 ∷ 1 ∷ []) (letters_escaped 496)) (letters_key 495)

pub full_key_is_key : IsKey full_key
unfolding text_bytes
full_key_is_key = subst IsKey (ap (λ cs. 120 ∷ 0 ∷ 64 ∷ cs ++ 0 ∷ 1 ∷ []) (letters_escaped 495)) (letters_key 494)

pub below_x_is_key : IsKey below_x
unfolding text_bytes
below_x_is_key = letters_key 0

pub below_x_may : KeyMay below_x
below_x_may = record { is_key = below_x_is_key; within = omega arith }
