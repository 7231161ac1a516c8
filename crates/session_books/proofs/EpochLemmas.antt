-- How many entries stand before the first Epoch above a number, in a list with one entry more.
use Rattle.std.proofs.Common.{◌≡◌, ◌∙◌, ◌<◌, ◌≤◌, ◌+◌, ℕ, zero, suc, Bool, true, false, if◌then◌else◌, List, [], ◌∷◌, ◌++◌, length, slice_get, Some, None, refl, sym, ap, arith}
use Rattle.std.specs.Prelude.{nat_lt}
use Rattle.std.proofs.lemmas.Bool.{ltb-true}
use Rattle.std.proofs.lemmas.Option.{slice_get_past}
use Rattle.plain_orders.specs.declared.entry.Entry.{Entry}
use Rattle.plain_orders.specs.declared.entry.Entry.TheVariants.{Epoch, Opened, Closed, Update, Commit, Rollback}
use Rattle.plain_orders.specs.Sessions.{place_of_epoch}
use Rattle.plain_orders.proofs.Places.{placed_more}

-- where none was found the last entry is
unplaced : (n k number : ℕ) (es : List Entry) → place_of_epoch n k es ≡ None → place_of_epoch n k (es ++ Epoch number ∷ []) ≡ (if nat_lt n number then Some (k + length es) else None)
unplaced n k number [] e = let same : k ≡ k + 0 = omega arith in ap (λ j. if nat_lt n number then Some j else None) same
unplaced n k number (Epoch m ∷ es) e = go (nat_lt n m) e (λ f. unplaced n (k + 1) number es f)
  where
    go : (b : Bool) → (if b then Some k else place_of_epoch n (k + 1) es) ≡ None
        → (place_of_epoch n (k + 1) es ≡ None → place_of_epoch n (k + 1) (es ++ Epoch number ∷ []) ≡ (if nat_lt n number then Some (k + 1 + length es) else None))
        → (if b then Some k else place_of_epoch n (k + 1) (es ++ Epoch number ∷ [])) ≡ (if nat_lt n number then Some (k + length (Epoch m ∷ es)) else None)
    go true f more = absurd (cc)
    go false f more = let same : k + 1 + length es ≡ k + suc (length es) = omega arith in more f ∙ ap (λ j. if nat_lt n number then Some j else None) same
unplaced n k number (Opened session app ∷ es) e = let same : k + 1 + length es ≡ k + suc (length es) = omega arith in unplaced n (k + 1) number es e ∙ ap (λ j. if nat_lt n number then Some j else None) same
unplaced n k number (Closed session ∷ es) e = let same : k + 1 + length es ≡ k + suc (length es) = omega arith in unplaced n (k + 1) number es e ∙ ap (λ j. if nat_lt n number then Some j else None) same
unplaced n k number (Update session w job txn op ∷ es) e = let same : k + 1 + length es ≡ k + suc (length es) = omega arith in unplaced n (k + 1) number es e ∙ ap (λ j. if nat_lt n number then Some j else None) same
unplaced n k number (Commit session w job txn ∷ es) e = let same : k + 1 + length es ≡ k + suc (length es) = omega arith in unplaced n (k + 1) number es e ∙ ap (λ j. if nat_lt n number then Some j else None) same
unplaced n k number (Rollback session w job txn ∷ es) e = let same : k + 1 + length es ≡ k + suc (length es) = omega arith in unplaced n (k + 1) number es e ∙ ap (λ j. if nat_lt n number then Some j else None) same

-- an entry that is no Epoch
abbrev pub is_epoch : Entry → Bool
is_epoch (Epoch number) = true
is_epoch (Opened session app) = false
is_epoch (Closed session) = false
is_epoch (Update session w job txn op) = false
is_epoch (Commit session w job txn) = false
is_epoch (Rollback session w job txn) = false

alone : (n k : ℕ) (e : Entry) → is_epoch e ≡ false → place_of_epoch n k (e ∷ []) ≡ None
alone n k (Epoch number) f = absurd (cc)
alone n k (Opened session app) f = refl
alone n k (Closed session) f = refl
alone n k (Update session w job txn op) f = refl
alone n k (Commit session w job txn) f = refl
alone n k (Rollback session w job txn) f = refl

pub epoch_quiet : (n k : ℕ) (es : List Entry) (e : Entry) → is_epoch e ≡ false → place_of_epoch n k (es ++ e ∷ []) ≡ place_of_epoch n k es
epoch_quiet n k [] e f = alone n k e f
epoch_quiet n k (Epoch number ∷ es) e f = ap (λ o. if nat_lt n number then Some k else o) (epoch_quiet n (k + 1) es e f)
epoch_quiet n k (Opened session app ∷ es) e f = epoch_quiet n (k + 1) es e f
epoch_quiet n k (Closed session ∷ es) e f = epoch_quiet n (k + 1) es e f
epoch_quiet n k (Update session w job txn op ∷ es) e f = epoch_quiet n (k + 1) es e f
epoch_quiet n k (Commit session w job txn ∷ es) e f = epoch_quiet n (k + 1) es e f
epoch_quiet n k (Rollback session w job txn ∷ es) e f = epoch_quiet n (k + 1) es e f

got_front : (xs : List ℕ) (y i : ℕ) → i < length xs → (x : ℕ) × (slice_get xs i ≡ Some x) × (slice_get (xs ++ y ∷ []) i ≡ Some x)
got_front [] y i low = absurd (omega arith)
got_front (x ∷ xs) y zero low = (x, refl, refl)
got_front (x ∷ xs) y (suc i) low = got_front xs y i (omega arith)

got_last : (xs : List ℕ) (y i : ℕ) → i ≡ length xs → slice_get (xs ++ y ∷ []) i ≡ Some y
got_last [] y zero e = refl
got_last [] y (suc i) e = absurd (omega arith)
got_last (x ∷ xs) y zero e = absurd (omega arith)
got_last (x ∷ xs) y (suc i) e = got_last xs y i (omega arith)

-- the places of the Epochs, with one more
pub epochs_more : (es : List Entry) (places : List ℕ) (number k n : ℕ) → ((i : ℕ) → slice_get places i ≡ place_of_epoch i 0 es) → number ≡ length places + 1 → k ≡ length es
    → slice_get (places ++ k ∷ []) n ≡ place_of_epoch n 0 (es ++ Epoch number ∷ [])
epochs_more es places number k n told next at = go (nat_lt n (length places)) refl
  where
    past : length places ≤ n → place_of_epoch n 0 es ≡ None
    past high = sym (told n) ∙ slice_get_past places n high

    new : length places ≤ n → place_of_epoch n 0 (es ++ Epoch number ∷ []) ≡ (if nat_lt n number then Some (0 + length es) else None)
    new high = unplaced n 0 number es (past high)

    behind : (b : Bool) → nat_lt n number ≡ b → length places ≤ n → slice_get (places ++ k ∷ []) n ≡ (if b then Some (0 + length es) else None)
    behind true e high =
        let low : n < number = ltb-true n number e in
        let here : n ≡ length places = omega arith in
        let same : k ≡ 0 + length es = omega arith in
        got_last places k n here ∙ ap Some same
    behind false e high = slice_get_past (places ++ k ∷ []) n (let l = length_more places k in let up = not_low n number e in omega (arith, l, up))
      where
        length_more : (xs : List ℕ) (y : ℕ) → length (xs ++ y ∷ []) ≡ length xs + 1
        length_more [] y = omega arith
        length_more (x ∷ xs) y = let r = length_more xs y in omega arith

        not_low : (a b : ℕ) → nat_lt a b ≡ false → b ≤ a
        not_low a b f = grind arith

    go : (b : Bool) → nat_lt n (length places) ≡ b → slice_get (places ++ k ∷ []) n ≡ place_of_epoch n 0 (es ++ Epoch number ∷ [])
    go true e =
        let r = got_front places k n (ltb-true n (length places) e) in
        r.2 ∙ sym (placed_more n 0 es (Epoch number) r.0 (sym (told n) ∙ r.1))
    go false e =
        let high : length places ≤ n = not_less n (length places) e in
        behind (nat_lt n number) refl high ∙ sym (new high)
      where
        not_less : (a b : ℕ) → nat_lt a b ≡ false → b ≤ a
        not_less a b f = grind arith
