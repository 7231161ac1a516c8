-- Entries at their positions, in a list with more after it and in a front of it.
use Rattle.std.proofs.Common.{◌≡◌, ◌⊎◌, inl, inr, ℕ, zero, suc, ◌+◌, ◌≤◌, ◌<◌, Bool, true, false, List, [], ◌∷◌, ◌++◌, length, take, max, Some, slice_get, refl, subst, arith, if◌then◌else◌}
use Rattle.std.specs.Prelude.{nat_lt}
use Rattle.std.proofs.lemmas.Option.{same_Some}
use Rattle.plain_orders.specs.declared.entry.Entry.{Entry}
use Rattle.plain_orders.specs.declared.entry.Entry.TheVariants.{Epoch, Opened, Closed, Update, Commit, Rollback}
use Rattle.plain_orders.specs.Entries.{entry_at, count_from, w_in}
use Rattle.plain_orders.specs.Sessions.{place_of_epoch}

module _ {X : Type 0} where
  -- an item stands where it stood
  pub get_more : (xs : List X) (y x : X) (i : ℕ) → slice_get xs i ≡ Some x → slice_get (xs ++ y ∷ []) i ≡ Some x
  get_more [] y x i h = absurd (cc (h))
  get_more (z ∷ xs) y x zero h = h
  get_more (z ∷ xs) y x (suc i) h = get_more xs y x i h

  -- also where several more follow
  pub get_append : (xs ys : List X) (x : X) (i : ℕ) → slice_get xs i ≡ Some x → slice_get (xs ++ ys) i ≡ Some x
  get_append [] ys x i h = absurd (cc (h))
  get_append (z ∷ xs) ys x zero h = h
  get_append (z ∷ xs) ys x (suc i) h = get_append xs ys x i h

  -- what stands in a list with one more stood there before, or is that one
  pub get_pushed : (xs : List X) (y : X) (i : ℕ) (x : X) → slice_get (xs ++ y ∷ []) i ≡ Some x → (slice_get xs i ≡ Some x) ⊎ (y ≡ x)
  get_pushed [] y zero x h = inr (same_Some y x h)
  get_pushed [] y (suc i) x h = absurd (cc (h))
  get_pushed (z ∷ xs) y zero x h = inl h
  get_pushed (z ∷ xs) y (suc i) x h = get_pushed xs y i x h

  -- the last one
  pub get_last : (xs : List X) (x : X) → slice_get (xs ++ x ∷ []) (length xs) ≡ Some x
  get_last [] x = refl
  get_last (y ∷ xs) x = get_last xs x

  -- a front has what stands in it
  pub get_take : (m : ℕ) (xs : List X) (i : ℕ) → i + 1 ≤ m → slice_get (take m xs) i ≡ slice_get xs i
  get_take zero xs i low = absurd (omega arith)
  get_take (suc m) [] i low = refl
  get_take (suc m) (x ∷ xs) zero low = refl
  get_take (suc m) (x ∷ xs) (suc i) low = get_take m xs i (omega arith)

  -- and nothing else
  pub get_taken : (m : ℕ) (xs : List X) (i : ℕ) (x : X) → slice_get (take m xs) i ≡ Some x → slice_get xs i ≡ Some x
  get_taken zero xs i x h = absurd (cc (h))
  get_taken (suc m) [] i x h = absurd (cc (h))
  get_taken (suc m) (y ∷ xs) zero x h = h
  get_taken (suc m) (y ∷ xs) (suc i) x h = get_taken m xs i x h

  -- what is found stands below the list's length
  pub get_low : (xs : List X) (x : X) (i : ℕ) → slice_get xs i ≡ Some x → i < length xs
  get_low [] x i h = absurd (cc (h))
  get_low (y ∷ xs) x zero h = omega arith
  get_low (y ∷ xs) x (suc i) h = omega (arith, get_low xs x i h)

-- the same of entries, whose positions begin at 1
pub entry_more : (es : List Entry) (e x : Entry) (n : ℕ) → entry_at es n ≡ Some x → entry_at (es ++ e ∷ []) n ≡ Some x
entry_more es e x zero h = absurd (cc (h))
entry_more es e x (suc i) h = get_more es e x i h

pub entry_append : (es fs : List Entry) (x : Entry) (n : ℕ) → entry_at es n ≡ Some x → entry_at (es ++ fs) n ≡ Some x
entry_append es fs x zero h = absurd (cc (h))
entry_append es fs x (suc i) h = get_append es fs x i h

pub entry_pushed : (es : List Entry) (e x : Entry) (n : ℕ) → entry_at (es ++ e ∷ []) n ≡ Some x → (entry_at es n ≡ Some x) ⊎ (e ≡ x)
entry_pushed es e x zero h = absurd (cc (h))
entry_pushed es e x (suc i) h = get_pushed es e i x h

pub entry_last : (es : List Entry) (e : Entry) (n : ℕ) → n ≡ length es + 1 → entry_at (es ++ e ∷ []) n ≡ Some e
entry_last es e zero same = absurd (omega (arith, same))
entry_last es e (suc i) same = let here : length es ≡ i = omega (arith, same) in subst (λ j. slice_get (es ++ e ∷ []) j ≡ Some e) here (get_last es e)

pub entry_take : (m : ℕ) (es : List Entry) (n : ℕ) → n ≤ m → entry_at (take m es) n ≡ entry_at es n
entry_take m es zero low = refl
entry_take m es (suc i) low = get_take m es i (omega arith)

pub entry_taken : (m : ℕ) (es : List Entry) (x : Entry) (n : ℕ) → entry_at (take m es) n ≡ Some x → entry_at es n ≡ Some x
entry_taken m es x zero h = absurd (cc (h))
entry_taken m es x (suc i) h = get_taken m es i x h

pub entry_low : (es : List Entry) (x : Entry) (n : ℕ) → entry_at es n ≡ Some x → n ≤ length es
entry_low es x zero h = omega arith
entry_low es x (suc i) h = omega (arith, get_low es x i h)

-- the first Epoch above a number stays where it is
pub placed_more : (n c : ℕ) (es : List Entry) (e : Entry) (k : ℕ) → place_of_epoch n c es ≡ Some k → place_of_epoch n c (es ++ e ∷ []) ≡ Some k
placed_more n c [] e k h = absurd (cc (h))
placed_more n c (Epoch number ∷ es) e k h = go (placed_more n (c + 1) es e k) (nat_lt n number) h
  where
    go : (place_of_epoch n (c + 1) es ≡ Some k → place_of_epoch n (c + 1) (es ++ e ∷ []) ≡ Some k) → (b : Bool) → (if b then Some c else place_of_epoch n (c + 1) es) ≡ Some k → (if b then Some c else place_of_epoch n (c + 1) (es ++ e ∷ [])) ≡ Some k
    go more true h = h
    go more false h = more h
placed_more n c (Opened session app ∷ es) e k h = placed_more n (c + 1) es e k h
placed_more n c (Closed session ∷ es) e k h = placed_more n (c + 1) es e k h
placed_more n c (Update session w job txn op ∷ es) e k h = placed_more n (c + 1) es e k h
placed_more n c (Commit session w job txn ∷ es) e k h = placed_more n (c + 1) es e k h
placed_more n c (Rollback session w job txn ∷ es) e k h = placed_more n (c + 1) es e k h

-- and is in the list
pub place_low : (n c k : ℕ) (es : List Entry) → place_of_epoch n c es ≡ Some k → k ≤ c + length es
place_low n c k [] e = absurd (cc (e))
place_low n c k (Epoch number ∷ es) e = go (place_low n (c + 1) k es) (nat_lt n number) e
  where
    go : (place_of_epoch n (c + 1) es ≡ Some k → k ≤ c + 1 + length es) → (b : Bool) → (if b then Some c else place_of_epoch n (c + 1) es) ≡ Some k → k ≤ c + length (Epoch number ∷ es)
    go more true e = omega (arith, same_Some c k e)
    go more false e = omega (arith, more e)
place_low n c k (Opened session app ∷ es) e = omega (arith, place_low n (c + 1) k es e)
place_low n c k (Closed session ∷ es) e = omega (arith, place_low n (c + 1) k es e)
place_low n c k (Update session w job txn op ∷ es) e = omega (arith, place_low n (c + 1) k es e)
place_low n c k (Commit session w job txn ∷ es) e = omega (arith, place_low n (c + 1) k es e)
place_low n c k (Rollback session w job txn ∷ es) e = omega (arith, place_low n (c + 1) k es e)

-- a count is no less than where it began
pub count_from_low : (c : ℕ) (es : List Entry) (s : ℕ) → c ≤ count_from c es s
count_from_low c [] s = omega arith
count_from_low c (e ∷ es) s = omega (arith, count_from_low (max c (w_in s e)) es s)

-- a longer front counts no less
pub counts_rise : (c n m : ℕ) (es : List Entry) (s : ℕ) → n ≤ m → count_from c (take n es) s ≤ count_from c (take m es) s
counts_rise c zero m es s le = count_from_low c (take m es) s
counts_rise c (suc n) zero es s le = absurd (omega arith)
counts_rise c (suc n) (suc m) [] s le = omega arith
counts_rise c (suc n) (suc m) (e ∷ es) s le = counts_rise (max c (w_in s e)) n m es s (omega arith)

-- and the whole list counts no less than a front
pub front_counts : (c n : ℕ) (es : List Entry) (s : ℕ) → count_from c (take n es) s ≤ count_from c es s
front_counts c zero es s = count_from_low c es s
front_counts c (suc n) [] s = omega arith
front_counts c (suc n) (e ∷ es) s = front_counts (max c (w_in s e)) n es s
