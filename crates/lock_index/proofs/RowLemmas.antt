-- Rows with rising numbers, and the numbers of those that pass a test.
use Rattle.std.proofs.Common.{◌≡◌, ℕ, ◌+◌, ◌-◌, ◌<◌, Bool, true, false, not, ◌&&◌, ◌||◌, cond, List, [], ◌∷◌, ◌++◌, Option, Some, None, refl, sym, ◌∙◌, ap, subst, arith, inl, inr, length, get_or, take, drop, add-one, length-append}
use Rattle.std.specs.List.{AllByRecursion, filter, find, list_any}
use Rattle.std.specs.List.Sorted.{IsStrictlySortedBy}
use Rattle.std.specs.Map.{keys_of, values_of, remove_entry, set_value}
use Rattle.std.specs.BTreeMap.{is_at, insert_entry}
use Rattle.std.specs.Ordering.{is_eq, nat_cmp}
use Rattle.std.specs.declared.cmp.Ordering.{Ordering}
use Rattle.std.specs.declared.cmp.Ordering.TheVariants.{Less, Equal, Greater}
use Rattle.std.proofs.Math.Seq.{drop-cons, take-append_seam}
use Rattle.std.proofs.lemmas.Bool.{cases_order, eq-eqb, ne_eqb, false≢true}
use Rattle.std.proofs.lemmas.Map.Lookups.{exact_unsigned}
use Rattle.subscript_keys.proofs.Orders.{nat_cmp-lt, nat_cmp-eq, nat_cmp-gt}
use Rattle.lock_index.specs.IndexWords.{is_other, row_at, has_row, without_rows, AreRising, IsNumberedBelow, numbers_of, row_passes, passes_at}

-- a number is itself
pub same_number : (n : ℕ) → is_eq (nat_cmp n n) ≡ true
same_number n = ap is_eq (nat_cmp-eq n n refl)

-- equal numbers are the same
pub same_numbers : (n m : ℕ) → is_eq (nat_cmp n m) ≡ true → n ≡ m
same_numbers n m e = go (nat_cmp n m) refl e
  where
    go : (o : Ordering) → nat_cmp n m ≡ o → is_eq o ≡ true → n ≡ m
    go Less h e = cc
    go Equal h e = exact_unsigned n m h
    go Greater h e = cc

less_is : (m n : ℕ) → nat_cmp m n ≡ Less → m < n
less_is m n e = elim (cases_order m n) [
  | inl s ↦ absurd (not_both (sym (nat_cmp-eq m n s) ∙ e))
  | inr o ↦ elim o [
    | inl l ↦ l
    | inr g ↦ absurd (not_over (sym (nat_cmp-gt m n g) ∙ e))
  ]
]
  where
    not_both : Equal ≡ Less → ⊥
    not_both h = cc

    not_over : Greater ≡ Less → ⊥
    not_over h = cc

-- a number behind another is not that one
pub behind : (m n : ℕ) → nat_cmp m n ≡ Less → is_eq (nat_cmp n m) ≡ false
behind m n e = ap is_eq (nat_cmp-gt n m (less_is m n e))

other_itself : (n m : ℕ) → is_eq (nat_cmp n m) ≡ true → is_other n m ≡ false
other_itself n m e = ap not (eq-eqb m n (sym (same_numbers n m e)))

other_apart : (n m : ℕ) → is_eq (nat_cmp n m) ≡ false → is_other n m ≡ true
other_apart n m e = ap not (ne_eqb m n (λ h. false≢true (sym e ∙ ap is_eq (nat_cmp-eq n m (sym h)))))

-- what stands behind a number isn't it
all_other : (m : ℕ) (ns : List ℕ) → AllByRecursion (λ y. nat_cmp m y ≡ Less) ns → filter (is_other m) ns ≡ ns
all_other m [] all = refl
all_other m (n ∷ ns) all = rw (other_apart m n (ap is_eq all.0)) (ap (λ (ms : List ℕ). n ∷ ms) (all_other m ns all.1))

-- what holds of all keys holds of those of a part
pub all_filtered : {K X : Type 0} (P : K → Type 0) (test : K × X → Bool) (es : List (K × X)) → AllByRecursion P (keys_of es) → AllByRecursion P (keys_of (filter test es))
all_filtered P test [] all = tt
all_filtered P test (e ∷ es) all = go (test e) (all_filtered P test es all.1)
  where
    go : (b : Bool) → AllByRecursion P (keys_of (filter test es)) → AllByRecursion P (keys_of (cond b (e ∷ filter test es) (filter test es)))
    go true rest = (all.0, rest)
    go false rest = rest

-- a part of what is in order is in order
pub sorted_filtered : {K X : Type 0} (c : K → K → Ordering) (test : K × X → Bool) (es : List (K × X)) → IsStrictlySortedBy c (keys_of es) → IsStrictlySortedBy c (keys_of (filter test es))
unfolding IsStrictlySortedBy
sorted_filtered c test [] s = tt
sorted_filtered c test (e ∷ es) s = go (test e) (all_filtered (λ y. c e.0 y ≡ Less) test es s.0) (sorted_filtered c test es s.1)
  where
    go : (b : Bool) → AllByRecursion (λ y. c e.0 y ≡ Less) (keys_of (filter test es)) → IsStrictlySortedBy c (keys_of (filter test es)) → IsStrictlySortedBy c (keys_of (cond b (e ∷ filter test es) (filter test es)))
    go true all rest = (all, rest)
    go false all rest = rest

module _ {X : Type 0} where
  -- the first of rising rows is before the others
  pub rising_head : (r : ℕ × X) (rows : List (ℕ × X)) → AreRising (r ∷ rows) → AllByRecursion (λ y. nat_cmp r.0 y ≡ Less) (keys_of rows)
  unfolding IsStrictlySortedBy
  rising_head r rows s = s.0

  pub rising_tail : (r : ℕ × X) (rows : List (ℕ × X)) → AreRising (r ∷ rows) → AreRising rows
  unfolding IsStrictlySortedBy
  rising_tail r rows s = s.1

  -- one more row behind all
  pub rising_pushed : (n : ℕ) (x : X) (rows : List (ℕ × X)) → AreRising rows → IsNumberedBelow n rows → AreRising (rows ++ (n, x) ∷ [])
  unfolding IsStrictlySortedBy
  rising_pushed n x [] s b = (tt, tt)
  rising_pushed n x (r ∷ rows) s b = (before rows s.0, rising_pushed n x rows s.1 b.1)
    where
      before : (rs : List (ℕ × X)) → AllByRecursion (λ y. nat_cmp r.0 y ≡ Less) (keys_of rs) → AllByRecursion (λ y. nat_cmp r.0 y ≡ Less) (keys_of (rs ++ (n, x) ∷ []))
      before [] all = (nat_cmp-lt r.0 n b.0, tt)
      before (q ∷ rs) all = (all.0, before rs all.1)

  pub below_pushed : (n : ℕ) (x : X) (rows : List (ℕ × X)) → IsNumberedBelow n rows → IsNumberedBelow (n + 1) (rows ++ (n, x) ∷ [])
  below_pushed n x [] b = (omega arith, tt)
  below_pushed n x (r ∷ rows) b = (omega (arith, b.0), below_pushed n x rows b.1)

  -- a row with the greatest number comes last
  pub inserted_last : (n : ℕ) (x : X) (rows : List (ℕ × X)) → IsNumberedBelow n rows → insert_entry nat_cmp rows n x ≡ rows ++ (n, x) ∷ []
  inserted_last n x [] b = refl
  inserted_last n x (r ∷ rows) b = rw (nat_cmp-gt n r.0 b.0) (ap (λ (rs : List (ℕ × X)). r ∷ rs) (inserted_last n x rows b.1))

  -- and goes again
  pub removed_last : (n : ℕ) (x : X) (rows : List (ℕ × X)) → IsNumberedBelow n rows → remove_entry (is_at (nat_cmp n)) (rows ++ (n, x) ∷ []) ≡ rows
  removed_last n x [] b = rw (same_number n) refl
  removed_last n x (r ∷ rows) b = rw (nat_cmp-gt n r.0 b.0) (ap (λ (rs : List (ℕ × X)). r ∷ rs) (removed_last n x rows b.1))

  -- the values of a part by a test of the values
  pub values_filtered : (test : X → Bool) (rows : List (ℕ × X)) → values_of (filter (λ (e : ℕ × X). test e.1) rows) ≡ filter test (values_of rows)
  values_filtered test [] = refl
  values_filtered test (r ∷ rows) = go (test r.1) (values_filtered test rows)
    where
      go : (b : Bool) → values_of (filter (λ (e : ℕ × X). test e.1) rows) ≡ filter test (values_of rows) → values_of (cond b (r ∷ filter (λ (e : ℕ × X). test e.1) rows) (filter (λ (e : ℕ × X). test e.1) rows)) ≡ cond b (r.1 ∷ filter test (values_of rows)) (filter test (values_of rows))
      go true h = ap (λ (vs : List X). r.1 ∷ vs) h
      go false h = h

  pub values_pushed : (n : ℕ) (x : X) (rows : List (ℕ × X)) → values_of (rows ++ (n, x) ∷ []) ≡ values_of rows ++ x ∷ []
  values_pushed n x [] = refl
  values_pushed n x (r ∷ rows) = ap (λ (vs : List X). r.1 ∷ vs) (values_pushed n x rows)

  -- a new row has the last of the numbers, if it passes
  pub numbers_pushed : (test : X → Bool) (rows : List (ℕ × X)) (n : ℕ) (x : X) → numbers_of test (rows ++ (n, x) ∷ []) ≡ numbers_of test rows ++ cond (test x) (n ∷ []) []
  numbers_pushed test [] n x = go (test x)
    where
      go : (b : Bool) → keys_of (cond b ((n, x) ∷ []) []) ≡ cond b (n ∷ []) []
      go true = refl
      go false = refl
  numbers_pushed test (r ∷ rows) n x = go (test r.1) (numbers_pushed test rows n x)
    where
      go : (b : Bool) → numbers_of test (rows ++ (n, x) ∷ []) ≡ numbers_of test rows ++ cond (test x) (n ∷ []) [] → keys_of (cond b (r ∷ filter (λ (e : ℕ × X). test e.1) (rows ++ (n, x) ∷ [])) (filter (λ (e : ℕ × X). test e.1) (rows ++ (n, x) ∷ []))) ≡ keys_of (cond b (r ∷ filter (λ (e : ℕ × X). test e.1) rows) (filter (λ (e : ℕ × X). test e.1) rows)) ++ cond (test x) (n ∷ []) []
      go true h = ap (λ (ns : List ℕ). r.0 ∷ ns) h
      go false h = h

  -- the numbers that pass are behind the first row
  numbers_behind : (m : ℕ) (test : X → Bool) (rows : List (ℕ × X)) → AllByRecursion (λ y. nat_cmp m y ≡ Less) (keys_of rows) → AllByRecursion (λ y. nat_cmp m y ≡ Less) (numbers_of test rows)
  numbers_behind m test rows all = all_filtered (λ y. nat_cmp m y ≡ Less) (λ (e : ℕ × X). test e.1) rows all

  -- no number passes where no row does
  pub no_first : (test : X → Bool) (rows : List (ℕ × X)) → numbers_of test rows ≡ [] → find test (values_of rows) ≡ None
  no_first test [] e = refl
  no_first test (r ∷ rows) e = go (test r.1) (no_first test rows) e
    where
      go : (b : Bool) → (numbers_of test rows ≡ [] → find test (values_of rows) ≡ None) → keys_of (cond b (r ∷ filter (λ (e : ℕ × X). test e.1) rows) (filter (λ (e : ℕ × X). test e.1) rows)) ≡ [] → cond b (Some r.1) (find test (values_of rows)) ≡ None
      go true rest e = cc
      go false rest e = rest e

  -- the first number is that of the first row that passes
  pub first_row : (test : X → Bool) (rows : List (ℕ × X)) (n : ℕ) (ns : List ℕ) → AreRising rows → numbers_of test rows ≡ n ∷ ns → row_at rows n ≡ find test (values_of rows)
  first_row test [] n ns s e = cc
  first_row test (r ∷ rows) n ns s e = go (test r.1) (first_row test rows n ns (rising_tail r rows s)) e
    where
      go : (b : Bool) → (numbers_of test rows ≡ n ∷ ns → row_at rows n ≡ find test (values_of rows)) → keys_of (cond b (r ∷ filter (λ (e : ℕ × X). test e.1) rows) (filter (λ (e : ℕ × X). test e.1) rows)) ≡ n ∷ ns → cond (is_eq (nat_cmp n r.0)) (Some r.1) (row_at rows n) ≡ cond b (Some r.1) (find test (values_of rows))
      go true rest e =
          let same : r.0 ≡ n = cc in
          rw (nat_cmp-eq n r.0 (sym same)) refl
      go false rest e =
          let all = subst (λ (ms : List ℕ). AllByRecursion (λ y. nat_cmp r.0 y ≡ Less) ms) e (numbers_behind r.0 test rows (rising_head r rows s)) in
          rw (behind r.0 n all.0) (rest e)

  keeps_head : (r : ℕ × X) (ns : List ℕ) (rows : List (ℕ × X)) → AllByRecursion (λ y. nat_cmp r.0 y ≡ Less) ns → without_rows ns (r ∷ rows) ≡ r ∷ without_rows ns rows
  keeps_head r [] rows all = refl
  keeps_head r (n ∷ ns) rows all = rw (behind r.0 n all.0) (keeps_head r ns (remove_entry (is_at (nat_cmp n)) rows) all.1)

  -- the rows of the first numbers are gone, and now that of the next
  pub next_removed : (ns : List ℕ) (i : ℕ) (rows new all : List (ℕ × X)) → i < length ns → new ≡ remove_entry (is_at (nat_cmp (get_or ns i 0))) rows → without_rows (drop i ns) rows ≡ all → without_rows (drop (i + 1) ns) new ≡ all
  next_removed ns i rows new all lt e h = rw (add-one, e) (subst (λ (ms : List ℕ). without_rows ms rows ≡ all) (drop-cons ns i 0 lt) h)

  -- the rows that pass go with their numbers
  pub without_numbered : (test : X → Bool) (rows : List (ℕ × X)) → AreRising rows → without_rows (numbers_of test rows) rows ≡ filter (λ (e : ℕ × X). not (test e.1)) rows
  without_numbered test [] s = refl
  without_numbered test (r ∷ rows) s = go (test r.1) (without_numbered test rows (rising_tail r rows s))
    where
      go : (b : Bool) → without_rows (numbers_of test rows) rows ≡ filter (λ (e : ℕ × X). not (test e.1)) rows → without_rows (keys_of (cond b (r ∷ filter (λ (e : ℕ × X). test e.1) rows) (filter (λ (e : ℕ × X). test e.1) rows))) (r ∷ rows) ≡ cond (not b) (r ∷ filter (λ (e : ℕ × X). not (test e.1)) rows) (filter (λ (e : ℕ × X). not (test e.1)) rows)
      go true h = ap (λ (t : Bool). without_rows (numbers_of test rows) (cond t rows (r ∷ remove_entry (is_at (nat_cmp r.0)) rows))) (same_number r.0) ∙ h
      go false h = keeps_head r (numbers_of test rows) rows (numbers_behind r.0 test rows (rising_head r rows s)) ∙ ap (λ (rs : List (ℕ × X)). r ∷ rs) h

  past_head : (r : ℕ × X) (rows : List (ℕ × X)) (ns : List ℕ) → AllByRecursion (λ y. nat_cmp r.0 y ≡ Less) ns → filter (has_row (r ∷ rows)) ns ≡ filter (has_row rows) ns
  past_head r rows [] all = refl
  past_head r rows (n ∷ ns) all = rw (behind r.0 n all.0) (go (has_row rows n) (past_head r rows ns all.1))
    where
      go : (b : Bool) → filter (has_row (r ∷ rows)) ns ≡ filter (has_row rows) ns → cond b (n ∷ filter (has_row (r ∷ rows)) ns) (filter (has_row (r ∷ rows)) ns) ≡ cond b (n ∷ filter (has_row rows) ns) (filter (has_row rows) ns)
      go true h = ap (λ (ms : List ℕ). n ∷ ms) h
      go false h = h

  no_row : (m : ℕ) (rows : List (ℕ × X)) → AllByRecursion (λ y. nat_cmp m y ≡ Less) (keys_of rows) → has_row rows m ≡ false
  no_row m [] all = refl
  no_row m (r ∷ rows) all = rw all.0 (no_row m rows all.1)

  -- of the numbers that pass, those stay whose row does
  pub kept_numbers : (test keep : X → Bool) (rows : List (ℕ × X)) → AreRising rows → numbers_of test (filter (λ (e : ℕ × X). keep e.1) rows) ≡ filter (has_row (filter (λ (e : ℕ × X). keep e.1) rows)) (numbers_of test rows)
  kept_numbers test keep [] s = refl
  kept_numbers test keep (r ∷ rows) s = go (keep r.1) (test r.1) refl (kept_numbers test keep rows (rising_tail r rows s))
    where
      go : (b c : Bool) → test r.1 ≡ c → numbers_of test (filter (λ (e : ℕ × X). keep e.1) rows) ≡ filter (has_row (filter (λ (e : ℕ × X). keep e.1) rows)) (numbers_of test rows) → numbers_of test (cond b (r ∷ filter (λ (e : ℕ × X). keep e.1) rows) (filter (λ (e : ℕ × X). keep e.1) rows)) ≡ filter (has_row (cond b (r ∷ filter (λ (e : ℕ × X). keep e.1) rows) (filter (λ (e : ℕ × X). keep e.1) rows))) (keys_of (cond c (r ∷ filter (λ (e : ℕ × X). test e.1) rows) (filter (λ (e : ℕ × X). test e.1) rows)))
      go true true e h = rw (e, same_number r.0) (ap (λ (ns : List ℕ). r.0 ∷ ns) (h ∙ sym (past_head r (filter (λ (e : ℕ × X). keep e.1) rows) (numbers_of test rows) (numbers_behind r.0 test rows (rising_head r rows s)))))
      go true false e h = rw e (h ∙ sym (past_head r (filter (λ (e : ℕ × X). keep e.1) rows) (numbers_of test rows) (numbers_behind r.0 test rows (rising_head r rows s))))
      go false true e h = rw (no_row r.0 (filter (λ (e : ℕ × X). keep e.1) rows) (all_filtered (λ y. nat_cmp r.0 y ≡ Less) (λ (e : ℕ × X). keep e.1) rows (rising_head r rows s))) h
      go false false e h = h

  -- a row goes with its number
  pub removed_number : (test : X → Bool) (n : ℕ) (rows : List (ℕ × X)) → AreRising rows → numbers_of test (remove_entry (is_at (nat_cmp n)) rows) ≡ filter (is_other n) (numbers_of test rows)
  removed_number test n [] s = refl
  removed_number test n (r ∷ rows) s = go (is_eq (nat_cmp n r.0)) (test r.1) refl refl (removed_number test n rows (rising_tail r rows s))
    where
      gone : n ≡ r.0 → numbers_of test rows ≡ filter (is_other n) (numbers_of test rows)
      gone e = sym (all_other n (numbers_of test rows) (numbers_behind n test rows (subst (λ (m : ℕ). AllByRecursion (λ y. nat_cmp m y ≡ Less) (keys_of rows)) (sym e) (rising_head r rows s))))

      go : (b c : Bool) → is_eq (nat_cmp n r.0) ≡ b → test r.1 ≡ c → numbers_of test (remove_entry (is_at (nat_cmp n)) rows) ≡ filter (is_other n) (numbers_of test rows) → numbers_of test (cond b rows (r ∷ remove_entry (is_at (nat_cmp n)) rows)) ≡ filter (is_other n) (keys_of (cond c (r ∷ filter (λ (e : ℕ × X). test e.1) rows) (filter (λ (e : ℕ × X). test e.1) rows)))
      go true true e t h = rw (other_itself n r.0 e) (gone (same_numbers n r.0 e))
      go true false e t h = gone (same_numbers n r.0 e)
      go false true e t h = rw (t, other_apart n r.0 e) (ap (λ (ns : List ℕ). r.0 ∷ ns) h)
      go false false e t h = rw t h

  -- where it doesn't pass the numbers stay
  pub removed_elsewhere : (test : X → Bool) (n : ℕ) (rows : List (ℕ × X)) (x : X) → row_at rows n ≡ Some x → test x ≡ false → numbers_of test (remove_entry (is_at (nat_cmp n)) rows) ≡ numbers_of test rows
  removed_elsewhere test n [] x e f = refl
  removed_elsewhere test n (r ∷ rows) x e f = go (is_eq (nat_cmp n r.0)) (removed_elsewhere test n rows x) e
    where
      go : (b : Bool) → (row_at rows n ≡ Some x → test x ≡ false → numbers_of test (remove_entry (is_at (nat_cmp n)) rows) ≡ numbers_of test rows) → cond b (Some r.1) (row_at rows n) ≡ Some x → numbers_of test (cond b rows (r ∷ remove_entry (is_at (nat_cmp n)) rows)) ≡ numbers_of test (r ∷ rows)
      go true rest e =
          let same : x ≡ r.1 = cc in
          let apart : test r.1 ≡ false = subst (λ (y : X). test y ≡ false) same f in
          rw apart refl
      go false rest e = behind_one (test r.1) (rest e f)
        where
          behind_one : (b : Bool) → numbers_of test (remove_entry (is_at (nat_cmp n)) rows) ≡ numbers_of test rows → keys_of (cond b (r ∷ filter (λ (e : ℕ × X). test e.1) (remove_entry (is_at (nat_cmp n)) rows)) (filter (λ (e : ℕ × X). test e.1) (remove_entry (is_at (nat_cmp n)) rows))) ≡ keys_of (cond b (r ∷ filter (λ (e : ℕ × X). test e.1) rows) (filter (λ (e : ℕ × X). test e.1) rows))
          behind_one true h = ap (λ (ns : List ℕ). r.0 ∷ ns) h
          behind_one false h = h

  -- a row is changed in place: where the test says the same of it the numbers stay
  pub set_numbers : (test : X → Bool) (n : ℕ) (rows : List (ℕ × X)) (x y : X) → row_at rows n ≡ Some x → test y ≡ test x → numbers_of test (set_value (is_at (nat_cmp n)) rows y) ≡ numbers_of test rows
  set_numbers test n [] x y e f = refl
  set_numbers test n (r ∷ rows) x y e f = go (is_eq (nat_cmp n r.0)) (set_numbers test n rows x y) e
    where
      go : (b : Bool) → (row_at rows n ≡ Some x → test y ≡ test x → numbers_of test (set_value (is_at (nat_cmp n)) rows y) ≡ numbers_of test rows) → cond b (Some r.1) (row_at rows n) ≡ Some x → numbers_of test (cond b ((r.0, y) ∷ rows) (r ∷ set_value (is_at (nat_cmp n)) rows y)) ≡ numbers_of test (r ∷ rows)
      go true rest e =
          let same : x ≡ r.1 = cc in
          let alike : test y ≡ test r.1 = f ∙ ap test same in
          rw alike (here (test r.1))
        where
          here : (b : Bool) → keys_of (cond b ((r.0, y) ∷ filter (λ (e : ℕ × X). test e.1) rows) (filter (λ (e : ℕ × X). test e.1) rows)) ≡ keys_of (cond b (r ∷ filter (λ (e : ℕ × X). test e.1) rows) (filter (λ (e : ℕ × X). test e.1) rows))
          here true = refl
          here false = refl
      go false rest e = behind_one (test r.1) (rest e f)
        where
          behind_one : (b : Bool) → numbers_of test (set_value (is_at (nat_cmp n)) rows y) ≡ numbers_of test rows → keys_of (cond b (r ∷ filter (λ (e : ℕ × X). test e.1) (set_value (is_at (nat_cmp n)) rows y)) (filter (λ (e : ℕ × X). test e.1) (set_value (is_at (nat_cmp n)) rows y))) ≡ keys_of (cond b (r ∷ filter (λ (e : ℕ × X). test e.1) rows) (filter (λ (e : ℕ × X). test e.1) rows))
          behind_one true h = ap (λ (ns : List ℕ). r.0 ∷ ns) h
          behind_one false h = h

  -- the last of rising rows has the greatest number
  pub below_last : (n : ℕ) (x : X) (rows : List (ℕ × X)) → AreRising (rows ++ (n, x) ∷ []) → IsNumberedBelow n rows
  below_last n x [] s = tt
  below_last n x (r ∷ rows) s = (less_is r.0 n (last rows (rising_head r (rows ++ (n, x) ∷ []) s)), below_last n x rows (rising_tail r (rows ++ (n, x) ∷ []) s))
    where
      last : (rs : List (ℕ × X)) → AllByRecursion (λ y. nat_cmp r.0 y ≡ Less) (keys_of (rs ++ (n, x) ∷ [])) → nat_cmp r.0 n ≡ Less
      last [] all = all.0
      last (q ∷ rs) all = last rs all.1

  pub below_front : (next n : ℕ) (x : X) (rows : List (ℕ × X)) → IsNumberedBelow next (rows ++ (n, x) ∷ []) → IsNumberedBelow next rows
  below_front next n x [] b = tt
  below_front next n x (r ∷ rows) b = (b.0, below_front next n x rows b.1)

  pub values_front : (n : ℕ) (x : X) (rows : List (ℕ × X)) → take (length (values_of (rows ++ (n, x) ∷ [])) - 1) (values_of (rows ++ (n, x) ∷ [])) ≡ values_of rows
  values_front n x rows = ap (λ (vs : List X). take (length vs - 1) vs) (values_pushed n x rows) ∙ front (values_of rows)
    where
      less_one : (k : ℕ) → k + 1 - 1 ≡ k
      less_one k = omega arith

      front : (vs : List X) → take (length (vs ++ x ∷ []) - 1) (vs ++ x ∷ []) ≡ vs
      front vs = ap (λ (k : ℕ). take (k - 1) (vs ++ x ∷ [])) (length-append vs (x ∷ [])) ∙ ap (λ (k : ℕ). take k (vs ++ x ∷ [])) (less_one (length vs)) ∙ take-append_seam vs (x ∷ [])

  passes_past : (test : X → Bool) (r : ℕ × X) (rows : List (ℕ × X)) (n : ℕ) → nat_cmp r.0 n ≡ Less → passes_at test (r ∷ rows) n ≡ passes_at test rows n
  passes_past test r rows n l = rw (behind r.0 n l) refl

  find_past : (test : X → Bool) (r : ℕ × X) (rows : List (ℕ × X)) (ns : List ℕ) → AllByRecursion (λ y. nat_cmp r.0 y ≡ Less) ns → find (passes_at test (r ∷ rows)) ns ≡ find (passes_at test rows) ns
  find_past test r rows [] all = refl
  find_past test r rows (n ∷ ns) all = rw (passes_past test r rows n all.0) (ap (λ (o : Option ℕ). cond (passes_at test rows n) (Some n) o) (find_past test r rows ns all.1))

  any_past : (test : X → Bool) (r : ℕ × X) (rows : List (ℕ × X)) (ns : List ℕ) → AllByRecursion (λ y. nat_cmp r.0 y ≡ Less) ns → list_any (passes_at test (r ∷ rows)) ns ≡ list_any (passes_at test rows) ns
  any_past test r rows [] all = refl
  any_past test r rows (n ∷ ns) all = rw (passes_past test r rows n all.0) (ap (λ (b : Bool). passes_at test rows n || b) (any_past test r rows ns all.1))

  passes_itself : (test : X → Bool) (r : ℕ × X) (rows : List (ℕ × X)) → passes_at test (r ∷ rows) r.0 ≡ test r.1
  passes_itself test r rows = rw (same_number r.0) refl

  -- the number of the first row that passes
  abbrev pub first_number : (X → Bool) → List (ℕ × X) → Option ℕ
  first_number test [] = None
  first_number test (r ∷ rows) = cond (test r.1) (Some r.0) (first_number test rows)

  -- a search by number of the rows of a key finds the first of all that passes, where only rows of the key do
  pub find_numbered : (of_key test : X → Bool) → ((x : X) → test x ≡ true → of_key x ≡ true) → (rows : List (ℕ × X)) → AreRising rows → find (passes_at test rows) (numbers_of of_key rows) ≡ first_number test rows
  find_numbered of_key test only [] s = refl
  find_numbered of_key test only (r ∷ rows) s = go (test r.1) (of_key r.1) refl refl (find_past test r rows (numbers_of of_key rows) (numbers_behind r.0 of_key rows (rising_head r rows s)) ∙ find_numbered of_key test only rows (rising_tail r rows s))
    where
      go : (b c : Bool) → test r.1 ≡ b → of_key r.1 ≡ c → find (passes_at test (r ∷ rows)) (numbers_of of_key rows) ≡ first_number test rows → find (passes_at test (r ∷ rows)) (keys_of (cond c (r ∷ filter (λ (e : ℕ × X). of_key e.1) rows) (filter (λ (e : ℕ × X). of_key e.1) rows))) ≡ cond b (Some r.0) (first_number test rows)
      go true true t k h = rw (passes_itself test r rows ∙ t) refl
      go true false t k h = absurd (false≢true (sym k ∙ only r.1 t))
      go false true t k h = rw (passes_itself test r rows ∙ t) h
      go false false t k h = h

  -- and tells whether one of the key passes
  pub any_numbered : (of_key test : X → Bool) → (rows : List (ℕ × X)) → AreRising rows → list_any (passes_at test rows) (numbers_of of_key rows) ≡ list_any (λ (x : X). of_key x && test x) (values_of rows)
  any_numbered of_key test [] s = refl
  any_numbered of_key test (r ∷ rows) s = go (of_key r.1) (any_past test r rows (numbers_of of_key rows) (numbers_behind r.0 of_key rows (rising_head r rows s)) ∙ any_numbered of_key test rows (rising_tail r rows s))
    where
      go : (c : Bool) → list_any (passes_at test (r ∷ rows)) (numbers_of of_key rows) ≡ list_any (λ (x : X). of_key x && test x) (values_of rows) → list_any (passes_at test (r ∷ rows)) (keys_of (cond c (r ∷ filter (λ (e : ℕ × X). of_key e.1) rows) (filter (λ (e : ℕ × X). of_key e.1) rows))) ≡ ((c && test r.1) || list_any (λ (x : X). of_key x && test x) (values_of rows))
      go true h = rw (passes_itself test r rows) (ap (λ (b : Bool). test r.1 || b) h)
      go false h = h

  -- a number whose row passes shows that one does
  pub any_row : (test : X → Bool) (rows : List (ℕ × X)) (n : ℕ) → passes_at test rows n ≡ true → list_any test (values_of rows) ≡ true
  any_row test [] n e = e
  any_row test (r ∷ rows) n e = go (is_eq (nat_cmp n r.0)) (any_row test rows n) e
    where
      either : (a b : Bool) → b ≡ true → (a || b) ≡ true
      either true b h = refl
      either false b h = h

      go : (b : Bool) → (passes_at test rows n ≡ true → list_any test (values_of rows) ≡ true) → row_passes test (cond b (Some r.1) (row_at rows n)) ≡ true → (test r.1 || list_any test (values_of rows)) ≡ true
      go true rest h = rw h refl
      go false rest h = either (test r.1) (list_any test (values_of rows)) (rest h)
