-- Names that begin with a name, and names with which it begins, in an index by names.
use Rattle.std.proofs.Common.{◌≡◌, ◌≢◌, ℕ, zero, suc, ◌+◌, ◌-◌, ◌<◌, ◌≤◌, Bool, true, false, ◌&&◌, ◌||◌, nat_eq, cond, List, [], ◌∷◌, length, take, refl, sym, ◌∙◌, ap, subst, arith, inl, inr}
use Rattle.std.specs.List.{AllByRecursion, list_any}
use Rattle.std.specs.List.Sorted.{IsStrictlySortedBy}
use Rattle.std.specs.Map.{keys_of}
use Rattle.std.specs.Ordering.{is_eq, is_le, nat_cmp, ordering_then}
use Rattle.std.specs.declared.cmp.Ordering.{Ordering}
use Rattle.std.specs.declared.cmp.Ordering.TheVariants.{Less, Equal, Greater}
use Rattle.std.specs.declared.ops.Bound.TheVariants.{Included, Unbounded}
use Rattle.std.specs.BTreeMap.Range.{entries_between, range_contains}
use Rattle.std.proofs.lemmas.Bool.{eqb-true, eq-eqb, and_parts, false≢true, cases_order}
use Rattle.std.proofs.lemmas.Map.Lookups.{exact_bytes}
use Rattle.subscript_keys.proofs.Orders.{nat_cmp-eq, nat_cmp-gt}
use Rattle.plain_orders.specs.PairMap.{key_cmp, is_under}
use Rattle.plain_orders.specs.Conflict.{names_overlap}
use Rattle.lock_index.specs.IndexWords.{numbers_at, passes_below, passes_above, passes_beside}
use Rattle.lock_index.proofs.RowLemmas.{sorted_filtered}

not_less : Greater ≡ Less → ⊥
not_less e = cc

-- a comparison that finds less finds it at once or after the first part is level
less_first : (a b : Ordering) → ordering_then a b ≡ Less → (a ≢ Greater) × (a ≡ Equal → b ≡ Less)
less_first Less b e = (λ g. cc, λ g. cc)
less_first Equal b e = (λ g. cc, λ g. e)
less_first Greater b e = (λ g. absurd (not_less e), λ g. cc)

level : (x y : ℕ) → nat_cmp x y ≢ Greater → nat_cmp y x ≢ Greater → x ≡ y
level x y h k = elim (cases_order x y) [
  | inl e ↦ e
  | inr o ↦ elim o [
    | inl less ↦ absurd (k (nat_cmp-gt y x less))
    | inr more ↦ absurd (h (nat_cmp-gt x y more))
  ]
]

-- what stands between two byte strings that begin with the name begins with it too
between : (n b p q : List ℕ) → is_under n b ≡ true → is_under n q ≡ true → key_cmp b p ≡ Less → key_cmp p q ≡ Less → is_under n p ≡ true
between [] b p q h k l m = refl
between (x ∷ n) [] p q h k l m = absurd (false≢true h)
between (x ∷ n) (y ∷ b) p [] h k l m = absurd (false≢true k)
between (x ∷ n) (y ∷ b) [] (z ∷ q) h k l m = absurd (not_less l)
between (x ∷ n) (y ∷ b) (w ∷ p) (z ∷ q) h k l m =
    let s = and_parts (nat_eq x y) (is_under n b) h in
    let t = and_parts (nat_eq x z) (is_under n q) k in
    let u = less_first (nat_cmp y w) (key_cmp b p) l in
    let v = less_first (nat_cmp w z) (key_cmp p q) m in
    let first : x ≡ y = eqb-true x y s.0 in
    let last : x ≡ z = eqb-true x z t.0 in
    let here : y ≡ w = level y w u.0 (λ g. v.0 (ap (nat_cmp w) (sym last ∙ first) ∙ g)) in
    let rest : is_under n p ≡ true = between n b p q s.1 t.1 (u.1 (nat_cmp-eq y w here)) (v.1 (nat_cmp-eq w z (sym here ∙ sym first ∙ last))) in
    ap (λ t. t && is_under n p) (eq-eqb x w (first ∙ here)) ∙ rest

-- a name begins with itself
under_itself : (n : List ℕ) → is_under n n ≡ true
under_itself [] = refl
under_itself (x ∷ n) = rw (eq-eqb x x refl) (under_itself n)

-- what begins with the name doesn't stand before it
under_from : (n q : List ℕ) → is_under n q ≡ true → is_le (key_cmp n q) ≡ true
under_from [] [] h = refl
under_from [] (z ∷ q) h = refl
under_from (x ∷ n) [] h = absurd (false≢true h)
under_from (x ∷ n) (z ∷ q) h =
    let s = and_parts (nat_eq x z) (is_under n q) h in
    ap (λ o. is_le (ordering_then o (key_cmp n q))) (nat_cmp-eq x z (eqb-true x z s.0)) ∙ under_from n q s.1

-- equal names are the same
pub same_names : (n q : List ℕ) → is_eq (key_cmp n q) ≡ true → n ≡ q
same_names n q e = go (key_cmp n q) refl e
  where
    go : (o : Ordering) → key_cmp n q ≡ o → is_eq o ≡ true → n ≡ q
    go Less h e = cc
    go Equal h e = exact_bytes n q h
    go Greater h e = cc

pub level_name : (n : List ℕ) → is_eq (key_cmp n n) ≡ true
level_name [] = refl
level_name (x ∷ n) = ap (λ o. is_eq (ordering_then o (key_cmp n n))) (nat_cmp-eq x x refl) ∙ level_name n

-- behind a key from the name on that doesn't begin with it, none does
none_behind : (n k : List ℕ) → is_le (key_cmp n k) ≡ true → is_under n k ≡ false → (q : List ℕ) → key_cmp k q ≡ Less → is_under n q ≡ false
none_behind n k from apart q l = go (key_cmp n k) (is_under n q) refl refl from
  where
    go : (o : Ordering) (b : Bool) → key_cmp n k ≡ o → is_under n q ≡ b → is_le o ≡ true → b ≡ false
    go o false c u f = refl
    go Less true c u f = absurd (false≢true (sym apart ∙ between n n k q (under_itself n) u c l))
    go Equal true c u f = absurd (false≢true (sym apart ∙ subst (λ (m : List ℕ). is_under n m ≡ true) (exact_bytes n k c) (under_itself n)))
    go Greater true c u f = cc

module _ (n : List ℕ) (test : ℕ → Bool) where
  none_below : (es : List (List ℕ × List ℕ)) → AllByRecursion (λ q. is_under n q ≡ false) (keys_of es) → list_any (passes_below n test) es ≡ false
  none_below [] all = refl
  none_below (e ∷ es) all = rw all.0 (none_below es all.1)

  -- what is left of the names from this one on tells whether a number passes at one that begins with it
  pub record IsLeft (whole left : List (List ℕ × List ℕ)) : Type 0 where
    pub sorted : IsStrictlySortedBy key_cmp (keys_of left)
    pub from : AllByRecursion (λ q. is_le (key_cmp n q) ≡ true) (keys_of left)
    pub same : list_any (passes_below n test) whole ≡ list_any (passes_below n test) left

  all_from : (es : List (List ℕ × List ℕ)) → AllByRecursion (λ q. is_le (key_cmp n q) ≡ true) (keys_of (entries_between key_cmp (Included n) Unbounded es))
  all_from [] = tt
  all_from (e ∷ es) = go (is_le (key_cmp n e.0)) refl (all_from es)
    where
      go : (b : Bool) → is_le (key_cmp n e.0) ≡ b → AllByRecursion (λ q. is_le (key_cmp n q) ≡ true) (keys_of (entries_between key_cmp (Included n) Unbounded es)) → AllByRecursion (λ q. is_le (key_cmp n q) ≡ true) (keys_of (cond (b && true) (e ∷ entries_between key_cmp (Included n) Unbounded es) (entries_between key_cmp (Included n) Unbounded es)))
      go true h rest = (h, rest)
      go false h rest = rest

  same_from : (es : List (List ℕ × List ℕ)) → list_any (passes_below n test) es ≡ list_any (passes_below n test) (entries_between key_cmp (Included n) Unbounded es)
  same_from [] = refl
  same_from (e ∷ es) = go (is_le (key_cmp n e.0)) (is_under n e.0) refl refl (same_from es)
    where
      go : (b c : Bool) → is_le (key_cmp n e.0) ≡ b → is_under n e.0 ≡ c → list_any (passes_below n test) es ≡ list_any (passes_below n test) (entries_between key_cmp (Included n) Unbounded es) → ((c && list_any test e.1) || list_any (passes_below n test) es) ≡ list_any (passes_below n test) (cond (b && true) (e ∷ entries_between key_cmp (Included n) Unbounded es) (entries_between key_cmp (Included n) Unbounded es))
      go true c l u h = rw (u, h) refl
      go false true l u h = absurd (false≢true (sym l ∙ under_from n e.0 u))
      go false false l u h = h

  pub left_at_start : (whole left : List (List ℕ × List ℕ)) → IsStrictlySortedBy key_cmp (keys_of whole) → left ≡ entries_between key_cmp (Included n) Unbounded whole → IsLeft whole left
  left_at_start whole left s e =
      subst (λ (es : List (List ℕ × List ℕ)). IsLeft whole es) (sym e) record {
        sorted = sorted_filtered key_cmp (λ (p : List ℕ × List ℕ). range_contains key_cmp (Included n) Unbounded p.0) whole s;
        from = all_from whole;
        same = same_from whole;
      }

  -- a name that doesn't begin with it ends the search
  pub left_apart : (whole rest : List (List ℕ × List ℕ)) (e : List ℕ × List ℕ) → IsLeft whole (e ∷ rest) → is_under n e.0 ≡ false → list_any (passes_below n test) whole ≡ false
  unfolding IsStrictlySortedBy
  left_apart whole rest e is apart = is.same ∙ none_below (e ∷ rest) (apart, all rest is.sorted.0)
    where
      all : (es : List (List ℕ × List ℕ)) → AllByRecursion (λ q. key_cmp e.0 q ≡ Less) (keys_of es) → AllByRecursion (λ q. is_under n q ≡ false) (keys_of es)
      all [] a = tt
      all (d ∷ es) a = (none_behind n e.0 is.from.0 apart d.0 a.0, all es a.1)

  pub left_passes : (whole rest : List (List ℕ × List ℕ)) (e : List ℕ × List ℕ) → IsLeft whole (e ∷ rest) → is_under n e.0 ≡ true → list_any test e.1 ≡ true → list_any (passes_below n test) whole ≡ true
  left_passes whole rest e is under any = rw (is.same, under, any) refl

  pub left_next : (whole rest : List (List ℕ × List ℕ)) (e : List ℕ × List ℕ) → IsLeft whole (e ∷ rest) → list_any test e.1 ≡ false → IsLeft whole rest
  unfolding IsStrictlySortedBy
  left_next whole rest e is any = record { sorted = is.sorted.1; from = is.from.1; same = is.same ∙ go (is_under n e.0) (list_any test e.1) any }
    where
      go : (a b : Bool) → b ≡ false → ((a && b) || list_any (passes_below n test) rest) ≡ list_any (passes_below n test) rest
      go true false e = refl
      go false b e = refl
      go true true e = cc

  pub left_none : (whole : List (List ℕ × List ℕ)) → IsLeft whole [] → list_any (passes_below n test) whole ≡ false
  left_none whole is = is.same

  -- a number at a name with which this one begins
  pub found_above : (es : List (List ℕ × List ℕ)) (q : List ℕ) → is_under q n ≡ true → list_any test (numbers_at key_cmp q es) ≡ true → list_any (passes_above n test) es ≡ true
  found_above [] q u e = e
  found_above (d ∷ es) q u e = go (is_eq (key_cmp q d.0)) refl (found_above es q u) e
    where
      either : (a b : Bool) → b ≡ true → (a || b) ≡ true
      either true b e = refl
      either false b e = e

      go : (b : Bool) → is_eq (key_cmp q d.0) ≡ b → (list_any test (numbers_at key_cmp q es) ≡ true → list_any (passes_above n test) es ≡ true) → list_any test (numbers_at key_cmp q (d ∷ es)) ≡ true → (passes_above n test d || list_any (passes_above n test) es) ≡ true
      go true h rest e =
          let here : is_under d.0 n ≡ true = subst (λ (m : List ℕ). is_under m n ≡ true) (same_names q d.0 h) u in
          let any : list_any test d.1 ≡ true = rw h at e in
          rw (here, any) refl
      go false h rest e = either (passes_above n test d) (list_any (passes_above n test) es) (rest (rw h at e))

  -- or at one that overlaps it
  pub found_beside : (es : List (List ℕ × List ℕ)) (q : List ℕ) → names_overlap n q ≡ true → list_any test (numbers_at key_cmp q es) ≡ true → list_any (passes_beside n test) es ≡ true
  found_beside [] q u e = e
  found_beside (d ∷ es) q u e = go (is_eq (key_cmp q d.0)) refl (found_beside es q u) e
    where
      either : (a b : Bool) → b ≡ true → (a || b) ≡ true
      either true b e = refl
      either false b e = e

      go : (b : Bool) → is_eq (key_cmp q d.0) ≡ b → (list_any test (numbers_at key_cmp q es) ≡ true → list_any (passes_beside n test) es ≡ true) → list_any test (numbers_at key_cmp q (d ∷ es)) ≡ true → (passes_beside n test d || list_any (passes_beside n test) es) ≡ true
      go true h rest e =
          let here : names_overlap n d.0 ≡ true = subst (λ (m : List ℕ). names_overlap n m ≡ true) (same_names q d.0 h) u in
          let any : list_any test d.1 ≡ true = rw h at e in
          rw (here, any) refl
      go false h rest e = either (passes_beside n test d) (list_any (passes_beside n test) es) (rest (rw h at e))

  no_numbers : (q : List ℕ) (es : List (List ℕ × List ℕ)) → AllByRecursion (λ k. key_cmp q k ≡ Less) (keys_of es) → list_any test (numbers_at key_cmp q es) ≡ false
  no_numbers q [] all = refl
  no_numbers q (d ∷ es) all = rw all.0 (no_numbers q es all.1)

  -- there is none where no front of the name has one
  pub none_above : (es : List (List ℕ × List ℕ)) → IsStrictlySortedBy key_cmp (keys_of es) → ((q : List ℕ) → is_under q n ≡ true → list_any test (numbers_at key_cmp q es) ≡ false) → list_any (passes_above n test) es ≡ false
  unfolding IsStrictlySortedBy
  none_above [] s none = refl
  none_above (d ∷ es) s none =
      ap (λ (b : Bool). b || list_any (passes_above n test) es) (here (is_under d.0 n) refl) ∙ none_above es s.1 (λ q u. rest q u (is_eq (key_cmp q d.0)) refl)
    where
      here : (b : Bool) → is_under d.0 n ≡ b → (b && list_any test d.1) ≡ false
      here true u = rw (level_name d.0) at (none d.0 u)
      here false u = refl

      rest : (q : List ℕ) → is_under q n ≡ true → (b : Bool) → is_eq (key_cmp q d.0) ≡ b → list_any test (numbers_at key_cmp q es) ≡ false
      rest q u true h = no_numbers q es (subst (λ (m : List ℕ). AllByRecursion (λ k. key_cmp m k ≡ Less) (keys_of es)) (sym (same_names q d.0 h)) s.0)
      rest q u false h = rw h at (none q u)

  -- the fronts of the name down to a length have none
  pub record AfterFronts (es : List (List ℕ × List ℕ)) (turn : ℕ) (bytes : List ℕ) : Type 0 where
    pub front : bytes ≡ take (length n - turn) n
    pub none : (j : ℕ) → length n < j + turn → j ≤ length n → list_any test (numbers_at key_cmp (take j n) es) ≡ false

take_whole : (n : List ℕ) (j : ℕ) → length n ≤ j → take j n ≡ n
take_whole [] zero le = refl
take_whole [] (suc j) le = refl
take_whole (x ∷ n) zero le = absurd (omega arith)
take_whole (x ∷ n) (suc j) le = ap (λ (m : List ℕ). x ∷ m) (take_whole n j (omega arith))

take_under : (n : List ℕ) (j : ℕ) → is_under (take j n) n ≡ true
take_under [] zero = refl
take_under [] (suc j) = refl
take_under (x ∷ n) zero = refl
take_under (x ∷ n) (suc j) = rw (eq-eqb x x refl) (take_under n j)

-- what a name begins with is one of its fronts
under_take : (q n : List ℕ) → is_under q n ≡ true → (q ≡ take (length q) n) × (length q ≤ length n)
under_take [] [] u = (refl, omega arith)
under_take [] (y ∷ n) u = (refl, omega arith)
under_take (x ∷ q) [] u = absurd (false≢true u)
under_take (x ∷ q) (y ∷ n) u =
    let s = and_parts (nat_eq x y) (is_under q n) u in
    let rest = under_take q n s.1 in
    (ap (λ (z : ℕ). z ∷ q) (eqb-true x y s.0) ∙ ap (λ (m : List ℕ). y ∷ m) rest.0, omega (arith, rest.1))

front_length : (n : List ℕ) (i : ℕ) → i ≤ length n → length (take i n) ≡ i
front_length [] zero le = refl
front_length [] (suc i) le = absurd (omega arith)
front_length (x ∷ n) zero le = refl
front_length (x ∷ n) (suc i) le = ap suc (front_length n i (omega arith))

front_of_front : (n : List ℕ) (a i : ℕ) → a ≤ i → take a (take i n) ≡ take a n
front_of_front [] zero zero le = refl
front_of_front [] zero (suc i) le = refl
front_of_front [] (suc a) zero le = refl
front_of_front [] (suc a) (suc i) le = refl
front_of_front (x ∷ n) zero i le = refl
front_of_front (x ∷ n) (suc a) zero le = absurd (omega arith)
front_of_front (x ∷ n) (suc a) (suc i) le = ap (λ (m : List ℕ). x ∷ m) (front_of_front n a i (omega arith))

pub no_fronts : (n : List ℕ) (test : ℕ → Bool) (es : List (List ℕ × List ℕ)) (bytes : List ℕ) → bytes ≡ n → AfterFronts n test es 0 bytes
no_fronts n test es bytes e = record { front = e ∙ sym (take_whole n (length n - 0) (omega arith)); none = λ j l m. absurd (omega (arith, l, m)) }

pub front_found : (n : List ℕ) (test : ℕ → Bool) (es : List (List ℕ × List ℕ)) (turn : ℕ) (bytes : List ℕ) → AfterFronts n test es turn bytes → list_any test (numbers_at key_cmp bytes es) ≡ true → list_any (passes_above n test) es ≡ true
front_found n test es turn bytes after e =
    found_above n test es bytes (subst (λ (q : List ℕ). is_under q n ≡ true) (sym after.front) (take_under n (length n - turn))) e

-- the next is one shorter
pub front_next : (n : List ℕ) (test : ℕ → Bool) (es : List (List ℕ × List ℕ)) (turn : ℕ) (bytes shorter : List ℕ) → AfterFronts n test es turn bytes → turn < length n + 1 → shorter ≡ take (length bytes - 1) bytes → list_any test (numbers_at key_cmp bytes es) ≡ false → AfterFronts n test es (turn + 1) shorter
front_next n test es turn bytes shorter after lt pop none = record {
  front = pop ∙ ap (λ (q : List ℕ). take (length q - 1) q) after.front ∙ shortened n (length n - turn) (length n - (turn + 1)) (omega arith) (omega arith);
  none = λ j l m. elim (cases_order (j + turn) (length n)) [
    | inl e ↦ subst (λ (q : List ℕ). list_any test (numbers_at key_cmp q es) ≡ false) (after.front ∙ ap (λ (i : ℕ). take i n) (omega (arith, e))) none
    | inr o ↦ elim o [
      | inl less ↦ absurd (omega (arith, l, less))
      | inr more ↦ after.none j more m
    ]
  ];
}
  where
    shortened : (n : List ℕ) (i j : ℕ) → i ≤ length n → j ≡ i - 1 → take (length (take i n) - 1) (take i n) ≡ take j n
    shortened n i j le e =
        ap (λ (k : ℕ). take (k - 1) (take i n)) (front_length n i le) ∙ front_of_front n (i - 1) i (omega arith) ∙ ap (λ (k : ℕ). take k n) (sym e)

pub all_fronts : (n : List ℕ) (test : ℕ → Bool) (es : List (List ℕ × List ℕ)) (turn : ℕ) (bytes : List ℕ) → AfterFronts n test es turn bytes → length n + 1 ≤ turn → IsStrictlySortedBy key_cmp (keys_of es) → list_any (passes_above n test) es ≡ false
all_fronts n test es turn bytes after le s =
    none_above n test es s (λ q u.
    let front = under_take q n u in
    subst (λ (p : List ℕ). list_any test (numbers_at key_cmp p es) ≡ false) (sym front.0) (after.none (length q) (omega arith) front.1))

-- a number passes on one side or the other
pub beside : (n : List ℕ) (test : ℕ → Bool) (es : List (List ℕ × List ℕ)) → list_any (passes_beside n test) es ≡ (list_any (passes_below n test) es || list_any (passes_above n test) es)
beside n test [] = refl
beside n test (e ∷ es) = go (is_under n e.0) (is_under e.0 n) (list_any test e.1) (list_any (passes_below n test) es) (list_any (passes_above n test) es) (beside n test es)
  where
    go : (a b c p q : Bool) → list_any (passes_beside n test) es ≡ (p || q) → (((a || b) && c) || list_any (passes_beside n test) es) ≡ (((a && c) || p) || ((b && c) || q))
    go a b c p q h = rw h (cases a b c p q)
      where
        cases : (a b c p q : Bool) → (((a || b) && c) || (p || q)) ≡ (((a && c) || p) || ((b && c) || q))
        cases true b true p q = refl
        cases false true true true q = refl
        cases false true true false q = refl
        cases false false c p q = refl
        cases true true false p q = refl
        cases true false false p q = refl
        cases false true false p q = refl
