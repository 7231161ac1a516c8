-- A holder's hold by its number, and what raises and lowers its count there.
use Rattle.std.proofs.Common.{◌≡◌, zero, suc, length, take, ℕ, ◌+◌, ◌-◌, ◌≤◌, Bool, true, false, ◌&&◌, ◌||◌, cond, eqb, List, [], ◌∷◌, ◌++◌, Some, None, refl, sym, ◌∙◌, ap, subst, arith}
use Rattle.std.specs.List.{AllByRecursion, filter, find, list_any, sum_by}
use Rattle.std.specs.Map.{keys_of, values_of, remove_entry, set_value}
use Rattle.std.specs.Option.{is_some}
use Rattle.std.specs.BTreeMap.{is_at}
use Rattle.std.specs.Ordering.{is_eq, nat_cmp}
use Rattle.std.specs.declared.cmp.Ordering.TheVariants.{Less}
use Rattle.std.proofs.lemmas.Bool.{false≢true}
use Rattle.std.proofs.lemmas.List.Sums.{sum_by-cons}
use Rattle.plain_orders.specs.declared.mode.Mode.{Mode}
use Rattle.plain_orders.specs.declared.mode.Mode.TheVariants.{Exclusive, Shared}
use Rattle.subscript_keys.proofs.Orders.{nat_cmp-eq}
use Rattle.lock_index.specs.IndexWords.{row_at, numbers_of, AreRising}
use Rattle.lock_index.proofs.RowLemmas.{behind, same_number, rising_head, rising_tail, all_filtered, first_number}
use Rattle.lock_table.specs.declared.rows.Hold.{Hold}
use Rattle.lock_table.specs.declared.rows.Who.{Who}
use Rattle.lock_table.specs.LockWords.{is_same_who, is_same_name, is_same_mode, is_lane, raised, lowered}
use Rattle.lock_table.specs.Counts.{held_count, count_in, is_of_holder}
use Rattle.lock_table.specs.HoldIndex.{is_named, row_weight, weight_at}

number_behind : (test : Hold → Bool) (m n : ℕ) (rows : List (ℕ × Hold)) → AllByRecursion (λ y. nat_cmp m y ≡ Less) (keys_of rows) → first_number test rows ≡ Some n → nat_cmp m n ≡ Less
number_behind test m n [] all e = cc
number_behind test m n (r ∷ rows) all e = go (test r.1) (number_behind test m n rows all.1) e
  where
    go : (b : Bool) → (first_number test rows ≡ Some n → nat_cmp m n ≡ Less) → cond b (Some r.0) (first_number test rows) ≡ Some n → nat_cmp m n ≡ Less
    go true rest e =
        let same : r.0 ≡ n = cc in
        subst (λ (k : ℕ). nat_cmp m k ≡ Less) same all.0
    go false rest e = rest e

-- the first number is that of a hold that passes
pub first_there : (test : Hold → Bool) (n : ℕ) (rows : List (ℕ × Hold)) → AreRising rows → first_number test rows ≡ Some n → (h : Hold) × (row_at rows n ≡ Some h) × (test h ≡ true)
first_there test n [] s e = cc
first_there test n (r ∷ rows) s e = go (test r.1) refl (first_there test n rows (rising_tail r rows s)) e
  where
    go : (b : Bool) → test r.1 ≡ b → (first_number test rows ≡ Some n → (h : Hold) × (row_at rows n ≡ Some h) × (test h ≡ true)) → cond b (Some r.0) (first_number test rows) ≡ Some n → (h : Hold) × (row_at (r ∷ rows) n ≡ Some h) × (test h ≡ true)
    go true t rest e =
        let same : n ≡ r.0 = cc in
        (r.1, ap (λ o. cond (is_eq o) (Some r.1) (row_at rows n)) (nat_cmp-eq n r.0 same), t)
    go false t rest e =
        let found = rest e in
        (found.0, ap (λ (b : Bool). cond b (Some r.1) (row_at rows n)) (behind r.0 n (number_behind test r.0 n rows (rising_head r rows s) e)) ∙ found.1, found.2)

some_same : (x y : Hold) → Some x ≡ Some y → x ≡ y
some_same x y e = cc

pub first_passes : (test : Hold → Bool) (n : ℕ) (rows : List (ℕ × Hold)) (h : Hold) → AreRising rows → first_number test rows ≡ Some n → row_at rows n ≡ Some h → test h ≡ true
first_passes test n rows h s e there =
    let found = first_there test n rows s e in
    subst (λ (g : Hold). test g ≡ true) (some_same found.0 h (sym found.1 ∙ there)) found.2

none_some : (h : Hold) → None ≡ Some h → ⊥
none_some h e = cc

-- it has a hold
pub first_not_none : (test : Hold → Bool) (n : ℕ) (rows : List (ℕ × Hold)) → AreRising rows → first_number test rows ≡ Some n → row_at rows n ≡ None → ⊥
first_not_none test n rows s e none =
    let found = first_there test n rows s e in
    none_some found.0 (sym none ∙ found.1)

module _ (who : Who) (name : List ℕ) (mode : Mode) (n : ℕ) where
  module _ (more at : ℕ) where
    -- a hold that is there is raised at its number
    pub raised_row : (rows : List (ℕ × Hold)) (h : Hold) → AreRising rows → first_number (is_lane who name mode) rows ≡ Some n → row_at rows n ≡ Some h → raised who name mode more at (values_of rows) ≡ values_of (set_value (is_at (nat_cmp n)) rows (record h { count = h.count + more }))
    raised_row [] h s e there = cc
    raised_row (r ∷ rows) h s e there = go (is_lane who name mode r.1) (raised_row rows h (rising_tail r rows s)) e
      where
        go : (b : Bool) → (first_number (is_lane who name mode) rows ≡ Some n → row_at rows n ≡ Some h → raised who name mode more at (values_of rows) ≡ values_of (set_value (is_at (nat_cmp n)) rows (record h { count = h.count + more }))) → cond b (Some r.0) (first_number (is_lane who name mode) rows) ≡ Some n → cond b (record r.1 { count = r.1.count + more } ∷ values_of rows) (r.1 ∷ raised who name mode more at (values_of rows)) ≡ values_of (set_value (is_at (nat_cmp n)) (r ∷ rows) (record h { count = h.count + more }))
        go true rest e =
            let same : n ≡ r.0 = cc in
            let here : is_eq (nat_cmp n r.0) ≡ true = ap is_eq (nat_cmp-eq n r.0 same) in
            let it : r.1 ≡ h = some_same r.1 h (ap (λ (b : Bool). cond b (Some r.1) (row_at rows n)) (sym here) ∙ there) in
            rw here (ap (λ (g : Hold). record g { count = g.count + more } ∷ values_of rows) it)
        go false rest e =
            let apart : is_eq (nat_cmp n r.0) ≡ false = behind r.0 n (number_behind (is_lane who name mode) r.0 n rows (rising_head r rows s) e) in
            let below : row_at rows n ≡ Some h = ap (λ (b : Bool). cond b (Some r.1) (row_at rows n)) (sym apart) ∙ there in
            rw apart (ap (λ (hs : List Hold). r.1 ∷ hs) (rest e below))

  -- a hold that is there is lowered at its number, or goes
  pub lowered_row : (rows : List (ℕ × Hold)) (h : Hold) → AreRising rows → first_number (is_lane who name mode) rows ≡ Some n → row_at rows n ≡ Some h → lowered who name mode (values_of rows) ≡ cond (eqb h.count 1) (values_of (remove_entry (is_at (nat_cmp n)) rows)) (values_of (set_value (is_at (nat_cmp n)) rows (record h { count = h.count - 1 })))
  lowered_row [] h s e there = cc
  lowered_row (r ∷ rows) h s e there = go (is_lane who name mode r.1) (lowered_row rows h (rising_tail r rows s)) e
    where
      further : (b : Bool) (x y : List Hold) (z : List Hold) → z ≡ cond b x y → r.1 ∷ z ≡ cond b (r.1 ∷ x) (r.1 ∷ y)
      further true x y z e = ap (λ (hs : List Hold). r.1 ∷ hs) e
      further false x y z e = ap (λ (hs : List Hold). r.1 ∷ hs) e

      go : (b : Bool) → (first_number (is_lane who name mode) rows ≡ Some n → row_at rows n ≡ Some h → lowered who name mode (values_of rows) ≡ cond (eqb h.count 1) (values_of (remove_entry (is_at (nat_cmp n)) rows)) (values_of (set_value (is_at (nat_cmp n)) rows (record h { count = h.count - 1 })))) → cond b (Some r.0) (first_number (is_lane who name mode) rows) ≡ Some n → cond b (cond (eqb r.1.count 1) (values_of rows) (record r.1 { count = r.1.count - 1 } ∷ values_of rows)) (r.1 ∷ lowered who name mode (values_of rows)) ≡ cond (eqb h.count 1) (values_of (remove_entry (is_at (nat_cmp n)) (r ∷ rows))) (values_of (set_value (is_at (nat_cmp n)) (r ∷ rows) (record h { count = h.count - 1 })))
      go true rest e =
          let same : n ≡ r.0 = cc in
          let here : is_eq (nat_cmp n r.0) ≡ true = ap is_eq (nat_cmp-eq n r.0 same) in
          let it : r.1 ≡ h = some_same r.1 h (ap (λ (b : Bool). cond b (Some r.1) (row_at rows n)) (sym here) ∙ there) in
          rw here (ap (λ (g : Hold). cond (eqb g.count 1) (values_of rows) (record g { count = g.count - 1 } ∷ values_of rows)) it)
      go false rest e =
          let apart : is_eq (nat_cmp n r.0) ≡ false = behind r.0 n (number_behind (is_lane who name mode) r.0 n rows (rising_head r rows s) e) in
          let below : row_at rows n ≡ Some h = ap (λ (b : Bool). cond b (Some r.1) (row_at rows n)) (sym apart) ∙ there in
          rw apart (further (eqb h.count 1) _ _ _ (rest e below))

  -- a hold counts in all that its holder has of its name and mode
  pub count_there : (rows : List (ℕ × Hold)) (h : Hold) → row_at rows n ≡ Some h → is_lane who name mode h ≡ true → h.count ≤ held_count who name mode (values_of rows)
  count_there [] h there lane = cc
  count_there (r ∷ rows) h there lane = go (is_eq (nat_cmp n r.0)) (count_there rows h) there
    where
      go : (b : Bool) → (row_at rows n ≡ Some h → is_lane who name mode h ≡ true → h.count ≤ held_count who name mode (values_of rows)) → cond b (Some r.1) (row_at rows n) ≡ Some h → h.count ≤ held_count who name mode (r.1 ∷ values_of rows)
      go true rest there =
          let it : r.1 ≡ h = some_same r.1 h there in
          let own : is_lane who name mode r.1 ≡ true = subst (λ (g : Hold). is_lane who name mode g ≡ true) (sym it) lane in
          subst (λ (g : Hold). g.count ≤ held_count who name mode (r.1 ∷ values_of rows)) it (rw (sum_by-cons (count_in who name mode) r.1 (values_of rows), own) (omega arith))
      go false rest there = rw (sum_by-cons (count_in who name mode) r.1 (values_of rows)) (omega (arith, rest there lane))

module _ (who : Who) (name : List ℕ) (mode : Mode) where
  -- a holder that has none gets a hold behind the others
  pub raised_new : (more at : ℕ) (rows : List (ℕ × Hold)) → first_number (is_lane who name mode) rows ≡ None → raised who name mode more at (values_of rows) ≡ values_of rows ++ record { who = who; name = name; mode = mode; count = more; at = at } ∷ []
  raised_new more at [] e = refl
  raised_new more at (r ∷ rows) e = go (is_lane who name mode r.1) (raised_new more at rows) e
    where
      go : (b : Bool) → (first_number (is_lane who name mode) rows ≡ None → raised who name mode more at (values_of rows) ≡ values_of rows ++ record { who = who; name = name; mode = mode; count = more; at = at } ∷ []) → cond b (Some r.0) (first_number (is_lane who name mode) rows) ≡ None → cond b (record r.1 { count = r.1.count + more } ∷ values_of rows) (r.1 ∷ raised who name mode more at (values_of rows)) ≡ r.1 ∷ values_of rows ++ record { who = who; name = name; mode = mode; count = more; at = at } ∷ []
      go true rest e = cc
      go false rest e = ap (λ (hs : List Hold). r.1 ∷ hs) (rest e)

  -- where a holder has none nothing is lowered
  pub lowered_none : (rows : List (ℕ × Hold)) → first_number (is_lane who name mode) rows ≡ None → lowered who name mode (values_of rows) ≡ values_of rows
  lowered_none [] e = refl
  lowered_none (r ∷ rows) e = go (is_lane who name mode r.1) (lowered_none rows) e
    where
      go : (b : Bool) → (first_number (is_lane who name mode) rows ≡ None → lowered who name mode (values_of rows) ≡ values_of rows) → cond b (Some r.0) (first_number (is_lane who name mode) rows) ≡ None → cond b (cond (eqb r.1.count 1) (values_of rows) (record r.1 { count = r.1.count - 1 } ∷ values_of rows)) (r.1 ∷ lowered who name mode (values_of rows)) ≡ r.1 ∷ values_of rows
      go true rest e = cc
      go false rest e = ap (λ (hs : List Hold). r.1 ∷ hs) (rest e)

  -- a hold of a lane has its name
  pub lane_named : (h : Hold) → is_lane who name mode h ≡ true → is_named name h ≡ true
  lane_named h e = go (is_same_who who h.who) (is_same_name name h.name) (is_same_mode mode h.mode) e
    where
      go : (a b c : Bool) → (a && b && c) ≡ true → b ≡ true
      go true true c e = refl
      go true false c e = e
      go false b c e = absurd (false≢true e)

-- the first number tells whether one passes
pub some_number : (test : Hold → Bool) (rows : List (ℕ × Hold)) → is_some (first_number test rows) ≡ list_any test (values_of rows)
some_number test [] = refl
some_number test (r ∷ rows) = go (test r.1) (some_number test rows)
  where
    go : (b : Bool) → is_some (first_number test rows) ≡ list_any test (values_of rows) → is_some (cond b (Some r.0) (first_number test rows)) ≡ (b || list_any test (values_of rows))
    go true h = refl
    go false h = h

-- a holder has a name where it has it in one of the modes
pub in_either_mode : (who : Who) (name : List ℕ) (hs : List Hold) → list_any (is_of_holder who name) hs ≡ (list_any (is_lane who name Exclusive) hs || list_any (is_lane who name Shared) hs)
in_either_mode who name [] = refl
in_either_mode who name (h ∷ hs) =
    ap (λ (b : Bool). is_of_holder who name h || b) (in_either_mode who name hs) ∙ go (is_of_holder who name h) h.mode (list_any (is_lane who name Exclusive) hs) (list_any (is_lane who name Shared) hs)
  where
    go : (a : Bool) (m : Mode) (p q : Bool) → (a || (p || q)) ≡ (((a && is_same_mode Exclusive m) || p) || ((a && is_same_mode Shared m) || q))
    go true Exclusive p q = refl
    go true Shared true q = refl
    go true Shared false q = refl
    go false m p q = refl

weight_past : (weight : Hold → ℕ) (r : ℕ × Hold) (rows : List (ℕ × Hold)) (ns : List ℕ) → AllByRecursion (λ y. nat_cmp r.0 y ≡ Less) ns → sum_by (weight_at weight (r ∷ rows)) ns ≡ sum_by (weight_at weight rows) ns
weight_past weight r rows [] all = refl
weight_past weight r rows (n ∷ ns) all =
    sum_by-cons (weight_at weight (r ∷ rows)) n ns
    ∙ ap (λ (b : Bool). row_weight weight (cond b (Some r.1) (row_at rows n)) + sum_by (weight_at weight (r ∷ rows)) ns) (behind r.0 n all.0)
    ∙ ap (λ (k : ℕ). weight_at weight rows n + k) (weight_past weight r rows ns all.1)
    ∙ sym (sum_by-cons (weight_at weight rows) n ns)

-- a sum by the numbers of a name is that over all holds, where only holds of the name weigh
pub sum_numbered : (of_name : Hold → Bool) (weight : Hold → ℕ) → ((h : Hold) → of_name h ≡ false → weight h ≡ 0) → (rows : List (ℕ × Hold)) → AreRising rows → sum_by (weight_at weight rows) (numbers_of of_name rows) ≡ sum_by weight (values_of rows)
sum_numbered of_name weight none [] s = refl
sum_numbered of_name weight none (r ∷ rows) s =
    go (of_name r.1) refl (weight_past weight r rows (numbers_of of_name rows) (all_filtered (λ y. nat_cmp r.0 y ≡ Less) (λ (e : ℕ × Hold). of_name e.1) rows (rising_head r rows s)) ∙ sum_numbered of_name weight none rows (rising_tail r rows s)) ∙ sym (sum_by-cons weight r.1 (values_of rows))
  where
    go : (b : Bool) → of_name r.1 ≡ b → sum_by (weight_at weight (r ∷ rows)) (numbers_of of_name rows) ≡ sum_by weight (values_of rows) → sum_by (weight_at weight (r ∷ rows)) (keys_of (cond b (r ∷ filter (λ (e : ℕ × Hold). of_name e.1) rows) (filter (λ (e : ℕ × Hold). of_name e.1) rows))) ≡ weight r.1 + sum_by weight (values_of rows)
    go true o h =
        sum_by-cons (weight_at weight (r ∷ rows)) r.0 (numbers_of of_name rows)
        ∙ ap (λ (b : Bool). row_weight weight (cond b (Some r.1) (row_at rows r.0)) + sum_by (weight_at weight (r ∷ rows)) (numbers_of of_name rows)) (same_number r.0)
        ∙ ap (λ (k : ℕ). weight r.1 + k) h
    go false o h = h ∙ sym (ap (λ (k : ℕ). k + sum_by weight (values_of rows)) (none r.1 o) ∙ zero_more (sum_by weight (values_of rows)))
      where
        zero_more : (k : ℕ) → 0 + k ≡ k
        zero_more k = omega arith

-- where none passes none is found
pub none_passes : (test : Hold → Bool) (hs : List Hold) → list_any test hs ≡ false → find test hs ≡ None
none_passes test [] e = refl
none_passes test (h ∷ hs) e = go (test h) (none_passes test hs) e
  where
    go : (b : Bool) → (list_any test hs ≡ false → find test hs ≡ None) → (b || list_any test hs) ≡ false → cond b (Some h) (find test hs) ≡ None
    go true rest e = absurd (false≢true (sym e))
    go false rest e = rest e

-- where none is found none passes
pub none_found : (p : Hold → Bool) (hs : List Hold) → find p hs ≡ None → list_any p hs ≡ false
none_found p [] e = refl
none_found p (h ∷ hs) e = cases (p h) (none_found p hs) e
  where
    cases : (b : Bool) → (find p hs ≡ None → list_any p hs ≡ false) → cond b (Some h) (find p hs) ≡ None → (b || list_any p hs) ≡ false
    cases true rest e = cc
    cases false rest e = rest e

-- a hold of another name weighs nothing in a lane
pub other_name : (who : Who) (name : List ℕ) (mode : Mode) (h : Hold) → is_named name h ≡ false → count_in who name mode h ≡ 0
other_name who name mode h e = go (is_lane who name mode h) refl
  where
    go : (b : Bool) → is_lane who name mode h ≡ b → cond b h.count 0 ≡ 0
    go true lane = absurd (false≢true (sym e ∙ lane_named who name mode h lane))
    go false lane = refl

-- so many are all
pub take_all : (k : ℕ) (ns : List ℕ) → length ns ≤ k → take k ns ≡ ns
take_all zero [] le = refl
take_all (suc k) [] le = refl
take_all zero (n ∷ ns) le = absurd (omega arith)
take_all (suc k) (n ∷ ns) le = ap (λ (ms : List ℕ). n ∷ ms) (take_all k ns (omega arith))
