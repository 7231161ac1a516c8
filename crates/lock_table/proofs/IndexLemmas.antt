-- The index by names, and what each change leaves of it.
use Rattle.std.proofs.Common.{◌≡◌, ℕ, ◌+◌, ◌<◌, Bool, true, false, ◌&&◌, ◌||◌, not, cond, List, [], ◌∷◌, ◌++◌, Option, Some, refl, sym, ◌∙◌, ap, subst}
use Rattle.std.specs.List.{AllByRecursion, filter, find, list_any}
use Rattle.std.specs.List.Sorted.{IsStrictlySortedBy}
use Rattle.std.specs.Map.{keys_of, values_of, remove_entry, set_value}
use Rattle.std.specs.BTreeMap.{is_at}
use Rattle.std.specs.Ordering.{is_eq, nat_cmp}
use Rattle.std.proofs.lemmas.Bool.{and_parts, false≢true}
use Rattle.std.proofs.lemmas.Map.{keys-set_value}
use Rattle.plain_orders.specs.PairMap.{key_cmp}
use Rattle.plain_orders.specs.Conflict.{modes_conflict, names_overlap, is_conflict}
use Rattle.plain_orders.specs.declared.mode.Mode.{Mode}
use Rattle.lock_index.specs.IndexWords.{numbers_at, PutsAt, KeepsRows, is_other, has_row, row_at, numbers_of, AreRising, IsNumberedBelow, passes_at, passes_beside}
use Rattle.lock_index.proofs.RowLemmas.{rising_pushed, below_pushed, numbers_pushed, all_filtered, sorted_filtered, kept_numbers, removed_number, removed_elsewhere, set_numbers, any_numbered, any_row, find_numbered, first_number}
use Rattle.lock_index.proofs.NameLemmas.{same_names, level_name, found_beside}
use Rattle.lock_table.specs.declared.rows.Hold.{Hold}
use Rattle.lock_table.specs.declared.rows.Who.{Who}
use Rattle.lock_table.specs.LockWords.{is_same_who, is_same_name, is_lane, is_barred, is_hold_elsewhere}
use Rattle.lock_table.specs.HoldIndex.{is_named, IsNameIndex}
use Rattle.lock_table.proofs.CountLemmas.{names_same, name_itself}
use Rattle.lock_table.proofs.HoldLemmas.{lane_named}

no_more : (ns : List ℕ) → ns ++ [] ≡ ns
no_more [] = refl
no_more (n ∷ ns) = ap (λ (ms : List ℕ). n ∷ ms) (no_more ns)

-- the order of names tells them apart
tells_names : (a q : List ℕ) → is_eq (key_cmp a q) ≡ is_same_name q a
tells_names a q = go (is_eq (key_cmp a q)) (is_same_name q a) refl refl
  where
    go : (b c : Bool) → is_eq (key_cmp a q) ≡ b → is_same_name q a ≡ c → b ≡ c
    go true true e f = refl
    go true false e f = absurd (false≢true (sym f ∙ ap (λ (n : List ℕ). is_same_name n a) (sym (same_names a q e)) ∙ name_itself a))
    go false true e f = absurd (false≢true (sym e ∙ ap (λ (n : List ℕ). is_eq (key_cmp a n)) (names_same q a f) ∙ level_name a))
    go false false e f = refl

-- one more hold
pub name_pushed : (next : ℕ) (names new : List (List ℕ × List ℕ)) (rows : List (ℕ × Hold)) (h : Hold) → IsNameIndex next names rows → PutsAt key_cmp h.name (numbers_at key_cmp h.name names ++ next ∷ []) names new → IsNameIndex (next + 1) new (rows ++ (next, h) ∷ [])
name_pushed next names new rows h is puts = record {
  rising = rising_pushed next h rows is.rising is.below;
  below = below_pushed next h rows is.below;
  named = λ q.
      puts q
      ∙ ap (λ (b : Bool). cond b (numbers_at key_cmp h.name names ++ next ∷ []) (numbers_at key_cmp q names)) (tells_names h.name q)
      ∙ go q (is_named q h) refl
      ∙ sym (numbers_pushed (is_named q) rows next h);
}
  where
    go : (q : List ℕ) (b : Bool) → is_named q h ≡ b → cond b (numbers_at key_cmp h.name names ++ next ∷ []) (numbers_at key_cmp q names) ≡ numbers_of (is_named q) rows ++ cond b (next ∷ []) []
    go q true e = ap (λ (m : List ℕ). numbers_at key_cmp m names ++ next ∷ []) (sym (names_same q h.name e)) ∙ ap (λ (ns : List ℕ). ns ++ next ∷ []) (is.named q)
    go q false e = is.named q ∙ sym (no_more (numbers_of (is_named q) rows))

-- a hold is changed in place, and keeps its name
pub name_changed : (next n : ℕ) (names : List (List ℕ × List ℕ)) (rows : List (ℕ × Hold)) (h g : Hold) → IsNameIndex next names rows → row_at rows n ≡ Some h → g.name ≡ h.name → IsNameIndex next names (set_value (is_at (nat_cmp n)) rows g)
name_changed next n names rows h g is there same = record {
  rising = subst (IsStrictlySortedBy nat_cmp) (sym (keys-set_value (is_at (nat_cmp n)) rows g)) is.rising;
  below = subst (AllByRecursion (λ (k : ℕ). k < next)) (sym (keys-set_value (is_at (nat_cmp n)) rows g)) is.below;
  named = λ q. is.named q ∙ sym (set_numbers (is_named q) n rows h g there (ap (is_same_name q) same));
}

all_removed : (P : ℕ → Type 0) (n : ℕ) (rows : List (ℕ × Hold)) → AllByRecursion P (keys_of rows) → AllByRecursion P (keys_of (remove_entry (is_at (nat_cmp n)) rows))
all_removed P n [] all = tt
all_removed P n (r ∷ rows) all = go (is_eq (nat_cmp n r.0)) (all_removed P n rows all.1)
  where
    go : (b : Bool) → AllByRecursion P (keys_of (remove_entry (is_at (nat_cmp n)) rows)) → AllByRecursion P (keys_of (cond b rows (r ∷ remove_entry (is_at (nat_cmp n)) rows)))
    go true rest = all.1
    go false rest = (all.0, rest)

-- a hold goes
pub name_removed : (next n : ℕ) (names new : List (List ℕ × List ℕ)) (rows : List (ℕ × Hold)) (h : Hold) (name : List ℕ) → IsNameIndex next names rows → row_at rows n ≡ Some h → is_named name h ≡ true → AreRising (remove_entry (is_at (nat_cmp n)) rows) → PutsAt key_cmp name (filter (is_other n) (numbers_at key_cmp name names)) names new → IsNameIndex next new (remove_entry (is_at (nat_cmp n)) rows)
name_removed next n names new rows h name is there own rising puts = record {
  rising = rising;
  below = all_removed (λ (k : ℕ). k < next) n rows is.below;
  named = λ q. puts q ∙ go q (is_eq (key_cmp name q)) refl;
}
  where
    go : (q : List ℕ) (b : Bool) → is_eq (key_cmp name q) ≡ b → cond b (filter (is_other n) (numbers_at key_cmp name names)) (numbers_at key_cmp q names) ≡ numbers_of (is_named q) (remove_entry (is_at (nat_cmp n)) rows)
    go q true e =
        ap (λ (m : List ℕ). filter (is_other n) (numbers_at key_cmp m names)) (same_names name q e)
        ∙ ap (filter (is_other n)) (is.named q)
        ∙ sym (removed_number (is_named q) n rows is.rising)
    go q false e =
        is.named q ∙ sym (removed_elsewhere (is_named q) n rows h there (apart (is_named q h) refl))
      where
        apart : (c : Bool) → is_named q h ≡ c → c ≡ false
        apart false f = refl
        apart true f =
            let same : name ≡ q = names_same name h.name own ∙ sym (names_same q h.name f) in
            absurd (false≢true (sym e ∙ ap (λ (m : List ℕ). is_eq (key_cmp m q)) same ∙ level_name q))

-- the holds of a session go
pub name_kept : (session next : ℕ) (names new : List (List ℕ × List ℕ)) (rows left : List (ℕ × Hold)) → IsNameIndex next names rows → left ≡ filter (λ (e : ℕ × Hold). is_hold_elsewhere session e.1) rows → KeepsRows key_cmp left names new → IsNameIndex next new left
name_kept session next names new rows left is e keeps = record {
  rising = subst AreRising (sym e) (sorted_filtered nat_cmp (λ (r : ℕ × Hold). is_hold_elsewhere session r.1) rows is.rising);
  below = subst (IsNumberedBelow next) (sym e) (all_filtered (λ (n : ℕ). n < next) (λ (r : ℕ × Hold). is_hold_elsewhere session r.1) rows is.below);
  named = λ q.
      keeps q
      ∙ ap (filter (has_row left)) (is.named q)
      ∙ subst (λ (rs : List (ℕ × Hold)). filter (has_row rs) (numbers_of (is_named q) rows) ≡ numbers_of (is_named q) rs) (sym e) (sym (kept_numbers (is_named q) (is_hold_elsewhere session) rows is.rising));
}

-- a holder's hold is found by the numbers at its name
pub lane_found : (who : Who) (name : List ℕ) (mode : Mode) (next : ℕ) (names : List (List ℕ × List ℕ)) (rows : List (ℕ × Hold)) → IsNameIndex next names rows → find (passes_at (is_lane who name mode) rows) (numbers_at key_cmp name names) ≡ first_number (is_lane who name mode) rows
lane_found who name mode next names rows is =
    ap (find (passes_at (is_lane who name mode) rows)) (is.named name) ∙ find_numbered (is_named name) (is_lane who name mode) (lane_named who name mode) rows is.rising

-- a hold that passes, of any name that it has
record Witness (test : Hold → Bool) (hs : List Hold) : Type 0 where
  hold : Hold
  passes : test hold ≡ true
  named : list_any (λ (h : Hold). is_named hold.name h && test h) hs ≡ true

witness : (test : Hold → Bool) (hs : List Hold) → list_any test hs ≡ true → Witness test hs
witness test [] e = absurd (false≢true e)
witness test (h ∷ hs) e = go (test h) refl (witness test hs) e
  where
    either : (a b : Bool) → b ≡ true → (a || b) ≡ true
    either true b h = refl
    either false b h = h

    go : (b : Bool) → test h ≡ b → (list_any test hs ≡ true → Witness test hs) → (b || list_any test hs) ≡ true → Witness test (h ∷ hs)
    go true t rest e = record { hold = h; passes = t; named = rw (name_itself h.name, t) refl }
    go false t rest e =
        let w = rest e in
        record { hold = w.hold; passes = w.passes; named = either (is_named w.hold.name h && test h) (list_any (λ (g : Hold). is_named w.hold.name g && test g) hs) w.named }

-- a number that passes shows a hold that does
found_row : (n : List ℕ) (test : Hold → Bool) (rows : List (ℕ × Hold)) (es : List (List ℕ × List ℕ)) → list_any (passes_beside n (passes_at test rows)) es ≡ true → list_any test (values_of rows) ≡ true
found_row n test rows [] e = absurd (false≢true e)
found_row n test rows (d ∷ es) e = go (names_overlap n d.0) (list_any (passes_at test rows) d.1) refl (found_row n test rows es) e
  where
    by_number : (ns : List ℕ) → list_any (passes_at test rows) ns ≡ true → list_any test (values_of rows) ≡ true
    by_number [] h = absurd (false≢true h)
    by_number (m ∷ ns) h = first (passes_at test rows m) refl (by_number ns) h
      where
        first : (b : Bool) → passes_at test rows m ≡ b → (list_any (passes_at test rows) ns ≡ true → list_any test (values_of rows) ≡ true) → (b || list_any (passes_at test rows) ns) ≡ true → list_any test (values_of rows) ≡ true
        first true p rest h = any_row test rows m p
        first false p rest h = rest h

    go : (a b : Bool) → list_any (passes_at test rows) d.1 ≡ b → (list_any (passes_beside n (passes_at test rows)) es ≡ true → list_any test (values_of rows) ≡ true) → ((a && b) || list_any (passes_beside n (passes_at test rows)) es) ≡ true → list_any test (values_of rows) ≡ true
    go true true p rest e = by_number d.1 p
    go true false p rest e = rest e
    go false b p rest e = rest e

barred_overlaps : (who : Who) (name : List ℕ) (mode : Mode) (h : Hold) → is_barred who name mode h ≡ true → names_overlap name h.name ≡ true
barred_overlaps who name mode h e =
    let p = and_parts (not (is_same_who who h.who)) (is_conflict mode name h.mode h.name) e in
    (and_parts (modes_conflict mode h.mode) (names_overlap name h.name) p.1).1

-- a hold bars a name where one does whose number stands at a name that overlaps it
pub bars_beside : (who : Who) (name : List ℕ) (mode : Mode) (next : ℕ) (names : List (List ℕ × List ℕ)) (rows : List (ℕ × Hold)) → IsNameIndex next names rows → list_any (passes_beside name (passes_at (is_barred who name mode) rows)) names ≡ list_any (is_barred who name mode) (values_of rows)
bars_beside who name mode next names rows is = go (list_any (passes_beside name (passes_at (is_barred who name mode) rows)) names) (list_any (is_barred who name mode) (values_of rows)) refl refl
  where
    go : (a b : Bool) → list_any (passes_beside name (passes_at (is_barred who name mode) rows)) names ≡ a → list_any (is_barred who name mode) (values_of rows) ≡ b → a ≡ b
    go true true e f = refl
    go true false e f = absurd (false≢true (sym f ∙ found_row name (is_barred who name mode) rows names e))
    go false true e f =
        let w = witness (is_barred who name mode) (values_of rows) f in
        let there : list_any (passes_at (is_barred who name mode) rows) (numbers_at key_cmp w.hold.name names) ≡ true =
        ap (list_any (passes_at (is_barred who name mode) rows)) (is.named w.hold.name) ∙ any_numbered (is_named w.hold.name) (is_barred who name mode) rows is.rising ∙ w.named in
        absurd (false≢true (sym e ∙ found_beside name (passes_at (is_barred who name mode) rows) names w.hold.name (barred_overlaps who name mode w.hold w.passes) there))
    go false false e f = refl

-- what a search by the numbers at a name finds
pub lane_is : (who : Who) (name : List ℕ) (mode : Mode) (next : ℕ) (names : List (List ℕ × List ℕ)) (rows : List (ℕ × Hold)) (numbers : List ℕ) (o : Option ℕ) → IsNameIndex next names rows → numbers ≡ numbers_at key_cmp name names → find (passes_at (is_lane who name mode) rows) numbers ≡ o → first_number (is_lane who name mode) rows ≡ o
lane_is who name mode next names rows numbers o is e found =
    sym (lane_found who name mode next names rows is) ∙ ap (find (passes_at (is_lane who name mode) rows)) (sym e) ∙ found
