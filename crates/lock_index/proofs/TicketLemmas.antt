-- Rows with tickets, and what each change leaves of their index.
use Rattle.std.proofs.Common.{◌≡◌, ℕ, ◌+◌, ◌<◌, Bool, true, false, not, ◌&&◌, eqb, cond, List, [], ◌∷◌, ◌++◌, refl, sym, ◌∙◌, ap, subst}
use Rattle.std.specs.List.{filter}
use Rattle.std.specs.Map.{keys_of, values_of}
use Rattle.std.specs.Ordering.{is_eq, nat_cmp, ordering_then}
use Rattle.std.specs.declared.cmp.Ordering.{Ordering}
use Rattle.std.specs.declared.cmp.Ordering.TheVariants.{Less, Equal, Greater}
use Rattle.std.proofs.lemmas.Bool.{eqb-true, eq-eqb, ne_eqb, and_parts, false≢true}
use Rattle.subscript_keys.proofs.Orders.{nat_cmp-eq}
use Rattle.lock_index.specs.IndexWords.{is_other, has_row, numbers_at, PutsAt, KeepsRows, without_rows, numbers_of, AreRising, IsNumberedBelow}
use Rattle.lock_index.specs.TicketWords.{ticket_cmp, has_ticket, has_other_ticket, is_elsewhere, IsTicketIndex}
use Rattle.lock_index.proofs.RowLemmas.{same_numbers, rising_pushed, below_pushed, numbers_pushed, all_filtered, sorted_filtered, without_numbered, values_filtered, kept_numbers, removed_number, removed_last, below_last, below_front}

-- the order of numbers tells them apart
pub tells_numbers : (a b : ℕ) → is_eq (nat_cmp a b) ≡ eqb a b
tells_numbers a b = go (is_eq (nat_cmp a b)) refl
  where
    go : (t : Bool) → is_eq (nat_cmp a b) ≡ t → t ≡ eqb a b
    go true e = sym (eq-eqb a b (same_numbers a b e))
    go false e = sym (ne_eqb a b (λ h. false≢true (sym e ∙ ap is_eq (nat_cmp-eq a b h))))

both_equal : (o p : Ordering) → is_eq (ordering_then o p) ≡ (is_eq o && is_eq p)
both_equal Less p = refl
both_equal Equal p = refl
both_equal Greater p = refl

-- and the order of tickets tickets
tells_tickets : (a b s t : ℕ) → is_eq (ticket_cmp (a, b) (s, t)) ≡ (eqb a s && eqb b t)
tells_tickets a b s t = both_equal (nat_cmp a s) (nat_cmp b t) ∙ ap (λ (x : Bool). x && is_eq (nat_cmp b t)) (tells_numbers a s) ∙ ap (λ (x : Bool). eqb a s && x) (tells_numbers b t)

no_more : (ns : List ℕ) → ns ++ [] ≡ ns
no_more [] = refl
no_more (n ∷ ns) = ap (λ (ms : List ℕ). n ∷ ms) (no_more ns)

module _ {T : Type 0} (session_of ticket_of : T → ℕ) where
  -- a row has its own ticket
  same_ticket : (x : T) (s t : ℕ) → has_ticket session_of ticket_of s t x ≡ true → (session_of x ≡ s) × (ticket_of x ≡ t)
  same_ticket x s t e =
      let p = and_parts (eqb (session_of x) s) (eqb (ticket_of x) t) e in
      (eqb-true (session_of x) s p.0, eqb-true (ticket_of x) t p.1)

  -- one more row
  pub ticket_pushed : (next : ℕ) (index new : List ((ℕ × ℕ) × List ℕ)) (rows : List (ℕ × T)) (x : T) → IsTicketIndex session_of ticket_of next index rows → PutsAt ticket_cmp (session_of x, ticket_of x) (numbers_at ticket_cmp (session_of x, ticket_of x) index ++ next ∷ []) index new → IsTicketIndex session_of ticket_of (next + 1) new (rows ++ (next, x) ∷ [])
  ticket_pushed next index new rows x is puts = record {
    rising = rising_pushed next x rows is.rising is.below;
    below = below_pushed next x rows is.below;
    tickets = λ s t.
        puts (s, t)
        ∙ ap (λ (b : Bool). cond b (numbers_at ticket_cmp (session_of x, ticket_of x) index ++ next ∷ []) (numbers_at ticket_cmp (s, t) index)) (tells_tickets (session_of x) (ticket_of x) s t)
        ∙ go s t (has_ticket session_of ticket_of s t x) refl
        ∙ sym (numbers_pushed (has_ticket session_of ticket_of s t) rows next x);
  }
    where
      go : (s t : ℕ) (b : Bool) → has_ticket session_of ticket_of s t x ≡ b → cond b (numbers_at ticket_cmp (session_of x, ticket_of x) index ++ next ∷ []) (numbers_at ticket_cmp (s, t) index) ≡ numbers_of (has_ticket session_of ticket_of s t) rows ++ cond b (next ∷ []) []
      go s t true e =
          let same = same_ticket x s t e in
          ap (λ (a : ℕ). numbers_at ticket_cmp (a, ticket_of x) index ++ next ∷ []) same.0
          ∙ ap (λ (b : ℕ). numbers_at ticket_cmp (s, b) index ++ next ∷ []) same.1
          ∙ ap (λ (ns : List ℕ). ns ++ next ∷ []) (is.tickets s t)
      go s t false e = is.tickets s t ∙ sym (no_more (numbers_of (has_ticket session_of ticket_of s t) rows))

  -- the last row goes
  pub ticket_popped : (next : ℕ) (index new : List ((ℕ × ℕ) × List ℕ)) (rows : List (ℕ × T)) (n : ℕ) (x : T) → IsTicketIndex session_of ticket_of next index (rows ++ (n, x) ∷ []) → AreRising rows → PutsAt ticket_cmp (session_of x, ticket_of x) (filter (is_other n) (numbers_at ticket_cmp (session_of x, ticket_of x) index)) index new → IsTicketIndex session_of ticket_of next new rows
  ticket_popped next index new rows n x is rising puts = record {
    rising = rising;
    below = below_front next n x rows is.below;
    tickets = λ s t.
        puts (s, t)
        ∙ ap (λ (b : Bool). cond b (filter (is_other n) (numbers_at ticket_cmp (session_of x, ticket_of x) index)) (numbers_at ticket_cmp (s, t) index)) (tells_tickets (session_of x) (ticket_of x) s t)
        ∙ go s t (has_ticket session_of ticket_of s t x) refl;
  }
    where
      go : (s t : ℕ) (b : Bool) → has_ticket session_of ticket_of s t x ≡ b → cond b (filter (is_other n) (numbers_at ticket_cmp (session_of x, ticket_of x) index)) (numbers_at ticket_cmp (s, t) index) ≡ numbers_of (has_ticket session_of ticket_of s t) rows
      go s t true e =
          let same = same_ticket x s t e in
          ap (λ (a : ℕ). filter (is_other n) (numbers_at ticket_cmp (a, ticket_of x) index)) same.0
          ∙ ap (λ (b : ℕ). filter (is_other n) (numbers_at ticket_cmp (s, b) index)) same.1
          ∙ ap (filter (is_other n)) (is.tickets s t)
          ∙ sym (removed_number (has_ticket session_of ticket_of s t) n (rows ++ (n, x) ∷ []) is.rising)
          ∙ ap (numbers_of (has_ticket session_of ticket_of s t)) (removed_last n x rows (below_last n x rows is.rising))
      go s t false e =
          is.tickets s t
          ∙ numbers_pushed (has_ticket session_of ticket_of s t) rows n x
          ∙ ap (λ (b : Bool). numbers_of (has_ticket session_of ticket_of s t) rows ++ cond b (n ∷ []) []) e
          ∙ no_more (numbers_of (has_ticket session_of ticket_of s t) rows)

  -- the rows of a session go
  pub ticket_kept : (session next : ℕ) (index new : List ((ℕ × ℕ) × List ℕ)) (rows left : List (ℕ × T)) → IsTicketIndex session_of ticket_of next index rows → left ≡ filter (λ (e : ℕ × T). is_elsewhere session_of session e.1) rows → KeepsRows ticket_cmp left index new → IsTicketIndex session_of ticket_of next new left
  ticket_kept session next index new rows left is e keeps = record {
    rising = subst AreRising (sym e) (sorted_filtered nat_cmp (λ (r : ℕ × T). is_elsewhere session_of session r.1) rows is.rising);
    below = subst (IsNumberedBelow next) (sym e) (all_filtered (λ (n : ℕ). n < next) (λ (r : ℕ × T). is_elsewhere session_of session r.1) rows is.below);
    tickets = λ s t.
        keeps (s, t)
        ∙ ap (filter (has_row left)) (is.tickets s t)
        ∙ subst (λ (rs : List (ℕ × T)). filter (has_row rs) (numbers_of (has_ticket session_of ticket_of s t) rows) ≡ numbers_of (has_ticket session_of ticket_of s t) rs) (sym e) (sym (kept_numbers (has_ticket session_of ticket_of s t) (is_elsewhere session_of session) rows is.rising));
  }

  -- where each row that has one ticket lacks another, the rows of the other go from under it
  untouched : (test gone : T → Bool) → ((x : T) → test x ≡ true → gone x ≡ false) → (rows : List (ℕ × T)) → numbers_of test (filter (λ (e : ℕ × T). not (gone e.1)) rows) ≡ numbers_of test rows
  untouched test gone apart [] = refl
  untouched test gone apart (r ∷ rows) = go (gone r.1) (test r.1) refl refl (untouched test gone apart rows)
    where
      go : (b c : Bool) → gone r.1 ≡ b → test r.1 ≡ c → numbers_of test (filter (λ (e : ℕ × T). not (gone e.1)) rows) ≡ numbers_of test rows → numbers_of test (cond (not b) (r ∷ filter (λ (e : ℕ × T). not (gone e.1)) rows) (filter (λ (e : ℕ × T). not (gone e.1)) rows)) ≡ keys_of (cond c (r ∷ filter (λ (e : ℕ × T). test e.1) rows) (filter (λ (e : ℕ × T). test e.1) rows))
      go true true g t h = absurd (false≢true (sym (apart r.1 t) ∙ g))
      go true false g t h = h
      go false true g t h = rw t (ap (λ (ns : List ℕ). r.0 ∷ ns) h)
      go false false g t h = rw t h

  all_gone : (test : T → Bool) (rows : List (ℕ × T)) → numbers_of test (filter (λ (e : ℕ × T). not (test e.1)) rows) ≡ []
  all_gone test [] = refl
  all_gone test (r ∷ rows) = go (test r.1) refl (all_gone test rows)
    where
      go : (b : Bool) → test r.1 ≡ b → numbers_of test (filter (λ (e : ℕ × T). not (test e.1)) rows) ≡ [] → numbers_of test (cond (not b) (r ∷ filter (λ (e : ℕ × T). not (test e.1)) rows) (filter (λ (e : ℕ × T). not (test e.1)) rows)) ≡ []
      go true t h = h
      go false t h = rw t h

  -- the rows with a ticket are left out
  without_ticket : (session ticket next : ℕ) (index : List ((ℕ × ℕ) × List ℕ)) (rows : List (ℕ × T)) (numbers : List ℕ) → IsTicketIndex session_of ticket_of next index rows → numbers ≡ numbers_at ticket_cmp (session, ticket) index → without_rows numbers rows ≡ filter (λ (e : ℕ × T). not (has_ticket session_of ticket_of session ticket e.1)) rows
  without_ticket session ticket next index rows numbers is e =
      ap (λ (ns : List ℕ). without_rows ns rows) (e ∙ is.tickets session ticket) ∙ without_numbered (has_ticket session_of ticket_of session ticket) rows is.rising

  pub values_without : (session ticket next : ℕ) (index : List ((ℕ × ℕ) × List ℕ)) (rows : List (ℕ × T)) (numbers : List ℕ) → IsTicketIndex session_of ticket_of next index rows → numbers ≡ numbers_at ticket_cmp (session, ticket) index → values_of (without_rows numbers rows) ≡ filter (has_other_ticket session_of ticket_of session ticket) (values_of rows)
  values_without session ticket next index rows numbers is e =
      ap (λ (rs : List (ℕ × T)). values_of rs) (without_ticket session ticket next index rows numbers is e) ∙ values_filtered (has_other_ticket session_of ticket_of session ticket) rows

  pub ticket_dropped : (session ticket next : ℕ) (index new : List ((ℕ × ℕ) × List ℕ)) (rows : List (ℕ × T)) (numbers : List ℕ) → IsTicketIndex session_of ticket_of next index rows → numbers ≡ numbers_at ticket_cmp (session, ticket) index → PutsAt ticket_cmp (session, ticket) [] index new → IsTicketIndex session_of ticket_of next new (without_rows numbers rows)
  ticket_dropped session ticket next index new rows numbers is e puts =
      subst (λ (rs : List (ℕ × T)). IsTicketIndex session_of ticket_of next new rs) (sym (without_ticket session ticket next index rows numbers is e)) record {
        rising = sorted_filtered nat_cmp (λ (r : ℕ × T). not (has_ticket session_of ticket_of session ticket r.1)) rows is.rising;
        below = all_filtered (λ (n : ℕ). n < next) (λ (r : ℕ × T). not (has_ticket session_of ticket_of session ticket r.1)) rows is.below;
        tickets = λ s t. puts (s, t) ∙ go s t (is_eq (ticket_cmp (session, ticket) (s, t))) refl;
      }
    where
      go : (s t : ℕ) (b : Bool) → is_eq (ticket_cmp (session, ticket) (s, t)) ≡ b → cond b [] (numbers_at ticket_cmp (s, t) index) ≡ numbers_of (has_ticket session_of ticket_of s t) (filter (λ (r : ℕ × T). not (has_ticket session_of ticket_of session ticket r.1)) rows)
      go s t true h =
          let parts = and_parts (eqb session s) (eqb ticket t) (sym (tells_tickets session ticket s t) ∙ h) in
          let same : session ≡ s = eqb-true session s parts.0 in
          let alike : ticket ≡ t = eqb-true ticket t parts.1 in
          sym (ap (λ (a : ℕ). numbers_of (has_ticket session_of ticket_of a t) (filter (λ (r : ℕ × T). not (has_ticket session_of ticket_of session ticket r.1)) rows)) (sym same)
          ∙ ap (λ (b : ℕ). numbers_of (has_ticket session_of ticket_of session b) (filter (λ (r : ℕ × T). not (has_ticket session_of ticket_of session ticket r.1)) rows)) (sym alike)
          ∙ all_gone (has_ticket session_of ticket_of session ticket) rows)
      go s t false h =
          is.tickets s t ∙ sym (untouched (has_ticket session_of ticket_of s t) (has_ticket session_of ticket_of session ticket) (λ x e. apart x s t (has_ticket session_of ticket_of session ticket x) refl (same_ticket x s t e) h) rows)
        where
          apart : (x : T) (s t : ℕ) (b : Bool) → has_ticket session_of ticket_of session ticket x ≡ b → (session_of x ≡ s) × (ticket_of x ≡ t) → is_eq (ticket_cmp (session, ticket) (s, t)) ≡ false → b ≡ false
          apart x s t false e own h = refl
          apart x s t true e own h =
              let other = same_ticket x session ticket e in
              let same : is_eq (ticket_cmp (session, ticket) (s, t)) ≡ true =
              tells_tickets session ticket s t ∙ ap (λ (b : Bool). b && eqb ticket t) (eq-eqb session s (sym other.0 ∙ own.0)) ∙ eq-eqb ticket t (sym other.1 ∙ own.1) in
              absurd (false≢true (sym h ∙ same))
