-- What each call does to what is known of connection numbers.
use Rattle.std.proofs.Common.{◌≡◌, ℕ, ◌+◌, ◌<◌, zero, suc, Option, Some, None, List, [], ◌∷◌, ◌++◌, length, refl, ap, ◌∙◌, sym, subst, arith, Bool, true, false, not, ◌||◌, inl, inr}
use Rattle.std.specs.Prelude.{slice_get, slice_set, map, nat_lt, position, unwrap_or, ◌==◌, if◌then◌else◌}
use Rattle.std.specs.Option.{option_map, option_map_or}
use Rattle.std.proofs.lemmas.Bool.{cases_eq, ltb-true, lt-ltb, le-ltb, eq-eqb, ne_eqb, eqb-true, and_parts, and_right, not-true, true≢false}
use Rattle.std.proofs.Math.Bool.{or-true}
use Rattle.std.proofs.lemmas.List.{length-map, length_push}
use Rattle.std.proofs.lemmas.List.Quantifiers.{position-Some}
use Rattle.std.proofs.lemmas.Option.{slice_get-map, slice_get_within, get_or_from_slice_get}
use Rattle.outer_link.specs.Changed.{changed}
use Rattle.outer_link.specs.Marks.{Marked, Keeps, IsConnected, IsAccepted, or_cut, of_server, of_pair, parted_with, marks_of, of_conn}
use Rattle.outer_link.specs.Told.{ConnTold, ServerTold, Told, accepted_conn, conn_with, cut_conn, cut_where, fresh_conn, is_cut_at, is_of_pair, is_of_server, is_parted, is_waiting, with_listening, with_parted, after_listen, after_shut, after_part, after_join, after_connect, after_accept, after_put, after_take, after_cut}
use Rattle.outer_link.specs.Lines.{LinesTold, put_into, taken_from}
use Rattle.outer_link.specs.Net.{TookAs}
use Rattle.outer_link.specs.declared.end.End.{End}
use Rattle.outer_link.specs.declared.moved.Took.{Took}
use Rattle.outer_link.specs.declared.moved.Took.TheVariants.{Bytes, NotNow, Ended}
use Rattle.outer_link.proofs.ChangedLemmas.{changed_at, changed_none}
use Rattle.outer_link.proofs.ListSteps.{got_same, got_other, length_changed}

-- something of what stands in a list
abbrev part_at : {A B : Type 0} → (A → B) → List A → ℕ → B → B
part_at g xs j d = option_map_or g (slice_get xs j) d

-- behind a change elsewhere
at_other : {A B : Type 0} → (g : A → B) (f : A → A) (n j : ℕ) (xs : List A) (d : B) → (j ≡ n → ⊥) → part_at g (changed f n xs) j d ≡ part_at g xs j d
at_other g f n j xs d apart =
    elim (slice_get xs n) as (λ o. slice_get xs n ≡ o → part_at g (changed f n xs) j d ≡ part_at g xs j d) [
      | None ↦ λ e. rw (changed_none f n xs e) refl
      | Some x ↦ λ e. rw (changed_at f n xs x e, got_other xs n j (f x) apart) refl
    ] refl

-- behind a change here
at_here : {A B : Type 0} → (g : A → B) (f : A → A) (n : ℕ) (xs : List A) (x : A) (d : B) → slice_get xs n ≡ Some x → part_at g (changed f n xs) n d ≡ g (f x)
at_here g f n xs x d e = rw (changed_at f n xs x e, got_same xs n (f x) (slice_get_within xs n x e)) refl

-- behind a change that leaves this
at_same : {A B : Type 0} → (g : A → B) (f : A → A) (n j : ℕ) (xs : List A) (d : B) → ((x : A) → g (f x) ≡ g x) → part_at g (changed f n xs) j d ≡ part_at g xs j d
at_same g f n j xs d same =
    elim (cases_eq j n) [
      | inl here ↦ subst (λ i. part_at g (changed f n xs) i d ≡ part_at g xs i d) (sym here) there
      | inr apart ↦ at_other g f n j xs d apart
    ]
  where
    there : part_at g (changed f n xs) n d ≡ part_at g xs n d
    there =
        elim (slice_get xs n) as (λ o. slice_get xs n ≡ o → part_at g (changed f n xs) n d ≡ part_at g xs n d) [
          | None ↦ λ e. rw (changed_none f n xs e) refl
          | Some x ↦ λ e. at_here g f n xs x d e ∙ same x ∙ rw e refl
        ] refl

-- behind a change that leaves it true
at_still : {A : Type 0} → (g : A → Bool) (f : A → A) (n j : ℕ) (xs : List A) → ((x : A) → g x ≡ true → g (f x) ≡ true) → part_at g xs j false ≡ true → part_at g (changed f n xs) j false ≡ true
at_still g f n j xs still holds =
    elim (cases_eq j n) [
      | inl here ↦ subst (λ i. part_at g (changed f n xs) i false ≡ true) (sym here) (there (subst (λ i. part_at g xs i false ≡ true) here holds))
      | inr apart ↦ at_other g f n j xs false apart ∙ holds
    ]
  where
    there : part_at g xs n false ≡ true → part_at g (changed f n xs) n false ≡ true
    there h =
        elim (slice_get xs n) as (λ o. slice_get xs n ≡ o → part_at g (changed f n xs) n false ≡ true) [
          | None ↦ λ e. absurd (let no : false ≡ true = ap (λ o. option_map_or g o false) (sym e) ∙ h in true≢false (sym no))
          | Some x ↦ λ e. at_here g f n xs x false e ∙ still x (ap (λ o. option_map_or g o false) (sym e) ∙ h)
        ] refl

-- a connection that is known is there
known_conn : (t : Told) (n : ℕ) → nat_lt n (length t.conns) ≡ true → (c : ConnTold) × (slice_get t.conns n ≡ Some c)
known_conn t n known =
    elim (slice_get t.conns n) as (λ o. slice_get t.conns n ≡ o → (c : ConnTold) × (slice_get t.conns n ≡ Some c)) [
      | None ↦ λ e. absurd (missing t.conns n e (ltb-true n (length t.conns) known))
      | Some c ↦ λ e. (c, e)
    ] refl
  where
    missing : (xs : List ConnTold) (k : ℕ) → slice_get xs k ≡ None → k < length xs → ⊥
    missing [] k e within = absurd (omega arith)
    missing (x ∷ xs) zero e within = absurd (let no : ◌≡◌ {A = Option ConnTold} (Some x) None = e in cc)
    missing (x ∷ xs) (suc k) e within = missing xs k e (omega arith)

-- one connection is changed, and stays what it is
keeps_conn : (t : Told) (n : ℕ) (f : ConnTold → ConnTold) → ((c : ConnTold) → (f c).app ≡ c.app) → ((c : ConnTold) → (f c).server ≡ c.server)
    → ((c : ConnTold) → (f c).is_cut ≡ c.is_cut) → ((c : ConnTold) → c.accepted ≡ true → (f c).accepted ≡ true)
    → Keeps (marks_of t) (marks_of (record t { conns = changed f n t.conns }))
keeps_conn t n f app server cut accepted = record {
  known = λ k e. rw (length_changed f n t.conns) e;
  accepted = λ k e. at_still (λ c. c.accepted) f n k t.conns accepted e;
  app = λ k _. at_same (λ c. c.app) f n k t.conns 0 app;
  server = λ k _. at_same (λ c. c.server) f n k t.conns 0 server;
  cut = λ k _. at_same (λ c. c.is_cut) f n k t.conns false cut;
  parted = λ _ _. refl;
}

pub keeps_accept : (t : Told) (n : ℕ) → Keeps (marks_of t) (marks_of (after_accept t n))
keeps_accept t n = keeps_conn t n accepted_conn (λ _. refl) (λ _. refl) (λ _. refl) (λ _ _. refl)

pub keeps_put : (t : Told) (n : ℕ) (end : End) (bytes : List ℕ) → Keeps (marks_of t) (marks_of (after_put t n end bytes))
keeps_put t n end bytes =
    keeps_conn t n (conn_with end bytes)
    (λ c. put_keeps (λ x. x.app) c (λ _. refl)) (λ c. put_keeps (λ x. x.server) c (λ _. refl)) (λ c. put_keeps (λ x. x.is_cut) c (λ _. refl))
    (λ c e. put_keeps (λ x. x.accepted) c (λ _. refl) ∙ e)
  where
    put_keeps : {A : Type 0} → (g : ConnTold → A) (c : ConnTold) → ((l : LinesTold) → g (record c { lines = l }) ≡ g c) → g (conn_with end bytes c) ≡ g c
    put_keeps g c same =
        elim c.is_cut as (λ b. g (if b then c else record c { lines = put_into c.lines end bytes }) ≡ g c) [
          | true ↦ refl
          | false ↦ same (put_into c.lines end bytes)
        ]

pub keeps_take : (t : Told) (n : ℕ) (end : End) (count : ℕ) → Keeps (marks_of t) (marks_of (after_take t n end count))
keeps_take t n end count = keeps_conn t n (λ c. record c { lines = taken_from c.lines end count }) (λ _. refl) (λ _. refl) (λ _. refl) (λ _ e. e)

keeps_same : (t : Told) → Keeps (marks_of t) (marks_of t)
keeps_same t = record { known = λ _ e. e; accepted = λ _ e. e; app = λ _ _. refl; server = λ _ _. refl; cut = λ _ _. refl; parted = λ _ _. refl }

pub keeps_took : (t now : Told) (n : ℕ) (end : End) (buf : List ℕ) (r : Took) → TookAs t now n end buf r → Keeps (marks_of t) (marks_of now)
keeps_took t now n end buf (Bytes count) took = subst (λ x. Keeps (marks_of t) (marks_of x)) (sym took.2) (keeps_take t n end count)
keeps_took t now n end buf NotNow took = subst (λ x. Keeps (marks_of t) (marks_of x)) (sym took) (keeps_same t)
keeps_took t now n end buf Ended took = subst (λ x. Keeps (marks_of t) (marks_of x)) (sym took) (keeps_same t)

or_none : (a b : Bool) → b ≡ false → a ≡ (a || b)
or_none true b nothing = refl
or_none false b nothing = sym nothing

pub marked_cut : (t : Told) (n : ℕ) → Marked (marks_of t) (or_cut (marks_of t) (λ k. k == n)) (is_parted t) (marks_of (after_cut t n))
marked_cut t n = record {
  known = λ k e. rw (length_changed cut_conn n t.conns) e;
  accepted = λ k e. at_still (λ c. c.accepted) cut_conn n k t.conns (λ _ h. h) e;
  app = λ k _. at_same (λ c. c.app) cut_conn n k t.conns 0 (λ _. refl);
  server = λ k _. at_same (λ c. c.server) cut_conn n k t.conns 0 (λ _. refl);
  cut = cut;
  parted = λ _ _. refl;
}
  where
    cut : (k : ℕ) → nat_lt k (length t.conns) ≡ true → is_cut_at (after_cut t n) k ≡ (is_cut_at t k || (k == n))
    cut k known =
        elim (cases_eq k n) [
          | inl here ↦
              let c = known_conn t k known in
              subst (λ i. is_cut_at (after_cut t i) k ≡ true) here (at_here (λ x. x.is_cut) cut_conn k t.conns c.0 false c.1)
              ∙ sym (rw (eq-eqb k n here, or-true) refl)
          | inr apart ↦ at_other (λ x. x.is_cut) cut_conn n k t.conns false apart ∙ or_none (is_cut_at t k) (k == n) (ne_eqb k n apart)
        ]

-- something of a connection, behind cuts
cut_keeps : {A : Type 0} → (g : ConnTold → A) (t : Told) (test : ConnTold → Bool) (k : ℕ) (d : A) → ((c : ConnTold) → g (cut_where test c) ≡ g c)
    → option_map_or g (slice_get (map (cut_where test) t.conns) k) d ≡ of_conn g t k d
cut_keeps g t test k d same =
    rw (slice_get-map (cut_where test) t.conns k)
    (elim (slice_get t.conns k) as (λ o. option_map_or g (option_map (cut_where test) o) d ≡ option_map_or g o d) [ None ↦ refl | Some c ↦ same c ])

-- all connections of a test are cut
marked_where : (t : Told) (test : ConnTold → Bool) (at : ℕ → Bool) (servers : List ServerTold) (is_apart : ℕ → ℕ → Bool)
    → ((k : ℕ) (c : ConnTold) → slice_get t.conns k ≡ Some c → at k ≡ test c)
    → ((a s : ℕ) → is_parted (let x : Told = record { conns = map (cut_where test) t.conns; servers = servers } in x) a s ≡ is_apart a s)
    → Marked (marks_of t) (or_cut (marks_of t) at) is_apart (marks_of (record { conns = map (cut_where test) t.conns; servers = servers }))
marked_where t test at servers is_apart tests parted = record {
  known = λ k e. rw (length-map t.conns (cut_where test)) e;
  accepted = λ k e. cut_keeps (λ c. c.accepted) t test k false (λ _. refl) ∙ e;
  app = λ k _. cut_keeps (λ c. c.app) t test k 0 (λ _. refl);
  server = λ k _. cut_keeps (λ c. c.server) t test k 0 (λ _. refl);
  cut = cut;
  parted = parted;
}
  where
    cut : (k : ℕ) → nat_lt k (length t.conns) ≡ true
        → option_map_or (λ c. c.is_cut) (slice_get (map (cut_where test) t.conns) k) false ≡ (is_cut_at t k || at k)
    cut k known =
        let c = known_conn t k known in
        let e = c.1 in
        rw (slice_get-map (cut_where test) t.conns k, e, tests k c.0 e) refl

pub marked_shut : (t : Told) (s : ℕ) → Marked (marks_of t) (or_cut (marks_of t) (of_server (marks_of t) s)) (is_parted t) (marks_of (after_shut t s))
marked_shut t s =
    marked_where t (is_of_server s) (of_server (marks_of t) s) (changed (with_listening false) s t.servers) (is_parted t)
    (λ k c e. rw e refl) (λ a i. at_same (λ x. unwrap_or (slice_get x.parted a) false) (with_listening false) s i t.servers false (λ _. refl))

pub keeps_listen : (t : Told) (s : ℕ) → Keeps (marks_of t) (marks_of (after_listen t s))
keeps_listen t s = record {
  known = λ _ e. e;
  accepted = λ _ e. e;
  app = λ _ _. refl;
  server = λ _ _. refl;
  cut = λ _ _. refl;
  parted = λ a i. at_same (λ x. unwrap_or (slice_get x.parted a) false) (with_listening true) s i t.servers false (λ _. refl);
}

-- the pairs that are apart, where one is parted or joined
parted_now : (t : Told) (a s : ℕ) (is_apart : Bool) (conns : List ConnTold)
    → is_parted (let x : Told = record { conns = conns; servers = changed (with_parted a is_apart) s t.servers } in x) a s ≡ is_apart
    → (b i : ℕ) → is_parted (let x : Told = record { conns = conns; servers = changed (with_parted a is_apart) s t.servers } in x) b i ≡ parted_with (marks_of t) a s is_apart b i
parted_now t a s is_apart conns now b i =
    elim (cases_eq i s) [
      | inl here ↦ elim (cases_eq b a) [
        | inl same ↦
            rw (here, same, eq-eqb a a refl, eq-eqb s s refl) now
        | inr apart ↦
            at_same (λ x. unwrap_or (slice_get x.parted b) false) (with_parted a is_apart) s i t.servers false
            (λ x. ap (λ o. unwrap_or o false) (got_other x.parted a b is_apart apart))
            ∙ sym (rw (ne_eqb b a apart) refl)
      ]
      | inr apart ↦
          at_other (λ x. unwrap_or (slice_get x.parted b) false) (with_parted a is_apart) s i t.servers false apart
          ∙ sym (rw (ne_eqb i s apart, and_right (b == a) false refl) refl)
    ]

pub marked_part : (t : Told) (a s : ℕ) → is_parted (after_part t a s) a s ≡ true
    → Marked (marks_of t) (or_cut (marks_of t) (of_pair (marks_of t) a s)) (parted_with (marks_of t) a s true) (marks_of (after_part t a s))
marked_part t a s now =
    marked_where t (is_of_pair a s) (of_pair (marks_of t) a s) (changed (with_parted a true) s t.servers) (parted_with (marks_of t) a s true)
    (λ k c e. rw e refl) (parted_now t a s true (map (cut_where (is_of_pair a s)) t.conns) now)

-- a pair that is joined is not apart
joined_now : (t : Told) (a s : ℕ) → is_parted (after_join t a s) a s ≡ false
joined_now t a s =
    elim (slice_get t.servers s) as (λ o. slice_get t.servers s ≡ o → is_parted (after_join t a s) a s ≡ false) [
      | None ↦ λ e. rw (changed_none (with_parted a false) s t.servers e, e) refl
      | Some x ↦ λ e. at_here (λ y. unwrap_or (slice_get y.parted a) false) (with_parted a false) s t.servers x false e ∙ cleared x.parted a
    ] refl
  where
    cleared : (row : List Bool) (k : ℕ) → unwrap_or (slice_get (slice_set row k false) k) false ≡ false
    cleared [] k = refl
    cleared (b ∷ row) zero = refl
    cleared (b ∷ row) (suc k) = cleared row k

pub marked_join : (t : Told) (a s : ℕ) → Marked (marks_of t) (is_cut_at t) (parted_with (marks_of t) a s false) (marks_of (after_join t a s))
marked_join t a s = record {
  known = λ _ e. e;
  accepted = λ _ e. e;
  app = λ _ _. refl;
  server = λ _ _. refl;
  cut = λ _ _. refl;
  parted = parted_now t a s false t.conns (joined_now t a s);
}

got_last : {A : Type 0} → (xs : List A) (y : A) → slice_get (xs ++ y ∷ []) (length xs) ≡ Some y
got_last [] y = refl
got_last (x ∷ xs) y = got_last xs y

pub is_connected : (t : Told) (a s n : ℕ) → n ≡ length t.conns → IsConnected (marks_of t) (marks_of (after_connect t a s)) a s n
is_connected t a s n is =
    subst (λ k. IsConnected (marks_of t) (marks_of (after_connect t a s)) a s k) (sym is) (record {
      unknown = le-ltb (length t.conns) (length t.conns) (omega arith);
      known = rw (length_push t.conns (fresh_conn a s)) (lt-ltb (length t.conns) (length t.conns + 1) (omega arith));
      app = rw (got_last t.conns (fresh_conn a s)) refl;
      server = rw (got_last t.conns (fresh_conn a s)) refl;
      uncut = rw (got_last t.conns (fresh_conn a s)) refl;
    })

-- the oldest connection that waits is there, is the data server's, and is neither accepted nor cut
first_waits : (t : Told) (s n : ℕ) → position (is_waiting s) t.conns ≡ Some n → (c : ConnTold) × (slice_get t.conns n ≡ Some c) × (c.server ≡ s) × (c.accepted ≡ false) × (c.is_cut ≡ false)
first_waits t s n first =
    elim (slice_get t.conns n) as (λ o. slice_get t.conns n ≡ o → (c : ConnTold) × (slice_get t.conns n ≡ Some c) × (c.server ≡ s) × (c.accepted ≡ false) × (c.is_cut ≡ false)) [
      | None ↦ λ e. absurd (gone e)
      | Some c ↦ λ e.
          let facts = position-Some (is_waiting s) t.conns n c first in
          let waits : is_waiting s c ≡ true = ap (is_waiting s) (sym (get_or_from_slice_get t.conns n c c e)) ∙ facts.1 in
          let parts = and_parts (c.server == s) (not (c.accepted || c.is_cut)) waits in
          let neither = both_false c.accepted c.is_cut (not-true (c.accepted || c.is_cut) parts.1) in
          (c, e, eqb-true c.server s parts.0, neither.0, neither.1)
    ] refl
  where
    both_false : (a b : Bool) → (a || b) ≡ false → (a ≡ false) × (b ≡ false)
    both_false true b e = absurd (true≢false e)
    both_false false b e = (refl, e)

    gone : slice_get t.conns n ≡ None → ⊥
    gone e =
        let within = (position-Some (is_waiting s) t.conns n (fresh_conn 0 0) first).0 in
        let c = known_conn t n (lt-ltb n (length t.conns) within) in
        let no : ◌≡◌ {A = Option ConnTold} (Some c.0) None = sym c.1 ∙ e in cc

pub is_accepted : (t : Told) (s n : ℕ) → position (is_waiting s) t.conns ≡ Some n → IsAccepted (marks_of t) (marks_of (after_accept t n)) s n
is_accepted t s n first =
    let c = first_waits t s n first in
    let e = c.1 in
    record {
      first = rw e c.3;
      accepted = at_here (λ x. x.accepted) accepted_conn n t.conns c.0 false e;
      known = rw (length_changed accepted_conn n t.conns) (lt-ltb n (length t.conns) (slice_get_within t.conns n c.0 e));
      server = at_here (λ x. x.server) accepted_conn n t.conns c.0 0 e ∙ c.2;
      uncut = λ _. at_here (λ x. x.is_cut) accepted_conn n t.conns c.0 false e ∙ c.4;
    }

pub accepted_uncut : (t : Told) (s n : ℕ) → position (is_waiting s) t.conns ≡ Some n → is_cut_at (after_accept t n) n ≡ false
accepted_uncut t s n first = let c = first_waits t s n first in at_here (λ x. x.is_cut) accepted_conn n t.conns c.0 false c.1 ∙ c.4
