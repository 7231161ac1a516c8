-- The first connection that waits, where the first so many are known not to.
use Rattle.std.proofs.Common.{◌≡◌, ℕ, ◌+◌, ◌<◌, zero, suc, Option, Some, None, List, [], ◌∷◌, length, get_or, take, drop, refl, ap, ◌∙◌, sym, arith, inl, inr, Bool, true, false, cond, min, add-zero}
use Rattle.std.specs.Prelude.{slice_get, All, map, position, ◌==◌}
use Rattle.std.specs.List.{position_from, position_or_len}
use Rattle.std.specs.Option.{option_map}
use Rattle.std.proofs.lemmas.Bool.{and_right, cases_lt, lt-ltb}
use Rattle.std.proofs.lemmas.Iterator.Adapters.{position_from-zero}
use Rattle.std.proofs.lemmas.List.{take_more_set, get_or_default, get_or-take, length-take}
use Rattle.std.proofs.lemmas.List.Elements.{All-head, All-tail, All-push, All-take, All-from_get_or}
use Rattle.std.proofs.lemmas.List.Sums.{fails_before_first}
use Rattle.std.proofs.lemmas.List.Quantifiers.{position-Some}
use Rattle.outer_link.specs.Changed.{changed}
use Rattle.outer_link.specs.TableState.{IsSound, NoneWaits, conn_told, told_of}
use Rattle.outer_link.specs.ServerState.{ServerState}
use Rattle.outer_link.specs.declared.connection.Connection.{Connection}
use Rattle.outer_link.specs.Told.{ConnTold, Told, accepted_conn, is_waiting}
use Rattle.outer_link.proofs.ChangedLemmas.{changed_read}

first_of_map : {A B : Type 0} → (p : B → Bool) (f : A → B) (i : ℕ) (xs : List A) → position_from p i (map f xs) ≡ position_from (λ x. p (f x)) i xs
first_of_map p f i [] = refl
first_of_map p f i (x ∷ xs) = ap (λ r. cond (p (f x)) (Some i) r) (first_of_map p f (i + 1) xs)

first_behind : {A B : Type 0} → (p : B → Bool) (f : A → B) (k i : ℕ) (xs : List A) → All (λ y. p y ≡ false) (take k (map f xs))
    → position_from p i (map f xs) ≡ position_from (λ x. p (f x)) (i + k) (drop k xs)
first_behind p f zero i xs none = rw add-zero (first_of_map p f i xs)
first_behind p f (suc k) i [] none = refl
first_behind p f (suc k) i (x ∷ xs) none =
    rw (All-head (λ y. p y ≡ false) (f x) (take k (map f xs)) none)
    (first_behind p f k (i + 1) xs (All-tail (λ y. p y ≡ false) (f x) (take k (map f xs)) none)
    ∙ ap (λ j. position_from (λ y. p (f y)) j (drop k xs)) (omega arith))

first_from : {A : Type 0} → (q : A → Bool) (i j : ℕ) (xs : List A) → position_from q (i + j) xs ≡ option_map (λ n. i + n) (position_from q j xs)
first_from q i j [] = refl
first_from q i j (x ∷ xs) =
    elim (q x) as (λ b. cond b (Some (i + j)) (position_from q (i + j + 1) xs) ≡ option_map (λ n. i + n) (cond b (Some j) (position_from q (j + 1) xs))) [
      | true ↦ refl
      | false ↦ ap (λ m. position_from q m xs) (omega arith) ∙ first_from q i (j + 1) xs
    ]

-- the first that passes, where the first k do not, is the first behind those
pub first_unseen : {A B : Type 0} → (p : B → Bool) (f : A → B) (k : ℕ) (xs : List A) → All (λ y. p y ≡ false) (take k (map f xs))
    → option_map (λ n. k + n) (position (λ x. p (f x)) (drop k xs)) ≡ position p (map f xs)
first_unseen p f k xs none =
    ap (option_map (λ n. k + n)) (position_from-zero (λ x. p (f x)) (drop k xs))
    ∙ sym (first_from (λ x. p (f x)) k 0 (drop k xs))
    ∙ ap (λ j. position_from (λ x. p (f x)) j (drop k xs)) (omega arith)
    ∙ sym (first_behind p f k 0 xs none)
    ∙ sym (position_from-zero p (map f xs))

-- the oldest that waits for a data server is the first behind those that it has seen
pub next_first : (apps : ℕ) (servers given : List ServerState) (conns unseen : List Connection) (t : Told) (s k : ℕ) (v : ServerState) (r : Option ℕ)
    → IsSound apps servers conns → told_of servers conns ≡ t → slice_get servers s ≡ Some v → k ≡ v.seen → given ≡ servers → unseen ≡ drop k conns
    → r ≡ position (λ c. is_waiting s (conn_told given c)) unseen → option_map (λ n. k + n) r ≡ position (is_waiting s) t.conns
next_first apps servers given conns unseen t s k v r kept is at seen same rest first =
    ap (option_map (λ n. k + n)) (first ∙ rw (same, rest) refl)
    ∙ first_unseen (is_waiting s) (conn_told servers) k conns (rw seen (kept.seen s v at).1)
    ∙ ap (λ (x : Told). position (is_waiting s) x.conns) is

-- where none waits, none of the first so many does
pub none_waits : (server k : ℕ) (xs : List ConnTold) → position (is_waiting server) xs ≡ None → NoneWaits server (take k xs)
none_waits server k xs none =
    All-take (λ c. is_waiting server c ≡ false) k xs (λ j d within.
    elim (cases_lt (position_or_len (is_waiting server) xs) (length xs)) [
      | inl there ↦ absurd (found there)
      | inr past ↦ fails_before_first (is_waiting server) xs j d (omega arith)
    ])
  where
    found : position_or_len (is_waiting server) xs < length xs → ⊥
    found there =
        let yes = lt-ltb (position_or_len (is_waiting server) xs) (length xs) there in
        let e = rw yes at none in
        cc

-- where the oldest that waits is accepted, none up to it waits
pub none_waits_now : (server n : ℕ) (xs : List ConnTold) → position (is_waiting server) xs ≡ Some n
    → (n < length xs) × NoneWaits server (take (n + 1) (changed accepted_conn n xs))
none_waits_now server n xs first =
    elim xs as (λ ys. position (is_waiting server) ys ≡ Some n → (n < length ys) × NoneWaits server (take (n + 1) (changed accepted_conn n ys))) [
      | [] ↦ λ e. absurd (let no : ◌≡◌ {A = Option ℕ} None (Some n) = e in cc)
      | y ∷ ys ↦ λ e. one (y ∷ ys) y e
    ] first
  where
    before : (ys : List ConnTold) (d : ConnTold) → ((k : ℕ) → k < n → is_waiting server (get_or ys k d) ≡ false) → (k : ℕ) → k < length (take n ys) → is_waiting server (get_or (take n ys) k d) ≡ false
    before ys d fails k within =
        let short : k < min n (length ys) = rw length-take at within in
        rw (get_or-take n ys k d (omega arith)) (fails k (omega arith))

    one : (ys : List ConnTold) (d : ConnTold) → position (is_waiting server) ys ≡ Some n → (n < length ys) × NoneWaits server (take (n + 1) (changed accepted_conn n ys))
    one ys d e =
        let facts = position-Some (is_waiting server) ys n d e in
        let x = get_or ys n d in (
          facts.0,
          rw (changed_read accepted_conn n ys x facts.0 (get_or_default ys n d x facts.0), take_more_set ys n (accepted_conn x) facts.0)
              (All-push (λ c. is_waiting server c ≡ false) (take n ys) (accepted_conn x)
              (All-from_get_or (λ c. is_waiting server c ≡ false) (take n ys) d (before ys d facts.2))
              (and_right (x.server == server) false refl)),
        )
