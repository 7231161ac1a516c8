-- Tests over lists of entries, and what stands in them.
use Rattle.std.proofs.Common.{◌≡◌, ℕ, ◌≤◌, ◌<◌, ◌+◌, List, [], ◌∷◌, ◌++◌, length, take, drop, refl, subst, sym, ap, ◌∙◌, Bool, true, false, cond, eqb, ◌==◌, if◌then◌else◌, arith, ◌||◌, ◌&&◌, not, Some, None}
use Rattle.std.specs.List.{list_any, list_all, filter}
use Rattle.std.proofs.lemmas.Bool.{eqb-true, and_parts}
use Rattle.std.proofs.lemmas.List.{take-append-drop, take-take, take-append-le}
use Rattle.plain_orders.specs.declared.entry.Entry.{Entry}
use Rattle.plain_orders.specs.declared.entry.Entry.TheVariants.{Epoch, Opened, Closed, Update, Commit, Rollback}
use Rattle.plain_orders.specs.Entries.{live, live_from, closes}
use Rattle.plain_orders.specs.Own.{Issued}
use Rattle.plain_orders.specs.Times.{until}
use Rattle.plain_runs.specs.Items.{all_stand}
use Rattle.plain_runs.specs.OrderRows.{due_of}
use Rattle.plain_orders.specs.ItemEntries.{has_item, is_item_at}
use Rattle.plain_orders.specs.Sessions.{opened_sessions, live_sessions}

pub both_ways : (b : Bool) → b ≡ true → b ≡ false → ⊥
both_ways b t f = absurd (cc (t, f))

pub any_front : {X : Type 0} (p : X → Bool) (xs ys : List X) → list_any p xs ≡ true → list_any p (xs ++ ys) ≡ true
any_front p [] ys e = absurd (cc (e))
any_front p (x ∷ xs) ys e = go (p x) (any_front p xs ys) e
  where
    go : (b : Bool) → (list_any p xs ≡ true → list_any p (xs ++ ys) ≡ true) → (b || list_any p xs) ≡ true → (b || list_any p (xs ++ ys)) ≡ true
    go true f h = refl
    go false f h = f h

pub any_take : {X : Type 0} (p : X → Bool) (n : ℕ) (xs : List X) → list_any p (take n xs) ≡ true → list_any p xs ≡ true
any_take p n xs e = subst (λ ys. list_any p ys ≡ true) (take-append-drop n xs) (any_front p (take n xs) (drop n xs) e)

pub any_wider : {X : Type 0} (p : X → Bool) (m n : ℕ) (xs : List X) → m ≤ n → list_any p (take m xs) ≡ true → list_any p (take n xs) ≡ true
any_wider p m n xs low e = any_take p m (take n xs) (subst (λ ys. list_any p ys ≡ true) (sym (take-take m n xs low)) e)

-- in front of more entries, and further
pub any_grown : (p : Entry → Bool) (m n : ℕ) (es more : List Entry) → m ≤ length es → m ≤ n → list_any p (take m es) ≡ true → list_any p (take n (es ++ more)) ≡ true
any_grown p m n es more within low e = any_wider p m n (es ++ more) low (subst (λ ys. list_any p ys ≡ true) (sym (take-append-le m es more within)) e)

-- the entry opens the session
abbrev pub is_open : ℕ → Entry → Bool
is_open s (Epoch number) = false
is_open s (Opened session app) = session == s
is_open s (Closed session) = false
is_open s (Update session w job txn op) = false
is_open s (Commit session w job txn) = false
is_open s (Rollback session w job txn) = false

abbrev pub opens : List Entry → ℕ → Bool
opens es s = list_any (is_open s) es

skip : (a b : Bool) → (a || (false || b)) ≡ true → (a || b) ≡ true
skip a b e = e

-- opened and not live: closed
closes_from : (b : Bool) (es : List Entry) (s : ℕ) → live_from b es s ≡ false → (b || opens es s) ≡ true → list_any (closes s) es ≡ true
closes_from true [] s l o = absurd (cc (l))
closes_from false [] s l o = absurd (cc (o))
closes_from b (Epoch number ∷ es) s l o = closes_from b es s l o
closes_from b (Opened n a ∷ es) s l o = go (eqb n s) (closes_from true es s) (closes_from b es s) l o
  where
    go : (c : Bool) → (live_from true es s ≡ false → true ≡ true → list_any (closes s) es ≡ true) → (live_from b es s ≡ false → (b || opens es s) ≡ true → list_any (closes s) es ≡ true)
        → live_from (if c then true else b) es s ≡ false → (b || (c || opens es s)) ≡ true → list_any (closes s) es ≡ true
    go true f g h o = f h refl
    go false f g h o = g h o
closes_from b (Closed n ∷ es) s l o = go (eqb n s) (closes_from b es s) l o
  where
    go : (c : Bool) → (live_from b es s ≡ false → (b || opens es s) ≡ true → list_any (closes s) es ≡ true) → live_from (if c then false else b) es s ≡ false → (b || opens es s) ≡ true → (c || list_any (closes s) es) ≡ true
    go true f h o = refl
    go false f h o = f h o
closes_from b (Update n w j t op ∷ es) s l o = closes_from b es s l o
closes_from b (Commit n w j t ∷ es) s l o = closes_from b es s l o
closes_from b (Rollback n w j t ∷ es) s l o = closes_from b es s l o

pub opened_closes : (es : List Entry) (s : ℕ) → opens es s ≡ true → live es s ≡ false → list_any (closes s) es ≡ true
opened_closes es s o l = closes_from false es s l o

or_true : (a b : Bool) → b ≡ true → (a || b) ≡ true
or_true true b e = refl
or_true false b e = e

opens_from : (b : Bool) (es : List Entry) (s : ℕ) → live_from b es s ≡ true → (b || opens es s) ≡ true
opens_from true es s l = refl
opens_from false [] s l = l
opens_from false (Epoch number ∷ es) s l = opens_from false es s l
opens_from false (Opened n a ∷ es) s l = go (eqb n s) (opens_from false es s) l
  where
    go : (c : Bool) → (live_from false es s ≡ true → opens es s ≡ true) → live_from (if c then true else false) es s ≡ true → (c || opens es s) ≡ true
    go true f h = refl
    go false f h = f h
opens_from false (Closed n ∷ es) s l = go (eqb n s) (opens_from false es s) l
  where
    go : (c : Bool) → (live_from false es s ≡ true → opens es s ≡ true) → live_from (if c then false else false) es s ≡ true → opens es s ≡ true
    go true f h = f h
    go false f h = f h
opens_from false (Update n w j t op ∷ es) s l = opens_from false es s l
opens_from false (Commit n w j t ∷ es) s l = opens_from false es s l
opens_from false (Rollback n w j t ∷ es) s l = opens_from false es s l

pub live_opens : (es : List Entry) (s : ℕ) → live es s ≡ true → opens es s ≡ true
live_opens es s l = opens_from false es s l

-- an opened session is among those opened
opened_among : (es : List Entry) (s : ℕ) → opens es s ≡ true → list_any (λ n. n == s) (opened_sessions es) ≡ true
opened_among [] s o = o
opened_among (Epoch number ∷ es) s o = opened_among es s o
opened_among (Opened n a ∷ es) s o = go (eqb n s) (opened_among es s) o
  where
    go : (c : Bool) → (opens es s ≡ true → list_any (λ n. n == s) (opened_sessions es) ≡ true) → (c || opens es s) ≡ true → (c || list_any (λ n. n == s) (opened_sessions es)) ≡ true
    go true f h = refl
    go false f h = f h
opened_among (Closed n ∷ es) s o = opened_among es s o
opened_among (Update n w j t op ∷ es) s o = opened_among es s o
opened_among (Commit n w j t ∷ es) s o = opened_among es s o
opened_among (Rollback n w j t ∷ es) s o = opened_among es s o

-- among those that pass a test, a number that passes it has what all have
all_of : (p q : ℕ → Bool) (xs : List ℕ) (s : ℕ) → list_all q (filter p xs) ≡ true → list_any (λ n. n == s) xs ≡ true → p s ≡ true → q s ≡ true
all_of p q [] s a o l = absurd (cc (o))
all_of p q (x ∷ xs) s a o l = go (eqb x s) refl (all_of p q xs s) o
  where
    here : x ≡ s → q s ≡ true
    here same = subst (λ n. q n ≡ true) same (and_parts (q x) (list_all q (filter p xs)) (subst (λ (b : Bool). list_all q (cond b (x ∷ filter p xs) (filter p xs)) ≡ true) (subst (λ n. p n ≡ true) (sym same) l) a)).0

    rest : (b : Bool) → list_all q (cond b (x ∷ filter p xs) (filter p xs)) ≡ true → list_all q (filter p xs) ≡ true
    rest true h = (and_parts (q x) (list_all q (filter p xs)) h).1
    rest false h = h

    go : (c : Bool) → eqb x s ≡ c → (list_all q (filter p xs) ≡ true → list_any (λ n. n == s) xs ≡ true → p s ≡ true → q s ≡ true) → (c || list_any (λ n. n == s) xs) ≡ true → q s ≡ true
    go true e f h = here (eqb-true x s e)
    go false e f h = f (rest (p x) a) h l

-- what each live session of a list has
pub live_has : (es : List Entry) (q : ℕ → Bool) (s : ℕ) → list_all q (live_sessions es) ≡ true → live es s ≡ true → q s ≡ true
live_has es q s a l = all_of (live es) q (opened_sessions es) s a (opened_among es s (live_opens es s l)) l

none_all : (xs : List ℕ) → (length xs == 0) ≡ true → list_all (λ _. false) xs ≡ true
none_all [] e = refl
none_all (x ∷ xs) e = absurd (omega (arith, eqb-true (length (x ∷ xs)) 0 e))

-- where no round is due, no session is live
pub none_live : (es : List Entry) (clock round : ℕ) → due_of es clock round ≡ None → (s : ℕ) → live es s ≡ false
none_live es clock round d s = go (live es s) refl
  where
    off : (b : Bool) → (if b then None else Some (until clock round)) ≡ None → b ≡ true
    off true e = refl
    off false e = absurd (cc (e))

    go : (b : Bool) → live es s ≡ b → b ≡ false
    go false l = refl
    go true l = absurd (cc (live_has es (λ _. false) s (none_all (live_sessions es) (off (length (live_sessions es) == 0) d)) l))

-- what stands in a list stands in a longer one
pub stand_more : (es fs : List Entry) (s job k : ℕ) (is : List Issued) → ((w : ℕ) → has_item es s w ≡ true → has_item fs s w ≡ true) → all_stand es s job k is ≡ true → all_stand fs s job k is ≡ true
stand_more es fs s job k [] f e = refl
stand_more es fs s job k (i ∷ is) f e = go (not (i.job == job)) (has_item es s (k + 1)) refl (stand_more es fs s job (k + 1) is f) e
  where
    go : (a b : Bool) → has_item es s (k + 1) ≡ b → (all_stand es s job (k + 1) is ≡ true → all_stand fs s job (k + 1) is ≡ true) → ((a || b) && all_stand es s job (k + 1) is) ≡ true → ((a || has_item fs s (k + 1)) && all_stand fs s job (k + 1) is) ≡ true
    go true b is_b g h = g h
    go false true is_b g h = ap (λ (x : Bool). x && all_stand fs s job (k + 1) is) (f (k + 1) is_b) ∙ g h
    go false false is_b g h = absurd (cc (h))

-- where each number stands, all do
pub stand_all : (es : List Entry) (s job k : ℕ) (is : List Issued) → ((w : ℕ) → k < w → w ≤ k + length is → has_item es s w ≡ true) → all_stand es s job k is ≡ true
stand_all es s job k [] f = refl
stand_all es s job k (i ∷ is) f =
    ap (λ (x : Bool). (not (i.job == job) || x) && all_stand es s job (k + 1) is) (f (k + 1) (omega arith) (omega arith))
    ∙ go (not (i.job == job)) (stand_all es s job (k + 1) is (λ w low high. f w (omega arith) (omega arith)))
  where
    go : (a : Bool) → all_stand es s job (k + 1) is ≡ true → ((a || true) && all_stand es s job (k + 1) is) ≡ true
    go true e = e
    go false e = e

pub item_more : (es more : List Entry) (s w : ℕ) → has_item es s w ≡ true → has_item (es ++ more) s w ≡ true
item_more es more s w e = any_front (is_item_at s w) es more e
