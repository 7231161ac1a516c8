-- Running numbers of a session's items in a list.
use Rattle.std.proofs.Common.{◌≡◌, ◌≢◌, ℕ, zero, suc, ◌≤◌, ◌<◌, ◌+◌, max, List, [], ◌∷◌, ◌++◌, length, take, drop, refl, subst, sym, ap, ◌∙◌, Bool, true, false, eqb, ◌==◌, if◌then◌else◌, arith, length-append, append_assoc, ◌||◌}
use Rattle.std.specs.List.{list_any}
use Rattle.std.proofs.lemmas.Bool.{eqb-true, eqb-false, eq-eqb}
use Rattle.std.proofs.lemmas.List.{take-append-drop, append-nil}
use Rattle.plain_orders.specs.declared.entry.Entry.{Entry}
use Rattle.plain_orders.specs.declared.entry.Entry.TheVariants.{Epoch, Opened, Closed, Update, Commit, Rollback}
use Rattle.plain_orders.specs.Entries.{count, count_from, w_in}
use Rattle.plain_orders.specs.Ordered.{MayFollow, OrderedFrom, IsOrdered}
use Rattle.plain_runs.specs.Laws.{count_up}
use Rattle.plain_orders.specs.ItemEntries.{is_item_of, is_item_at, has_item, w_of, numbers}

-- each session's items stand in the order of their running numbers
abbrev pub InOrder : List Entry → Type 0
InOrder es = (s : ℕ) → numbers es s ≡ count_up 0 (length (numbers es s))

pub nothing_in_order : InOrder []
nothing_in_order s = refl

max_from : ℕ → List ℕ → ℕ
max_from n [] = n
max_from n (w ∷ ws) = max_from (max n w) ws

pub w_is : (s : ℕ) (e : Entry) → w_in s e ≡ (if is_item_of s e then w_of e else 0)
w_is s (Epoch number) = refl
w_is s (Opened session app) = refl
w_is s (Closed session) = refl
w_is s (Update session w job txn op) = refl
w_is s (Commit session w job txn) = refl
w_is s (Rollback session w job txn) = refl

count_max : (s n : ℕ) (es : List Entry) → count_from n es s ≡ max_from n (numbers es s)
unfolding max_from
count_max s n [] = refl
count_max s n (e ∷ es) = ap (λ w. count_from (max n w) es s) (w_is s e) ∙ go (is_item_of s e) (count_max s (max n (w_of e)) es) (count_max s n es)
  where
    go : (b : Bool) → count_from (max n (w_of e)) es s ≡ max_from (max n (w_of e)) (numbers es s) → count_from n es s ≡ max_from n (numbers es s) → count_from (max n (if b then w_of e else 0)) es s ≡ max_from n (if b then w_of e ∷ numbers es s else numbers es s)
    go true f g = f
    go false f g = ap (λ m. count_from m es s) (omega arith) ∙ g

max_up : (k n : ℕ) → max_from k (count_up k n) ≡ k + n
unfolding max_from
max_up k zero = omega arith
max_up k (suc n) = ap (λ m. max_from m (count_up (k + 1) n)) (omega arith) ∙ max_up (k + 1) n ∙ omega arith

-- the count is the number of items
pub count_is : (es : List Entry) (s : ℕ) → InOrder es → count es s ≡ length (numbers es s)
count_is es s o = count_max s 0 es ∙ ap (max_from 0) (o s) ∙ max_up 0 (length (numbers es s)) ∙ omega arith

up_push : (k n : ℕ) → count_up k n ++ (k + n + 1) ∷ [] ≡ count_up k (suc n)
up_push k zero = ap (λ m. m ∷ []) (omega arith)
up_push k (suc n) = ap (λ (ms : List ℕ). (k + 1) ∷ ms) (ap (λ m. count_up (k + 1) n ++ m ∷ []) (omega arith) ∙ up_push (k + 1) n)

numbers_push : (es : List Entry) (e : Entry) (s : ℕ) → numbers (es ++ e ∷ []) s ≡ numbers es s ++ (if is_item_of s e then w_of e ∷ [] else [])
numbers_push [] e s = refl
numbers_push (x ∷ es) e s = go (is_item_of s x) (numbers_push es e s)
  where
    go : (b : Bool) → numbers (es ++ e ∷ []) s ≡ numbers es s ++ (if is_item_of s e then w_of e ∷ [] else []) → (if b then w_of x ∷ numbers (es ++ e ∷ []) s else numbers (es ++ e ∷ []) s) ≡ (if b then w_of x ∷ numbers es s else numbers es s) ++ (if is_item_of s e then w_of e ∷ [] else [])
    go true f = ap (λ (ws : List ℕ). w_of x ∷ ws) f
    go false f = f

-- an entry more, which is no item or has the next number
pub in_order_push : (es : List Entry) (e : Entry) → InOrder es → ((s : ℕ) → is_item_of s e ≡ true → w_of e ≡ count es s + 1) → InOrder (es ++ e ∷ [])
in_order_push es e o next s = go (is_item_of s e) refl
  where
    part : (b : Bool) → is_item_of s e ≡ b → numbers (es ++ e ∷ []) s ≡ numbers es s ++ (if b then w_of e ∷ [] else [])
    part b is = numbers_push es e s ∙ ap (λ (c : Bool). numbers es s ++ (if c then w_of e ∷ [] else [])) is

    go : (b : Bool) → is_item_of s e ≡ b → numbers (es ++ e ∷ []) s ≡ count_up 0 (length (numbers (es ++ e ∷ []) s))
    go false is = let same : numbers (es ++ e ∷ []) s ≡ numbers es s = part false is ∙ append-nil (numbers es s) in same ∙ o s ∙ ap (λ (ws : List ℕ). count_up 0 (length ws)) (sym same)
    go true is =
        let longer : length (numbers (es ++ e ∷ []) s) ≡ suc (length (numbers es s)) = omega (arith, ap length (part true is), length-append (numbers es s) (w_of e ∷ [])) in
        let number : w_of e ≡ 0 + length (numbers es s) + 1 = omega (arith, next s is, count_is es s o) in
        part true is ∙ ap (λ w. numbers es s ++ w ∷ []) number ∙ ap (λ (ws : List ℕ). ws ++ (0 + length (numbers es s) + 1) ∷ []) (o s) ∙ up_push 0 (length (numbers es s)) ∙ ap (count_up 0) (sym longer)

numbers-append : (xs ys : List Entry) (s : ℕ) → numbers (xs ++ ys) s ≡ numbers xs s ++ numbers ys s
numbers-append [] ys s = refl
numbers-append (x ∷ xs) ys s = go (is_item_of s x) (numbers-append xs ys s)
  where
    go : (b : Bool) → numbers (xs ++ ys) s ≡ numbers xs s ++ numbers ys s → (if b then w_of x ∷ numbers (xs ++ ys) s else numbers (xs ++ ys) s) ≡ (if b then w_of x ∷ numbers xs s else numbers xs s) ++ numbers ys s
    go true f = ap (λ (ws : List ℕ). w_of x ∷ ws) f
    go false f = f

up_front : (k n : ℕ) (xs ys : List ℕ) → xs ++ ys ≡ count_up k n → xs ≡ count_up k (length xs)
up_front k n [] ys e = refl
up_front k zero (x ∷ xs) ys e = absurd (cc (e))
up_front k (suc n) (x ∷ xs) ys e =
    let first : x ≡ k + 1 = cc (e) in
    let rest : xs ++ ys ≡ count_up (k + 1) n = cc (e) in
    ap (λ m. m ∷ xs) first ∙ ap (λ (ms : List ℕ). (k + 1) ∷ ms) (up_front (k + 1) n xs ys rest)

-- a front of a list
pub in_order_take : (n : ℕ) (es : List Entry) → InOrder es → InOrder (take n es)
in_order_take n es o s =
    up_front 0 (length (numbers es s)) (numbers (take n es) s) (numbers (drop n es) s)
    (sym (numbers-append (take n es) (drop n es) s) ∙ ap (λ (xs : List Entry). numbers xs s) (take-append-drop n es) ∙ o s)

-- an entry that may follow has the next number
follows : (es : List Entry) (e : Entry) → MayFollow es e → (s : ℕ) → is_item_of s e ≡ true → w_of e ≡ count es s + 1
follows es (Epoch number) may s is = absurd (cc (is))
follows es (Opened session app) may s is = absurd (cc (is))
follows es (Closed session) may s is = absurd (cc (is))
follows es (Update session w job txn op) may s is = may.is_next ∙ ap (λ n. count es n + 1) (eqb-true session s is)
follows es (Commit session w job txn) may s is = may.is_next ∙ ap (λ n. count es n + 1) (eqb-true session s is)
follows es (Rollback session w job txn) may s is = may.is_next ∙ ap (λ n. count es n + 1) (eqb-true session s is)

ordered_from : (before es : List Entry) → InOrder before → OrderedFrom before es → InOrder (before ++ es)
ordered_from before [] o may = subst InOrder (sym (append-nil before)) o
ordered_from before (e ∷ es) o may = subst InOrder (append_assoc before (e ∷ []) es) (ordered_from (before ++ e ∷ []) es (in_order_push before e o (follows before e may.0)) may.1)

pub ordered_in_order : (es : List Entry) → IsOrdered es → InOrder es
ordered_in_order es may = ordered_from [] es nothing_in_order may

item_at_is : (s : ℕ) (e : Entry) → is_item_of s e ≡ true → is_item_at s (w_of e) e ≡ true
item_at_is s (Epoch number) is = absurd (cc (is))
item_at_is s (Opened session app) is = absurd (cc (is))
item_at_is s (Closed session) is = absurd (cc (is))
item_at_is s (Update session w job txn op) is = rw (is, eq-eqb w w refl) refl
item_at_is s (Commit session w job txn) is = rw (is, eq-eqb w w refl) refl
item_at_is s (Rollback session w job txn) is = rw (is, eq-eqb w w refl) refl

is_in : ℕ → List ℕ → Bool
is_in w ws = list_any (λ n. n == w) ws

or_right : (a b : Bool) → b ≡ true → (a || b) ≡ true
or_right true b e = refl
or_right false b e = e

in_has : (es : List Entry) (s w : ℕ) → is_in w (numbers es s) ≡ true → has_item es s w ≡ true
unfolding is_in
in_has [] s w e = e
in_has (x ∷ es) s w e = go (is_item_of s x) refl (in_has es s w) e
  where
    here : (b : Bool) → (w_of x == w) ≡ b → is_item_of s x ≡ true → (is_in w (numbers es s) ≡ true → has_item es s w ≡ true) → (b || is_in w (numbers es s)) ≡ true → (is_item_at s w x || has_item es s w) ≡ true
    here true same is f h = ap (λ (b : Bool). b || has_item es s w) (subst (λ n. is_item_at s n x ≡ true) (eqb-true (w_of x) w same) (item_at_is s x is))
    here false same is f h = or_right (is_item_at s w x) (has_item es s w) (f h)

    go : (b : Bool) → is_item_of s x ≡ b → (is_in w (numbers es s) ≡ true → has_item es s w ≡ true) → is_in w (if b then w_of x ∷ numbers es s else numbers es s) ≡ true → (is_item_at s w x || has_item es s w) ≡ true
    go true is f h = here (w_of x == w) refl is f h
    go false is f h = or_right (is_item_at s w x) (has_item es s w) (f h)

up_in : (k n w : ℕ) → k < w → w ≤ k + n → is_in w (count_up k n) ≡ true
unfolding is_in
up_in k zero w low high = absurd (omega arith)
up_in k (suc n) w low high = go (eqb (k + 1) w) refl (up_in (k + 1) n w)
  where
    above : (k + 1 ≢ w) → k + 1 < w
    above h = omega (arith, h)

    go : (b : Bool) → eqb (k + 1) w ≡ b → (k + 1 < w → w ≤ k + 1 + n → is_in w (count_up (k + 1) n) ≡ true) → (b || is_in w (count_up (k + 1) n)) ≡ true
    go true e f = refl
    go false e f = f (above (eqb-false (k + 1) w e)) (omega arith)

-- each number up to the count is there
pub has_counted : (es : List Entry) (s w : ℕ) → InOrder es → 0 < w → w ≤ count es s → has_item es s w ≡ true
has_counted es s w o low high = in_has es s w (subst (λ (ws : List ℕ). is_in w ws ≡ true) (sym (o s)) (up_in 0 (length (numbers es s)) w low (omega (arith, high, count_is es s o))))
