-- How often a turn stands among those of holds and of requests that were given up.
use Rattle.std.proofs.Common.{◌≡◌, ℕ, ◌≤◌, ◌<◌, ◌+◌, List, [], ◌∷◌, ◌++◌, map, refl, sym, ap, ◌∙◌, Bool, true, false, cond, eqb, ◌||◌, ◌⊎◌, inl, inr}
use Rattle.std.proofs.Common.{zero, suc, slice_get, arith, Option, Some, None}
use Rattle.std.proofs.lemmas.Option.{same_Some}
use Rattle.std.specs.Prelude.{is_some}
use Rattle.std.specs.List.{list_any, filter, AllByRecursion, IsDistinct}
use Rattle.std.specs.Option.{option_map}
use Rattle.std.proofs.lemmas.Bool.{eq-eqb, ne_eqb, cases_lt}
use Rattle.plain_runs.specs.Plain.{Hold, Given, Quitted}
use Rattle.plain_runs.specs.Holds.{given_up}
use Rattle.plain_runs.specs.LockRows.{change_first, change_last, first_quit, drop_quit}
use Rattle.plain_runs.proofs.Lists.{both_ways}
use Rattle.hold_laws.specs.HoldLaws.{hold_turns, quit_turns, turn_in}

abbrev pub bit : Bool → ℕ
bit b = cond b 1 0

-- how often a number stands in a list
abbrev pub times : ℕ → List ℕ → ℕ
times n [] = 0
times n (x ∷ xs) = bit (eqb x n) + times n xs

pub times-append : (n : ℕ) (xs ys : List ℕ) → times n (xs ++ ys) ≡ times n xs + times n ys
times-append n [] ys = omega arith
times-append n (x ∷ xs) ys = let rest : times n (xs ++ ys) ≡ times n xs + times n ys = times-append n xs ys in omega (arith, rest)

-- of holds
abbrev pub in_holds : ℕ → List Hold → ℕ
in_holds n hs = times n (hold_turns hs)

-- of requests
abbrev pub in_quits : ℕ → List Quitted → ℕ
in_quits n qs = times n (quit_turns qs)

in_holds-cons : (n : ℕ) (h : Hold) (hs : List Hold) → in_holds n (h ∷ hs) ≡ times n (turn_in h.given) + in_holds n hs
in_holds-cons n h hs = times-append n (turn_in h.given) (hold_turns hs)

-- holds that keep when they were given up
pub turns_map : (f : Hold → Hold) → ((h : Hold) → (f h).given ≡ h.given) → (hs : List Hold) → hold_turns (map f hs) ≡ hold_turns hs
turns_map f same [] = refl
turns_map f same (h ∷ hs) =
    ap (λ (o : Option Given). turn_in o ++ hold_turns (map f hs)) (same h) ∙ ap (λ (ts : List ℕ). turn_in h.given ++ ts) (turns_map f same hs)

pub turns_first : (p : Hold → Bool) (f : Hold → Hold) → ((h : Hold) → (f h).given ≡ h.given) → (hs : List Hold)
    → hold_turns (change_first p f hs) ≡ hold_turns hs
turns_first p f same [] = refl
turns_first p f same (h ∷ hs) = go (p h) (turns_first p f same hs)
  where
    go : (b : Bool) → hold_turns (change_first p f hs) ≡ hold_turns hs → hold_turns (cond b (f h ∷ hs) (h ∷ change_first p f hs)) ≡ hold_turns (h ∷ hs)
    go true e = ap (λ (o : Option Given). turn_in o ++ hold_turns hs) (same h)
    go false e = ap (λ (ts : List ℕ). turn_in h.given ++ ts) e

-- one hold more
pub in_holds-push : (n : ℕ) (hs : List Hold) (x : Hold) → in_holds n (hs ++ x ∷ []) ≡ in_holds n hs + times n (turn_in x.given)
in_holds-push n [] x = let one : in_holds n (x ∷ []) ≡ times n (turn_in x.given) + in_holds n [] = in_holds-cons n x [] in omega (arith, one)
in_holds-push n (h ∷ hs) x =
    let rest : in_holds n (hs ++ x ∷ []) ≡ in_holds n hs + times n (turn_in x.given) = in_holds-push n hs x in
    let long : in_holds n (h ∷ (hs ++ x ∷ [])) ≡ times n (turn_in h.given) + in_holds n (hs ++ x ∷ []) = in_holds-cons n h (hs ++ x ∷ []) in
    let short : in_holds n (h ∷ hs) ≡ times n (turn_in h.given) + in_holds n hs = in_holds-cons n h hs in
    omega (arith, rest, long, short)

no_turn : (n : ℕ) (o : Option Given) → is_some o ≡ false → times n (turn_in o) ≡ 0
no_turn n None e = refl
no_turn n (Some g) e = absurd (cc (e))

-- a hold that wasn't given up is
give_one : (n : ℕ) (g : Given) (h : Hold) (hs : List Hold) → is_some h.given ≡ false → in_holds n (given_up g h ∷ hs) ≡ in_holds n (h ∷ hs) + bit (eqb g.turn n)
give_one n g h hs none =
    let new : in_holds n (given_up g h ∷ hs) ≡ times n (turn_in (Some g)) + in_holds n hs = in_holds-cons n (given_up g h) hs in
    let old : in_holds n (h ∷ hs) ≡ times n (turn_in h.given) + in_holds n hs = in_holds-cons n h hs in
    omega (arith, new, old, no_turn n h.given none)

-- the first that passes a test is given up, or none
pub give_first : (n : ℕ) (p : Hold → Bool) (g : Given) → ((h : Hold) → p h ≡ true → is_some h.given ≡ false) → (hs : List Hold)
    → in_holds n (change_first p (given_up g) hs) ≡ in_holds n hs + cond (list_any p hs) (bit (eqb g.turn n)) 0
give_first n p g none [] = refl
give_first n p g none (h ∷ hs) = go (p h) refl (give_first n p g none hs)
  where
    go : (b : Bool) → p h ≡ b → in_holds n (change_first p (given_up g) hs) ≡ in_holds n hs + cond (list_any p hs) (bit (eqb g.turn n)) 0
        → in_holds n (cond b (given_up g h ∷ hs) (h ∷ change_first p (given_up g) hs)) ≡ in_holds n (h ∷ hs) + cond (b || list_any p hs) (bit (eqb g.turn n)) 0
    go true is e = give_one n g h hs (none h is)
    go false is e =
        let long : in_holds n (h ∷ change_first p (given_up g) hs) ≡ times n (turn_in h.given) + in_holds n (change_first p (given_up g) hs)
        = in_holds-cons n h (change_first p (given_up g) hs) in
        let short : in_holds n (h ∷ hs) ≡ times n (turn_in h.given) + in_holds n hs = in_holds-cons n h hs in
        omega (arith, e, long, short)

-- the last that does
pub give_last : (n : ℕ) (p : Hold → Bool) (g : Given) → ((h : Hold) → p h ≡ true → is_some h.given ≡ false) → (hs : List Hold)
    → in_holds n (change_last p (given_up g) hs) ≡ in_holds n hs + cond (list_any p hs) (bit (eqb g.turn n)) 0
give_last n p g none [] = refl
give_last n p g none (h ∷ hs) = go (list_any p hs) (p h) refl (give_last n p g none hs)
  where
    go : (c b : Bool) → p h ≡ b → in_holds n (change_last p (given_up g) hs) ≡ in_holds n hs + cond c (bit (eqb g.turn n)) 0
        → in_holds n (cond c (h ∷ change_last p (given_up g) hs) (cond b (given_up g h ∷ hs) (h ∷ hs)))
        ≡ in_holds n (h ∷ hs) + cond (b || c) (bit (eqb g.turn n)) 0
    go true b is e =
        let long : in_holds n (h ∷ change_last p (given_up g) hs) ≡ times n (turn_in h.given) + in_holds n (change_last p (given_up g) hs)
        = in_holds-cons n h (change_last p (given_up g) hs) in
        let short : in_holds n (h ∷ hs) ≡ times n (turn_in h.given) + in_holds n hs = in_holds-cons n h hs in
        let all : in_holds n (h ∷ change_last p (given_up g) hs) ≡ in_holds n (h ∷ hs) + bit (eqb g.turn n) = omega (arith, e, long, short) in
        either b all
      where
        either : (b : Bool) → in_holds n (h ∷ change_last p (given_up g) hs) ≡ in_holds n (h ∷ hs) + bit (eqb g.turn n)
            → in_holds n (h ∷ change_last p (given_up g) hs) ≡ in_holds n (h ∷ hs) + cond (b || true) (bit (eqb g.turn n)) 0
        either true x = x
        either false x = x
    go false true is e = give_one n g h hs (none h is)
    go false false is e = omega arith

-- requests

pub quits_push : (n : ℕ) (qs : List Quitted) (q : Quitted) → in_quits n (qs ++ q ∷ []) ≡ in_quits n qs + bit (eqb q.given.turn n)
quits_push n [] q = omega arith
quits_push n (x ∷ qs) q = let rest : in_quits n (qs ++ q ∷ []) ≡ in_quits n qs + bit (eqb q.given.turn n) = quits_push n qs q in omega (arith, rest)

pub quits_filter : (n : ℕ) (p : Quitted → Bool) (qs : List Quitted) → in_quits n (filter p qs) ≤ in_quits n qs
quits_filter n p [] = omega arith
quits_filter n p (q ∷ qs) = go (p q) (quits_filter n p qs)
  where
    go : (b : Bool) → in_quits n (filter p qs) ≤ in_quits n qs → in_quits n (cond b (q ∷ filter p qs) (filter p qs)) ≤ in_quits n (q ∷ qs)
    go true low = omega (arith, low)
    go false low = omega (arith, low)

-- the first that passes a test becomes a hold's
pub quits_taken : (n : ℕ) (p : Quitted → Bool) (qs : List Quitted)
    → times n (turn_in (option_map (λ (x : Quitted). x.given) (first_quit p qs))) + in_quits n (drop_quit p qs) ≡ in_quits n qs
quits_taken n p [] = refl
quits_taken n p (q ∷ qs) = go (p q) (quits_taken n p qs)
  where
    go : (b : Bool) → times n (turn_in (option_map (λ (x : Quitted). x.given) (first_quit p qs))) + in_quits n (drop_quit p qs) ≡ in_quits n qs
        → times n (turn_in (option_map (λ (x : Quitted). x.given) (cond b (Some q) (first_quit p qs)))) + in_quits n (cond b qs (q ∷ drop_quit p qs))
        ≡ in_quits n (q ∷ qs)
    go true e = omega arith
    go false e = omega (arith, e)

-- lists

one : (x : ℕ) → bit (eqb x x) ≡ 1
one x = ap bit (eq-eqb x x refl)

-- where each number stands at most once, no two are the same
pub distinct_once : (xs : List ℕ) → ((n : ℕ) → times n xs ≤ 1) → IsDistinct eqb xs
unfolding IsDistinct
distinct_once [] f = tt
distinct_once (x ∷ xs) f = (apart xs (here (f x)), distinct_once xs (λ n. omega (arith, f n)))
  where
    here : times x (x ∷ xs) ≤ 1 → times x xs ≤ 0
    here low = omega (arith, low, one x)

    apart : (ys : List ℕ) → times x ys ≤ 0 → AllByRecursion (λ y. eqb x y ≡ false) ys
    apart [] low = tt
    apart (y ∷ ys) low = (go (eqb y x) refl (omega (arith, low)), apart ys (omega (arith, low)))
      where
        go : (b : Bool) → eqb y x ≡ b → bit b ≤ 0 → eqb x y ≡ false
        go true e low = absurd (omega (arith, low))
        go false e low = ne_eqb x y (λ same. both_ways (eqb y x) (eq-eqb y x (sym same)) e)

-- where no number from n on stands, each is below n
pub below_none : (n : ℕ) (xs : List ℕ) → ((k : ℕ) → n ≤ k → times k xs ≤ 0) → AllByRecursion (λ x. x < n) xs
below_none n [] f = tt
below_none n (x ∷ xs) f = (go (cases_lt x n), below_none n xs (λ k high. omega (arith, f k high)))
  where
    go : (x < n) ⊎ (n ≤ x) → x < n
    go (inl low) = low
    go (inr high) = absurd (omega (arith, f x high, one x))

-- where a turn stands

in_turn : (n : ℕ) (o : Option Given) (g : Given) → o ≡ Some g → g.turn ≡ n → 1 ≤ times n (turn_in o)
in_turn n None g is e = absurd (cc (is))
in_turn n (Some x) g is e =
    let same : x.turn ≡ n = ap (λ (y : Given). y.turn) (same_Some x g is) ∙ e in
    let here : bit (eqb x.turn n) ≡ 1 = ap bit (eq-eqb x.turn n same) in
    omega (arith, here)

pub hold_once : (n : ℕ) (hs : List Hold) (i : ℕ) (h : Hold) (g : Given) → slice_get hs i ≡ Some h → h.given ≡ Some g → g.turn ≡ n → 1 ≤ in_holds n hs
hold_once n [] i h g at is e = absurd (cc (at))
hold_once n (x ∷ hs) zero h g at is e =
    let here : x.given ≡ Some g = ap (λ (y : Hold). y.given) (same_Some x h at) ∙ is in omega (arith, in_holds-cons n x hs, in_turn n x.given g here e)
hold_once n (x ∷ hs) (suc i) h g at is e = omega (arith, in_holds-cons n x hs, hold_once n hs i h g at is e)

pub holds_once : (n : ℕ) (hs : List Hold) (i j : ℕ) (h k : Hold) (g o : Given) → in_holds n hs ≤ 1 → slice_get hs i ≡ Some h → slice_get hs j ≡ Some k
    → h.given ≡ Some g → k.given ≡ Some o → g.turn ≡ n → o.turn ≡ n → i ≡ j
holds_once n [] i j h k g o low at there is other e f = absurd (cc (at))
holds_once n (x ∷ hs) zero zero h k g o low at there is other e f = refl
holds_once n (x ∷ hs) zero (suc j) h k g o low at there is other e f =
    let here : x.given ≡ Some g = ap (λ (y : Hold). y.given) (same_Some x h at) ∙ is in
    absurd (omega (arith, low, in_holds-cons n x hs, in_turn n x.given g here e, hold_once n hs j k o there other f))
holds_once n (x ∷ hs) (suc i) zero h k g o low at there is other e f =
    let here : x.given ≡ Some o = ap (λ (y : Hold). y.given) (same_Some x k there) ∙ other in
    absurd (omega (arith, low, in_holds-cons n x hs, in_turn n x.given o here f, hold_once n hs i h g at is e))
holds_once n (x ∷ hs) (suc i) (suc j) h k g o low at there is other e f =
    ap suc (holds_once n hs i j h k g o (omega (arith, low, in_holds-cons n x hs)) at there is other e f)

in_quit : (n : ℕ) (x q : Quitted) → x ≡ q → q.given.turn ≡ n → bit (eqb x.given.turn n) ≡ 1
in_quit n x q is e = ap bit (eq-eqb x.given.turn n (ap (λ (y : Quitted). y.given.turn) is ∙ e))

pub quit_once : (n : ℕ) (qs : List Quitted) (i : ℕ) (q : Quitted) → slice_get qs i ≡ Some q → q.given.turn ≡ n → 1 ≤ in_quits n qs
quit_once n [] i q at e = absurd (cc (at))
quit_once n (x ∷ qs) zero q at e = omega (arith, in_quit n x q (same_Some x q at) e)
quit_once n (x ∷ qs) (suc i) q at e = omega (arith, quit_once n qs i q at e)

pub quits_once : (n : ℕ) (qs : List Quitted) (i j : ℕ) (q r : Quitted) → in_quits n qs ≤ 1 → slice_get qs i ≡ Some q → slice_get qs j ≡ Some r
    → q.given.turn ≡ n → r.given.turn ≡ n → i ≡ j
quits_once n [] i j q r low at there e f = absurd (cc (at))
quits_once n (x ∷ qs) zero zero q r low at there e f = refl
quits_once n (x ∷ qs) zero (suc j) q r low at there e f = absurd (omega (arith, low, in_quit n x q (same_Some x q at) e, quit_once n qs j r there f))
quits_once n (x ∷ qs) (suc i) zero q r low at there e f = absurd (omega (arith, low, in_quit n x r (same_Some x r there) f, quit_once n qs i q at e))
quits_once n (x ∷ qs) (suc i) (suc j) q r low at there e f = ap suc (quits_once n qs i j q r (omega (arith, low)) at there e f)
