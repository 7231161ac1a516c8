-- A round of which sessions are done or closed, one after another.
use Rattle.std.proofs.Common.{◌≡◌, ℕ, suc, Bool, true, false, not, ◌&&◌, ◌||◌, cond, nat_eq, List, [], ◌∷◌, length, filter, refl, sym, ap, ◌∙◌, arith}
use Rattle.std.specs.List.{list_any}
use Rattle.std.proofs.lemmas.Bool.Decides.{nat_tests}
use Rattle.recovery_round.specs.RoundWords.{Round, is_another, is_session, awaits, without}
use Rattle.recovery_round.specs.Laws.{after_all, is_named, CountsEach}

-- one that isn't the session s is awaited after s is done where it was, and s isn't
kept : (session s x : ℕ) (rest : Bool) → (cond (not (nat_eq x s)) (nat_eq x session || (rest && not (nat_eq s session))) (rest && not (nat_eq s session))) ≡ ((nat_eq x session || rest) && not (nat_eq s session))
kept session s x true = grind (arith, nat_tests)
kept session s x false = grind (arith, nat_tests)

split : (b : Bool) (f : List ℕ → Bool) (x : ℕ) (xs : List ℕ) → f (cond b (x ∷ xs) xs) ≡ cond b (f (x ∷ xs)) (f xs)
split true f x xs = refl
split false f x xs = refl

any-without : (session s : ℕ) (xs : List ℕ) → list_any (is_session session) (filter (is_another s) xs) ≡ (list_any (is_session session) xs && not (nat_eq s session))
any-without session s [] = refl
any-without session s (x ∷ xs) =
    split (not (nat_eq x s)) (list_any (is_session session)) x (filter (is_another s) xs)
    ∙ ap (λ rest. cond (not (nat_eq x s)) (nat_eq x session || rest) rest) (any-without session s xs)
    ∙ kept session s x (list_any (is_session session) xs)

both : (a b c : Bool) → ((a && not b) && not c) ≡ (a && not (b || c))
both true true c = refl
both true false c = refl
both false b c = refl

awaits-after_all : (r : Round) (named : List ℕ) (session : ℕ) → awaits (after_all r named) session ≡ (awaits r session && not (is_named session named))
awaits-after_all r [] session = and_true (awaits r session)
  where
    and_true : (a : Bool) → a ≡ (a && true)
    and_true true = refl
    and_true false = refl
awaits-after_all r (s ∷ more) session =
    awaits-after_all (without r s) more session
    ∙ ap (λ b. b && not (is_named session more)) (any-without session s r.awaited)
    ∙ both (awaits r session) (nat_eq s session) (is_named session more)

named_from : (a n : Bool) → false ≡ (a && not n) → a ≡ true → n ≡ true
named_from true true e h = refl
named_from true false e h = cc
named_from false n e h = cc

is_not_named : (a n : Bool) → true ≡ (a && not n) → (a ≡ true) × (n ≡ false)
is_not_named true true e = cc
is_not_named true false e = (refl, refl)
is_not_named false n e = cc

first_awaited : (x : ℕ) (xs : List ℕ) → list_any (is_session x) (x ∷ xs) ≡ true
first_awaited x xs = let itself : nat_eq x x ≡ true = grind (arith, nat_tests) in rw itself refl

not_zero : (n : ℕ) → nat_eq (suc n) 0 ≡ true → ⊥
not_zero n e = grind (arith, nat_tests)

none_awaited : (left : List ℕ) (session : ℕ) → nat_eq (length left) 0 ≡ true → list_any (is_session session) left ≡ false
none_awaited [] session e = refl
none_awaited (x ∷ xs) session e = absurd (not_zero (length xs) e)

all_named : (r : Round) (named left : List ℕ) → (after_all r named).awaited ≡ left → ((session : ℕ) → awaits r session ≡ true → is_named session named ≡ true) → nat_eq (length left) 0 ≡ true
all_named r named [] is each = refl
all_named r named (x ∷ xs) is each =
    let still : true ≡ (awaits r x && not (is_named x named)) = sym (first_awaited x xs) ∙ ap (list_any (is_session x)) (sym is) ∙ awaits-after_all r named x in
    let parts = is_not_named (awaits r x) (is_named x named) still in
    let yes = each x parts.0 in
    let no = parts.1 in
    cc

due-after_all : (r : Round) (named : List ℕ) → (after_all r named).due ≡ r.due
due-after_all r [] = refl
due-after_all r (s ∷ more) = due-after_all (without r s) more

pub counts_each : (r : Round) (named : List ℕ) → CountsEach r named
counts_each r named = record {
  awaited = awaits-after_all r named;
  over = (λ e session h. named_from (awaits r session) (is_named session named) (sym (none_awaited (after_all r named).awaited session e) ∙ awaits-after_all r named session) h, λ each. all_named r named (after_all r named).awaited refl each);
  due = due-after_all r named;
}
