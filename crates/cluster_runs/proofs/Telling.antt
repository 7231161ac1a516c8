-- What has a code is the same or not, and what can be told of parts can be told of the whole.
use Rattle.std.specs.Prelude.{◌≡◌, ◌≤◌, ◌<◌, ℕ, Option, Some, None, IfSome, refl}
use Rattle.std.proofs.Common.{ap, sym, arith}
use Rattle.std.specs.Coded.{Coded}
use base.Stored.{Gv, gnil, gnum, gcons}
use Rattle.std.proofs.Math.Decide.{ℕ_discrete, dec_le, dec_lt}
use Rattle.std.proofs.Math.Logic.{inl, inr}
use Rattle.cluster_runs.specs.Decided.{IsDecided}

-- which of its three kinds a ghost value is
abbrev kind : Gv → ℕ
kind gnil = 0
kind (gnum n) = 1
kind (gcons a b) = 2

abbrev number : Gv → ℕ
number gnil = 0
number (gnum n) = n
number (gcons a b) = 0

abbrev first : Gv → Gv
first gnil = gnil
first (gnum n) = gnil
first (gcons a b) = a

abbrev second : Gv → Gv
second gnil = gnil
second (gnum n) = gnil
second (gcons a b) = b

pub of_dec : {P : Type 0} → Dec P → IsDecided P
of_dec (yes p) = inl p
of_dec (no h) = inr h

pub numbers : (m n : ℕ) → IsDecided (m ≡ n)
numbers m n = of_dec (ℕ_discrete m n)

pub at_most : (m n : ℕ) → IsDecided (m ≤ n)
at_most m n = of_dec (dec_le m n)

pub below : (m n : ℕ) → IsDecided (m < n)
below m n = of_dec (dec_lt m n)

-- one fact for another that says the same
pub meant : {P Q : Type 0} → (P → Q) → (Q → P) → IsDecided P → IsDecided Q
meant f g (inl p) = inl (f p)
meant f g (inr h) = inr (λ q. h (g q))

pub both : {P Q : Type 0} → IsDecided P → IsDecided Q → IsDecided (P × Q)
both (inl p) (inl q) = inl (p, q)
both (inl p) (inr h) = inr (λ t. h t.1)
both (inr h) q = inr (λ t. h t.0)

pub never : {P : Type 0} → (P → ⊥) → IsDecided P
never h = inr h

pub always : {P : Type 0} → P → IsDecided P
always p = inl p

pub denied : {P : Type 0} → IsDecided P → IsDecided (P → ⊥)
denied (inl p) = inr (λ h. h p)
denied (inr h) = inl h

number_cases : (m n : ℕ) → IsDecided (m ≡ n) → IsDecided (gnum m ≡ gnum n)
number_cases m n d = meant (ap gnum) (ap number) d

pair_cases : (a b c d : Gv) → IsDecided (a ≡ c) → IsDecided (b ≡ d) → IsDecided (gcons a b ≡ gcons c d)
pair_cases a b c d (inl e) (inl f) = inl (λ i. gcons (e i) (f i))
pair_cases a b c d (inl e) (inr h) = inr (λ g. h (ap second g))
pair_cases a b c d (inr h) f = inr (λ g. h (ap first g))

pub not_one : ◌≡◌ {A = ℕ} 0 1 → ⊥
not_one e = omega arith

not_two : ◌≡◌ {A = ℕ} 0 2 → ⊥
not_two e = omega arith

one_not_two : ◌≡◌ {A = ℕ} 1 2 → ⊥
one_not_two e = omega arith

values : (a b : Gv) → IsDecided (a ≡ b)
values gnil gnil = inl refl
values (gnum m) (gnum n) = number_cases m n (numbers m n)
values (gcons a b) (gcons c d) = pair_cases a b c d (values a c) (values b d)
values gnil (gnum n) = inr (λ e. not_one (ap kind e))
values gnil (gcons a b) = inr (λ e. not_two (ap kind e))
values (gnum n) gnil = inr (λ e. not_one (sym (ap kind e)))
values (gnum n) (gcons a b) = inr (λ e. one_not_two (ap kind e))
values (gcons a b) gnil = inr (λ e. not_two (sym (ap kind e)))
values (gcons a b) (gnum n) = inr (λ e. one_not_two (sym (ap kind e)))

-- what has a code is the same or not
pub same : {A : Type 0} → Coded A → (x y : A) → IsDecided (x ≡ y)
same c x y = meant (c.inj x y) (ap c.code) (values (c.code x) (c.code y))

pub if_some : {A : Type 0} {P : A → Type 0} (o : Option A) → ((x : A) → IsDecided (P x)) → IsDecided (IfSome o P)
if_some None d = inl tt
if_some (Some x) d = d x
