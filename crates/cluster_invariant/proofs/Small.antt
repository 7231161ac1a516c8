-- A function that is changed at one place, and options with a fact of what they have.
use Rattle.std.proofs.Common.{◌≡◌, ◌≢◌, ℕ, Bool, true, false, if◌then◌else◌, Option, Some, None, refl, sym, ap, subst, eqb, ◌∙◌}
use Rattle.std.proofs.lemmas.Bool.{ne_eqb, eq-eqb, eqb-true, false≢true}
use Rattle.std.specs.Prelude.{IfSome}
use Rattle.plain_runs.specs.Plain.{put}

pub put_same : {X : Type 0} (f : ℕ → X) (k : ℕ) (x : X) → put f k x k ≡ x
put_same f k x = ap (λ (b : Bool). if b then x else f k) (eq-eqb k k refl)

pub put_other : {X : Type 0} (f : ℕ → X) (k : ℕ) (x : X) (q : ℕ) → q ≢ k → put f k x q ≡ f q
put_other f k x q other = ap (λ (b : Bool). if b then x else f q) (ne_eqb q k other)

-- what holds of what is there holds of this
pub of_some : {X : Type 0} (P : X → Type 0) (o : Option X) (x : X) → o ≡ Some x → IfSome o P → P x
of_some P o x there holds = subst (λ (y : Option _). IfSome y P) there holds

pub if_not : {X : Type 0} (b : Bool) (x y : X) → b ≡ false → (if b then x else y) ≡ y
if_not b x y is_false = ap (λ (t : Bool). if t then x else y) is_false

-- all places of a function that is changed at one
pub at_places : {X : Type 0} (P : ℕ → X → Type 0) (f : ℕ → X) (k : ℕ) (x : X) → P k x → ((q : ℕ) → q ≢ k → P q (f q)) → (q : ℕ) → P q (put f k x q)
at_places P f k x here others q = go (eqb q k) refl
  where
    go : (b : Bool) → eqb q k ≡ b → P q (if b then x else f q)
    go true same = subst (λ n. P n x) (sym (eqb-true q k same)) here
    go false other = others q (λ same. false≢true (sym other ∙ eq-eqb q k same))

-- and what follows from it
pub some_kept : {X : Type 0} (P Q : X → Type 0) → ((x : X) → P x → Q x) → (o : Option X) → IfSome o P → IfSome o Q
some_kept P Q f None holds = tt
some_kept P Q f (Some x) holds = f x holds
