-- Runs that go on.
use Rattle.std.proofs.Common.{◌≡◌, ℕ, List, [], ◌∷◌, ◌++◌, refl, subst, sym, Bool, true, false, if◌then◌else◌, eqb}
use Rattle.std.proofs.lemmas.Bool.{eqb-true}
use Rattle.plain_orders.specs.declared.act.Act.{Act}
use Rattle.plain_orders.specs.declared.layout.Layout.{Layout}
use Rattle.plain_runs.specs.Plain.{Plain, put}
use Rattle.plain_runs.specs.Step.{MayCome, after}
use Rattle.plain_runs.specs.Run.{after_all, RunFrom}

-- the state after one act more
pub after_all-more : (l : Layout) (p : Plain) (acts : List Act) (a : Act) → after_all l p (acts ++ a ∷ []) ≡ after l (after_all l p acts) a
after_all-more l p [] a = refl
after_all-more l p (b ∷ acts) a = after_all-more l (after l p b) acts a

-- a run with an act more that may come is a run
pub run_more : (l : Layout) (p : Plain) (acts : List Act) (a : Act) → RunFrom l p acts → MayCome l (after_all l p acts) a → RunFrom l p (acts ++ a ∷ [])
run_more l p [] a run may = (may, tt)
run_more l p (b ∷ acts) a run may = (run.0, run_more l (after l p b) acts a run.1 may)

-- the state after more acts
pub after_all-append : (l : Layout) (p : Plain) (acts more : List Act) → after_all l p (acts ++ more) ≡ after_all l (after_all l p acts) more
after_all-append l p [] more = refl
after_all-append l p (b ∷ acts) more = after_all-append l (after l p b) acts more

-- both parts of a run
pub run_parts : (l : Layout) (p : Plain) (acts more : List Act) → RunFrom l p (acts ++ more) → RunFrom l p acts × RunFrom l (after_all l p acts) more
run_parts l p [] more run = (tt, run)
run_parts l p (b ∷ acts) more run =
    let rest : RunFrom l (after l p b) acts × RunFrom l (after_all l (after l p b) acts) more = run_parts l (after l p b) acts more run.1 in
    ((run.0, rest.0), rest.1)

-- two parts make a run
pub run_joined : (l : Layout) (p : Plain) (acts more : List Act) → RunFrom l p acts → RunFrom l (after_all l p acts) more → RunFrom l p (acts ++ more)
run_joined l p [] more run rest = rest
run_joined l p (b ∷ acts) more run rest = (run.0, run_joined l (after l p b) acts more run.1 rest)

-- A relation that each value has to itself and that holds at a changed place holds everywhere.
pub at_put : {X : Type 0} (R : X → X → Type 0) (f : ℕ → X) (k : ℕ) (x : X) → ((y : X) → R y y) → R (f k) x → (d : ℕ) → R (f d) (put f k x d)
at_put R f k x same here d = go (eqb d k) refl
  where
    go : (b : Bool) → eqb d k ≡ b → R (f d) (if b then x else f d)
    go true e = subst (λ n. R (f n) x) (sym (eqb-true d k e)) here
    go false e = same (f d)
