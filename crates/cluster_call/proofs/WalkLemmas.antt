-- Lists of a run that grow by one line: what the lines added, the moments of a job, and its commands that were done.
use Rattle.std.proofs.Common.{◌≡◌, ℕ, ◌+◌, ◌<◌, ◌≤◌, ◌==◌, if◌then◌else◌, List, [], ◌∷◌, ◌++◌, length, refl, sym, ap, ◌∙◌, append_assoc, append-nil, subst, arith}
use Rattle.std.specs.List.{flat_map, AllByRecursion}
use Rattle.std.proofs.lemmas.List.Elements.{filter-append}
use Rattle.plain_orders.specs.declared.act.Act.{Act}
use Rattle.plain_orders.specs.declared.layout.Layout.{Layout}
use Rattle.plain_runs.specs.Plain.{Plain}
use Rattle.plain_runs.specs.Run.{after_all}
use Rattle.plain_runs.specs.Step.{after}
use Rattle.app_job.specs.declared.answer.Answer.{Answer}
use Rattle.job_script.specs.declared.script_line.ScriptLine.{ScriptLine}
use Rattle.script_fits.specs.Moments.{Moment, moments_from, moments_of, is_job, job_of}
use Rattle.script_fits.specs.Locking.{HeldBack, Past}
use Rattle.script_fits.specs.Commands.{IsDone}
use Rattle.script_fits.specs.JobLines.{CommandLine, Ended, AreDone, end_of, past_after}
use Rattle.script_fits.specs.Walk.{Added, SoFar, with_line}
use Rattle.script_fits.specs.Lines.{LineAdds, LinesAdd}
use Rattle.script_fits.specs.Breaks.{Causes, after_acts, causes_after, with_causes}
use Rattle.script_fits.specs.Fits.{AreRising}
use Rattle.cluster_call.specs.Running.{IsMade, IsQuiet, IsServed}

-- what stands after some lines
abbrev pub walk : SoFar → List ScriptLine → List Added → SoFar
walk s [] added = s
walk s (x ∷ xs) [] = s
walk s (x ∷ xs) (a ∷ added) = walk (with_line s x a) xs added

-- one line more
pub LinesAdd-more : (l : Layout) (s : SoFar) (xs : List ScriptLine) (ys : List Added) (x : ScriptLine) (y : Added) → LinesAdd l s xs ys → LineAdds l (walk s xs ys) x y → LinesAdd l s (xs ++ x ∷ []) (ys ++ y ∷ [])
LinesAdd-more l s [] [] x y all more = (more, refl)
LinesAdd-more l s [] (b ∷ ys) x y all more = absurd cc
LinesAdd-more l s (a ∷ xs) [] x y all more = absurd all
LinesAdd-more l s (a ∷ xs) (b ∷ ys) x y all more = (all.0, LinesAdd-more l (with_line s a b) xs ys x y all.1 more)

pub walk-more : (l : Layout) (s : SoFar) (xs : List ScriptLine) (ys : List Added) (x : ScriptLine) (y : Added) → LinesAdd l s xs ys → walk s (xs ++ x ∷ []) (ys ++ y ∷ []) ≡ with_line (walk s xs ys) x y
walk-more l s [] [] x y all = refl
walk-more l s [] (b ∷ ys) x y all = absurd cc
walk-more l s (a ∷ xs) [] x y all = absurd all
walk-more l s (a ∷ xs) (b ∷ ys) x y all = walk-more l (with_line s a b) xs ys x y all.1

pub causes-more : (l : Layout) (s : SoFar) (c : Causes) (xs : List ScriptLine) (ys : List Added) (x : ScriptLine) (y : Added) → LinesAdd l s xs ys
    → causes_after c (xs ++ x ∷ []) (ys ++ y ∷ []) ≡ after_acts (with_causes (causes_after c xs ys) x y) y.acts
causes-more l s c [] [] x y all = refl
causes-more l s c [] (b ∷ ys) x y all = absurd cc
causes-more l s c (a ∷ xs) [] x y all = absurd all
causes-more l s c (a ∷ xs) (b ∷ ys) x y all = causes-more l (with_line s a b) (after_acts (with_causes c a b) b.acts) xs ys x y all.1

-- quiet acts break nothing
pub whole_acts : (l : Layout) (c : Causes) (acts : List Act) → AllByRecursion (IsQuiet l) acts → after_acts c acts ≡ c
whole_acts l c [] all = refl
whole_acts l c (a ∷ acts) all = ap (λ d. after_acts d acts) (all.0.whole c) ∙ whole_acts l c acts all.1

-- a projection that none of some acts has anything of
pub none_of : {X : Type 0} (P : Act → Type 0) (f : Act → List X) (acts : List Act) → ((a : Act) → P a → f a ≡ []) → AllByRecursion P acts → flat_map f acts ≡ []
none_of P f [] none all = refl
none_of P f (a ∷ acts) none all = ap (λ xs. xs ++ flat_map f acts) (none a all.0) ∙ none_of P f acts none all.1

-- a weaker fact of each
pub all_so : {X : Type 0} (P Q : X → Type 0) (xs : List X) → ((x : X) → P x → Q x) → AllByRecursion P xs → AllByRecursion Q xs
all_so P Q [] so all = tt
all_so P Q (x ∷ xs) so all = (so x all.0, all_so P Q xs so all.1)

-- the moments of more acts
pub moments-more : (l : Layout) (k : ℕ) (p : Plain) (acts more : List Act) → moments_from l k p (acts ++ more) ≡ moments_from l k p acts ++ moments_from l (k + length acts) (after_all l p acts) more
moments-more l k p [] more = ap (λ n. moments_from l n p more) (omega arith)
moments-more l k p (a ∷ acts) more =
    ap (λ ms. record { place = k; before = p; act = a } ∷ ms)
    (moments-more l (k + 1) (after l p a) acts more ∙ ap (λ n. moments_from l (k + 1) (after l p a) acts ++ moments_from l n (after_all l (after l p a) acts) more) (omega arith))

-- no job has a moment among acts that no job makes
pub served_moments : (l : Layout) (j k : ℕ) (p : Plain) (acts : List Act) → AllByRecursion (IsServed l) acts → moments_of j (moments_from l k p acts) ≡ []
served_moments l j k p [] all = refl
served_moments l j k p (a ∷ acts) all =
    ap (λ o. if is_job j o then record { place = k; before = p; act = a } ∷ moments_of j (moments_from l (k + 1) (after l p a) acts) else moments_of j (moments_from l (k + 1) (after l p a) acts)) all.0.job
    ∙ served_moments l j (k + 1) (after l p a) acts all.1

-- the moment of an act of the job, after some acts that no job makes
abbrev pub own_moment : Layout → ℕ → Plain → List Act → Act → Moment
own_moment l k p before act = record { place = k + length before; before = after_all l p before; act = act }

-- this moment for the only job, none for another
abbrev pub if_own : {X : Type 0} → ℕ → X → List X
if_own j x = if 0 == j then x ∷ [] else []

made_moment : (l : Layout) (j line k : ℕ) (p : Plain) (act : Act) (more : List Act) → IsMade l line act → AllByRecursion (IsServed l) more
    → moments_of j (moments_from l k p (act ∷ more)) ≡ if_own j (record { place = k; before = p; act = act })
made_moment l j line k p act more its all =
    ap (λ o. if is_job j o then record { place = k; before = p; act = act } ∷ moments_of j (moments_from l (k + 1) (after l p act) more) else moments_of j (moments_from l (k + 1) (after l p act) more)) its.job
    ∙ ap (λ ms. if 0 == j then record { place = k; before = p; act = act } ∷ ms else ms) (served_moments l j (k + 1) (after l p act) more all)

pub own_moments : (l : Layout) (j line k : ℕ) (p : Plain) (before after : List Act) (act : Act) → AllByRecursion (IsServed l) before → IsMade l line act → AllByRecursion (IsServed l) after
    → moments_of j (moments_from l k p (before ++ act ∷ after)) ≡ if_own j (own_moment l k p before act)
own_moments l j line k p before more act all its rest =
    ap (moments_of j) (moments-more l k p before (act ∷ more))
    ∙ filter-append (λ (m : Moment). is_job j (job_of m.act)) (moments_from l k p before) (moments_from l (k + length before) (after_all l p before) (act ∷ more))
    ∙ ap (λ ms. ms ++ moments_of j (moments_from l (k + length before) (after_all l p before) (act ∷ more))) (served_moments l j k p before all)
    ∙ made_moment l j line (k + length before) (after_all l p before) act more its rest

-- one command more was done
pub AreDone-more : (l : Layout) (job : ℕ) (past : Past) (cs : List CommandLine) (ms : List Moment) (ends : List Ended) (left : Past) (c : CommandLine) (its : List Moment) (answer : Answer) (held : List HeldBack)
    → AreDone l job past cs ms ends left → IsDone l job c.line c.command left its answer held
    → AreDone l job past (cs ++ c ∷ []) (ms ++ its) (ends ++ end_of job c.line answer its ∷ []) (past_after left its held)
AreDone-more l job past [] ms ends left c its answer held (none, nobody, same) one = (
  its,
  [],
  [],
  answer,
  held,
  ap (λ xs. xs ++ its) none ∙ sym (append-nil its),
  ap (λ xs. xs ++ end_of job c.line answer its ∷ []) nobody,
  subst (λ q. IsDone l job c.line c.command q its answer held) same one,
  (refl, refl, ap (λ q. past_after q its held) same),
)
AreDone-more l job past (d ∷ cs) ms ends left c its answer held (first, rest, others, its_answer, its_held, whole, told, done, more) one = (
  first,
  rest ++ its,
  others ++ end_of job c.line answer its ∷ [],
  its_answer,
  its_held,
  ap (λ xs. xs ++ its) whole ∙ append_assoc first rest its,
  ap (λ xs. xs ++ end_of job c.line answer its ∷ []) told,
  done,
  AreDone-more l job (past_after past first its_held) cs rest others left c its answer held more one,
)

-- each command that was done has its end
pub AreDone-ends : (l : Layout) (job : ℕ) (past : Past) (cs : List CommandLine) (ms : List Moment) (ends : List Ended) (left : Past) → AreDone l job past cs ms ends left → length ends ≡ length cs
AreDone-ends l job past [] ms ends left done = ap length done.1
AreDone-ends l job past (c ∷ cs) ms ends left (its, rest, others, answer, held, whole, told, done, more) =
    omega (arith, ap length told, AreDone-ends l job (past_after past its held) cs rest others left more)

-- a place after all others
pub AreRising-more : (k n : ℕ) (ends : List Ended) (e : Ended) → k ≤ n → n ≤ e.place → AllByRecursion (λ (x : Ended). x.place < n) ends → AreRising k ends → AreRising k (ends ++ e ∷ [])
AreRising-more k n [] e low high all rising = (omega (arith, low, high), tt)
AreRising-more k n (x ∷ ends) e low high all rising = (rising.0, AreRising-more (x.place + 1) n ends e (omega (arith, all.0)) high all.1 rising.1)
