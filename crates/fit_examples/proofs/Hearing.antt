-- A job that was told of its losses.
use Rattle.std.proofs.Common.{◌≡◌, ℕ, Bool, true, false, List, [], ◌∷◌, ◌++◌, refl, subst, sym}
use Rattle.std.specs.Prelude.{◌==◌, is_some}
use Rattle.std.proofs.lemmas.Bool.{eqb-true}
use Rattle.plain_orders.specs.declared.act.Act.{Act}
use Rattle.plain_orders.specs.declared.act.Act.TheVariants.{Level}
use Rattle.app_job.specs.declared.command.Command.{Command}
use Rattle.plain_runs.specs.Plain.{Plain}
use Rattle.plain_runs.specs.Run.{state_after}
use Rattle.script_fits.specs.Moments.{Moment}
use Rattle.script_fits.specs.Refusing.{IsAbout, HasHeard}
use Rattle.script_fits.specs.Commands.{HeardFirst}
use Rattle.fit_examples.specs.Groups.{two}
use Rattle.fit_examples.specs.Trails.{kept_within, within, within_more, set_both, lost_told}
use Rattle.fit_examples.proofs.FirstMoments.{first_is}

-- following this trail no loss bars job 0 from a data server
abbrev pub IsTold : List Act → ℕ → Type 0
IsTold front d = is_some (((state_after two front).server_at d).known_at 0).bar ≡ false

-- what is so of one data server is so of each that is equal to it
pub heard_at : (front : List Act) (d : ℕ) → IsTold front d → (e : ℕ) → d ≡ e → IsTold front e
heard_at front d told e same = subst (λ x. IsTold front x) same told

-- what is so of both data servers and of every foreign one is so of all
pub heard_all : (front : List Act) → IsTold front 0 → IsTold front 1 → ((d : ℕ) → (d == 0) ≡ false → (d == 1) ≡ false → IsTold front d) → (d : ℕ) → IsTold front d
heard_all front first second others d = go (d == 0) (d == 1) refl refl
  where
    go : (a b : Bool) → (d == 0) ≡ a → (d == 1) ≡ b → IsTold front d
    go true b e f = subst (λ x. IsTold front x) (sym (eqb-true d 0 e)) first
    go false true e f = subst (λ x. IsTold front x) (sym (eqb-true d 1 f)) second
    go false false e f = others d e f

-- no loss bars the job from any data server, following these trails
pub told_both : (d : ℕ) → IsTold set_both d
told_both = heard_all set_both refl refl (λ d a b. rw (a, b))

pub told_deeper : (d : ℕ) → IsTold (set_both ++ Level 0 4 2 ∷ []) d
told_deeper = heard_all (set_both ++ Level 0 4 2 ∷ []) refl refl (λ d a b. rw (a, b))

pub told_lost : (d : ℕ) → IsTold lost_told d
told_lost = heard_all lost_told refl refl (λ d a b. rw (a, b))

pub told_within : (d : ℕ) → IsTold within d
told_within = heard_all within refl refl (λ d a b. rw (a, b))

pub told_more : (d : ℕ) → IsTold within_more d
told_more = heard_all within_more refl refl (λ d a b. rw (a, b))

pub told_kept : (d : ℕ) → IsTold kept_within d
told_kept = heard_all kept_within refl refl (λ d a b. rw (a, b))

-- a command that the job gave before it was told of a loss that bars it from a data server that the command is about
pub not_heard : (job d : ℕ) (command : Command) (m : Moment) (ms : List Moment)
    → IsAbout m.before job command d → is_some ((m.before.server_at d).known_at job).bar ≡ true → ¬ HeardFirst job command (m ∷ ms)
not_heard job d command m ms about bar (p, (n, rest, e, b), heard) =
    let q : p ≡ m.before = cc (b, first_is m n ms rest e) in
    let here : HasHeard m.before job command = subst (λ (x : Plain). HasHeard x job command) q heard in
    absurd (cc (bar, here d about))
