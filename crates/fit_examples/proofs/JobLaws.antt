-- What a job's first command comes to.
use Rattle.std.proofs.Common.{◌≡◌, ◌⊎◌, inl, inr, ℕ, List, [], ◌∷◌, ◌++◌, subst}
use Rattle.std.proofs.lemmas.List.{append_assoc}
use Rattle.plain_orders.specs.declared.layout.Layout.{Layout}
use Rattle.app_job.specs.declared.answer.Answer.{Answer}
use Rattle.app_job.specs.declared.command.Command.{Command}
use Rattle.script_fits.specs.Moments.{Moment}
use Rattle.script_fits.specs.Locking.{HeldBack, Past, no_past}
use Rattle.script_fits.specs.Commands.{Part, IsDone, RefusedAfter}
use Rattle.script_fits.specs.JobLines.{CommandLine, Ended, end_of, AreDone, IsBegun, DoesJob}

-- a fact of each front of some moments
abbrev pub AtFronts : (List Moment → Type 0) → List Moment → Type 0
AtFronts Q [] = Q []
AtFronts Q (m ∷ ms) = Q [] × AtFronts (λ its. Q (m ∷ its)) ms

at_front : (Q : List Moment → Type 0) (ms its rest : List Moment) → AtFronts Q ms → ms ≡ its ++ rest → Q its
at_front Q [] [] rest q e = q
at_front Q [] (i ∷ its) rest q e = absurd (cc e)
at_front Q (m ∷ ms) [] rest q e = q.0
at_front Q (m ∷ ms) (i ∷ its) rest q e = subst (λ x. Q (x ∷ its)) (cc e) (at_front (λ x. Q (m ∷ x)) ms its rest q.1 (cc e))

-- these moments are no whole command with the first of these ends
abbrev pub IsNoFirst : Layout → ℕ → CommandLine → List Ended → List Moment → Type 0
IsNoFirst l job c ends its = (answer : Answer) (held : List HeldBack) (others : List Ended) → IsDone l job c.line c.command no_past its answer held → ends ≡ end_of job c.line answer its ∷ others → ⊥

-- a job whose first command is neither begun nor done
pub no_first : (l : Layout) (job line : ℕ) (command : Command) (cs : List CommandLine) (ms : List Moment) (ends : List Ended)
    → ((held : List HeldBack) → ¬ Part l job line command no_past ms held)
    → AtFronts (IsNoFirst l job (record { line = line; command = command }) ends) ms
    → ¬ DoesJob l job (record { line = line; command = command } ∷ cs) ms ends
no_first l job line command cs ms ends no_part fronts does = go does.done does.rest does.its does.begun does.left does.lines does.whole does.each does.last
  where
    first : CommandLine
    first = record { line = line; command = command }

    go : (done rest : List CommandLine) (its begun : List Moment) (left : Past) → first ∷ cs ≡ done ++ rest → ms ≡ its ++ begun → AreDone l job no_past done its ends left → IsBegun l job left rest begun → ⊥
    go [] [] its begun left lines whole each last = absurd (cc lines)
    go [] (r ∷ rest) its begun left lines whole (none, no_ends, same) (held, part) =
        let its_command : r ≡ first = cc lines in
        no_part held (
        subst (λ x. Part l job line command no_past x held) (cc (whole, none))
        (subst (λ (p : Past). Part l job line command p begun held) same
        (subst (λ (x : CommandLine). Part l job x.line x.command left begun held) its_command part)))
    go (d ∷ done) rest its begun left lines whole (own, more, others, answer, held, e, ended, is_done, after) last =
        let same : d ≡ first = cc lines in
        at_front (IsNoFirst l job first ends) ms own (more ++ begun) fronts (cc (whole, e, append_assoc own more begun)) answer held others
        (subst (λ (x : CommandLine). IsDone l job x.line x.command no_past own answer held) same is_done)
        (subst (λ (x : CommandLine). ends ≡ end_of job x.line answer own ∷ others) same ended)

-- a job without commands does nothing
pub no_commands : (l : Layout) (job : ℕ) (m : Moment) (ms : List Moment) (ends : List Ended) → ¬ DoesJob l job [] (m ∷ ms) ends
no_commands l job m ms ends does = go does.done does.rest does.its does.begun does.left does.lines does.whole does.each does.last
  where
    go : (done rest : List CommandLine) (its begun : List Moment) (left : Past) → [] ≡ done ++ rest → m ∷ ms ≡ its ++ begun → AreDone l job no_past done its ends left → IsBegun l job left rest begun → ⊥
    go [] [] its begun left lines whole (none, no_ends, same) last = absurd (cc (whole, none, last))
    go [] (r ∷ rest) its begun left lines whole each last = absurd (cc lines)
    go (d ∷ done) rest its begun left lines whole each last = absurd (cc lines)

-- nothing is no refusal
pub nothing_refused : (l : Layout) (job line : ℕ) (command : Command) (past : Past) (answer : Answer) (held : List HeldBack) → ¬ RefusedAfter l job line command past [] answer held
nothing_refused l job line command past answer held ([], m, refused, e, is_part, act, may, told) = absurd (cc e)
nothing_refused l job line command past answer held (p ∷ part, m, refused, e, is_part, act, may, told) = absurd (cc e)

-- neither of two
pub neither : {A B : Type 0} → A ⊎ B → ¬ A → ¬ B → ⊥
neither (inl a) not_a not_b = not_a a
neither (inr b) not_a not_b = not_b b
