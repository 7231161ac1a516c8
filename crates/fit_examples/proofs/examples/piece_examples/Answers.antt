use Rattle.std.proofs.Common.{[], ◌∷◌, ◌++◌, ◌≡◌, refl, arith, rules, ℕ, inl, inr}
use Rattle.fit_examples.specs.Groups.{met, so_far}
use Rattle.std.specs.Prelude.{pos, None, Some, false}
use Rattle.fit_examples.proofs.LineLaws.{no_pump, other_line, waits_are, accounted_all}
use Rattle.fit_examples.proofs.JobLaws.{neither}
use Rattle.job_script.specs.declared.todo.Todo.TheVariants.{Job, Hold}
use Rattle.transcript.specs.declared.piece.Piece.TheVariants.{Gone}
use Rattle.app_job.specs.declared.why.Why.TheVariants.{State, Fetch, Reply}
use Rattle.fit_examples.specs.Groups.{two, at_x, five}
use Rattle.std.specs.Prelude.{◌==◌, ◌++◌}
use Rattle.script_fits.specs.JobLines.{commands_of}
use Rattle.script_fits.specs.Walk.{with_line}
use Rattle.plain_orders.specs.declared.act.Act.TheVariants.{Issue, Died}
use Rattle.plain_orders.specs.declared.item.Item.TheVariants.{Op as OpItem}
use Rattle.plain_orders.specs.declared.op.Op.TheVariants.{Set as SetOp, Add as AddOp}
use Rattle.app_job.specs.declared.answer.Answer.TheVariants.{Queued, Waiting}
use Rattle.fit_examples.specs.Groups.{says, place, ended}
use Rattle.app_job.specs.declared.command.Command.TheVariants.{Set, Get, Incr}
use Rattle.fit_examples.proofs.examples.piece_examples.Goals as goal

pub returns : goal.returns
returns c = (
  record { middle = []; waiting = []; ticks = refl; deaths = refl; opened = refl; restarts = (refl, refl); halts = tt; still = tt; pumps = (None, refl, refl); gone = refl; given = tt; answers = refl; places = tt; pieces = refl; no_wait = refl; only_waits = refl; waits = tt; accounted = (λ j. inr tt) },
  record { middle = []; waiting = []; ticks = refl; deaths = refl; opened = refl; restarts = (refl, refl); halts = tt; still = tt; pumps = (Some 1, refl, (omega arith, omega arith)); gone = refl; given = tt; answers = refl; places = tt; pieces = refl; no_wait = refl; only_waits = refl; waits = tt; accounted = (λ j. inr tt) },
  search rules,
  search rules,
  search rules,
  λ f. no_pump 1 5 None f.pumps (search rules),
  λ f. absurd (cc f.pumps),
  record { middle = []; waiting = []; ticks = refl; deaths = refl; opened = refl; restarts = (refl, refl); halts = tt; still = tt; pumps = refl; gone = refl; given = tt; answers = refl; places = tt; pieces = refl; no_wait = refl; only_waits = refl; waits = tt; accounted = (let others : (j : ℕ) → (0 == j) ≡ false → commands_of j (record { line = 5; todo = Job 0 (Set at_x five) } ∷ []) ≡ [] = λ j e. rw e in accounted_all two (with_line (so_far (met ++ Died 0 ∷ []) [] []) (record { line = 5; todo = Job 0 (Set at_x five) }) (record { acts = ([]); pieces = (Gone 0 5 ∷ []); ends = ([]) })) others (inl refl)) },
  λ f. absurd (cc f.gone),
  λ f. absurd (cc f.gone),
  λ f. absurd (cc f.gone),
  λ f. absurd (cc f.gone),
  record { middle = _ ∷ []; waiting = []; ticks = refl; deaths = refl; opened = refl; restarts = (refl, refl); halts = (omega arith, refl, refl, refl, omega arith, tt); still = tt; pumps = refl; gone = refl; given = tt; answers = refl; places = tt; pieces = refl; no_wait = refl; only_waits = refl; waits = tt; accounted = (λ j. inr tt) },
  λ f. absurd (cc f.halts.5.3),
  λ f. absurd (cc f.halts.3),
  λ f. absurd (cc f.halts.1),
  λ f. omega (arith, f.halts.0),
  λ f. omega (arith, f.halts.4),
  record { middle = _ ∷ []; waiting = []; ticks = refl; deaths = refl; opened = refl; restarts = (refl, refl); halts = tt; still = (tt, tt); pumps = refl; gone = refl; given = (omega arith, tt); answers = refl; places = ((omega arith, omega arith), tt); pieces = refl; no_wait = refl; only_waits = refl; waits = tt; accounted = (let others : (j : ℕ) → (0 == j) ≡ false → commands_of j (record { line = 5; todo = Job 0 (Set at_x five) } ∷ []) ≡ [] = λ j e. rw e in accounted_all two (with_line (so_far met [] []) (record { line = 5; todo = Job 0 (Set at_x five) }) (record { acts = (Issue 0 5 0 1 (OpItem (SetOp at_x.key five)) ∷ []); pieces = (says 5 (Queued (place 0 1 ∷ [])) ∷ []); ends = (ended 5 (Queued (place 0 1 ∷ [])) 8 ∷ []) })) others (inr tt)) },
  λ f. other_line _ _ f.answers (λ e. omega (arith, e)),
  λ f. absurd (cc f.answers),
  λ f. absurd (cc f.answers),
  λ f. omega (arith, f.places.0),
  λ f. omega (arith, f.given.0),
  record { middle = []; waiting = _ ∷ []; ticks = refl; deaths = refl; opened = refl; restarts = (refl, refl); halts = tt; still = tt; pumps = refl; gone = refl; given = tt; answers = refl; places = tt; pieces = refl; no_wait = refl; only_waits = refl; waits = (omega arith, record { alive = refl; its = (refl, search rules); another = (λ e. absurd (cc e)) }, tt); accounted = (let others : (j : ℕ) → (0 == j) ≡ false → commands_of j (record { line = 5; todo = Job 0 (Get at_x) } ∷ []) ≡ [] = λ j e. rw e in accounted_all two (with_line (so_far met [] []) (record { line = 5; todo = Job 0 (Get at_x) }) (record { acts = ([]); pieces = (says 5 (Waiting Fetch) ∷ []); ends = ([]) })) others (inr refl)) },
  λ f. neither (f.accounted 0) (λ e. absurd (cc e)) (λ e. absurd (cc e)),
  λ f. search (rules, waits_are _ _ _ _ f),
  record { middle = []; waiting = []; ticks = refl; deaths = refl; opened = refl; restarts = (refl, refl); halts = tt; still = tt; pumps = refl; gone = refl; given = tt; answers = refl; places = tt; pieces = refl; no_wait = refl; only_waits = refl; waits = tt; accounted = (let others : (j : ℕ) → (0 == j) ≡ false → commands_of j (record { line = 4; todo = Job 0 (Get at_x) } ∷ record { line = 5; todo = Hold } ∷ []) ≡ [] = λ j e. rw e in accounted_all two (with_line (so_far met (record { line = 4; todo = Job 0 (Get at_x) } ∷ []) (says 4 (Waiting Fetch) ∷ [])) (record { line = 5; todo = Hold }) (record { acts = ([]); pieces = ([]); ends = ([]) })) others (inr refl)) },
  λ f. (waits_are _ _ _ _ f).1.another refl,
  record { middle = []; waiting = _ ∷ []; ticks = refl; deaths = refl; opened = refl; restarts = (refl, refl); halts = tt; still = tt; pumps = refl; gone = refl; given = tt; answers = refl; places = tt; pieces = refl; no_wait = refl; only_waits = refl; waits = (omega arith, record { alive = refl; its = (refl, search rules); another = (λ e. absurd (cc e)) }, tt); accounted = (let others : (j : ℕ) → (0 == j) ≡ false → commands_of j (record { line = 4; todo = Job 0 (Get at_x) } ∷ record { line = 5; todo = Hold } ∷ []) ≡ [] = λ j e. rw e in accounted_all two (with_line (so_far met (record { line = 4; todo = Job 0 (Get at_x) } ∷ []) (says 4 (Waiting Fetch) ∷ [])) (record { line = 5; todo = Hold }) (record { acts = ([]); pieces = (says 4 (Waiting State) ∷ []); ends = ([]) })) others (inr refl)) },
  λ f. (waits_are _ _ _ _ f).1.its,
  λ f. absurd (cc (waits_are _ _ _ _ f).1.alive),
  record { middle = _ ∷ []; waiting = []; ticks = refl; deaths = refl; opened = refl; restarts = (refl, refl); halts = (omega arith, refl, refl, refl, omega arith, tt); still = tt; pumps = refl; gone = refl; given = tt; answers = refl; places = tt; pieces = refl; no_wait = refl; only_waits = refl; waits = tt; accounted = (λ j. inr tt) },
  record { middle = _ ∷ []; waiting = []; ticks = refl; deaths = refl; opened = refl; restarts = (refl, refl); halts = (omega arith, refl, refl, refl, omega arith, tt); still = tt; pumps = refl; gone = refl; given = tt; answers = refl; places = tt; pieces = refl; no_wait = refl; only_waits = refl; waits = tt; accounted = (λ j. inr tt) },
  λ f. absurd (cc f.halts.2),
  λ f. absurd (cc f.halts.2),
  record { middle = []; waiting = _ ∷ []; ticks = refl; deaths = refl; opened = refl; restarts = (refl, refl); halts = tt; still = (tt, tt); pumps = refl; gone = refl; given = (omega arith, tt); answers = refl; places = tt; pieces = refl; no_wait = refl; only_waits = refl; waits = (omega arith, record { alive = refl; its = (refl, search rules); another = (λ e. absurd (cc e)) }, tt); accounted = (let others : (j : ℕ) → (0 == j) ≡ false → commands_of j (record { line = 5; todo = Job 0 (Incr at_x (pos 3)) } ∷ []) ≡ [] = λ j e. rw e in accounted_all two (with_line (so_far met [] []) (record { line = 5; todo = Job 0 (Incr at_x (pos 3)) }) (record { acts = (Issue 0 5 0 1 (OpItem (AddOp at_x.key (pos 3))) ∷ []); pieces = (says 5 (Waiting Reply) ∷ []); ends = ([]) })) others (inr refl)) },
  λ f. search (rules, waits_are _ _ _ _ f),
  λ f. search (rules, waits_are _ _ _ _ f),
)
