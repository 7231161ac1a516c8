-- What a commit or a rollback comes to, by the state before its first act.
use Rattle.std.proofs.Common.{◌≡◌, ◌⊎◌, inl, inr, ℕ, Bool, true, false, List, [], ◌∷◌, sym, subst, arith}
use Rattle.plain_orders.specs.declared.item.Item.TheVariants.{Commit as CommitItem, Rollback as RollbackItem}
use Rattle.plain_orders.specs.declared.layout.Layout.{Layout}
use Rattle.app_job.specs.declared.answer.Answer.{Answer}
use Rattle.app_job.specs.declared.answer.Answer.TheVariants.{Queued, Done as DoneAnswer, Committed as CommittedAnswer, RolledBack as RolledBackAnswer}
use Rattle.app_job.specs.declared.place.Place.{Place}
use Rattle.plain_runs.specs.Plain.{Plain}
use Rattle.script_fits.specs.Moments.{Moment, AreTogether, IsFree}
use Rattle.script_fits.specs.Locking.{HeldBack, Past}
use Rattle.script_fits.specs.Committing.{level_of, updated, AreCommitted, AreRolledBack, txn_at, EndsEmpty, EndsQueued, EndsCommitted, EndsRolledBack, EndsWithUpdates, Commits, RollsBack}
use Rattle.app_job.specs.declared.command.Command.TheVariants.{Rollback}
use Rattle.script_fits.specs.Commands.{HeardFirst}
use Rattle.fit_examples.proofs.FirstMoments.{first_is}
use Rattle.fit_examples.proofs.EndsOn.{PutsOn, LeavesDone, LeavesNothing, LeavesAnswers, empty_on, queued_on, answered_on}

-- a commit of the outermost transaction, by its servers and whether it waits
abbrev pub CommitOn : Layout → ℕ → ℕ → ℕ → Past → List Moment → Answer → List ℕ → Bool → Type 0
CommitOn l job line txn past ms answer [] sync = PutsOn l job line (CommitItem txn) (LeavesDone job line) past.held_back [] ms [] × AreTogether ms × (answer ≡ DoneAnswer)
CommitOn l job line txn past ms answer (d ∷ ds) false =
    (places : List Place) × PutsOn l job line (CommitItem txn) LeavesNothing past.held_back (d ∷ ds) ms places × AreTogether ms × (answer ≡ Queued places)
CommitOn l job line txn past ms answer (d ∷ ds) true =
    (places : List Place)
    × ((numbers : List Place) × PutsOn l job line (CommitItem txn) (LeavesAnswers (AreCommitted job line) (d ∷ ds) places) past.held_back (d ∷ ds) ms numbers)
    × (answer ≡ CommittedAnswer places)

-- a rollback, by its servers
abbrev pub RollbackOn : Layout → ℕ → ℕ → ℕ → Past → List Moment → Answer → List ℕ → Type 0
RollbackOn l job line txn past ms answer [] = PutsOn l job line (RollbackItem txn) (LeavesDone job line) past.held_back [] ms [] × AreTogether ms × (answer ≡ DoneAnswer)
RollbackOn l job line txn past ms answer (d ∷ ds) =
    (places : List Place)
    × ((numbers : List Place) × PutsOn l job line (RollbackItem txn) (LeavesAnswers (AreRolledBack job line) (d ∷ ds) places) past.held_back (d ∷ ds) ms numbers)
    × (answer ≡ RolledBackAnswer places)

commit_all : (l : Layout) (job line : ℕ) (past : Past) (ms : List Moment) (answer : Answer) (p : Plain) (servers : List ℕ) (sync : Bool)
    → updated l p job ≡ servers
    → ((updated l p job ≡ []) × EndsEmpty l job line (CommitItem (txn_at p job)) past ms answer)
    ⊎ EndsWithUpdates sync l job line (CommitItem (txn_at p job)) (updated l p job) past ms answer
    → CommitOn l job line (txn_at p job) past ms answer servers sync
commit_all l job line past ms answer p [] sync same (inl (none, ends)) = empty_on l job line (CommitItem (txn_at p job)) past ms answer ends
commit_all l job line past ms answer p [] false same (inr (places, some, puts, a)) = absurd (some same)
commit_all l job line past ms answer p [] true same (inr (places, (put, told, numbers, some, e, together, puts, are), a)) = absurd (some same)
commit_all l job line past ms answer p (d ∷ ds) sync same (inl (none, ends)) = absurd (cc (none, same))
commit_all l job line past ms answer p (d ∷ ds) false same (inr ends) =
    queued_on l job line (CommitItem (txn_at p job)) (d ∷ ds) past ms answer (subst (λ s. EndsQueued l job line (CommitItem (txn_at p job)) s past ms answer) same ends)
commit_all l job line past ms answer p (d ∷ ds) true same (inr ends) =
    let (places, waits, a) = subst (λ s. EndsCommitted l job line (CommitItem (txn_at p job)) s past ms answer) same ends in
    (places, answered_on (AreCommitted job line) l job line (CommitItem (txn_at p job)) (d ∷ ds) past ms places waits, a)

roll_all : (l : Layout) (job line : ℕ) (past : Past) (ms : List Moment) (answer : Answer) (p : Plain) (servers : List ℕ)
    → updated l p job ≡ servers
    → ((updated l p job ≡ []) × EndsEmpty l job line (RollbackItem (txn_at p job)) past ms answer)
    ⊎ EndsRolledBack l job line (RollbackItem (txn_at p job)) (updated l p job) past ms answer
    → RollbackOn l job line (txn_at p job) past ms answer servers
roll_all l job line past ms answer p [] same (inl (none, ends)) = empty_on l job line (RollbackItem (txn_at p job)) past ms answer ends
roll_all l job line past ms answer p [] same (inr (places, (put, told, numbers, some, e, together, puts, are), a)) = absurd (some same)
roll_all l job line past ms answer p (d ∷ ds) same (inl (none, ends)) = absurd (cc (none, same))
roll_all l job line past ms answer p (d ∷ ds) same (inr ends) =
    let (places, waits, a) = subst (λ s. EndsRolledBack l job line (RollbackItem (txn_at p job)) s past ms answer) same ends in
    (places, answered_on (AreRolledBack job line) l job line (RollbackItem (txn_at p job)) (d ∷ ds) past ms places waits, a)

-- no such commit
pub no_commit : (l : Layout) (job line : ℕ) (sync : Bool) (past : Past) (m : Moment) (ms : List Moment) (answer : Answer) (held : List HeldBack) (servers : List ℕ)
    → level_of m.before job ≡ 1 → updated l m.before job ≡ servers
    → ¬ CommitOn l job line (txn_at m.before job) past (m ∷ ms) answer servers sync → ¬ (Commits l job line sync past (m ∷ ms) answer held × IsFree job (m ∷ ms))
no_commit l job line sync past m ms answer held servers one same wrong ((inl (p, level, (n, rest, e, b), together, is, low, acts, a, h)), free) =
    omega (arith, is, low, subst (λ (q : Plain). level_of q job ≡ 1) b (subst (λ (x : Moment). level_of x.before job ≡ 1) (first_is m n ms rest e) one))
no_commit l job line sync past m ms answer held servers one same wrong ((inr (p, (n, rest, e, b), is, h, ends)), free) =
    wrong (go p (cc (b, first_is m n ms rest e)) ends)
  where
    go : (p : Plain) → p ≡ m.before
        → ((updated l p job ≡ []) × EndsEmpty l job line (CommitItem (txn_at p job)) past (m ∷ ms) answer)
        ⊎ EndsWithUpdates sync l job line (CommitItem (txn_at p job)) (updated l p job) past (m ∷ ms) answer
        → CommitOn l job line (txn_at m.before job) past (m ∷ ms) answer servers sync
    go p q ends = subst (λ (x : Plain). CommitOn l job line (txn_at x job) past (m ∷ ms) answer servers sync) q (commit_all l job line past (m ∷ ms) answer p servers sync (subst (λ (x : Plain). updated l x job ≡ servers) (sym q) same) ends)

-- no such rollback
pub no_rollback : (l : Layout) (job line : ℕ) (past : Past) (m : Moment) (ms : List Moment) (answer : Answer) (held : List HeldBack) (servers : List ℕ)
    → updated l m.before job ≡ servers → ¬ RollbackOn l job line (txn_at m.before job) past (m ∷ ms) answer servers → ¬ (RollsBack l job line past (m ∷ ms) answer held × HeardFirst job Rollback (m ∷ ms))
no_rollback l job line past m ms answer held servers same wrong ((p, (n, rest, e, b), is, h, ends), heard) = wrong (go p (cc (b, first_is m n ms rest e)) ends)
  where
    go : (p : Plain) → p ≡ m.before
        → ((updated l p job ≡ []) × EndsEmpty l job line (RollbackItem (txn_at p job)) past (m ∷ ms) answer)
        ⊎ EndsRolledBack l job line (RollbackItem (txn_at p job)) (updated l p job) past (m ∷ ms) answer
        → RollbackOn l job line (txn_at m.before job) past (m ∷ ms) answer servers
    go p q ends = subst (λ (x : Plain). RollbackOn l job line (txn_at x job) past (m ∷ ms) answer servers) q (roll_all l job line past (m ∷ ms) answer p servers (subst (λ (x : Plain). updated l x job ≡ servers) (sym q) same) ends)
