-- Transactions: their levels and their ends.
use Rattle.std.specs.Prelude.{◌≡◌, ◌≢◌, ◌⊎◌, ◌<◌, ℕ, Bool, true, false, ◌&&◌, ◌+◌, List, [], ◌∷◌, ◌++◌, filter}
use Rattle.std.specs.List.{list_any, range_with_len}
use Rattle.plain_orders.specs.declared.act.Act.{Act}
use Rattle.plain_orders.specs.declared.act.Act.TheVariants.{Issue, Committed, RolledBack, Level, Done}
use Rattle.plain_orders.specs.declared.item.Item.{Item}
use Rattle.plain_orders.specs.declared.item.Item.TheVariants.{Commit as CommitItem, Rollback as RollbackItem}
use Rattle.plain_orders.specs.declared.layout.Layout.{Layout}
use Rattle.app_job.specs.declared.answer.Answer.{Answer}
use Rattle.app_job.specs.declared.answer.Answer.TheVariants.{Queued, Done as DoneAnswer, Committed as CommittedAnswer, RolledBack as RolledBackAnswer}
use Rattle.app_job.specs.declared.place.Place.{Place}
use Rattle.plain_runs.specs.Plain.{Plain, app_of}
use Rattle.plain_runs.specs.Items.{is_update_of}
use Rattle.plain_runs.specs.JobRows.{has_session, pair_issued}
use Rattle.script_fits.specs.Moments.{Moment, acts_in, AreTogether, IsFree}
use Rattle.script_fits.specs.Locking.{HeldBack, Past, GivesBack}

-- the level of a job
abbrev pub level_of : Plain → ℕ → ℕ
level_of p job = (p.job_at job).level

-- the pair's session lives, and the job has an update of its newest transaction in it
abbrev pub has_update : Layout → Plain → ℕ → ℕ → Bool
has_update l p job server =
    has_session (p.server_at server) (app_of l job)
    && list_any (is_update_of job (p.job_at job).txn) (pair_issued (p.server_at server) (app_of l job))

-- the data servers whose sessions live and have updates of the transaction, in order
abbrev pub updated : Layout → Plain → ℕ → List ℕ
updated l p job = filter (has_update l p job) (range_with_len 0 l.servers)

-- one such item is issued at each of these data servers
abbrev pub AreIssued : ℕ → ℕ → Item → List ℕ → List Act → List Place → Type 0
AreIssued job line item [] acts places = (acts ≡ []) × (places ≡ [])
AreIssued job line item (d ∷ ds) acts places =
    (w : ℕ) × (rest : List Act) × (others : List Place)
    × (acts ≡ Issue job line d w item ∷ rest) × (places ≡ record { server = d; number = w } ∷ others) × AreIssued job line item ds rest others

-- each of these data servers answers that the Commit is there
abbrev pub AreCommitted : ℕ → ℕ → List ℕ → List Act → List Place → Type 0
AreCommitted job line [] acts places = (acts ≡ []) × (places ≡ [])
AreCommitted job line (d ∷ ds) acts places =
    (n : ℕ) × (rest : List Act) × (others : List Place)
    × (acts ≡ Committed job line d n ∷ rest) × (places ≡ record { server = d; number = n } ∷ others) × AreCommitted job line ds rest others

-- each of these data servers answers that the Rollback is there
abbrev pub AreRolledBack : ℕ → ℕ → List ℕ → List Act → List Place → Type 0
AreRolledBack job line [] acts places = (acts ≡ []) × (places ≡ [])
AreRolledBack job line (d ∷ ds) acts places =
    (n : ℕ) × (rest : List Act) × (others : List Place)
    × (acts ≡ RolledBack job line d n ∷ rest) × (places ≡ record { server = d; number = n } ∷ others) × AreRolledBack job line ds rest others

-- What the end of a transaction puts in one step: an item at each data server with updates in a living session, then the unlocks
-- that were held back, then level 0.
pub record PutsEnds (l : Layout) (job line : ℕ) (item : Item) (servers : List ℕ) (past : Past) (ms : List Moment) (places : List Place) : Type 0 where
  pub issued : List Moment
  pub given : List Moment
  pub closing : Moment
  pub whole : ms ≡ issued ++ (given ++ closing ∷ [])
  pub together : AreTogether ms
  pub items : AreIssued job line item servers (acts_in issued) places
  pub unlocks : GivesBack l job line past.held_back given closing
  pub level : closing.act ≡ Level job line 0

-- the first of some moments has this state before it
abbrev pub BeginsAt : Plain → List Moment → Type 0
BeginsAt p ms = (m : Moment) × (rest : List Moment) × (ms ≡ m ∷ rest) × (m.before ≡ p)

-- the transaction that a job may end
abbrev pub txn_at : Plain → ℕ → ℕ
txn_at p job = (p.job_at job).txn

-- a transaction with no updates in living sessions is done
abbrev pub EndsEmpty : Layout → ℕ → ℕ → Item → Past → List Moment → Answer → Type 0
EndsEmpty l job line item past ms answer =
    (put : List Moment) × (m : Moment) × (ms ≡ put ++ m ∷ []) × AreTogether ms × PutsEnds l job line item [] past put [] × (m.act ≡ Done job line) × (answer ≡ DoneAnswer)

-- the ends are put, and nobody waits for them
abbrev pub EndsQueued : Layout → ℕ → ℕ → Item → List ℕ → Past → List Moment → Answer → Type 0
EndsQueued l job line item servers past ms answer =
    (places : List Place) × (servers ≢ []) × PutsEnds l job line item servers past ms places × (answer ≡ Queued places)

-- the ends are put, and these acts answer them
abbrev pub EndsAnswered : (List ℕ → List Act → List Place → Type 0) → Layout → ℕ → ℕ → Item → List ℕ → Past → List Moment → List Place → Type 0
EndsAnswered AreAnswered l job line item servers past ms places =
    (put : List Moment) × (answers : List Moment) × (numbers : List Place)
    × (servers ≢ []) × (ms ≡ put ++ answers) × AreTogether answers × PutsEnds l job line item servers past put numbers × AreAnswered servers (acts_in answers) places

-- a commit that waits
abbrev pub EndsCommitted : Layout → ℕ → ℕ → Item → List ℕ → Past → List Moment → Answer → Type 0
EndsCommitted l job line item servers past ms answer =
    (places : List Place) × EndsAnswered (AreCommitted job line) l job line item servers past ms places × (answer ≡ CommittedAnswer places)

-- a rollback
abbrev pub EndsRolledBack : Layout → ℕ → ℕ → Item → List ℕ → Past → List Moment → Answer → Type 0
EndsRolledBack l job line item servers past ms answer =
    (places : List Place) × EndsAnswered (AreRolledBack job line) l job line item servers past ms places × (answer ≡ RolledBackAnswer places)

-- a commit with updates, by whether it waits
abbrev pub EndsWithUpdates : Bool → Layout → ℕ → ℕ → Item → List ℕ → Past → List Moment → Answer → Type 0
EndsWithUpdates true l job line item servers past ms answer = EndsCommitted l job line item servers past ms answer
EndsWithUpdates false l job line item servers past ms answer = EndsQueued l job line item servers past ms answer

-- a transaction begins, or one within it; 255 are the most
abbrev pub Starts : ℕ → ℕ → List Moment → Answer → Type 0
Starts job line ms answer =
    (p : Plain) × BeginsAt p ms × AreTogether ms × (level_of p job < 255) × (acts_in ms ≡ Level job line (level_of p job + 1) ∷ Done job line ∷ []) × (answer ≡ DoneAnswer)

-- a commit within another transaction
abbrev pub CommitsWithin : ℕ → ℕ → Past → List Moment → Answer → List HeldBack → Type 0
CommitsWithin job line past ms answer held =
    (p : Plain) × (level : ℕ) × BeginsAt p ms × AreTogether ms × (level_of p job ≡ level + 1) × (0 < level)
    × (acts_in ms ≡ Level job line level ∷ Done job line ∷ []) × (answer ≡ DoneAnswer) × (held ≡ past.held_back)

-- a commit of the outermost transaction
abbrev pub CommitsAll : Layout → ℕ → ℕ → Bool → Past → List Moment → Answer → List HeldBack → Type 0
CommitsAll l job line sync past ms answer held =
    (p : Plain) × BeginsAt p ms × (level_of p job ≡ 1) × (held ≡ [])
    × (((updated l p job ≡ []) × EndsEmpty l job line (CommitItem (txn_at p job)) past ms answer)
    ⊎ EndsWithUpdates sync l job line (CommitItem (txn_at p job)) (updated l p job) past ms answer)

-- a commit
abbrev pub Commits : Layout → ℕ → ℕ → Bool → Past → List Moment → Answer → List HeldBack → Type 0
Commits l job line sync past ms answer held = CommitsWithin job line past ms answer held ⊎ CommitsAll l job line sync past ms answer held

-- a rollback ends the transaction at any level
abbrev pub RollsBack : Layout → ℕ → ℕ → Past → List Moment → Answer → List HeldBack → Type 0
RollsBack l job line past ms answer held =
    (p : Plain) × BeginsAt p ms × (0 < level_of p job) × (held ≡ [])
    × (((updated l p job ≡ []) × EndsEmpty l job line (RollbackItem (txn_at p job)) past ms answer)
    ⊎ EndsRolledBack l job line (RollbackItem (txn_at p job)) (updated l p job) past ms answer)

-- the ends are put, and their answers are awaited
abbrev pub PutsAwaited : Layout → ℕ → ℕ → (ℕ → Item) → Past → List Moment → List HeldBack → Type 0
PutsAwaited l job line item_of past ms held =
    (p : Plain) × (places : List Place) × BeginsAt p ms × (0 < level_of p job) × (held ≡ []) × (updated l p job ≢ [])
    × PutsEnds l job line (item_of (txn_at p job)) (updated l p job) past ms places

-- a commit that waits may stand between its put and its answers
abbrev pub CommitBegins : Layout → ℕ → ℕ → Bool → Past → List Moment → List HeldBack → Type 0
CommitBegins l job line true past ms held = IsFree job ms × ((p : Plain) × BeginsAt p ms × (level_of p job ≡ 1)) × PutsAwaited l job line CommitItem past ms held
CommitBegins l job line false past ms held = ⊥
