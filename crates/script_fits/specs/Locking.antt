-- Locks, unlocks, and the unlocks that a transaction holds back.
use Rattle.std.specs.Prelude.{is_some, ◌≡◌, ◌⊎◌, ◌≤◌, ℕ, Bool, true, false, ◌==◌, ◌&&◌, ◌||◌, not, if◌then◌else◌, List, [], ◌∷◌, ◌++◌, Option, Some, None, unwrap_or, IfSome}
use Rattle.std.specs.List.{list_any}
use Rattle.plain_orders.specs.declared.act.Act.{Act}
use Rattle.plain_orders.specs.declared.act.Act.TheVariants.{Granted, GiveUp, Quit, Done, Refused}
use Rattle.plain_orders.specs.declared.layout.Layout.{Layout}
use Rattle.plain_orders.specs.declared.mode.Mode.{Mode}
use Rattle.plain_orders.specs.declared.refused.Refused.TheVariants.{RollbackOnly, LockTimeout}
use Rattle.app_job.specs.declared.answer.Answer.{Answer}
use Rattle.app_job.specs.declared.answer.Answer.TheVariants.{Granted as GrantedAnswer, Done as DoneAnswer, Refused as RefusedAnswer}
use Rattle.app_job.specs.declared.refusal.Refusal.TheVariants.{RollbackOnly as RollbackOnlyRefusal, LockTimeout as LockTimeoutRefusal}
use Rattle.app_job.specs.Sites.{Site}
use Rattle.plain_orders.specs.Times.{until}
use Rattle.plain_runs.specs.Plain.{Plain, Hold, app_of, pair_session}
use Rattle.plain_runs.specs.JobRows.{has_session}
use Rattle.plain_runs.specs.Holds.{is_sent_at, is_kept, is_lock}
use Rattle.script_fits.specs.Moments.{Moment, acts_in, AreTogether, IsFree}

-- an unlock that waits for its transaction's end, and the session in which its lock was held
pub record HeldBack : Type 0 where
  pub server : ℕ
  pub session : ℕ
  pub mode : Mode
  pub key : List ℕ

-- what a job's earlier lines leave for a command: the unlocks held back, and the clock at the job's last act
pub record Past : Type 0 where
  pub held_back : List HeldBack
  pub clock : Option ℕ

-- nothing went before
abbrev pub no_past : Past
no_past = record { held_back = []; clock = None }

-- the first hold that passes a test
abbrev pub first_hold : (Hold → Bool) → List Hold → Option Hold
first_hold test [] = None
first_hold test (h ∷ hs) = if test h then Some h else first_hold test hs

-- the pair's session of a job's application server
abbrev pub session_of : Layout → Plain → ℕ → ℕ → ℕ
session_of l p job server = pair_session (p.server_at server) (app_of l job)

-- the hold that a grant with this number answers is of this node and mode
abbrev pub IsMeant : Layout → Plain → ℕ → ℕ → Site → Mode → Type 0
IsMeant l p job n at mode =
    IfSome (first_hold (is_sent_at (session_of l p job at.server) job n) (p.server_at at.server).holds) (λ h. is_lock mode at.key h ≡ true)

-- a grant reaches the job
abbrev pub IsGranted : Layout → ℕ → ℕ → Site → Mode → List Moment → Answer → Type 0
IsGranted l job line at mode ms answer =
    (m : Moment) × (n : ℕ) × (ms ≡ m ∷ []) × (m.act ≡ Granted job line at.server n) × IsMeant l m.before job n at mode × IsFree job ms
    × (answer ≡ GrantedAnswer n)

-- the request is given up, and the command refused in the same step
abbrev pub QuitsFor : ℕ → ℕ → Site → Mode → Act → List Moment → Moment → Type 0
QuitsFor job line at mode refusal ms m = (n : Moment) × (ms ≡ m ∷ n ∷ []) × AreTogether ms × (m.act ≡ Quit job line at.server mode at.key) × (n.act ≡ refusal)

-- so many ticks went by since the job's act before, or since the clock's start where it had none
abbrev pub IsTimeOver : Past → ℕ → Option ℕ → Type 0
IsTimeOver past clock wait = (ticks : ℕ) × (wait ≡ Some ticks) × (until (unwrap_or past.clock 0) ticks ≤ clock)

-- the time to wait is over
abbrev pub TimesOut : ℕ → ℕ → Site → Mode → Option ℕ → Past → List Moment → Answer → Type 0
TimesOut job line at mode wait past ms answer =
    (m : Moment) × QuitsFor job line at mode (Refused job line LockTimeout) ms m × IsFree job ms × IsTimeOver past m.before.clock wait × (answer ≡ RefusedAnswer LockTimeoutRefusal)

-- the job has to roll back first
abbrev pub QuitsToRollBack : ℕ → ℕ → Site → Mode → List Moment → Answer → Type 0
QuitsToRollBack job line at mode ms answer =
    (m : Moment) × QuitsFor job line at mode (Refused job line RollbackOnly) ms m × (answer ≡ RefusedAnswer RollbackOnlyRefusal)

-- a lock is granted, or its request is given up and the command refused
abbrev pub Locks : Layout → ℕ → ℕ → Site → Mode → Option ℕ → Past → List Moment → Answer → Type 0
Locks l job line at mode wait past ms answer =
    IsGranted l job line at mode ms answer ⊎ (TimesOut job line at mode wait past ms answer ⊎ QuitsToRollBack job line at mode ms answer)

-- the job holds this lock: it was granted, answered, and not given up
abbrev pub has_lock : Layout → Plain → ℕ → ℕ → Mode → List ℕ → Bool
has_lock l p job server mode key =
    has_session (p.server_at server) (app_of l job) && list_any (is_kept (session_of l p job server) job mode key) (p.server_at server).holds

-- an unlock is done at once, and not at the end of a transaction
abbrev pub is_at_once : Plain → ℕ → Bool → Bool
is_at_once p job now = now || (p.job_at job).level == 0

-- the acts of an unlock
abbrev pub unlock_acts : Layout → Plain → ℕ → ℕ → Site → Mode → Bool → List Act
unlock_acts l p job line at mode now =
    if has_lock l p job at.server mode at.key && is_at_once p job now then GiveUp job line at.server mode at.key ∷ Done job line ∷ []
    else Done job line ∷ []

-- what is held back after an unlock
abbrev pub held_after : Layout → Plain → ℕ → Site → Mode → Bool → List HeldBack → List HeldBack
held_after l p job at mode now held =
    if has_lock l p job at.server mode at.key && not (is_at_once p job now) then
    held ++ record { server = at.server; session = session_of l p job at.server; mode = mode; key = at.key } ∷ []
    else held

-- the job's application server has a session there, and its end isn't broke
abbrev pub IsUp : Layout → Plain → ℕ → ℕ → Type 0
IsUp l p job server =
    (has_session (p.server_at server) (app_of l job) ≡ true) × (is_some ((p.server_at server).pair_at (app_of l job)).broke ≡ false)

-- an unlock gives the lock up where the job has it, or is held back
abbrev pub Unlocks : Layout → ℕ → ℕ → Site → Mode → Bool → Past → List Moment → Answer → List HeldBack → Type 0
Unlocks l job line at mode now past ms answer held =
    (m : Moment) × (rest : List Moment) × (ms ≡ m ∷ rest) × AreTogether ms × IsUp l m.before job at.server × (acts_in ms ≡ unlock_acts l m.before job line at mode now)
    × (answer ≡ DoneAnswer) × (held ≡ held_after l m.before job at mode now past.held_back)

-- the lock of an unlock that was held back is still held, in the session in which the unlock was given
abbrev pub is_still_held : Layout → Plain → ℕ → HeldBack → Bool
is_still_held l p job h = session_of l p job h.server == h.session && has_lock l p job h.server h.mode h.key

-- the state at the next of some moments, or at the one after them
abbrev pub state_at : List Moment → Moment → Plain
state_at [] next = next.before
state_at (m ∷ ms) next = m.before

-- a held back unlock at its turn: its lock is given up, where it is still held
abbrev pub TakesTurn : Layout → ℕ → ℕ → HeldBack → List Moment → Moment → List Moment → Type 0
TakesTurn l job line h ms next rest =
    ((is_still_held l (state_at ms next) job h ≡ false) × (rest ≡ ms))
    ⊎ ((is_still_held l (state_at ms next) job h ≡ true) × ((m : Moment) × (ms ≡ m ∷ rest) × (m.act ≡ GiveUp job line h.server h.mode h.key)))

-- the held back unlocks in their order, each at its turn
abbrev pub GivesBack : Layout → ℕ → ℕ → List HeldBack → List Moment → Moment → Type 0
GivesBack l job line [] ms next = ms ≡ []
GivesBack l job line (h ∷ held) ms next = (rest : List Moment) × TakesTurn l job line h ms next rest × GivesBack l job line held rest next
