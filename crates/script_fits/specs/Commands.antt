-- One row a command: the moments of its line are the whole of it, with this answer, or a part.
use Rattle.std.specs.Prelude.{◌≡◌, ◌⊎◌, ℕ, List, [], ◌∷◌, ◌++◌}
use Rattle.plain_orders.specs.declared.act.Act.TheVariants.{Refused as RefusedAct}
use Rattle.plain_orders.specs.declared.refused.Refused.{Refused}
use Rattle.plain_orders.specs.declared.item.Item.TheVariants.{Op as OpItem, Rollback as RollbackItem}
use Rattle.plain_orders.specs.declared.layout.Layout.{Layout}
use Rattle.plain_orders.specs.declared.op.Op.TheVariants.{Set as SetOp, Kill as KillOp}
use Rattle.app_job.specs.declared.answer.Answer.{Answer}
use Rattle.app_job.specs.declared.command.Command.{Command}
use Rattle.app_job.specs.declared.command.Command.TheVariants.{Set, Kill, Get, Shape, Next, Incr, Lock, Unlock, Start, Commit, Rollback, Sync}
use Rattle.plain_runs.specs.Plain.{Plain}
use Rattle.script_fits.specs.Moments.{Moment, acts_in, AreTogether, IsFree}
use Rattle.script_fits.specs.Acting.{Issues, Gets, Shapes, Nexts, Counts, IssuesAdd, Reaches}
use Rattle.script_fits.specs.Locking.{HeldBack, Past, Locks, Unlocks}
use Rattle.script_fits.specs.Committing.{BeginsAt, Starts, Commits, RollsBack, CommitBegins, PutsAwaited}
use Rattle.script_fits.specs.Refusing.{HasHeard, RefusalMay, IsRefusal}

-- when a command began to act, the job was told of each loss that bars it from a data server that the command is about
abbrev pub HeardFirst : ℕ → Command → List Moment → Type 0
HeardFirst job command ms = (p : Plain) × BeginsAt p ms × HasHeard p job command

-- A command was done whole: these moments, this answer, and these unlocks held back after it. Only a rollback is done while the job has to
-- roll back first; a get may be read from a cache that hasn't heard of that.
abbrev pub Whole : Layout → ℕ → ℕ → Command → Past → List Moment → Answer → List HeldBack → Type 0
Whole l job line (Set at value) past ms answer held = Issues job line at.server (OpItem (SetOp at.key value)) (acts_in ms) answer × IsFree job ms × (held ≡ past.held_back)
Whole l job line (Kill at) past ms answer held = Issues job line at.server (OpItem (KillOp at.key)) (acts_in ms) answer × IsFree job ms × (held ≡ past.held_back)
Whole l job line (Get at) past ms answer held = Gets job line at (acts_in ms) answer × (held ≡ past.held_back)
Whole l job line (Shape at) past ms answer held = Shapes job line at (acts_in ms) answer × IsFree job ms × (held ≡ past.held_back)
Whole l job line (Next parent sub) past ms answer held = Nexts job line parent sub (acts_in ms) answer × IsFree job ms × (held ≡ past.held_back)
Whole l job line (Incr at amount) past ms answer held = Counts job line at amount (acts_in ms) answer × IsFree job ms × (held ≡ past.held_back)
Whole l job line (Lock at mode wait) past ms answer held = Locks l job line at mode wait past ms answer × (held ≡ past.held_back)
Whole l job line (Unlock at mode now) past ms answer held = Unlocks l job line at mode now past ms answer held × IsFree job ms × HeardFirst job (Unlock at mode now) ms
Whole l job line Start past ms answer held = Starts job line ms answer × IsFree job ms × (held ≡ past.held_back)
Whole l job line (Commit sync) past ms answer held = Commits l job line sync past ms answer held × IsFree job ms
Whole l job line Rollback past ms answer held = RollsBack l job line past ms answer held × HeardFirst job Rollback ms
Whole l job line (Sync server) past ms answer held = Reaches job line server (acts_in ms) answer × AreTogether ms × IsFree job ms × (held ≡ past.held_back)

-- nothing of a command was done yet
abbrev pub Nothing : Past → List Moment → List HeldBack → Type 0
Nothing past ms held = (ms ≡ []) × (held ≡ past.held_back)

-- A part of a command was done, and its end is still to come. What one step does comes at once, so only an increment, a commit that waits
-- and a rollback can stand halfway.
abbrev pub Part : Layout → ℕ → ℕ → Command → Past → List Moment → List HeldBack → Type 0
Part l job line (Set at value) past ms held = Nothing past ms held
Part l job line (Kill at) past ms held = Nothing past ms held
Part l job line (Get at) past ms held = Nothing past ms held
Part l job line (Shape at) past ms held = Nothing past ms held
Part l job line (Next parent sub) past ms held = Nothing past ms held
Part l job line (Incr at amount) past ms held = Nothing past ms held ⊎ (IssuesAdd job line at amount (acts_in ms) × (held ≡ past.held_back))
Part l job line (Lock at mode wait) past ms held = Nothing past ms held
Part l job line (Unlock at mode now) past ms held = Nothing past ms held
Part l job line Start past ms held = Nothing past ms held
Part l job line (Commit sync) past ms held = Nothing past ms held ⊎ CommitBegins l job line sync past ms held
Part l job line Rollback past ms held = Nothing past ms held ⊎ (PutsAwaited l job line RollbackItem past ms held × HeardFirst job Rollback ms)
Part l job line (Sync server) past ms held = Nothing past ms held

-- a command was refused after a part of its acts
abbrev pub RefusedAfter : Layout → ℕ → ℕ → Command → Past → List Moment → Answer → List HeldBack → Type 0
RefusedAfter l job line command past ms answer held =
    (part : List Moment) × (m : Moment) × (refused : Refused)
    × (ms ≡ part ++ m ∷ []) × Part l job line command past part held × (m.act ≡ RefusedAct job line refused)
    × RefusalMay m.before job command part refused × IsRefusal refused answer

-- a command has its end
abbrev pub IsDone : Layout → ℕ → ℕ → Command → Past → List Moment → Answer → List HeldBack → Type 0
IsDone l job line command past ms answer held = Whole l job line command past ms answer held ⊎ RefusedAfter l job line command past ms answer held
