-- Moves of a job that are refused since one condition fails: it is named above each.
use Rattle.std.specs.Prelude.{◌^◌, [], ◌∷◌, Some, None, true, false, pos}
use Rattle.app_job.specs.declared.command.Command.TheVariants.{Set, Get, Incr, Sync}
use Rattle.app_rules.specs.Looks.{nothing_shown}
use Rattle.cluster_runs.specs.CoresState.{CoresState, start}
use Rattle.cluster_runs.specs.Moves.{Allowed}
use Rattle.cluster_runs.specs.declared.moves.Move.TheVariants.{Step, Looked}
use Rattle.cluster_examples.specs.Scenes.{x, x_key, knows, front_at}
use Rattle.cluster_examples.specs.FirstRun.{layout, tried, issued, cached, read}
use Rattle.plain_orders.specs.declared.op.Op.TheVariants as ops

-- steps of a job
abbrev pub StepRefusals : Type 0
StepRefusals =
    -- clock: another moment than that of the last tick
    (Allowed issued (Step 0 1 6 (Get x)) → ⊥)
    -- no_less: before the application server's last step
    × (Allowed (record issued { app_nows = 1 ∷ [] }) (Step 0 0 6 (Get x)) → ⊥)
    -- another command waits
    × (Allowed tried (Step 0 0 5 (Get x)) → ⊥)
    -- it waits at another line
    × (Allowed tried (Step 0 0 6 (Set x (53 ∷ []))) → ⊥)
    -- a lower line
    × (Allowed issued (Step 0 0 4 (Get x)) → ⊥)
    -- known: there is no such job
    × (Allowed (start layout) (Step 1 0 1 (Get x)) → ⊥)
    -- placed: its application server is not there
    × (Allowed (start (record layout { job_apps = 1 ∷ [] })) (Step 0 0 1 (Get x)) → ⊥)
    -- alive: its application server is gone
    × (Allowed (record issued { dead = true ∷ [] }) (Step 0 0 6 (Get x)) → ⊥)
    -- within: an increment of too many digits
    × (Allowed issued (Step 0 0 6 (Incr x (pos (10 ^ 18)))) → ⊥)
    -- known: there is no such data server
    × (Allowed issued (Step 0 0 6 (Sync 1)) → ⊥)

-- the job knew no session
abbrev pub knew : CoresState
knew = record read { views = knows None [] ∷ [] }

-- it had only to roll back
abbrev pub flagged : CoresState
flagged = record read { views = record { rollback_only = true; servers = record { session = Some 2; has_loss = false; late = [] } ∷ [] } ∷ [] }

-- a loss was untold
abbrev pub untold : CoresState
untold = record read { views = record { rollback_only = false; servers = record { session = Some 2; has_loss = true; late = [] } ∷ [] } ∷ [] }

-- its own update of ^x hadn't entered
abbrev pub owning : CoresState
owning = record read { views = knows (Some 2) (record { w = 2; job = 0; op = ops.Set x_key (54 ∷ []) } ∷ []) ∷ [] }

-- looks of a job
abbrev pub LookRefusals : Type 0
LookRefusals =
    -- all are as they must be
    Allowed read (Looked 0 7 (Get x))
    -- only a get is a look
    × (Allowed read (Looked 0 7 (Set x (53 ∷ []))) → ⊥)
    -- alive: its application server is gone
    × (Allowed (record read { dead = true ∷ [] }) (Looked 0 7 (Get x)) → ⊥)
    -- a lower line
    × (Allowed read (Looked 0 5 (Get x)) → ⊥)
    -- free: the job waits
    × (Allowed cached (Looked 0 6 (Get x)) → ⊥)
    -- known: there is no such data server
    × (Allowed read (Looked 0 7 (Get (record x { server = 1 }))) → ⊥)
    -- unflagged: the job has only to roll back
    × (Allowed flagged (Looked 0 7 (Get x)) → ⊥)
    -- unlost: it has to be told of a loss
    × (Allowed untold (Looked 0 7 (Get x)) → ⊥)
    -- shown: nothing was published
    × (Allowed (record read { shown = (nothing_shown ∷ []) ∷ [] }) (Looked 0 7 (Get x)) → ⊥)
    -- covered: no run was
    × (Allowed (record read { shown = (record { front = Some (front_at 2 1 3 1); runs = [] } ∷ []) ∷ [] }) (Looked 0 7 (Get x)) → ⊥)
    -- its: the pair had no session
    × (Allowed knew (Looked 0 7 (Get x)) → ⊥)
    -- undecided: an own update decides
    × (Allowed owning (Looked 0 7 (Get x)) → ⊥)
