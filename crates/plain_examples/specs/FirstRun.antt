-- The trail of a first run: a job sets a node on a fresh server and reads it.
use Rattle.std.specs.Prelude.{List, [], ◌∷◌, Some}
use Rattle.plain_orders.specs.declared.op.Op.TheVariants.{Set}
use Rattle.plain_orders.specs.declared.item.Item.TheVariants.{Op}
use Rattle.plain_orders.specs.declared.entry.Entry.TheVariants.{Opened as OpenedEntry, Update}
use Rattle.plain_orders.specs.declared.act.Act.{Act}
use Rattle.plain_orders.specs.declared.act.Act.TheVariants.{Opened, Enter, Synced, Met, Issue, Read}
use Rattle.plain_orders.specs.declared.via.Via.TheVariants.{Fetched}
use Rattle.plain_orders.specs.declared.question.Question.TheVariants.{Get}
use Rattle.plain_orders.specs.declared.layout.Layout.{Layout}
use Rattle.plain_runs.specs.Run.{IsRun}

-- one job on one application server
abbrev pub first_layout : Layout
first_layout = record { servers = 1; apps = 1; job_apps = 0 ∷ []; times = record { retry = 5; trouble = 60; recover = 1200; round = 60 } }

-- the node ^x is set to 5
abbrev pub first_run : List Act
first_run =
    Opened 0 [] ∷ Enter 0 (OpenedEntry 2 0) ∷ Synced 0 2 ∷ Met 0 0 2 ∷ Issue 0 5 0 1 (Op (Set (120 ∷ 0 ∷ []) (53 ∷ [])))
    ∷ Enter 0 (Update 2 1 0 0 (Set (120 ∷ 0 ∷ []) (53 ∷ []))) ∷ Synced 0 3 ∷ Read 0 6 0 3 Fetched (Get (120 ∷ 0 ∷ []) (Some (53 ∷ []))) ∷ []

-- it is a run
abbrev pub FirstRunIsRun : Type 0
FirstRunIsRun = IsRun first_layout first_run
