-- Trails on which the premises of the laws hold.
use Rattle.std.specs.Prelude.{ℕ, true, false, List, [], ◌∷◌, ◌++◌, Some, None, pos}
use Rattle.plain_orders.specs.declared.op.Op.TheVariants.{Add, Set}
use Rattle.plain_orders.specs.declared.item.Item.TheVariants.{Op, Rollback as RollbackItem}
use Rattle.plain_orders.specs.declared.entry.Entry.TheVariants.{Opened as OpenEntry, Update, Rollback}
use Rattle.plain_orders.specs.declared.act.Act.{Act}
use Rattle.plain_orders.specs.declared.act.Act.TheVariants.{Opened, Enter, Synced, Met, Crash, Issue, Read, Grant, Granted, GiveUp, Free, Level}
use Rattle.plain_orders.specs.declared.mode.Mode.TheVariants.{Exclusive}
use Rattle.plain_orders.specs.declared.via.Via.TheVariants.{Fetched}
use Rattle.plain_orders.specs.declared.question.Question.TheVariants.{Get}
use Rattle.plain_orders.specs.declared.layout.Layout.{Layout}
use Rattle.plain_runs.specs.Plain.{Hold}

-- two jobs on one application server
abbrev pub two_jobs : Layout
two_jobs = record { servers = 1; apps = 1; job_apps = 0 ∷ 0 ∷ []; times = record { retry = 5; trouble = 60; recover = 1200; round = 60 } }

-- the node ^x
abbrev pub x_node : List ℕ
x_node = 120 ∷ 0 ∷ []

-- a session is met
abbrev pub session_met : List Act
session_met = Opened 0 [] ∷ Enter 0 (OpenEntry 2 0) ∷ Synced 0 2 ∷ Met 0 0 2 ∷ []

-- two increments by 1 and 2 enter and are synced
abbrev pub adding : List Act
adding =
    Issue 0 5 0 1 (Op (Add x_node (pos 1))) ∷ Issue 0 6 0 2 (Op (Add x_node (pos 2))) ∷ Enter 0 (Update 2 1 0 0 (Add x_node (pos 1)))
    ∷ Enter 0 (Update 2 2 0 0 (Add x_node (pos 2))) ∷ Synced 0 4 ∷ []

-- with a session before
abbrev pub added : List Act
added = session_met ++ adding

-- a job reads an update that a restart cuts off
abbrev pub cutting : List Act
cutting =
    Issue 0 5 0 1 (Op (Set x_node (53 ∷ []))) ∷ Enter 0 (Update 2 1 0 0 (Set x_node (53 ∷ []))) ∷ Read 0 6 0 3 Fetched (Get x_node (Some (53 ∷ [])))
    ∷ Crash 0 2 ∷ []

-- with a session before
abbrev pub cut_off : List Act
cut_off = session_met ++ cutting

-- job 0 holds a lock, sets the node and gives the lock up
abbrev pub handing_over : List Act
handing_over =
    Grant 0 2 0 Exclusive x_node 2 ∷ Granted 0 5 0 2 ∷ Issue 0 6 0 1 (Op (Set x_node (53 ∷ []))) ∷ GiveUp 0 7 0 Exclusive x_node
    ∷ Enter 0 (Update 2 1 0 0 (Set x_node (53 ∷ []))) ∷ Free 0 2 0 Exclusive x_node ∷ []

-- with a session before
abbrev pub handed_over : List Act
handed_over = session_met ++ handing_over

-- job 1 is answered that it has the lock, and job 0 issues one more update
abbrev pub taken_over : List Act
taken_over = Synced 0 3 ∷ Granted 1 5 0 3 ∷ Issue 0 8 0 2 (Op (Set x_node (54 ∷ []))) ∷ []

-- the first hold, which is gone
abbrev pub first_hold : Hold
first_hold = record { session = 2; job = 0; mode = Exclusive; key = x_node; at = 2; answered = true; given = Some (record { turn = 0; before = 1 }); in_force = true; gone = true }

-- the second, which is answered
abbrev pub second_hold : Hold
second_hold = record { session = 2; job = 1; mode = Exclusive; key = x_node; at = 3; answered = true; given = None; in_force = true; gone = false }

-- a transaction sets the node and is rolled back
abbrev pub rolling_back : List Act
rolling_back =
    Level 0 5 1 ∷ Issue 0 6 0 1 (Op (Set x_node (53 ∷ []))) ∷ Enter 0 (Update 2 1 0 1 (Set x_node (53 ∷ []))) ∷ Issue 0 7 0 2 (RollbackItem 1)
    ∷ Enter 0 (Rollback 2 2 0 1) ∷ []

-- with a session before
abbrev pub rolled_back : List Act
rolled_back = session_met ++ rolling_back
