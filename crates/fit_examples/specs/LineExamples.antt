-- What a line of a script adds.
use Rattle.std.specs.Prelude.{pos, [], ◌∷◌, ◌++◌, Some, None}
use Rattle.plain_orders.specs.declared.act.Act.TheVariants.{Opened, Enter, Synced, Crash, Issue, Broke, Tick, Died}
use Rattle.plain_orders.specs.declared.causes.PairEnd.TheVariants.{App as AppEnd, Server as ServerEnd}
use Rattle.plain_orders.specs.declared.item.Item.TheVariants.{Op as OpItem}
use Rattle.plain_orders.specs.declared.op.Op.TheVariants.{Set as SetOp, Add as AddOp}
use Rattle.app_job.specs.declared.answer.Answer.TheVariants.{Queued, Waiting}
use Rattle.app_job.specs.declared.command.Command.TheVariants.{Set, Get, Incr}
use Rattle.fit_examples.specs.Groups.{at_x, five, place, met, so_far, in_hold, when_down, says, ended, Adds}
use Rattle.plain_orders.specs.declared.entry.Entry.TheVariants.{Opened as OpenEntry}
use Rattle.job_script.specs.declared.todo.Todo.TheVariants.{Crash as CrashLine, Job, Hold, Flow, Save, Pump, Tick as TickLine, Restart, Die}
use Rattle.transcript.specs.declared.piece.Piece.TheVariants.{Pumped, Restarted, Halted, Gone}
use Rattle.transcript.specs.declared.piece.Restarted.TheVariants.{Kept, DiskFault, NotAJournal, NotKept, NetFault, Running}
use Rattle.app_job.specs.declared.why.Why.TheVariants.{State, Queue, Fetch, Reply, Grant as GrantWhy}
use Rattle.std.specs.Prelude.{None, Some}

-- ticks and deaths
abbrev pub ClockExamples : Type 0
ClockExamples =
    -- two ticks
    Adds (so_far (met ++ Tick 7 ∷ []) [] []) (TickLine 2) (Tick 8 ∷ Tick 9 ∷ []) [] []
    -- one tick is missing
    × (¬ Adds (so_far (met ++ Tick 7 ∷ []) [] []) (TickLine 2) (Tick 8 ∷ []) [] [])
    -- one tick too many
    × (¬ Adds (so_far (met ++ Tick 7 ∷ []) [] []) (TickLine 2) (Tick 8 ∷ Tick 9 ∷ Tick 10 ∷ []) [] [])
    -- a tick of two
    × (¬ Adds (so_far (met ++ Tick 7 ∷ []) [] []) (TickLine 2) (Tick 8 ∷ Tick 10 ∷ []) [] [])
    -- a tick at a line that has none
    × (¬ Adds (so_far (met ++ Tick 7 ∷ []) [] []) Hold (Tick 8 ∷ []) [] [])
    -- a death
    × Adds (so_far met [] []) (Die 0) (Died 0 ∷ []) [] []
    -- a second die of it
    × Adds (so_far (met ++ Died 0 ∷ []) [] []) (Die 0) [] [] []
    -- it dies again
    × (¬ Adds (so_far (met ++ Died 0 ∷ []) [] []) (Die 0) (Died 0 ∷ []) [] [])
    -- it does not die
    × (¬ Adds (so_far met [] []) (Die 0) [] [] [])
    -- another one dies
    × (¬ Adds (so_far met [] []) (Die 0) (Died 1 ∷ []) [] [])
    -- a death at a line that has none
    × (¬ Adds (so_far met [] []) Hold (Died 0 ∷ []) [] [])
    -- a data server begins
    × (¬ Adds (so_far met [] []) Hold (Opened 1 [] ∷ []) [] [])

-- restarts
abbrev pub RestartExamples : Type 0
RestartExamples =
    -- it is up
    Adds when_down (Restart 0) (Crash 0 2 ∷ Synced 0 3 ∷ []) (Restarted 0 5 (Kept 2) ∷ []) []
    -- its disk failed
    × Adds when_down (Restart 0) [] (Restarted 0 5 DiskFault ∷ []) []
    -- its disk failed at the new Epoch
    × Adds when_down (Restart 0) (Crash 0 2 ∷ []) (Restarted 0 5 DiskFault ∷ []) []
    -- it has no journal
    × Adds when_down (Restart 0) [] (Restarted 0 5 (NotAJournal 7) ∷ []) []
    -- its journal is another one
    × Adds when_down (Restart 0) [] (Restarted 0 5 (NotKept 1) ∷ []) []
    -- the net failed
    × Adds when_down (Restart 0) (Crash 0 2 ∷ Synced 0 3 ∷ []) (Restarted 0 5 NetFault ∷ []) []
    -- it was running
    × Adds (so_far met [] []) (Restart 0) [] (Restarted 0 5 Running ∷ []) []
    -- it kept another number
    × (¬ Adds when_down (Restart 0) (Crash 0 2 ∷ Synced 0 3 ∷ []) (Restarted 0 5 (Kept 3) ∷ []) [])
    -- it is up, and did not crash
    × (¬ Adds when_down (Restart 0) [] (Restarted 0 5 (Kept 2) ∷ []) [])
    -- it is up, and its new Epoch is not synced
    × (¬ Adds when_down (Restart 0) (Crash 0 2 ∷ []) (Restarted 0 5 (Kept 2) ∷ []) [])
    -- another one crashed
    × (¬ Adds when_down (Restart 0) (Crash 1 2 ∷ Synced 1 3 ∷ []) (Restarted 0 5 (Kept 2) ∷ []) [])
    -- its disk failed, and the new Epoch is synced
    × (¬ Adds when_down (Restart 0) (Crash 0 2 ∷ Synced 0 3 ∷ []) (Restarted 0 5 DiskFault ∷ []) [])
    -- it has no journal, and crashed
    × (¬ Adds when_down (Restart 0) (Crash 0 2 ∷ []) (Restarted 0 5 (NotAJournal 7) ∷ []) [])
    -- its journal is another one, and it crashed
    × (¬ Adds when_down (Restart 0) (Crash 0 2 ∷ []) (Restarted 0 5 (NotKept 1) ∷ []) [])
    -- it was running, and crashed
    × (¬ Adds (so_far met [] []) (Restart 0) (Crash 0 2 ∷ []) (Restarted 0 5 Running ∷ []) [])
    -- it was down, and says that it was running
    × (¬ Adds when_down (Restart 0) [] (Restarted 0 5 Running ∷ []) [])
    -- it was running, and says that it is up
    × (¬ Adds (so_far met [] []) (Restart 0) (Crash 0 2 ∷ Synced 0 3 ∷ []) (Restarted 0 5 (Kept 2) ∷ []) [])
    -- no word
    × (¬ Adds when_down (Restart 0) (Crash 0 2 ∷ Synced 0 3 ∷ []) [] [])
    -- two words
    × (¬ Adds when_down (Restart 0) [] (Restarted 0 5 DiskFault ∷ Restarted 0 5 DiskFault ∷ []) [])
    -- another line
    × (¬ Adds when_down (Restart 0) [] (Restarted 0 6 DiskFault ∷ []) [])
    -- another data server
    × (¬ Adds when_down (Restart 0) [] (Restarted 1 5 DiskFault ∷ []) [])
    -- a crash at a line that restarts nothing
    × (¬ Adds (so_far met [] []) Hold (Crash 0 2 ∷ []) [] [])
    -- a word at a line that restarts nothing
    × (¬ Adds when_down Hold [] (Restarted 0 5 DiskFault ∷ []) [])
    -- a data server that is down acts
    × (¬ Adds when_down Hold (Synced 0 2 ∷ []) [] [])
    -- a data server acts at the line that takes it down
    × (¬ Adds (so_far met [] []) (CrashLine 0 7) (Synced 0 2 ∷ []) [] [])
    -- one acts while another one is down
    × Adds when_down Hold (Enter 1 (OpenEntry 3 1) ∷ []) [] []
    -- its disk failed, and it acts
    × (¬ Adds when_down (Restart 0) (Synced 0 2 ∷ []) (Restarted 0 5 DiskFault ∷ []) [])
    -- its disk failed at the new Epoch, and it acts after that
    × (¬ Adds when_down (Restart 0) (Crash 0 2 ∷ Enter 0 (OpenEntry 3 1) ∷ []) (Restarted 0 5 DiskFault ∷ []) [])
    -- its disk failed, and another one acts
    × Adds when_down (Restart 0) (Enter 1 (OpenEntry 3 1) ∷ []) (Restarted 0 5 DiskFault ∷ []) []
    -- its disk failed, and another one crashed
    × (¬ Adds when_down (Restart 0) (Crash 1 2 ∷ []) (Restarted 0 5 DiskFault ∷ []) [])
    -- it has no journal, and acts
    × (¬ Adds when_down (Restart 0) (Synced 0 2 ∷ []) (Restarted 0 5 (NotAJournal 7) ∷ []) [])
    -- its journal is another one, and it acts
    × (¬ Adds when_down (Restart 0) (Synced 0 2 ∷ []) (Restarted 0 5 (NotKept 1) ∷ []) [])
    -- the net failed, and it acts after its new Epoch
    × (¬ Adds when_down (Restart 0) (Crash 0 2 ∷ Synced 0 3 ∷ Enter 0 (OpenEntry 4 1) ∷ []) (Restarted 0 5 NetFault ∷ []) [])
    -- the end of a data server that is down breaks
    × (¬ Adds when_down Hold (Broke 0 0 ServerEnd 0 ∷ []) [] [])
    -- the other end of that connection breaks
    × Adds when_down Hold (Broke 0 0 AppEnd 0 ∷ []) [] []

-- what a line prints
abbrev pub PieceExamples : Type 0
PieceExamples =
    -- a pump that leaves nothing
    Adds (so_far met [] []) Pump [] (Pumped 5 None ∷ []) []
    -- a pump that leaves an entry unsaved
    × Adds (so_far (met ++ Enter 0 (OpenEntry 3 1) ∷ []) [] []) Pump [] (Pumped 5 (Some 1) ∷ []) []
    -- a pump that says nothing
    × (¬ Adds (so_far met [] []) Pump [] [] [])
    -- a pump that says it twice
    × (¬ Adds (so_far met [] []) Pump [] (Pumped 5 None ∷ Pumped 5 None ∷ []) [])
    -- a pump of another line
    × (¬ Adds (so_far met [] []) Pump [] (Pumped 6 None ∷ []) [])
    -- a pump that leaves an entry unsaved, and says that it left nothing
    × (¬ Adds (so_far (met ++ Enter 0 (OpenEntry 3 1) ∷ []) [] []) Pump [] (Pumped 5 None ∷ []) [])
    -- a pump at a line that has none
    × (¬ Adds (so_far met [] []) Hold [] (Pumped 5 None ∷ []) [])
    -- a job that is gone
    × Adds (so_far (met ++ Died 0 ∷ []) [] []) (Job 0 (Set at_x five)) [] (Gone 0 5 ∷ []) []
    -- a job that is gone has no word
    × (¬ Adds (so_far (met ++ Died 0 ∷ []) [] []) (Job 0 (Set at_x five)) [] [] [])
    -- another job is gone
    × (¬ Adds (so_far (met ++ Died 0 ∷ []) [] []) (Job 0 (Set at_x five)) [] (Gone 2 5 ∷ []) [])
    -- a job is gone whose application server lives
    × (¬ Adds (so_far met [] []) (Job 0 (Set at_x five)) [] (Gone 0 5 ∷ []) [])
    -- a job is gone at a line that is not one of its own
    × (¬ Adds (so_far (met ++ Died 0 ∷ []) [] []) Hold [] (Gone 0 5 ∷ []) [])
    -- a data server halts
    × Adds (so_far (met ++ Enter 0 (OpenEntry 3 1) ∷ []) [] []) (Save 0) [] (Halted 0 5 ∷ []) []
    -- it halts twice
    × (¬ Adds (so_far (met ++ Enter 0 (OpenEntry 3 1) ∷ []) [] []) (Save 0) [] (Halted 0 5 ∷ Halted 0 5 ∷ []) [])
    -- it halts while it is down
    × (¬ Adds (record when_down { acts = met ++ Enter 0 (OpenEntry 3 1) ∷ [] }) (Save 0) [] (Halted 0 5 ∷ []) [])
    -- it halts at another line
    × (¬ Adds (so_far (met ++ Enter 0 (OpenEntry 3 1) ∷ []) [] []) (Save 0) [] (Halted 0 6 ∷ []) [])
    -- a foreign data server halts
    × (¬ Adds (so_far met [] []) (Save 0) [] (Halted 2 5 ∷ []) [])
    -- a data server halts that has nothing unsaved
    × (¬ Adds (so_far met [] []) (Save 0) [] (Halted 0 5 ∷ []) [])
    -- an answer
    × Adds (so_far met [] []) (Job 0 (Set at_x five)) (Issue 0 5 0 1 (OpItem (SetOp at_x.key five)) ∷ []) (says 5 (Queued (place 0 1 ∷ [])) ∷ []) (ended 5 (Queued (place 0 1 ∷ [])) 8 ∷ [])
    -- an answer of another line
    × (¬ Adds (so_far met [] []) (Job 0 (Set at_x five)) (Issue 0 5 0 1 (OpItem (SetOp at_x.key five)) ∷ []) (says 4 (Queued (place 0 1 ∷ [])) ∷ []) (ended 5 (Queued (place 0 1 ∷ [])) 8 ∷ []))
    -- an end without its answer
    × (¬ Adds (so_far met [] []) (Job 0 (Set at_x five)) (Issue 0 5 0 1 (OpItem (SetOp at_x.key five)) ∷ []) [] (ended 5 (Queued (place 0 1 ∷ [])) 8 ∷ []))
    -- an answer without its end
    × (¬ Adds (so_far met [] []) (Job 0 (Set at_x five)) (Issue 0 5 0 1 (OpItem (SetOp at_x.key five)) ∷ []) (says 5 (Queued (place 0 1 ∷ [])) ∷ []) [])
    -- an end that came before the line
    × (¬ Adds (so_far met [] []) (Job 0 (Set at_x five)) (Issue 0 5 0 1 (OpItem (SetOp at_x.key five)) ∷ []) (says 5 (Queued (place 0 1 ∷ [])) ∷ []) (ended 5 (Queued (place 0 1 ∷ [])) 7 ∷ []))
    -- an act for a line that is still to come
    × (¬ Adds (so_far met [] []) Hold (Issue 0 6 0 1 (OpItem (SetOp at_x.key five)) ∷ []) [] [])
    -- a command that waits
    × Adds (so_far met [] []) (Job 0 (Get at_x)) [] (says 5 (Waiting Fetch) ∷ []) []
    -- a command that waits has no word
    × (¬ Adds (so_far met [] []) (Job 0 (Get at_x)) [] [] [])
    -- it waits for what it never does
    × (¬ Adds (so_far met [] []) (Job 0 (Get at_x)) [] (says 5 (Waiting GrantWhy) ∷ []) [])
    -- it waits on for the same
    × Adds (so_far met (record { line = 4; todo = Job 0 (Get at_x) } ∷ []) (says 4 (Waiting Fetch) ∷ [])) Hold [] [] []
    -- it is told again that it waits for the same
    × (¬ Adds (so_far met (record { line = 4; todo = Job 0 (Get at_x) } ∷ []) (says 4 (Waiting Fetch) ∷ [])) Hold [] (says 4 (Waiting Fetch) ∷ []) [])
    -- it waits for something else
    × Adds (so_far met (record { line = 4; todo = Job 0 (Get at_x) } ∷ []) (says 4 (Waiting Fetch) ∷ [])) Hold [] (says 4 (Waiting State) ∷ []) []
    -- a job waits that has nothing to do
    × (¬ Adds (so_far met [] []) Hold [] (says 4 (Waiting Fetch) ∷ []) [])
    -- a dead job waits
    × (¬ Adds (so_far (met ++ Died 0 ∷ []) (record { line = 4; todo = Job 0 (Get at_x) } ∷ []) []) Hold [] (says 4 (Waiting Fetch) ∷ []) [])
    -- messages are held, and a data server halts at a line that has it save
    × Adds in_hold (Save 0) [] (Halted 0 5 ∷ []) []
    -- at a line from which on they flow
    × Adds in_hold Flow [] (Halted 0 5 ∷ []) []
    -- at a line that has none save
    × (¬ Adds in_hold Hold [] (Halted 0 5 ∷ []) [])
    -- at a line that has another one save
    × (¬ Adds in_hold (Save 1) [] (Halted 0 5 ∷ []) [])
    -- an increment that was issued waits for its reply
    × Adds (so_far met [] []) (Job 0 (Incr at_x (pos 3))) (Issue 0 5 0 1 (OpItem (AddOp at_x.key (pos 3))) ∷ []) (says 5 (Waiting Reply) ∷ []) []
    -- it waits in the queue
    × (¬ Adds (so_far met [] []) (Job 0 (Incr at_x (pos 3))) (Issue 0 5 0 1 (OpItem (AddOp at_x.key (pos 3))) ∷ []) (says 5 (Waiting Queue) ∷ []) [])
    -- an increment that was not issued waits for a reply
    × (¬ Adds (so_far met [] []) (Job 0 (Incr at_x (pos 3))) [] (says 5 (Waiting Reply) ∷ []) [])
