-- Examples of the commands of a job; and of steps that are refused since one condition fails: it is named above each.
use Rattle.std.specs.Prelude.{ℕ, ◌^◌, [], ◌∷◌, Some, None, true, false, pos}
use Rattle.subscript_keys.specs.declared.run.Run.{Run}
use Rattle.plain_orders.specs.declared.act.Act.TheVariants.{Issue, Read, Granted, GiveUp, Quit, Level, Reached, Counted as CountedAct, Done as DoneAct, Refused as RefusedAct}
use Rattle.plain_orders.specs.declared.item.Item.TheVariants as items
use Rattle.plain_orders.specs.declared.op.Op.TheVariants as ops
use Rattle.plain_orders.specs.declared.mode.Mode.TheVariants.{Exclusive}
use Rattle.plain_orders.specs.declared.question.Question.TheVariants as questions
use Rattle.plain_orders.specs.declared.refused.LinkName.TheVariants as names
use Rattle.plain_orders.specs.declared.refused.ReasonName.TheVariants as short
use Rattle.plain_orders.specs.declared.refused.Refused.TheVariants as words
use Rattle.plain_orders.specs.declared.via.Via.TheVariants.{Own, Cached}
use Rattle.ecp_messages.specs.declared.up.Up.{Up}
use Rattle.ecp_messages.specs.declared.up.Up.TheVariants.{Update, Add, Fetch, Ask, Cancel, Sync as SyncUp, Commit as CommitUp, Unlock as UnlockUp}
use Rattle.ecp_messages.specs.declared.down.Down.TheVariants as downs
use Rattle.ecp_messages.specs.declared.about.About.TheVariants.{Counted, Synced}
use Rattle.app_job.specs.declared.command.Command.TheVariants.{Set, Get, Incr, Lock, Unlock, Start, Commit, Rollback, Sync}
use Rattle.app_job.specs.declared.answer.Answer.TheVariants as answers
use Rattle.app_job.specs.declared.reason.Reason.TheVariants as reasons
use Rattle.app_job.specs.declared.refusal.Refusal.TheVariants as refusals
use Rattle.app_job.specs.declared.why.Why.TheVariants as why
use Rattle.app_rules.specs.declared.app_in.AppIn.TheVariants.{Frame}
use Rattle.app_rules.specs.AppState.{AppEnd, Session, no_end}
use Rattle.app_rules.specs.AppStep.{AppStep}
use Rattle.app_rules.specs.JobState.{JobState, Progress}
use Rattle.app_rules.specs.JobStep.{JobStep, JobMay}
use Rattle.app_examples.specs.Apps.{app_with, down, up, outs, head, x, tried, unused, joined_with, joined, set_x, issued, broken_with, new_job, user, lost_end}

-- what is known of a command whose first step was at line 3 and this moment, at level 0
abbrev pub begun_at : ℕ → Progress
begun_at now = record { line = 3; first = now; level = 0; failed = 0 ∷ []; fetched = false; added = None; servers = []; ends = None }

-- a run over all keys, in which ^x is 6
abbrev pub run_x : Run
run_x = record { span = record { lo = 0 ∷ []; hi = 255 ∷ [] }; pairs = record { key = 120 ∷ 0 ∷ []; value = 54 ∷ [] } ∷ [] }

-- a Fetch of job 0 for ^x is unanswered
abbrev pub fetching : Session
fetching =
    record unused {
      window = record { acked = 0; waiting = Fetch (120 ∷ 0 ∷ []) ∷ []; taken = 0; since = 0 };
      fetches = record { job = 0; key = 120 ∷ 0 ∷ []; wanted = true } ∷ [];
    }

-- a session whose cache has this run
abbrev pub cached : AppEnd
cached = joined_with (record unused { cache = run_x ∷ [] })

-- Sets and gets
abbrev pub GetExamples : Type 0
GetExamples =
    -- there is no connection: one is tried
    JobStep (app_with no_end) new_job 4 3 (Get x) (answers.Waiting why.State) (outs [] (0 ∷ []) [] []) (app_with tried)
    (record new_job { progress = Some (begun_at 4) })
    -- the connection is in trouble: the session counts as used
    × JobStep (app_with (broken_with unused)) new_job 6 3 (Get x) (answers.Waiting why.State) (outs [] [] [] []) (app_with (broken_with unused))
    (record user { progress = Some (begun_at 6) })
    -- a Set is issued
    × JobStep (app_with joined) new_job 4 3 (Set x (53 ∷ [])) (answers.Queued (record { server = 0; number = 1 } ∷ []))
    (outs (up 1 0 set_x ∷ []) [] [] (Issue 0 3 0 1 (items.Op (ops.Set (120 ∷ 0 ∷ []) (53 ∷ []))) ∷ [])) (app_with (joined_with issued)) user
    -- it decides what the job reads
    × JobStep (app_with (joined_with issued)) user 4 3 (Get x) (answers.Value (Some (53 ∷ [])) 2 Own)
    (outs [] [] [] (Read 0 3 0 2 Own (questions.Get (120 ∷ 0 ∷ []) (Some (53 ∷ []))) ∷ [])) (app_with (joined_with issued)) user
    -- and a sync waits for it to enter
    × JobStep (app_with (joined_with issued)) user 4 3 (Sync 0) (answers.Waiting why.Own) (outs [] [] [] []) (app_with (joined_with issued))
    (record user { progress = Some (begun_at 4) })
    -- no run covers the node: a Fetch
    × JobStep (app_with joined) new_job 4 3 (Get x) (answers.Waiting why.Fetch) (outs (up 1 0 (Fetch (120 ∷ 0 ∷ [])) ∷ []) [] [] [])
    (app_with (joined_with fetching)) (record user { progress = Some (record (begun_at 4) { fetched = true }) })
    -- it is unanswered: no other one
    × JobStep (app_with (joined_with fetching)) (record user { progress = Some (record (begun_at 4) { fetched = true }) }) 5 3 (Get x)
    (answers.Waiting why.Fetch) (outs [] [] [] []) (app_with (joined_with fetching)) (record user { progress = Some (record (begun_at 4) { fetched = true }) })
    -- a run covers it
    × JobStep (app_with cached) user 4 3 (Get x) (answers.Value (Some (54 ∷ [])) 2 Cached)
    (outs [] [] [] (Read 0 3 0 2 Cached (questions.Get (120 ∷ 0 ∷ []) (Some (54 ∷ []))) ∷ [])) (app_with cached) user
    -- a Drop of ^x takes the run away
    × AppStep (app_with cached) 4 (Frame 0 (down 1 0 (downs.Drop (head 3 0 0) (120 ∷ 0 ∷ []) (120 ∷ 0 ∷ 255 ∷ []))))
    (outs [] [] [] []) (app_with (joined_with (record unused { n = 3; window = record { acked = 0; waiting = []; taken = 1; since = 1 } })))
    -- a command whose limits, data server and job are as they must be
    × JobMay (app_with joined) user (Sync 0)
    -- known: there is no data server 1
    × (JobMay (app_with joined) user (Sync 1) → ⊥)
    -- within: an increment of too many digits
    × (JobMay (app_with joined) user (Incr x (pos (10 ^ 18))) → ⊥)
    -- used: the job counts no data server
    × (JobMay (app_with joined) (record user { used = [] }) (Sync 0) → ⊥)

-- the Ask of job 0 for ^x is unanswered
abbrev pub asking : Session
asking =
    record unused {
      window = record { acked = 0; waiting = Ask 1 0 Exclusive (120 ∷ 0 ∷ []) ∷ []; taken = 0; since = 0 };
      asks = record { ticket = 1; job = 0; mode = Exclusive; key = 120 ∷ 0 ∷ []; put = true; at = None } ∷ [];
    }

-- the time to wait was over, and its Cancel is on its way
abbrev pub cancelled : Session
cancelled =
    record unused {
      window = record { acked = 0; waiting = Ask 1 0 Exclusive (120 ∷ 0 ∷ []) ∷ Cancel 1 ∷ []; taken = 0; since = 0 };
    }

-- the Grant of position 3 was taken
abbrev pub granted : Session
granted =
    record asking {
      n = 3;
      window = record { acked = 1; waiting = []; taken = 1; since = 1 };
      asks = record { ticket = 1; job = 0; mode = Exclusive; key = 120 ∷ 0 ∷ []; put = true; at = Some 3 } ∷ [];
    }

-- an end that has used one ticket
abbrev pub ticketed : Session → AppEnd
ticketed s = record (joined_with s) { ticket = 1 }

-- a job that waits for the lock since 10
abbrev pub waiter : JobState
waiter = record user { progress = Some (begun_at 10) }

-- a lock, its time to wait, and a Cancel that crosses the Grant
abbrev pub LockExamples : Type 0
LockExamples =
    -- the Ask
    JobStep (app_with joined) user 10 3 (Lock x Exclusive (Some 3)) (answers.Waiting why.Grant) (outs (up 1 0 (Ask 1 0 Exclusive (120 ∷ 0 ∷ [])) ∷ []) [] [] [])
    (app_with (ticketed asking)) waiter
    -- the time to wait isn't over
    × JobStep (app_with (ticketed asking)) waiter 12 3 (Lock x Exclusive (Some 3))
    (answers.Waiting why.Grant) (outs [] [] [] []) (app_with (ticketed asking)) waiter
    -- it is: a Cancel
    × JobStep (app_with (ticketed asking)) waiter 13 3 (Lock x Exclusive (Some 3))
    (answers.Refused refusals.LockTimeout)
    (outs (up 2 0 (Cancel 1) ∷ []) [] [] (Quit 0 3 0 Exclusive (120 ∷ 0 ∷ []) ∷ RefusedAct 0 3 words.LockTimeout ∷ []))
    (app_with (ticketed cancelled)) user
    -- the Grant crosses it, and is taken for nobody
    × AppStep (app_with (ticketed cancelled)) 13 (Frame 0 (down 1 1 (downs.Grant (head 3 0 0) 1 3))) (outs [] [] [] [])
    (app_with (ticketed (record cancelled { n = 3; window = record { acked = 1; waiting = Cancel 1 ∷ []; taken = 1; since = 1 } })))
    -- the Grant comes before the Cancel: it counts, though the time to wait is over
    × AppStep (app_with (ticketed asking)) 12 (Frame 0 (down 1 1 (downs.Grant (head 3 0 0) 1 3))) (outs [] [] [] [])
    (app_with (ticketed granted))
    × JobStep (app_with (ticketed granted)) waiter 13 3 (Lock x Exclusive (Some 3))
    (answers.Granted 3) (outs [] [] [] (Granted 0 3 0 3 ∷ []))
    (app_with (ticketed (record granted { asks = []; held = record { job = 0; mode = Exclusive; key = 120 ∷ 0 ∷ []; count = 1; at = 3 } ∷ [] }))) user
    -- an unlock of what isn't held does nothing
    × JobStep (app_with joined) user 10 3 (Unlock x Exclusive false) answers.Done (outs [] [] [] (DoneAct 0 3 ∷ [])) (app_with joined) user

-- the same Set in transaction 1, and a lock that job 0 holds
abbrev pub set_within : Up
set_within = Update 1 0 1 (ops.Set (120 ∷ 0 ∷ []) (53 ∷ []))

abbrev pub within : Session
within =
    record issued {
      window = record { acked = 0; waiting = set_within ∷ []; taken = 0; since = 0 };
      queue = record { w = 1; message = set_within; job = 0 } ∷ [];
      held = record { job = 0; mode = Exclusive; key = 120 ∷ 0 ∷ []; count = 1; at = 2 } ∷ [];
    }

-- a job at level 1 with an update of its transaction
abbrev pub inner : JobState
inner = record user { level = 1; txn = 1; updates = record { server = 0; session = 2 } ∷ [] }

-- and with an unlock that waits for the transaction's end
abbrev pub holding_back : JobState
holding_back = record inner { held_back = record { server = 0; session = 2; mode = Exclusive; key = 120 ∷ 0 ∷ [] } ∷ [] }

-- the Commit is put, and the unlock after it
abbrev pub committed : Session
committed =
    record within {
      window = record { acked = 0; waiting = set_within ∷ CommitUp 2 0 1 false ∷ UnlockUp 0 Exclusive (120 ∷ 0 ∷ []) ∷ []; taken = 0; since = 0 };
      issued = 2;
      queue = record { w = 1; message = set_within; job = 0 } ∷ record { w = 2; message = CommitUp 2 0 1 false; job = 0 } ∷ [];
      held = [];
    }

-- transactions, an unlock that is held back, and the refusals in their order
abbrev pub TransactionExamples : Type 0
TransactionExamples =
    -- the outermost start takes the next number
    JobStep (app_with joined) user 4 3 Start answers.Done (outs [] [] [] (Level 0 3 1 ∷ DoneAct 0 3 ∷ [])) (app_with joined) (record user { level = 1; txn = 1 })
    -- an unlock is held back
    × JobStep (app_with (joined_with within)) inner 4 3 (Unlock x Exclusive false) answers.Done (outs [] [] [] (DoneAct 0 3 ∷ [])) (app_with (joined_with within)) holding_back
    -- and put after the Commit
    × JobStep (app_with (joined_with within)) holding_back 4 3 (Commit false) (answers.Queued (record { server = 0; number = 2 } ∷ []))
    (outs (up 2 0 (CommitUp 2 0 1 false) ∷ up 3 0 (UnlockUp 0 Exclusive (120 ∷ 0 ∷ [])) ∷ []) [] []
    (Issue 0 3 0 2 (items.Commit 1) ∷ GiveUp 0 3 0 Exclusive (120 ∷ 0 ∷ []) ∷ Level 0 3 0 ∷ []))
    (app_with (joined_with committed)) (record user { txn = 1 })
    -- a commit without a transaction
    × JobStep (app_with joined) user 4 3 (Commit false) (answers.Refused refusals.NoTransaction) (outs [] [] [] (RefusedAct 0 3 words.NoTransaction ∷ [])) (app_with joined) user
    -- a start at the greatest level
    × JobStep (app_with joined) (record user { level = 255; txn = 1 }) 4 3 Start (answers.Refused refusals.TooDeep) (outs [] [] [] (RefusedAct 0 3 words.TooDeep ∷ []))
    (app_with joined) (record user { level = 255; txn = 1 })
    -- the session is lost: the job is told of that first
    × JobStep (app_with lost_end) inner 106 3 (Get x) (answers.Refused (refusals.Network 0 names.Trouble (reasons.Expired 5 105)))
    (outs [] [] [] (RefusedAct 0 3 (words.Network 0 names.Trouble short.Expired) ∷ [])) (app_with lost_end) (record inner { used = None ∷ [] })
    -- once, and then that it has only to roll back
    × JobStep (app_with lost_end) (record inner { used = None ∷ [] }) 106 3 (Get x) (answers.Refused refusals.RollbackOnly)
    (outs [] [] [] (RefusedAct 0 3 words.RollbackOnly ∷ [])) (app_with lost_end) (record inner { used = None ∷ [] })
    -- a rollback, with no living session
    × JobStep (app_with lost_end) (record inner { used = None ∷ [] }) 106 3 Rollback answers.Done (outs [] [] [] (Level 0 3 0 ∷ DoneAct 0 3 ∷ [])) (app_with lost_end)
    (record new_job { txn = 1 })

-- an increment of ^x by 5, as its message
abbrev pub add_x : Up
add_x = Add 1 0 (120 ∷ 0 ∷ []) (pos 5)

-- it is on its way
abbrev pub adding : Session
adding =
    record unused {
      window = record { acked = 0; waiting = add_x ∷ []; taken = 0; since = 0 };
      issued = 1;
      queue = record { w = 1; message = add_x; job = 0 } ∷ [];
      owed = record { w = 1; message = add_x; job = 0; awaited = true } ∷ [];
    }

-- its Answer was taken: 11 at position 3
abbrev pub counted : Session
counted =
    record adding {
      n = 3;
      w = 1;
      window = record { acked = 1; waiting = []; taken = 1; since = 1 };
      queue = [];
      owed = [];
      told = record { w = 1; job = 0; about = Counted; at = 3; sum = pos 11 } ∷ [];
    }

-- the job waits for it
abbrev pub adder : JobState
adder = record user { progress = Some (record (begun_at 4) { added = Some 1 }) }

-- a Sync is unanswered
abbrev pub syncing : Session
syncing =
    record unused {
      window = record { acked = 0; waiting = SyncUp 1 ∷ []; taken = 0; since = 0 };
      syncs = record { ticket = 1; job = 0; put = true; at = None } ∷ [];
    }

-- it is answered
abbrev pub synced : Session
synced =
    record syncing {
      window = record { acked = 1; waiting = []; taken = 1; since = 1 };
      syncs = record { ticket = 1; job = 0; put = true; at = Some 2 } ∷ [];
    }

-- an increment and a sync, with their Answers
abbrev pub AnswerExamples : Type 0
AnswerExamples =
    -- an increment
    JobStep (app_with joined) user 4 3 (Incr x (pos 5)) (answers.Waiting why.Reply)
    (outs (up 1 0 add_x ∷ []) [] [] (Issue 0 3 0 1 (items.Op (ops.Add (120 ∷ 0 ∷ []) (pos 5))) ∷ [])) (app_with (joined_with adding)) adder
    -- its Answer
    × AppStep (app_with (joined_with adding)) 5 (Frame 0 (down 1 1 (downs.Answer (head 3 1 1) Counted 0 1 3 (pos 11)))) (outs [] [] [] []) (app_with (joined_with counted))
    × JobStep (app_with (joined_with counted)) adder 6 3 (Incr x (pos 5)) (answers.Counted (pos 11) 3) (outs [] [] [] (CountedAct 0 3 0 3 (pos 11) ∷ []))
    (app_with (joined_with (record counted { told = [] }))) user
    -- it comes again, and only its count of what was taken is looked at
    × AppStep (app_with (joined_with counted)) 5 (Frame 0 (down 1 1 (downs.Answer (head 3 1 1) Counted 0 1 3 (pos 11)))) (outs [] [] [] []) (app_with (joined_with counted))
    -- a sync
    × JobStep (app_with joined) user 4 3 (Sync 0) (answers.Waiting why.Reply) (outs (up 1 0 (SyncUp 1) ∷ []) [] [] []) (app_with (ticketed syncing))
    (record user { progress = Some (begun_at 4) })
    -- its Answer
    × AppStep (app_with (ticketed syncing)) 5 (Frame 0 (down 1 1 (downs.Answer (head 2 0 0) Synced 0 1 2 (pos 0)))) (outs [] [] [] []) (app_with (ticketed synced))
    × JobStep (app_with (ticketed synced)) (record user { progress = Some (begun_at 4) }) 6 3 (Sync 0) answers.Done
    (outs [] [] [] (Reached 0 3 0 2 ∷ DoneAct 0 3 ∷ [])) (app_with (ticketed (record synced { syncs = [] }))) user
