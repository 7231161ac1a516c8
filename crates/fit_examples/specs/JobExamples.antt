-- A job's commands in their order.
use Rattle.std.specs.Prelude.{pos, List, [], ◌∷◌}
use Rattle.plain_orders.specs.declared.act.Act.TheVariants.{Issue, Level, Done}
use Rattle.plain_orders.specs.declared.item.Item.TheVariants.{Op as OpItem}
use Rattle.plain_orders.specs.declared.op.Op.TheVariants.{Set as SetOp, Add as AddOp}
use Rattle.app_job.specs.declared.answer.Answer.TheVariants.{Queued, Done as DoneAnswer}
use Rattle.app_job.specs.declared.command.Command.TheVariants.{Set, Incr, Start}
use Rattle.fit_examples.specs.Groups.{at_x, five, place, met, at_line, ended, JobDoes}
use Rattle.script_fits.specs.JobLines.{Ended}

-- a job's commands
abbrev pub JobExamples : Type 0
JobExamples =
    -- two are done, and the third one is begun
    JobDoes met (at_line 1 Start ∷ at_line 2 (Set at_x five) ∷ at_line 3 (Incr at_x (pos 3)) ∷ []) (Level 0 1 1 ∷ Done 0 1 ∷ Issue 0 2 0 1 (OpItem (SetOp at_x.key five)) ∷ Issue 0 3 0 2 (OpItem (AddOp at_x.key (pos 3))) ∷ []) (ended 1 DoneAnswer 9 ∷ ended 2 (Queued (place 0 1 ∷ [])) 10 ∷ [])
    -- the third one is not begun
    × JobDoes met (at_line 1 Start ∷ at_line 2 (Set at_x five) ∷ at_line 3 (Incr at_x (pos 3)) ∷ []) (Level 0 1 1 ∷ Done 0 1 ∷ Issue 0 2 0 1 (OpItem (SetOp at_x.key five)) ∷ []) (ended 1 DoneAnswer 9 ∷ ended 2 (Queued (place 0 1 ∷ [])) 10 ∷ [])
    -- all are done
    × JobDoes met (at_line 1 Start ∷ at_line 2 (Set at_x five) ∷ []) (Level 0 1 1 ∷ Done 0 1 ∷ Issue 0 2 0 1 (OpItem (SetOp at_x.key five)) ∷ []) (ended 1 DoneAnswer 9 ∷ ended 2 (Queued (place 0 1 ∷ [])) 10 ∷ [])
    -- none is begun
    × JobDoes met (at_line 1 Start ∷ at_line 2 (Set at_x five) ∷ at_line 3 (Incr at_x (pos 3)) ∷ []) [] []
    -- the second one is begun before the first one has its end
    × ((ends : List Ended) → ¬ JobDoes met (at_line 1 (Incr at_x (pos 3)) ∷ at_line 2 (Set at_x five) ∷ []) (Issue 0 1 0 1 (OpItem (AddOp at_x.key (pos 3))) ∷ Issue 0 2 0 2 (OpItem (SetOp at_x.key five)) ∷ []) ends)
    -- they stand out of order
    × ((ends : List Ended) → ¬ JobDoes met (at_line 1 (Set at_x five) ∷ at_line 2 (Set at_x five) ∷ []) (Issue 0 2 0 1 (OpItem (SetOp at_x.key five)) ∷ Issue 0 1 0 2 (OpItem (SetOp at_x.key five)) ∷ []) ends)
    -- there is no command
    × ((ends : List Ended) → ¬ JobDoes met [] (Issue 0 1 0 1 (OpItem (SetOp at_x.key five)) ∷ []) ends)
    -- it has no end
    × (¬ JobDoes met (at_line 1 (Set at_x five) ∷ []) (Issue 0 1 0 1 (OpItem (SetOp at_x.key five)) ∷ []) [])
    -- its end has another line
    × (¬ JobDoes met (at_line 1 (Set at_x five) ∷ []) (Issue 0 1 0 1 (OpItem (SetOp at_x.key five)) ∷ []) (ended 2 (Queued (place 0 1 ∷ [])) 8 ∷ []))
    -- its end has another place
    × (¬ JobDoes met (at_line 1 (Set at_x five) ∷ []) (Issue 0 1 0 1 (OpItem (SetOp at_x.key five)) ∷ []) (ended 1 (Queued (place 0 1 ∷ [])) 9 ∷ []))
    -- its end has another answer
    × (¬ JobDoes met (at_line 1 (Set at_x five) ∷ []) (Issue 0 1 0 1 (OpItem (SetOp at_x.key five)) ∷ []) (ended 1 (Queued (place 0 2 ∷ [])) 8 ∷ []))
