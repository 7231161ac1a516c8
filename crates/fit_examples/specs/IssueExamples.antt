-- Commands that issue an item.
use Rattle.std.specs.Prelude.{pos, [], ◌∷◌}
use Rattle.plain_orders.specs.declared.act.Act.TheVariants.{Enter, Synced, Issue, Counted, NotWhole, Range, Done}
use Rattle.plain_orders.specs.declared.item.Item.TheVariants.{Op as OpItem}
use Rattle.plain_orders.specs.declared.op.Op.TheVariants.{Set as SetOp, Kill as KillOp, Add as AddOp}
use Rattle.app_job.specs.declared.answer.Answer.TheVariants.{Queued, Counted as CountedAnswer, Done as DoneAnswer, Refused as RefusedAnswer}
use Rattle.app_job.specs.declared.refusal.Refusal.TheVariants.{NotWhole as NotWholeRefusal, Range as RangeRefusal}
use Rattle.app_job.specs.declared.command.Command.TheVariants.{Set, Kill, Incr}
use Rattle.fit_examples.specs.Groups.{at_x, at_y, five, six, place, held_x, past_with, met, Does, DoesHeld, DoesAs}
use Rattle.plain_orders.specs.declared.entry.Entry.TheVariants.{Update}
use Rattle.script_fits.specs.Locking.{no_past}

-- a set, and of a kill
abbrev pub ChangeExamples : Type 0
ChangeExamples =
    -- a set
    Does met (Set at_x five) (Issue 0 5 0 1 (OpItem (SetOp at_x.key five)) ∷ []) (Queued (place 0 1 ∷ []))
    -- another line
    × (¬ Does met (Set at_x five) (Issue 0 6 0 1 (OpItem (SetOp at_x.key five)) ∷ []) (Queued (place 0 1 ∷ [])))
    -- another job's acts
    × (¬ DoesAs 2 (Set at_x five) (Issue 2 5 0 1 (OpItem (SetOp at_x.key five)) ∷ []) (Queued (place 0 1 ∷ [])))
    -- another server
    × (¬ Does met (Set at_x five) (Issue 0 5 1 1 (OpItem (SetOp at_x.key five)) ∷ []) (Queued (place 0 1 ∷ [])))
    -- another node
    × (¬ Does met (Set at_x five) (Issue 0 5 0 1 (OpItem (SetOp at_y.key five)) ∷ []) (Queued (place 0 1 ∷ [])))
    -- another value
    × (¬ Does met (Set at_x five) (Issue 0 5 0 1 (OpItem (SetOp at_x.key six)) ∷ []) (Queued (place 0 1 ∷ [])))
    -- a kill
    × (¬ Does met (Set at_x five) (Issue 0 5 0 1 (OpItem (KillOp at_x.key)) ∷ []) (Queued (place 0 1 ∷ [])))
    -- the answer has another number
    × (¬ Does met (Set at_x five) (Issue 0 5 0 1 (OpItem (SetOp at_x.key five)) ∷ []) (Queued (place 0 2 ∷ [])))
    -- the answer has another server
    × (¬ Does met (Set at_x five) (Issue 0 5 0 1 (OpItem (SetOp at_x.key five)) ∷ []) (Queued (place 1 1 ∷ [])))
    -- another answer
    × (¬ Does met (Set at_x five) (Issue 0 5 0 1 (OpItem (SetOp at_x.key five)) ∷ []) DoneAnswer)
    -- an act more
    × (¬ Does met (Set at_x five) (Issue 0 5 0 1 (OpItem (SetOp at_x.key five)) ∷ Issue 0 5 0 2 (OpItem (SetOp at_x.key five)) ∷ []) (Queued (place 0 1 ∷ [])))
    -- an act less
    × (¬ Does met (Set at_x five) [] (Queued (place 0 1 ∷ [])))
    -- an unlock held back
    × (¬ DoesHeld met no_past (Set at_x five) (Issue 0 5 0 1 (OpItem (SetOp at_x.key five)) ∷ []) (Queued (place 0 1 ∷ [])) (held_x ∷ []))
    -- an unlock held back before is lost
    × (¬ DoesHeld met (past_with (held_x ∷ [])) (Set at_x five) (Issue 0 5 0 1 (OpItem (SetOp at_x.key five)) ∷ []) (Queued (place 0 1 ∷ [])) [])
    -- a kill
    × Does met (Kill at_x) (Issue 0 5 0 1 (OpItem (KillOp at_x.key)) ∷ []) (Queued (place 0 1 ∷ []))
    -- another line
    × (¬ Does met (Kill at_x) (Issue 0 6 0 1 (OpItem (KillOp at_x.key)) ∷ []) (Queued (place 0 1 ∷ [])))
    -- another job's acts
    × (¬ DoesAs 2 (Kill at_x) (Issue 2 5 0 1 (OpItem (KillOp at_x.key)) ∷ []) (Queued (place 0 1 ∷ [])))
    -- another server
    × (¬ Does met (Kill at_x) (Issue 0 5 1 1 (OpItem (KillOp at_x.key)) ∷ []) (Queued (place 0 1 ∷ [])))
    -- another node
    × (¬ Does met (Kill at_x) (Issue 0 5 0 1 (OpItem (KillOp at_y.key)) ∷ []) (Queued (place 0 1 ∷ [])))
    -- a set
    × (¬ Does met (Kill at_x) (Issue 0 5 0 1 (OpItem (SetOp at_x.key five)) ∷ []) (Queued (place 0 1 ∷ [])))
    -- the answer has another number
    × (¬ Does met (Kill at_x) (Issue 0 5 0 1 (OpItem (KillOp at_x.key)) ∷ []) (Queued (place 0 2 ∷ [])))
    -- the answer has another server
    × (¬ Does met (Kill at_x) (Issue 0 5 0 1 (OpItem (KillOp at_x.key)) ∷ []) (Queued (place 1 1 ∷ [])))
    -- another answer
    × (¬ Does met (Kill at_x) (Issue 0 5 0 1 (OpItem (KillOp at_x.key)) ∷ []) DoneAnswer)
    -- an act more
    × (¬ Does met (Kill at_x) (Issue 0 5 0 1 (OpItem (KillOp at_x.key)) ∷ Issue 0 5 0 2 (OpItem (KillOp at_x.key)) ∷ []) (Queued (place 0 1 ∷ [])))
    -- an act less
    × (¬ Does met (Kill at_x) [] (Queued (place 0 1 ∷ [])))
    -- an unlock held back
    × (¬ DoesHeld met no_past (Kill at_x) (Issue 0 5 0 1 (OpItem (KillOp at_x.key)) ∷ []) (Queued (place 0 1 ∷ [])) (held_x ∷ []))
    -- an unlock held back before is lost
    × (¬ DoesHeld met (past_with (held_x ∷ [])) (Kill at_x) (Issue 0 5 0 1 (OpItem (KillOp at_x.key)) ∷ []) (Queued (place 0 1 ∷ [])) [])

-- an increment
abbrev pub IncrementExamples : Type 0
IncrementExamples =
    -- counted
    Does met (Incr at_x (pos 3)) (Issue 0 5 0 1 (OpItem (AddOp at_x.key (pos 3))) ∷ Enter 0 (Update 2 1 0 0 (AddOp at_x.key (pos 3))) ∷ Synced 0 3 ∷ Counted 0 5 0 3 (pos 3) ∷ []) (CountedAnswer (pos 3) 3)
    -- not whole
    × Does met (Incr at_x (pos 3)) (Issue 0 5 0 1 (OpItem (AddOp at_x.key (pos 3))) ∷ Enter 0 (Update 2 1 0 0 (AddOp at_x.key (pos 3))) ∷ Synced 0 3 ∷ NotWhole 0 5 0 3 ∷ []) (RefusedAnswer (NotWholeRefusal 3))
    -- out of range
    × Does met (Incr at_x (pos 3)) (Issue 0 5 0 1 (OpItem (AddOp at_x.key (pos 3))) ∷ Enter 0 (Update 2 1 0 0 (AddOp at_x.key (pos 3))) ∷ Synced 0 3 ∷ Range 0 5 0 3 ∷ []) (RefusedAnswer (RangeRefusal 3))
    -- another line of the issue
    × (¬ Does met (Incr at_x (pos 3)) (Issue 0 6 0 1 (OpItem (AddOp at_x.key (pos 3))) ∷ Enter 0 (Update 2 1 0 0 (AddOp at_x.key (pos 3))) ∷ Synced 0 3 ∷ Counted 0 5 0 3 (pos 3) ∷ []) (CountedAnswer (pos 3) 3))
    -- another line of the end
    × (¬ Does met (Incr at_x (pos 3)) (Issue 0 5 0 1 (OpItem (AddOp at_x.key (pos 3))) ∷ Enter 0 (Update 2 1 0 0 (AddOp at_x.key (pos 3))) ∷ Synced 0 3 ∷ Counted 0 6 0 3 (pos 3) ∷ []) (CountedAnswer (pos 3) 3))
    -- another job's acts
    × (¬ DoesAs 2 (Incr at_x (pos 3)) (Issue 2 5 0 1 (OpItem (AddOp at_x.key (pos 3))) ∷ Counted 2 5 0 3 (pos 3) ∷ []) (CountedAnswer (pos 3) 3))
    -- another server of the issue
    × (¬ Does met (Incr at_x (pos 3)) (Issue 0 5 1 1 (OpItem (AddOp at_x.key (pos 3))) ∷ Enter 0 (Update 2 1 0 0 (AddOp at_x.key (pos 3))) ∷ Synced 0 3 ∷ Counted 0 5 0 3 (pos 3) ∷ []) (CountedAnswer (pos 3) 3))
    -- another server of the end
    × (¬ Does met (Incr at_x (pos 3)) (Issue 0 5 0 1 (OpItem (AddOp at_x.key (pos 3))) ∷ Enter 0 (Update 2 1 0 0 (AddOp at_x.key (pos 3))) ∷ Synced 0 3 ∷ Counted 0 5 1 3 (pos 3) ∷ []) (CountedAnswer (pos 3) 3))
    -- another node
    × (¬ Does met (Incr at_x (pos 3)) (Issue 0 5 0 1 (OpItem (AddOp at_y.key (pos 3))) ∷ Enter 0 (Update 2 1 0 0 (AddOp at_x.key (pos 3))) ∷ Synced 0 3 ∷ Counted 0 5 0 3 (pos 3) ∷ []) (CountedAnswer (pos 3) 3))
    -- another amount
    × (¬ Does met (Incr at_x (pos 3)) (Issue 0 5 0 1 (OpItem (AddOp at_x.key (pos 4))) ∷ Enter 0 (Update 2 1 0 0 (AddOp at_x.key (pos 3))) ∷ Synced 0 3 ∷ Counted 0 5 0 3 (pos 3) ∷ []) (CountedAnswer (pos 3) 3))
    -- the answer has another sum
    × (¬ Does met (Incr at_x (pos 3)) (Issue 0 5 0 1 (OpItem (AddOp at_x.key (pos 3))) ∷ Enter 0 (Update 2 1 0 0 (AddOp at_x.key (pos 3))) ∷ Synced 0 3 ∷ Counted 0 5 0 3 (pos 3) ∷ []) (CountedAnswer (pos 4) 3))
    -- the answer has another number
    × (¬ Does met (Incr at_x (pos 3)) (Issue 0 5 0 1 (OpItem (AddOp at_x.key (pos 3))) ∷ Enter 0 (Update 2 1 0 0 (AddOp at_x.key (pos 3))) ∷ Synced 0 3 ∷ Counted 0 5 0 3 (pos 3) ∷ []) (CountedAnswer (pos 3) 4))
    -- the answer is no sum
    × (¬ Does met (Incr at_x (pos 3)) (Issue 0 5 0 1 (OpItem (AddOp at_x.key (pos 3))) ∷ Enter 0 (Update 2 1 0 0 (AddOp at_x.key (pos 3))) ∷ Synced 0 3 ∷ Counted 0 5 0 3 (pos 3) ∷ []) (RefusedAnswer (RangeRefusal 3)))
    -- the sum is not whole, and the answer is one
    × (¬ Does met (Incr at_x (pos 3)) (Issue 0 5 0 1 (OpItem (AddOp at_x.key (pos 3))) ∷ Enter 0 (Update 2 1 0 0 (AddOp at_x.key (pos 3))) ∷ Synced 0 3 ∷ NotWhole 0 5 0 3 ∷ []) (CountedAnswer (pos 3) 3))
    -- the answer to a sum that is not whole has another number
    × (¬ Does met (Incr at_x (pos 3)) (Issue 0 5 0 1 (OpItem (AddOp at_x.key (pos 3))) ∷ Enter 0 (Update 2 1 0 0 (AddOp at_x.key (pos 3))) ∷ Synced 0 3 ∷ NotWhole 0 5 0 3 ∷ []) (RefusedAnswer (NotWholeRefusal 4)))
    -- the answer to a sum out of range says that it is not whole
    × (¬ Does met (Incr at_x (pos 3)) (Issue 0 5 0 1 (OpItem (AddOp at_x.key (pos 3))) ∷ Enter 0 (Update 2 1 0 0 (AddOp at_x.key (pos 3))) ∷ Synced 0 3 ∷ Range 0 5 0 3 ∷ []) (RefusedAnswer (NotWholeRefusal 3)))
    -- the issue alone
    × (¬ Does met (Incr at_x (pos 3)) (Issue 0 5 0 1 (OpItem (AddOp at_x.key (pos 3))) ∷ []) (CountedAnswer (pos 3) 3))
    -- the end alone
    × (¬ Does met (Incr at_x (pos 3)) (Enter 0 (Update 2 1 0 0 (AddOp at_x.key (pos 3))) ∷ Synced 0 3 ∷ Counted 0 5 0 3 (pos 3) ∷ []) (CountedAnswer (pos 3) 3))
    -- the end comes first
    × (¬ Does met (Incr at_x (pos 3)) (Counted 0 5 0 3 (pos 3) ∷ Issue 0 5 0 1 (OpItem (AddOp at_x.key (pos 3))) ∷ []) (CountedAnswer (pos 3) 3))
    -- an act more
    × (¬ Does met (Incr at_x (pos 3)) (Issue 0 5 0 1 (OpItem (AddOp at_x.key (pos 3))) ∷ Enter 0 (Update 2 1 0 0 (AddOp at_x.key (pos 3))) ∷ Synced 0 3 ∷ Counted 0 5 0 3 (pos 3) ∷ Done 0 5 ∷ []) (CountedAnswer (pos 3) 3))
    -- an unlock held back
    × (¬ DoesHeld met no_past (Incr at_x (pos 3)) (Issue 0 5 0 1 (OpItem (AddOp at_x.key (pos 3))) ∷ Enter 0 (Update 2 1 0 0 (AddOp at_x.key (pos 3))) ∷ Synced 0 3 ∷ Counted 0 5 0 3 (pos 3) ∷ []) (CountedAnswer (pos 3) 3) (held_x ∷ []))
