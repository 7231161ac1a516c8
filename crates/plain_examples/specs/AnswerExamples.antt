-- Examples of acts that are accepted, and of acts that are refused since one condition fails: the condition is named above each.
use Rattle.std.specs.Prelude.{pos, [], ◌∷◌}
use Rattle.plain_orders.specs.declared.act.Act.TheVariants.{Counted, NotWhole, Range, Committed, RolledBack, Reached}
use Rattle.plain_examples.specs.Leads.{Accepted, MayNotCome, FailsAt, nines_text, open_saved, met, applied, kept, cut_saved, met_cut_saved, met_dead}
use Rattle.plain_examples.specs.JobLeads.{overtaken, added_in, added_kept, added_dead, letter_added_in, letter_kept, letter_dead, nines_added_in, nines_kept, nines_dead, commit_in, commit_kept, commit_dead, commit_cut_saved, rollback_in, rollback_kept, rollback_dead, rollback_cut_saved, barred}

-- counted
abbrev pub CountedExamples : Type 0
CountedExamples =
    Accepted added_kept (Counted 0 5 0 3 (pos 1))
    -- known, and with it its
    × MayNotCome added_kept (Counted 3 5 0 3 (pos 1))
    -- alive
    × FailsAt 1 added_dead (Counted 0 5 0 3 (pos 1))
    -- free, and with it its
    × MayNotCome barred (Counted 0 6 0 2 (pos 1))
    -- there, and with it its
    × MayNotCome open_saved (Counted 0 5 0 3 (pos 1))
    -- synced
    × FailsAt 4 added_in (Counted 0 5 0 3 (pos 1))
    -- its: another line
    × FailsAt 5 added_kept (Counted 0 6 0 3 (pos 1))
    -- its: another job
    × FailsAt 5 added_kept (Counted 2 5 0 3 (pos 1))
    -- its: no increment, and with it is_sum
    × MayNotCome kept (Counted 0 5 0 3 (pos 1))
    -- in_order
    × FailsAt 7 (overtaken (53 ∷ [])) (Counted 0 5 0 6 (pos 6))
    -- is_sum
    × FailsAt 8 added_kept (Counted 0 5 0 3 (pos 2))

-- notwhole
abbrev pub NotWholeExamples : Type 0
NotWholeExamples =
    Accepted letter_kept (NotWhole 0 5 0 4)
    -- known, and with it its
    × MayNotCome letter_kept (NotWhole 3 5 0 4)
    -- alive
    × FailsAt 1 letter_dead (NotWhole 0 5 0 4)
    -- free, and with it its
    × MayNotCome barred (NotWhole 0 6 0 2)
    -- there, and with it its
    × MayNotCome open_saved (NotWhole 0 5 0 3)
    -- synced
    × FailsAt 4 letter_added_in (NotWhole 0 5 0 4)
    -- its: another line
    × FailsAt 5 letter_kept (NotWhole 0 6 0 4)
    -- its: another job
    × FailsAt 5 letter_kept (NotWhole 2 5 0 4)
    -- its: no increment, and with it is_sum
    × MayNotCome kept (NotWhole 0 5 0 3)
    -- in_order
    × FailsAt 7 (overtaken (97 ∷ [])) (NotWhole 0 5 0 6)
    -- is_sum
    × FailsAt 8 added_kept (NotWhole 0 5 0 3)

-- range
abbrev pub RangeExamples : Type 0
RangeExamples =
    Accepted nines_kept (Range 0 5 0 4)
    -- known, and with it its
    × MayNotCome nines_kept (Range 3 5 0 4)
    -- alive
    × FailsAt 1 nines_dead (Range 0 5 0 4)
    -- free, and with it its
    × MayNotCome barred (Range 0 6 0 2)
    -- there, and with it its
    × MayNotCome open_saved (Range 0 5 0 3)
    -- synced
    × FailsAt 4 nines_added_in (Range 0 5 0 4)
    -- its: another line
    × FailsAt 5 nines_kept (Range 0 6 0 4)
    -- its: another job
    × FailsAt 5 nines_kept (Range 2 5 0 4)
    -- its: no increment, and with it is_sum
    × MayNotCome kept (Range 0 5 0 3)
    -- in_order
    × FailsAt 7 (overtaken nines_text) (Range 0 5 0 6)
    -- is_sum
    × FailsAt 8 added_kept (Range 0 5 0 3)

-- committed
abbrev pub CommittedExamples : Type 0
CommittedExamples =
    Accepted commit_kept (Committed 0 6 0 4)
    -- known, and with it its
    × MayNotCome commit_kept (Committed 3 6 0 4)
    -- alive
    × FailsAt 1 commit_dead (Committed 0 6 0 4)
    -- free, and with it its
    × MayNotCome barred (Committed 0 6 0 2)
    -- there, and with it its
    × MayNotCome open_saved (Committed 0 6 0 2)
    -- synced
    × FailsAt 4 commit_in (Committed 0 6 0 4)
    -- its: another line
    × FailsAt 5 commit_kept (Committed 0 7 0 4)
    -- its: another job
    × FailsAt 5 commit_kept (Committed 2 6 0 4)
    -- its: the end is no commit
    × FailsAt 5 rollback_kept (Committed 0 6 0 4)
    -- in_order
    × FailsAt 7 commit_cut_saved (Committed 0 6 0 4)

-- rolledback
abbrev pub RolledBackExamples : Type 0
RolledBackExamples =
    Accepted rollback_kept (RolledBack 0 6 0 4)
    -- known, and with it its
    × MayNotCome rollback_kept (RolledBack 3 6 0 4)
    -- alive
    × FailsAt 1 rollback_dead (RolledBack 0 6 0 4)
    -- free, and with it its
    × MayNotCome barred (RolledBack 0 6 0 2)
    -- there, and with it its
    × MayNotCome open_saved (RolledBack 0 6 0 2)
    -- synced
    × FailsAt 4 rollback_in (RolledBack 0 6 0 4)
    -- its: another line
    × FailsAt 5 rollback_kept (RolledBack 0 7 0 4)
    -- its: another job
    × FailsAt 5 rollback_kept (RolledBack 2 6 0 4)
    -- its: the end is no rollback
    × FailsAt 5 commit_kept (RolledBack 0 6 0 4)
    -- in_order
    × FailsAt 7 rollback_cut_saved (RolledBack 0 6 0 4)

-- reached
abbrev pub ReachedExamples : Type 0
ReachedExamples =
    Accepted kept (Reached 0 6 0 3)
    -- known
    × FailsAt 0 met (Reached 3 6 0 2)
    -- alive
    × FailsAt 1 met_dead (Reached 0 6 0 2)
    -- free
    × FailsAt 2 barred (Reached 0 6 0 4)
    -- there
    × FailsAt 3 open_saved (Reached 0 6 0 2)
    -- synced
    × FailsAt 4 applied (Reached 0 6 0 3)
    -- within
    × FailsAt 5 met_cut_saved (Reached 0 6 0 3)
    -- in_told, and with it in_order
    × MayNotCome kept (Reached 0 6 0 2)
    -- in_order
    × FailsAt 7 cut_saved (Reached 0 6 0 3)
