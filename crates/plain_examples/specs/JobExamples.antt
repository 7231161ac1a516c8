-- Examples of acts that are accepted, and of acts that are refused since one condition fails: the condition is named above each.
use Rattle.std.specs.Prelude.{pos, Some, None, ◌++◌, [], ◌∷◌}
use Rattle.plain_orders.specs.declared.act.Act.TheVariants.{Issue, Read, Level, Done, Refused as RefusedAct, Died}
use Rattle.plain_orders.specs.declared.op.Op.TheVariants.{Set, Kill, Add}
use Rattle.plain_orders.specs.declared.item.Item.TheVariants.{Op, Commit as CommitItem, Rollback as RollbackItem}
use Rattle.plain_orders.specs.declared.via.Via.TheVariants.{Own, Cached, Fetched}
use Rattle.plain_orders.specs.declared.question.Question.TheVariants.{Get, Shape, Next}
use Rattle.plain_orders.specs.declared.refused.Refused.TheVariants.{NoTransaction, TooDeep, RollbackOnly, LockTimeout, Network}
use Rattle.plain_orders.specs.declared.refused.ReasonName.TheVariants.{Reset, Expired, NoWay}
use Rattle.plain_orders.specs.declared.refused.LinkName.TheVariants.{NotConnected, Normal, Trouble, Recovery}
use Rattle.subscript_keys.specs.declared.limits.TheConstants.{NUMBER_LIMIT}
use Rattle.subscript_keys.specs.declared.sub.Sub.TheVariants.{Text}
use Rattle.plain_examples.specs.Leads.{Accepted, MayNotCome, FailsAt, full_key, long_key, long_text, long_value, nothing, open_saved, met, issued, kept, app_broke, met_dead}
use Rattle.plain_examples.specs.JobLeads.{levels, level_one, level_two, updated, updated_in, updated_more, updated_next, updated_other, updated_both, updated_again, commit_issued, rollback_issued, updated_lost, updated_dead, barred, used_no_way, connect_failed, no_way_dead}
use Rattle.plain_examples.specs.LockLeads.{quitted, quitted_dead}

-- issue
abbrev pub IssueExamples : Type 0
IssueExamples =
    Accepted met (Issue 0 5 0 1 (Op (Set (120 ∷ 0 ∷ []) (53 ∷ []))))
    × Accepted met (Issue 0 5 0 1 (Op (Kill (120 ∷ 0 ∷ []))))
    × Accepted met (Issue 0 5 0 1 (Op (Add (120 ∷ 0 ∷ []) (pos 1))))
    -- known
    × FailsAt 0 met (Issue 3 6 0 1 (Op (Set (120 ∷ 0 ∷ []) (53 ∷ []))))
    -- alive
    × FailsAt 1 met_dead (Issue 0 6 0 1 (Op (Set (120 ∷ 0 ∷ []) (53 ∷ []))))
    -- free
    × FailsAt 2 barred (Issue 0 6 0 1 (Op (Set (120 ∷ 0 ∷ []) (53 ∷ []))))
    -- there
    × FailsAt 3 open_saved (Issue 0 5 0 1 (Op (Set (120 ∷ 0 ∷ []) (53 ∷ []))))
    -- unbroken
    × FailsAt 4 app_broke (Issue 0 5 0 1 (Op (Set (120 ∷ 0 ∷ []) (53 ∷ []))))
    -- next
    × FailsAt 5 met (Issue 0 5 0 2 (Op (Set (120 ∷ 0 ∷ []) (53 ∷ []))))
    -- is_key of a Set
    × FailsAt 6 met (Issue 0 5 0 1 (Op (Set [] (53 ∷ []))))
    -- key_may.within of a Set
    × FailsAt 7 met (Issue 0 5 0 1 (Op (Set long_key (53 ∷ []))))
    -- within of a Set
    × FailsAt 8 met (Issue 0 5 0 1 (Op (Set (120 ∷ 0 ∷ []) long_value)))
    -- is_key of a Kill
    × FailsAt 6 met (Issue 0 5 0 1 (Op (Kill [])))
    -- within of a Kill
    × FailsAt 7 met (Issue 0 5 0 1 (Op (Kill long_key)))
    -- is_key of an Add
    × FailsAt 6 met (Issue 0 5 0 1 (Op (Add [] (pos 1))))
    -- key_may.within of an Add
    × FailsAt 7 met (Issue 0 5 0 1 (Op (Add long_key (pos 1))))
    -- within of an Add
    × FailsAt 9 met (Issue 0 5 0 1 (Op (Add (120 ∷ 0 ∷ []) (pos NUMBER_LIMIT))))
    × Accepted updated_in (Issue 0 6 0 2 (CommitItem 1))
    -- an update follows the end
    × Accepted updated_more (Issue 0 8 0 4 (CommitItem 1))
    -- known of a Commit, and with it used
    × MayNotCome updated_in (Issue 3 6 0 2 (CommitItem 1))
    -- free of a Commit, and with it used
    × MayNotCome barred (Issue 0 6 0 1 (CommitItem 1))
    -- there of a Commit, and with it used
    × MayNotCome open_saved (Issue 0 5 0 1 (CommitItem 1))
    -- positive of a Commit
    × FailsAt 6 issued (Issue 0 6 0 2 (CommitItem 0))
    -- used of a Commit: there is no such transaction
    × FailsAt 7 issued (Issue 0 6 0 2 (CommitItem 1))
    -- used of a Commit: it is another job's
    × FailsAt 7 updated_in (Issue 2 6 0 2 (CommitItem 1))
    -- used of a Commit: it is of an earlier session
    × FailsAt 7 updated_again (Issue 0 8 0 1 (CommitItem 1))
    -- unended of a Commit: by a Commit
    × FailsAt 8 commit_issued (Issue 0 7 0 3 (CommitItem 1))
    -- unended of a Commit: by a Rollback
    × FailsAt 8 rollback_issued (Issue 0 7 0 3 (CommitItem 1))
    × Accepted updated_in (Issue 0 6 0 2 (RollbackItem 1))
    -- an update follows the end
    × Accepted updated_more (Issue 0 8 0 4 (RollbackItem 1))
    -- known of a Rollback, and with it used
    × MayNotCome updated_in (Issue 3 6 0 2 (RollbackItem 1))
    -- free of a Rollback, and with it used
    × MayNotCome barred (Issue 0 6 0 1 (RollbackItem 1))
    -- there of a Rollback, and with it used
    × MayNotCome open_saved (Issue 0 5 0 1 (RollbackItem 1))
    -- positive of a Rollback
    × FailsAt 6 issued (Issue 0 6 0 2 (RollbackItem 0))
    -- used of a Rollback: there is no such transaction
    × FailsAt 7 issued (Issue 0 6 0 2 (RollbackItem 1))
    -- used of a Rollback: it is another job's
    × FailsAt 7 updated_in (Issue 2 6 0 2 (RollbackItem 1))
    -- used of a Rollback: it is of an earlier session
    × FailsAt 7 updated_again (Issue 0 8 0 1 (RollbackItem 1))
    -- unended of a Rollback: by a Commit
    × FailsAt 8 commit_issued (Issue 0 7 0 3 (RollbackItem 1))
    -- unended of a Rollback: by a Rollback
    × FailsAt 8 rollback_issued (Issue 0 7 0 3 (RollbackItem 1))

-- read
abbrev pub ReadExamples : Type 0
ReadExamples =
    Accepted kept (Read 0 6 0 3 Fetched (Get (120 ∷ 0 ∷ []) (Some (53 ∷ []))))
    × Accepted issued (Read 0 6 0 2 Own (Get (120 ∷ 0 ∷ []) (Some (53 ∷ []))))
    -- known
    × FailsAt 0 met (Read 3 6 0 2 Fetched (Get (120 ∷ 0 ∷ []) None))
    -- alive
    × FailsAt 1 met_dead (Read 0 6 0 2 Fetched (Get (120 ∷ 0 ∷ []) None))
    -- free
    × FailsAt 2 barred (Read 0 6 0 4 Fetched (Get (120 ∷ 0 ∷ []) None))
    -- there
    × FailsAt 3 open_saved (Read 0 6 0 2 Fetched (Get (120 ∷ 0 ∷ []) None))
    -- no_less
    × FailsAt 4 kept (Read 0 6 0 1 Own (Get (120 ∷ 0 ∷ []) (Some (53 ∷ []))))
    -- within
    × FailsAt 5 kept (Read 0 6 0 4 Fetched (Get (120 ∷ 0 ∷ []) (Some (53 ∷ []))))
    -- result of a get
    × FailsAt 6 kept (Read 0 6 0 3 Fetched (Get (120 ∷ 0 ∷ []) None))
    -- by of a get: no own update touches the node
    × FailsAt 7 kept (Read 0 6 0 3 Own (Get (120 ∷ 0 ∷ []) (Some (53 ∷ []))))
    -- by of a get: an own update touches it
    × FailsAt 7 issued (Read 0 6 0 2 Cached (Get (120 ∷ 0 ∷ []) (Some (53 ∷ []))))
    -- the same
    × FailsAt 7 issued (Read 0 6 0 2 Fetched (Get (120 ∷ 0 ∷ []) (Some (53 ∷ []))))
    -- is_key of a get
    × FailsAt 8 kept (Read 0 6 0 3 Fetched (Get [] None))
    -- node.within of a get
    × FailsAt 9 met (Read 0 6 0 2 Fetched (Get long_key None))
    × Accepted kept (Read 0 6 0 3 Cached (Shape (120 ∷ 0 ∷ []) 1))
    -- result of a data
    × FailsAt 6 kept (Read 0 6 0 3 Cached (Shape (120 ∷ 0 ∷ []) 0))
    -- by of a data
    × FailsAt 7 kept (Read 0 6 0 3 Own (Shape (120 ∷ 0 ∷ []) 1))
    -- entered of a data
    × FailsAt 8 issued (Read 0 6 0 2 Cached (Shape (120 ∷ 0 ∷ []) 0))
    -- is_key of a data
    × FailsAt 9 kept (Read 0 6 0 3 Cached (Shape [] 10))
    -- node.within of a data
    × FailsAt 10 met (Read 0 6 0 2 Cached (Shape long_key 0))
    × Accepted kept (Read 0 6 0 3 Cached (Next (120 ∷ 0 ∷ []) None None))
    -- result of a next
    × FailsAt 6 kept (Read 0 6 0 3 Cached (Next (120 ∷ 0 ∷ []) None (Some (Text (97 ∷ [])))))
    -- by of a next
    × FailsAt 7 kept (Read 0 6 0 3 Own (Next (120 ∷ 0 ∷ []) None None))
    -- entered of a next
    × FailsAt 8 issued (Read 0 6 0 2 Cached (Next (120 ∷ 0 ∷ []) None None))
    -- node of a next
    × FailsAt 9 met (Read 0 6 0 2 Cached (Next [] None None))
    -- a next from the start needs no room for a subscript
    × Accepted kept (Read 0 6 0 3 Cached (Next full_key None None))
    -- within of a next: the parent, where it looks from the start
    × FailsAt 10 kept (Read 0 6 0 3 Cached (Next long_key None None))
    -- within of a next: the parent with the subscript
    × FailsAt 10 kept (Read 0 6 0 3 Cached (Next (120 ∷ 0 ∷ []) (Some (Text long_text)) None))

-- level
abbrev pub LevelExamples : Type 0
LevelExamples =
    Accepted commit_issued (Level 0 6 0)
    × Accepted nothing (Level 0 4 1)
    -- one less
    × Accepted level_two (Level 0 6 1)
    -- 0 from above 1
    × Accepted level_two (Level 0 6 0)
    -- a session that is lost asks no end
    × Accepted updated_lost (Level 0 6 0)
    -- an end of another transaction at the line is enough
    × Accepted updated_next (Level 0 6 0)
    -- known
    × FailsAt 0 nothing (Level 3 4 1)
    -- alive
    × FailsAt 1 met_dead (Level 0 4 1)
    -- near: it is two more
    × FailsAt 2 nothing (Level 0 4 2)
    -- near: it is the same
    × FailsAt 2 level_one (Level 0 5 1)
    -- ended: there is no end
    × FailsAt 3 updated (Level 0 6 0)
    -- ended: it was issued at another line
    × FailsAt 3 commit_issued (Level 0 7 0)
    -- ended: what was issued at the line is an update
    × FailsAt 3 updated (Level 0 5 0)
    -- ended: it is that of another job
    × FailsAt 3 updated_other (Level 0 6 0)
    -- ended: it is in another session
    × FailsAt 3 updated_both (Level 0 6 0)

-- done
abbrev pub DoneExamples : Type 0
DoneExamples =
    Accepted nothing (Done 0 4)
    -- known
    × FailsAt 0 nothing (Done 3 4)
    -- alive
    × FailsAt 1 met_dead (Done 0 4)

-- refused
abbrev pub RefusedExamples : Type 0
RefusedExamples =
    Accepted nothing (RefusedAct 0 4 NoTransaction)
    -- known
    × FailsAt 0 nothing (RefusedAct 3 6 NoTransaction)
    -- alive
    × FailsAt 1 met_dead (RefusedAct 0 6 NoTransaction)
    -- the level is 0
    × FailsAt 2 level_one (RefusedAct 0 4 NoTransaction)
    -- the level is 255
    × FailsAt 2 nothing (RefusedAct 0 4 TooDeep)
    × Accepted updated_lost (RefusedAct 0 6 RollbackOnly)
    -- alive
    × FailsAt 1 updated_dead (RefusedAct 0 6 RollbackOnly)
    -- the job can only be rolled back
    × FailsAt 2 updated (RefusedAct 0 6 RollbackOnly)
    × Accepted quitted (RefusedAct 0 5 LockTimeout)
    -- alive
    × FailsAt 1 quitted_dead (RefusedAct 0 5 LockTimeout)
    -- a request was given up at the line
    × FailsAt 2 quitted (RefusedAct 0 6 LockTimeout)
    × Accepted barred (RefusedAct 0 6 (Network 0 Recovery Reset))
    × Accepted updated_lost (RefusedAct 0 6 (Network 0 Trouble Expired))
    × Accepted connect_failed (RefusedAct 0 6 (Network 0 NotConnected NoWay))
    -- alive
    × FailsAt 1 no_way_dead (RefusedAct 0 6 (Network 0 NotConnected NoWay))
    -- news: there are none
    × FailsAt 2 met (RefusedAct 0 6 (Network 0 Recovery Reset))
    -- news: it is another one
    × FailsAt 2 connect_failed (RefusedAct 0 6 (Network 0 Recovery Reset))
    -- bar
    × FailsAt 3 used_no_way (RefusedAct 0 6 (Network 0 NotConnected NoWay))
    -- its_state of a reset
    × FailsAt 4 barred (RefusedAct 0 6 (Network 0 Trouble Reset))
    -- the same
    × FailsAt 4 barred (RefusedAct 0 6 (Network 0 Normal Reset))
    -- the same
    × FailsAt 4 barred (RefusedAct 0 6 (Network 0 NotConnected Reset))
    -- its_state of an expiry
    × FailsAt 4 updated_lost (RefusedAct 0 6 (Network 0 Recovery Expired))
    -- the same
    × FailsAt 4 updated_lost (RefusedAct 0 6 (Network 0 Normal Expired))
    -- the same
    × FailsAt 4 updated_lost (RefusedAct 0 6 (Network 0 NotConnected Expired))
    -- its_state of no way
    × FailsAt 4 connect_failed (RefusedAct 0 6 (Network 0 Normal NoWay))
    -- the same
    × FailsAt 4 connect_failed (RefusedAct 0 6 (Network 0 Trouble NoWay))
    -- the same
    × FailsAt 4 connect_failed (RefusedAct 0 6 (Network 0 Recovery NoWay))

-- a transaction 255 levels deep goes no deeper
abbrev pub TooDeepExamples : Type 0
TooDeepExamples =
    Accepted (levels 0 255) (RefusedAct 0 4 TooDeep)
    -- alive
    × FailsAt 1 (levels 0 255 ++ Died 0 ∷ []) (RefusedAct 0 4 TooDeep)
    -- the level is 255
    × FailsAt 2 (levels 0 254) (RefusedAct 0 4 TooDeep)
