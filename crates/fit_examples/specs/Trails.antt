-- Trails that the examples begin with. In each of them the first application server met a session at both data servers.
use Rattle.std.specs.Prelude.{List, [], ◌∷◌, ◌++◌}
use Rattle.plain_orders.specs.declared.act.Act.{Act}
use Rattle.plain_orders.specs.declared.act.Act.TheVariants.{Enter, Synced, Shut, Release, Met, Issue, Grant, Granted, GiveUp, Level, Refused as RefusedAct, Broke, Lose}
use Rattle.plain_orders.specs.declared.causes.PairEnd.TheVariants.{App as AppEnd}
use Rattle.plain_orders.specs.declared.causes.ShutCause.TheVariants.{Replaced}
use Rattle.plain_orders.specs.declared.causes.Loss.TheVariants.{Reset as ByReset}
use Rattle.plain_orders.specs.declared.entry.Entry.TheVariants.{Opened as OpenEntry, Update, Commit as CommitEntry, Rollback as RollbackEntry}
use Rattle.plain_orders.specs.declared.refused.Refused.TheVariants.{Network}
use Rattle.plain_orders.specs.declared.refused.ReasonName.TheVariants.{Reset}
use Rattle.plain_orders.specs.declared.refused.LinkName.TheVariants.{Recovery}
use Rattle.plain_orders.specs.declared.item.Item.TheVariants.{Op as OpItem}
use Rattle.plain_orders.specs.declared.op.Op.TheVariants.{Set as SetOp}
use Rattle.plain_orders.specs.declared.mode.Mode.TheVariants.{Exclusive, Shared}
use Rattle.fit_examples.specs.Groups.{met}

-- ^x is granted to job 0
abbrev pub locked : List Act
locked = met ++ Grant 0 2 0 Exclusive (120 ∷ 0 ∷ []) 2 ∷ []

-- ^y is granted to it
abbrev pub locked_y : List Act
locked_y = met ++ Grant 0 2 0 Exclusive (121 ∷ 0 ∷ []) 2 ∷ []

-- ^y and then ^x are granted to it, with the same number
abbrev pub locked_both : List Act
locked_both = locked_y ++ Grant 0 2 0 Exclusive (120 ∷ 0 ∷ []) 2 ∷ []

-- ^x is granted to it in the other mode
abbrev pub locked_shared : List Act
locked_shared = met ++ Grant 0 2 0 Shared (120 ∷ 0 ∷ []) 2 ∷ []

-- job 0 holds ^x
abbrev pub kept : List Act
kept = locked ++ Granted 0 2 0 2 ∷ []

-- and is in a transaction
abbrev pub kept_within : List Act
kept_within = kept ++ Level 0 3 1 ∷ []

-- job 0 holds ^x, and its application server's end is broke
abbrev pub kept_broke : List Act
kept_broke = kept ++ Broke 0 0 AppEnd 0 ∷ []

-- job 0 held ^x; the session of its lock was lost and another one met, and the job was not told of that
abbrev pub kept_untold : List Act
kept_untold = kept ++ Shut 0 2 Replaced ∷ Synced 0 3 ∷ Lose 0 0 (ByReset 3) ∷ Enter 0 (OpenEntry 4 0) ∷ Synced 0 4 ∷ Met 0 0 4 ∷ []

-- job 0 is in a transaction
abbrev pub within : List Act
within = met ++ Level 0 3 1 ∷ []

-- and in another one within it
abbrev pub within_more : List Act
within_more = within ++ Level 0 4 2 ∷ []

-- its lock was given up in the transaction
abbrev pub kept_gone : List Act
kept_gone = kept_within ++ GiveUp 0 4 0 Exclusive (120 ∷ 0 ∷ []) ∷ []

-- the session of its lock was lost
abbrev pub kept_lost : List Act
kept_lost = kept_within ++ Shut 0 2 Replaced ∷ Synced 0 3 ∷ Lose 0 0 (ByReset 3) ∷ []

-- and another one was met, in which it has the lock again
abbrev pub kept_again : List Act
kept_again =
    kept_lost
    ++ Enter 0 (OpenEntry 4 0) ∷ Synced 0 4 ∷ Met 0 0 4 ∷ RefusedAct 0 4 (Network 0 Recovery Reset) ∷ Release 0 2
    ∷ Grant 0 4 0 Exclusive (120 ∷ 0 ∷ []) 4 ∷ Granted 0 4 0 4 ∷ []

-- job 0 set ^x at the first data server in a transaction
abbrev pub set_one : List Act
set_one = met ++ Level 0 2 1 ∷ Issue 0 3 0 1 (OpItem (SetOp (120 ∷ 0 ∷ []) (53 ∷ []))) ∷ []

-- and at the second one
abbrev pub set_both : List Act
set_both = set_one ++ Issue 0 4 1 1 (OpItem (SetOp (120 ∷ 0 ∷ []) (53 ∷ []))) ∷ []

-- and the session with the first one was lost
abbrev pub set_lost : List Act
set_lost = set_both ++ Shut 0 2 Replaced ∷ Synced 0 3 ∷ Lose 0 0 (ByReset 3) ∷ []

-- and job 0 was told of that
abbrev pub lost_told : List Act
lost_told = set_lost ++ RefusedAct 0 4 (Network 0 Recovery Reset) ∷ []

-- a session was lost
abbrev pub barred : List Act
barred = met ++ Shut 0 2 Replaced ∷ Synced 0 3 ∷ Lose 0 0 (ByReset 3) ∷ []

-- job 0's update and its Commit enter at both data servers, and are synced
abbrev pub commits_enter : List Act
commits_enter =
    Enter 0 (Update 2 1 0 1 (SetOp (120 ∷ 0 ∷ []) (53 ∷ []))) ∷ Enter 0 (CommitEntry 2 2 0 1) ∷ Synced 0 4
    ∷ Enter 1 (Update 2 1 0 1 (SetOp (120 ∷ 0 ∷ []) (53 ∷ []))) ∷ Enter 1 (CommitEntry 2 2 0 1) ∷ Synced 1 4 ∷ []

-- the same with its Rollback
abbrev pub rollbacks_enter : List Act
rollbacks_enter =
    Enter 0 (Update 2 1 0 1 (SetOp (120 ∷ 0 ∷ []) (53 ∷ []))) ∷ Enter 0 (RollbackEntry 2 2 0 1) ∷ Synced 0 4
    ∷ Enter 1 (Update 2 1 0 1 (SetOp (120 ∷ 0 ∷ []) (53 ∷ []))) ∷ Enter 1 (RollbackEntry 2 2 0 1) ∷ Synced 1 4 ∷ []
