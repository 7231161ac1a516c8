-- Short trails that the examples begin with: items, transactions and losses.
use Rattle.std.specs.Prelude.{ℕ, zero, suc, pos, List, ◌+◌, ◌++◌, [], ◌∷◌}
use Rattle.plain_orders.specs.declared.act.Act.{Act}
use Rattle.plain_orders.specs.declared.act.Act.TheVariants.{Opened, Enter, Synced, Shut, Met, Told, Crash, Issue, Grant, Level, Refused as RefusedAct, Broke, Tick, Lose, Died}
use Rattle.plain_orders.specs.declared.op.Op.TheVariants.{Set, Kill, Add}
use Rattle.plain_orders.specs.declared.item.Item.TheVariants.{Op, Commit as CommitItem, Rollback as RollbackItem}
use Rattle.plain_orders.specs.declared.entry.Entry.TheVariants.{Opened as OpenEntry, Update, Commit, Rollback}
use Rattle.plain_orders.specs.declared.mode.Mode.TheVariants.{Exclusive}
use Rattle.plain_orders.specs.declared.causes.ShutCause.TheVariants.{Replaced}
use Rattle.plain_orders.specs.declared.causes.PairEnd.TheVariants.{App as AppEnd}
use Rattle.plain_orders.specs.declared.causes.Loss.TheVariants.{Reset as ByReset, Expired as ByExpired, NoWay as ByNoWay}
use Rattle.plain_orders.specs.declared.refused.Refused.TheVariants.{Network}
use Rattle.plain_orders.specs.declared.refused.ReasonName.TheVariants.{Reset}
use Rattle.plain_orders.specs.declared.refused.LinkName.TheVariants.{Recovery}
use Rattle.plain_examples.specs.Leads.{nines_text, open_saved, met, issued}
use Rattle.plain_examples.specs.LockLeads.{both}

-- an increment is issued
abbrev pub added : List Act
added = met ++ Issue 0 5 0 1 (Op (Add (120 ∷ 0 ∷ []) (pos 1))) ∷ []

-- and enters
abbrev pub added_in : List Act
added_in = added ++ Enter 0 (Update 2 1 0 0 (Add (120 ∷ 0 ∷ []) (pos 1))) ∷ []

-- and is synced
abbrev pub added_kept : List Act
added_kept = added_in ++ Synced 0 3 ∷ []

-- and the application server dies
abbrev pub added_dead : List Act
added_dead = added_kept ++ Died 0 ∷ []

-- a kill is issued
abbrev pub killed : List Act
killed = met ++ Issue 0 5 0 1 (Op (Kill (120 ∷ 0 ∷ []))) ∷ []

-- a letter is set
abbrev pub letter : List Act
letter = met ++ Issue 0 4 0 1 (Op (Set (120 ∷ 0 ∷ []) (97 ∷ []))) ∷ []

-- and enters
abbrev pub letter_in : List Act
letter_in = letter ++ Enter 0 (Update 2 1 0 0 (Set (120 ∷ 0 ∷ []) (97 ∷ []))) ∷ []

-- and is incremented
abbrev pub letter_added : List Act
letter_added = letter_in ++ Issue 0 5 0 2 (Op (Add (120 ∷ 0 ∷ []) (pos 1))) ∷ []

-- and that enters
abbrev pub letter_added_in : List Act
letter_added_in = letter_added ++ Enter 0 (Update 2 2 0 0 (Add (120 ∷ 0 ∷ []) (pos 1))) ∷ []

-- and is synced
abbrev pub letter_kept : List Act
letter_kept = letter_added_in ++ Synced 0 4 ∷ []

-- and the application server dies
abbrev pub letter_dead : List Act
letter_dead = letter_kept ++ Died 0 ∷ []

-- the greatest number is set
abbrev pub nines : List Act
nines = met ++ Issue 0 4 0 1 (Op (Set (120 ∷ 0 ∷ []) nines_text)) ∷ []

-- and enters
abbrev pub nines_in : List Act
nines_in = nines ++ Enter 0 (Update 2 1 0 0 (Set (120 ∷ 0 ∷ []) nines_text)) ∷ []

-- and is incremented
abbrev pub nines_added : List Act
nines_added = nines_in ++ Issue 0 5 0 2 (Op (Add (120 ∷ 0 ∷ []) (pos 1))) ∷ []

-- and that enters
abbrev pub nines_added_in : List Act
nines_added_in = nines_added ++ Enter 0 (Update 2 2 0 0 (Add (120 ∷ 0 ∷ []) (pos 1))) ∷ []

-- and is synced
abbrev pub nines_kept : List Act
nines_kept = nines_added_in ++ Synced 0 4 ∷ []

-- and the application server dies
abbrev pub nines_dead : List Act
nines_dead = nines_kept ++ Died 0 ∷ []

-- a transaction begins
abbrev pub level_one : List Act
level_one = met ++ Level 0 4 1 ∷ []

-- and has an update
abbrev pub updated : List Act
updated = level_one ++ Issue 0 5 0 1 (Op (Set (120 ∷ 0 ∷ []) (53 ∷ []))) ∷ []

-- that enters
abbrev pub updated_in : List Act
updated_in = updated ++ Enter 0 (Update 2 1 0 1 (Set (120 ∷ 0 ∷ []) (53 ∷ []))) ∷ []

-- a Commit is issued
abbrev pub commit_issued : List Act
commit_issued = updated_in ++ Issue 0 6 0 2 (CommitItem 1) ∷ []

-- and the session is closed
abbrev pub commit_closed : List Act
commit_closed = commit_issued ++ Shut 0 2 Replaced ∷ []

-- or the server crashes
abbrev pub commit_untold : List Act
commit_untold = commit_issued ++ Crash 0 3 ∷ []

-- a Commit is issued while the update is on its way
abbrev pub commit_early : List Act
commit_early = updated ++ Issue 0 6 0 2 (CommitItem 1) ∷ []

-- a Commit enters
abbrev pub commit_in : List Act
commit_in = commit_issued ++ Enter 0 (Commit 2 2 0 1) ∷ []

-- and is synced
abbrev pub commit_kept : List Act
commit_kept = commit_in ++ Synced 0 4 ∷ []

-- and the application server dies
abbrev pub commit_dead : List Act
commit_dead = commit_kept ++ Died 0 ∷ []

-- or it is cut
abbrev pub commit_cut : List Act
commit_cut = commit_in ++ Crash 0 3 ∷ []

-- and the new Epoch is synced
abbrev pub commit_cut_saved : List Act
commit_cut_saved = commit_cut ++ Synced 0 4 ∷ []

-- a Rollback is issued
abbrev pub rollback_issued : List Act
rollback_issued = updated_in ++ Issue 0 6 0 2 (RollbackItem 1) ∷ []

-- and the session is closed
abbrev pub rollback_closed : List Act
rollback_closed = rollback_issued ++ Shut 0 2 Replaced ∷ []

-- or the server crashes
abbrev pub rollback_untold : List Act
rollback_untold = rollback_issued ++ Crash 0 3 ∷ []

-- a Rollback is issued while the update is on its way
abbrev pub rollback_early : List Act
rollback_early = updated ++ Issue 0 6 0 2 (RollbackItem 1) ∷ []

-- a Rollback enters
abbrev pub rollback_in : List Act
rollback_in = rollback_issued ++ Enter 0 (Rollback 2 2 0 1) ∷ []

-- and is synced
abbrev pub rollback_kept : List Act
rollback_kept = rollback_in ++ Synced 0 4 ∷ []

-- and the application server dies
abbrev pub rollback_dead : List Act
rollback_dead = rollback_kept ++ Died 0 ∷ []

-- or it is cut
abbrev pub rollback_cut : List Act
rollback_cut = rollback_in ++ Crash 0 3 ∷ []

-- and the new Epoch is synced
abbrev pub rollback_cut_saved : List Act
rollback_cut_saved = rollback_cut ++ Synced 0 4 ∷ []

-- a connection breaks in a transaction
abbrev pub updated_broke : List Act
updated_broke = updated ++ Broke 0 0 AppEnd 0 ∷ []

-- for the recover time
abbrev pub updated_late : List Act
updated_late = updated_broke ++ Tick 100 ∷ []

-- and the session is lost
abbrev pub updated_lost : List Act
updated_lost = updated_late ++ Lose 0 0 (ByExpired 100) ∷ []

-- and the application server dies
abbrev pub updated_dead : List Act
updated_dead = updated_lost ++ Died 0 ∷ []

-- a session that a job used is closed
abbrev pub used_closed : List Act
used_closed = issued ++ Shut 0 2 Replaced ∷ []

-- and its Close is synced
abbrev pub used_saved : List Act
used_saved = used_closed ++ Synced 0 3 ∷ []

-- and it is lost
abbrev pub used_lost : List Act
used_lost = used_saved ++ Lose 0 0 (ByReset 3) ∷ []

-- and a new one is opened
abbrev pub used_again : List Act
used_again = used_lost ++ Enter 0 (OpenEntry 4 0) ∷ []

-- and synced
abbrev pub used_again_saved : List Act
used_again_saved = used_again ++ Synced 0 4 ∷ []

-- and met, while the job is barred
abbrev pub barred : List Act
barred = used_again_saved ++ Met 0 0 4 ∷ []

-- a lock is granted to a job that is barred
abbrev pub barred_granted : List Act
barred_granted = barred ++ Grant 0 4 0 Exclusive (120 ∷ 0 ∷ []) 4 ∷ []

-- a job is barred by a loss and has another one
abbrev pub used_no_way : List Act
used_no_way = used_lost ++ Lose 0 0 (ByNoWay 0 1) ∷ []

-- a connect failed
abbrev pub connect_failed : List Act
connect_failed = open_saved ++ Lose 0 0 (ByNoWay 0 1) ∷ []

-- and the application server dies
abbrev pub no_way_dead : List Act
no_way_dead = connect_failed ++ Died 0 ∷ []

-- so many transaction levels of job 0, above a level
abbrev pub levels : ℕ → ℕ → List Act
levels m zero = []
levels m (suc n) = Level 0 4 (m + 1) ∷ levels (m + 1) n

-- another application server has a session, and it is synced
abbrev pub both_saved : List Act
both_saved = both ++ Synced 0 3 ∷ []

-- and met
abbrev pub both_met : List Act
both_met = both_saved ++ Met 1 0 3 ∷ []

-- a value is set, and two increments enter after it
abbrev pub added_twice : List ℕ → List Act
added_twice v =
    both_met
    ++ Issue 0 3 0 1 (Op (Set (120 ∷ 0 ∷ []) v)) ∷ Enter 0 (Update 2 1 0 0 (Set (120 ∷ 0 ∷ []) v))
    ∷ Issue 0 4 0 2 (Op (Add (121 ∷ 0 ∷ []) (pos 1))) ∷ Enter 0 (Update 2 2 0 0 (Add (121 ∷ 0 ∷ []) (pos 1)))
    ∷ Issue 0 5 0 3 (Op (Add (120 ∷ 0 ∷ []) (pos 1))) ∷ Enter 0 (Update 2 3 0 0 (Add (120 ∷ 0 ∷ []) (pos 1))) ∷ []

-- a crash cuts them, and in the place of the second one comes an increment of the other application server
abbrev pub overtaken : List ℕ → List Act
overtaken v =
    added_twice v
    ++ Crash 0 4 ∷ Told 1 0 3 2 4 ∷ Issue 1 5 0 1 (Op (Add (120 ∷ 0 ∷ []) (pos 1))) ∷ Enter 0 (Update 3 1 1 0 (Add (120 ∷ 0 ∷ []) (pos 1)))
    ∷ Synced 0 6 ∷ []

-- a transaction goes a level deeper
abbrev pub level_two : List Act
level_two = level_one ++ Level 0 5 2 ∷ []

-- after its Commit the transaction has an update more
abbrev pub updated_more : List Act
updated_more = commit_issued ++ Issue 0 7 0 3 (Op (Set (120 ∷ 0 ∷ []) (53 ∷ []))) ∷ []

-- after its Commit another transaction has an update
abbrev pub updated_next : List Act
updated_next = commit_issued ++ Level 0 6 0 ∷ Level 0 7 1 ∷ Issue 0 7 0 3 (Op (Set (120 ∷ 0 ∷ []) (53 ∷ []))) ∷ []

-- another job has a transaction with the same number, and a Commit of it is issued
abbrev pub updated_other : List Act
updated_other = updated ++ Level 2 5 1 ∷ Issue 2 5 0 2 (Op (Set (121 ∷ 0 ∷ []) (53 ∷ []))) ∷ Issue 2 6 0 3 (CommitItem 1) ∷ []

-- a transaction has updates at both data servers, and its Commit is issued at the second one
abbrev pub updated_both : List Act
updated_both =
    updated
    ++ Opened 1 [] ∷ Enter 1 (OpenEntry 2 0) ∷ Synced 1 2 ∷ Met 0 1 2 ∷ Issue 0 5 1 1 (Op (Set (120 ∷ 0 ∷ []) (53 ∷ [])))
    ∷ Issue 0 6 1 2 (CommitItem 1) ∷ []

-- the session of a transaction is lost, another one is met, and the job is told
abbrev pub updated_again : List Act
updated_again =
    updated_in
    ++ Shut 0 2 Replaced ∷ Synced 0 4 ∷ Lose 0 0 (ByReset 4) ∷ Enter 0 (OpenEntry 5 0) ∷ Synced 0 5 ∷ Met 0 0 5
    ∷ RefusedAct 0 7 (Network 0 Recovery Reset) ∷ []
