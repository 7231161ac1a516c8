-- Trails that show what an act changes.
use Rattle.std.specs.Prelude.{List, Some, ◌++◌, [], ◌∷◌}
use Rattle.plain_orders.specs.declared.act.Act.{Act}
use Rattle.plain_orders.specs.declared.act.Act.TheVariants.{Synced, Shut, Release, Met, Told, Back, Crash, Issue, Read, Granted, GiveUp, Free}
use Rattle.plain_orders.specs.declared.op.Op.TheVariants.{Set}
use Rattle.plain_orders.specs.declared.item.Item.TheVariants.{Op}
use Rattle.plain_orders.specs.declared.mode.Mode.TheVariants.{Exclusive}
use Rattle.plain_orders.specs.declared.causes.ShutCause.TheVariants.{Replaced}
use Rattle.plain_orders.specs.declared.via.Via.TheVariants.{Fetched}
use Rattle.plain_orders.specs.declared.question.Question.TheVariants.{Get}
use Rattle.plain_examples.specs.Leads.{applied}
use Rattle.plain_examples.specs.JobLeads.{connect_failed}
use Rattle.plain_examples.specs.LockLeads.{lock_granted, both_held}

-- the session that has a lock is closed
abbrev pub held_closed : List Act
held_closed = both_held ++ Shut 0 2 Replaced ∷ []

-- and the Close is synced
abbrev pub held_saved : List Act
held_saved = held_closed ++ Synced 0 4 ∷ []

-- and the locks of the session are released
abbrev pub released : List Act
released = held_saved ++ Release 0 2 ∷ []

-- the grant of the lock is synced
abbrev pub held_synced : List Act
held_synced = both_held ++ Synced 0 3 ∷ []

-- and answered
abbrev pub held_answered : List Act
held_answered = held_synced ++ Granted 0 5 0 3 ∷ []

-- and the lock given up
abbrev pub held_given : List Act
held_given = held_answered ++ GiveUp 0 6 0 Exclusive (120 ∷ 0 ∷ []) ∷ []

-- and freed
abbrev pub freed : List Act
freed = held_given ++ Free 0 2 0 Exclusive (120 ∷ 0 ∷ []) ∷ []

-- the server crashes after a grant
abbrev pub granted_cut : List Act
granted_cut = lock_granted ++ Crash 0 2 ∷ []

-- and the session is told
abbrev pub granted_told : List Act
granted_told = granted_cut ++ Told 0 0 2 2 2 ∷ []

-- and the recovery round is over
abbrev pub granted_back : List Act
granted_back = granted_told ++ Back 0 ∷ []

-- a session is met after a failed connect
abbrev pub no_way_met : List Act
no_way_met = connect_failed ++ Met 0 0 2 ∷ []

-- and the job acts
abbrev pub no_way_issued : List Act
no_way_issued = no_way_met ++ Issue 0 5 0 1 (Op (Set (120 ∷ 0 ∷ []) (53 ∷ []))) ∷ []

-- a job reads what is not synced
abbrev pub seen : List Act
seen = applied ++ Read 0 6 0 3 Fetched (Get (120 ∷ 0 ∷ []) (Some (53 ∷ []))) ∷ []

-- and a crash cuts it
abbrev pub seen_cut : List Act
seen_cut = seen ++ Crash 0 2 ∷ []

-- and the session is told
abbrev pub seen_told : List Act
seen_told = seen_cut ++ Told 0 0 2 2 2 ∷ []
