-- Examples of acts that are accepted, and of acts that are refused since one condition fails: the condition is named above each.
use Rattle.plain_orders.specs.declared.act.Act.TheVariants.{Shut, Met, Told, Broke, Mended, Tick, Lose, Died}
use Rattle.plain_orders.specs.declared.causes.ShutCause.TheVariants.{Trouble as ByTrouble, Replaced, Round as ByRound}
use Rattle.plain_orders.specs.declared.causes.PairEnd.TheVariants.{App as AppEnd, Server as ServerEnd}
use Rattle.plain_orders.specs.declared.causes.Loss.TheVariants.{Reset as ByReset, Expired as ByExpired, NoWay as ByNoWay}
use Rattle.plain_examples.specs.Leads.{Accepted, MayNotCome, FailsAt, nothing, opened, open_entered, open_saved, met, kept, server_crashed, recovering, almost_due, closed, closed_saved, closed_lost, replaced_late, replaced_saved, replaced_lost, replaced_expired, late, very_late, server_late, server_early, app_broke, app_late, app_early, saved_dead, met_dead, crashed_dead, broke_dead, closed_dead, late_dead, found, open_cut_saved}

-- shut
abbrev pub ShutExamples : Type 0
ShutExamples =
    Accepted server_late (Shut 0 2 (ByTrouble 60))
    -- is_live
    × FailsAt 0 replaced_late (Shut 0 2 (ByTrouble 60))
    -- now
    × FailsAt 1 server_late (Shut 0 2 (ByTrouble 61))
    -- broken
    × FailsAt 2 late (Shut 0 2 (ByTrouble 60))
    -- over
    × FailsAt 3 server_early (Shut 0 2 (ByTrouble 59))
    × Accepted met (Shut 0 2 Replaced)
    -- is_live
    × FailsAt 0 opened (Shut 0 2 Replaced)
    × Accepted recovering (Shut 0 2 (ByRound 60))
    -- is_live
    × FailsAt 0 recovering (Shut 0 3 (ByRound 60))
    -- now
    × FailsAt 1 recovering (Shut 0 2 (ByRound 61))
    -- recovering
    × FailsAt 2 late (Shut 0 2 (ByRound 60))
    -- over
    × FailsAt 3 almost_due (Shut 0 2 (ByRound 59))

-- met
abbrev pub MetExamples : Type 0
MetExamples =
    Accepted open_saved (Met 0 0 2)
    -- the application server lives
    × FailsAt 0 saved_dead (Met 0 0 2)
    -- place: it is the Open of another application server
    × FailsAt 1 open_saved (Met 1 0 2)
    -- place: a crash cut the Open
    × FailsAt 1 open_cut_saved (Met 0 0 2)
    -- synced
    × FailsAt 2 open_entered (Met 0 0 2)
    -- entered
    × FailsAt 3 found (Met 0 0 2)
    -- not_lost: a loss by reset
    × FailsAt 4 replaced_lost (Met 0 0 4)
    -- not_lost: a loss by expiry
    × FailsAt 4 replaced_expired (Met 0 0 4)
    -- fresh, and with it none
    × MayNotCome met (Met 0 0 2)
    -- fresh, and with it not_lost
    × MayNotCome closed_lost (Met 0 0 2)
    -- none
    × FailsAt 6 replaced_saved (Met 0 0 4)

-- told
abbrev pub ToldExamples : Type 0
ToldExamples =
    Accepted server_crashed (Told 0 0 2 2 3)
    -- the application server lives
    × FailsAt 0 crashed_dead (Told 0 0 2 2 3)
    -- its
    × FailsAt 1 server_crashed (Told 0 0 3 2 3)
    -- later, and with it place
    × MayNotCome kept (Told 0 0 2 1 0)
    -- place
    × FailsAt 3 server_crashed (Told 0 0 2 2 2)

-- broke
abbrev pub BrokeExamples : Type 0
BrokeExamples =
    Accepted met (Broke 0 0 AppEnd 0)
    -- alive
    × FailsAt 0 met_dead (Broke 0 0 AppEnd 0)
    -- now
    × FailsAt 1 met (Broke 0 0 AppEnd 1)
    -- there
    × FailsAt 2 open_saved (Broke 0 0 AppEnd 0)
    -- fresh
    × FailsAt 3 app_broke (Broke 0 0 AppEnd 0)
    × Accepted met (Broke 0 0 ServerEnd 0)
    -- now
    × FailsAt 0 met (Broke 0 0 ServerEnd 1)
    -- has_live
    × FailsAt 1 opened (Broke 0 0 ServerEnd 0)

-- mended
abbrev pub MendedExamples : Type 0
MendedExamples =
    Accepted app_broke (Mended 0 0)
    -- alive
    × FailsAt 0 broke_dead (Mended 0 0)
    -- broken
    × FailsAt 1 met (Mended 0 0)

-- lose
abbrev pub LoseExamples : Type 0
LoseExamples =
    Accepted closed_saved (Lose 0 0 (ByReset 3))
    -- the application server lives
    × FailsAt 0 closed_dead (Lose 0 0 (ByReset 3))
    -- there, and with it closed
    × MayNotCome replaced_lost (Lose 0 0 (ByReset 3))
    -- synced
    × FailsAt 2 closed (Lose 0 0 (ByReset 3))
    -- closed
    × FailsAt 3 closed_saved (Lose 0 0 (ByReset 2))
    × Accepted app_late (Lose 0 0 (ByExpired 100))
    -- the application server lives
    × FailsAt 0 late_dead (Lose 0 0 (ByExpired 100))
    -- now
    × FailsAt 1 app_late (Lose 0 0 (ByExpired 101))
    -- broken
    × FailsAt 2 very_late (Lose 0 0 (ByExpired 100))
    -- over
    × FailsAt 3 app_early (Lose 0 0 (ByExpired 99))
    × Accepted open_saved (Lose 0 0 (ByNoWay 0 1))
    -- the application server lives
    × FailsAt 0 saved_dead (Lose 0 0 (ByNoWay 0 1))
    -- none
    × FailsAt 1 met (Lose 0 0 (ByNoWay 0 1))
    -- failed
    × FailsAt 2 open_saved (Lose 0 0 (ByNoWay 1 1))

-- the clock and deaths
abbrev pub FreeActExamples : Type 0
FreeActExamples =
    Accepted nothing (Tick 5)
    × Accepted nothing (Died 0)
