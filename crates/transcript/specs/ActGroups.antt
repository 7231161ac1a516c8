-- Acts by what they are about.
use Rattle.plain_orders.specs.declared.act.Act.{Act}
use Rattle.plain_orders.specs.declared.act.Act.TheVariants.{Opened, Enter, Synced, Shut, Release, Met, Told, Back, Crash, Issue, Read, Grant, Granted, GiveUp, Quit, Free, Counted, NotWhole, Range, Committed, RolledBack, Reached, Level, Done, Refused, Broke, Mended, Tick, Lose, Died}

-- an act about a data server's list
abbrev pub IsListAct : Act → Type 0
IsListAct (Opened server entries) = Unit {0}
IsListAct (Enter server entry) = Unit {0}
IsListAct (Synced server length) = Unit {0}
IsListAct (Back server) = Unit {0}
IsListAct (Crash server kept) = Unit {0}
IsListAct act = ⊥

-- an act about a session
abbrev pub IsSessionAct : Act → Type 0
IsSessionAct (Shut server session cause) = Unit {0}
IsSessionAct (Release server session) = Unit {0}
IsSessionAct (Met app server session) = Unit {0}
IsSessionAct (Told app server session epoch kept) = Unit {0}
IsSessionAct (Lose app server loss) = Unit {0}
IsSessionAct act = ⊥

-- an act about a connection, an application server or the time
abbrev pub IsLinkAct : Act → Type 0
IsLinkAct (Broke app server end time) = Unit {0}
IsLinkAct (Mended app server) = Unit {0}
IsLinkAct (Tick time) = Unit {0}
IsLinkAct (Died app) = Unit {0}
IsLinkAct act = ⊥

-- a lock is granted at its data server, or a hold goes there
abbrev pub IsHoldAct : Act → Type 0
IsHoldAct (Grant server session job mode key at) = Unit {0}
IsHoldAct (Free server session job mode key) = Unit {0}
IsHoldAct act = ⊥

-- a grant reaches its job, or a job gives up a hold or a request
abbrev pub IsJobLockAct : Act → Type 0
IsJobLockAct (Granted job line server at) = Unit {0}
IsJobLockAct (GiveUp job line server mode key) = Unit {0}
IsJobLockAct (Quit job line server mode key) = Unit {0}
IsJobLockAct act = ⊥

-- an increment is answered
abbrev pub IsSumAct : Act → Type 0
IsSumAct (Counted job line server at sum) = Unit {0}
IsSumAct (NotWhole job line server at) = Unit {0}
IsSumAct (Range job line server at) = Unit {0}
IsSumAct act = ⊥

-- an end of a transaction or of a wait for the disk, or another answer of a job
abbrev pub IsEndAct : Act → Type 0
IsEndAct (Committed job line server at) = Unit {0}
IsEndAct (RolledBack job line server at) = Unit {0}
IsEndAct (Reached job line server at) = Unit {0}
IsEndAct (Level job line level) = Unit {0}
IsEndAct (Done job line) = Unit {0}
IsEndAct act = ⊥

-- what a job issues, reads, or is refused
abbrev pub IsJobAct : Act → Type 0
IsJobAct (Issue job line server w item) = Unit {0}
IsJobAct (Read job line server at via question) = Unit {0}
IsJobAct (Refused job line refused) = Unit {0}
IsJobAct act = ⊥
