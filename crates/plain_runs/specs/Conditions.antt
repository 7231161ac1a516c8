-- The conditions of each act one by one, each being a field of its row, in the order of the row.
use Rattle.std.specs.Prelude.{ℕ, zero, suc, List, [], ◌∷◌}
use Rattle.plain_orders.specs.declared.act.Act.{Act}
use Rattle.plain_orders.specs.declared.act.Act.TheVariants.{Opened, Enter, Synced, Shut, Release, Met, Told, Back, Crash, Issue, Read, Grant, Granted, GiveUp, Quit, Free, Counted, NotWhole, Range, Committed, RolledBack, Reached, Level, Done, Refused, Broke, Mended, Tick, Lose, Died}
use Rattle.plain_orders.specs.declared.layout.Layout.{Layout}
use Rattle.plain_orders.specs.declared.entry.Entry.{Entry}
use Rattle.plain_orders.specs.declared.entry.Entry.TheVariants.{Epoch, Opened as OpenEntry, Closed, Update, Commit, Rollback}
use Rattle.plain_orders.specs.declared.op.Op.TheVariants.{Set, Kill, Add}
use Rattle.plain_orders.specs.declared.item.Item.TheVariants.{Op, Commit as CommitItem, Rollback as RollbackItem}
use Rattle.plain_orders.specs.declared.question.Question.TheVariants.{Get, Shape, Next}
use Rattle.plain_orders.specs.declared.causes.ShutCause.TheVariants.{Trouble, Replaced, Round}
use Rattle.plain_orders.specs.declared.causes.PairEnd.TheVariants.{App as AppEnd, Server as ServerEnd}
use Rattle.plain_orders.specs.declared.causes.Loss.TheVariants.{Reset, Expired, NoWay}
use Rattle.plain_orders.specs.declared.sum.Sum.{Sum}
use Rattle.plain_orders.specs.declared.refused.Refused.TheVariants.{NoTransaction, TooDeep, RollbackOnly, LockTimeout, Network}
use Rattle.plain_orders.specs.Ordered.{MayFollow}
use Rattle.plain_runs.specs.Plain.{Plain, Server}
use Rattle.plain_runs.specs.OrderRows.{ItemMay}
use Rattle.plain_runs.specs.JobRows.{JobMay, JobAtMay, SumMay}
use Rattle.plain_runs.specs.Step.{MayCome}

-- a fact without which an act may not come
pub record Condition (may : Type 0) : Type 1 where
  pub fact : Type 0
  pub needed : may → fact

-- the fact that a field of the row states
abbrev pub field : {may fact : Type 0} → (may → fact) → Condition may
field {fact = fact} needed = record { fact = fact; needed = needed }

-- those of each act of a job, and more
abbrev pub of_job : {l : Layout} {p : Plain} {job : ℕ} {row : Type 0} → List (Condition (JobMay l p job × row)) → List (Condition (JobMay l p job × row))
of_job more = field (λ m. m.0.known) ∷ field (λ m. m.0.alive) ∷ more

-- those of each act of a job at a server, and more
abbrev pub at_server : {l : Layout} {p : Plain} {job d : ℕ} {row : Type 0} → List (Condition (JobAtMay l p job d × row)) → List (Condition (JobAtMay l p job d × row))
at_server more = field (λ m. m.0.known) ∷ field (λ m. m.0.alive) ∷ field (λ m. m.0.free) ∷ more

-- those of an item that enters
abbrev pub of_item : {s : Server} {session w : ℕ} {e : Entry} → List (Condition (ItemMay s session w e))
of_item = field (λ m. m.is_live) ∷ field (λ m. m.told) ∷ field (λ m. m.next) ∷ field (λ m. m.issued) ∷ []

-- those of an increment's answer
abbrev pub of_sum : {l : Layout} {p : Plain} {job d : ℕ} {s : Server} {app line at : ℕ} {sum : Sum} → List (Condition (JobAtMay l p job d × SumMay s app job line at sum))
of_sum =
    at_server
    (field (λ m. m.1.stands.there) ∷ field (λ m. m.1.stands.synced) ∷ field (λ m. m.1.stands.its) ∷ field (λ m. m.1.stands.in_told)
    ∷ field (λ m. m.1.stands.in_order) ∷ field (λ m. m.1.is_sum) ∷ [])

-- The conditions of an act.
abbrev pub conditions : (l : Layout) (p : Plain) (a : Act) → List (Condition (MayCome l p a))
conditions l p (Opened d entries) = field (λ m. m.fresh) ∷ field (λ m. m.ordered) ∷ field (λ m. m.low) ∷ []
conditions l p (Enter d (Epoch number)) = field (λ m. m) ∷ []
conditions l p (Enter d (OpenEntry session app)) = field (λ m. m.opened) ∷ field (λ m. m.place) ∷ field (λ m. m.alone) ∷ field (λ m. m.up) ∷ []
conditions l p (Enter d (Closed session)) = field (λ m. m) ∷ []
conditions l p (Enter d (Update session w job txn op)) = of_item
conditions l p (Enter d (Commit session w job txn)) = of_item
conditions l p (Enter d (Rollback session w job txn)) = of_item
conditions l p (Synced d n) = field (λ m. m.opened) ∷ field (λ m. m.no_less) ∷ field (λ m. m.within) ∷ []
conditions l p (Shut d session (Trouble time)) = field (λ m. m.is_live) ∷ field (λ m. m.now) ∷ field (λ m. m.broken) ∷ field (λ m. m.over) ∷ []
conditions l p (Shut d session Replaced) = field (λ m. m.is_live) ∷ []
conditions l p (Shut d session (Round time)) = field (λ m. m.is_live) ∷ field (λ m. m.now) ∷ field (λ m. m.recovering) ∷ field (λ m. m.over) ∷ []
conditions l p (Release d session) = field (λ m. m.closed) ∷ []
conditions l p (Met app d session) =
    field (λ m. m.0) ∷ field (λ m. m.1.place) ∷ field (λ m. m.1.synced) ∷ field (λ m. m.1.entered) ∷ field (λ m. m.1.not_lost)
    ∷ field (λ m. m.1.fresh) ∷ field (λ m. m.1.none) ∷ []
conditions l p (Told app d session epoch kept) = field (λ m. m.0) ∷ field (λ m. m.1.its) ∷ field (λ m. m.1.later) ∷ field (λ m. m.1.place) ∷ []
conditions l p (Back d) = field (λ m. m.recovering) ∷ field (λ m. m.told) ∷ field (λ m. m.counted) ∷ field (λ m. m.closes) ∷ []
conditions l p (Crash d kept) = field (λ m. m.opened) ∷ field (λ m. m.no_less) ∷ field (λ m. m.within) ∷ field (λ m. m.low) ∷ []
conditions l p (Issue job line d w (Op (Set key value))) =
    at_server
    (field (λ m. m.1.there) ∷ field (λ m. m.1.unbroken) ∷ field (λ m. m.1.next) ∷ field (λ m. m.1.its.key_may.is_key)
    ∷ field (λ m. m.1.its.key_may.within) ∷ field (λ m. m.1.its.within) ∷ [])
conditions l p (Issue job line d w (Op (Kill key))) =
    at_server
    (field (λ m. m.1.there) ∷ field (λ m. m.1.unbroken) ∷ field (λ m. m.1.next) ∷ field (λ m. m.1.its.is_key)
    ∷ field (λ m. m.1.its.within) ∷ [])
conditions l p (Issue job line d w (Op (Add key amount))) =
    at_server
    (field (λ m. m.1.there) ∷ field (λ m. m.1.unbroken) ∷ field (λ m. m.1.next) ∷ field (λ m. m.1.its.key_may.is_key)
    ∷ field (λ m. m.1.its.key_may.within) ∷ field (λ m. m.1.its.is_alone) ∷ field (λ m. m.1.its.within) ∷ [])
conditions l p (Issue job line d w (CommitItem txn)) =
    at_server
    (field (λ m. m.1.there) ∷ field (λ m. m.1.unbroken) ∷ field (λ m. m.1.next) ∷ field (λ m. m.1.its.positive)
    ∷ field (λ m. m.1.its.used) ∷ field (λ m. m.1.its.unended) ∷ [])
conditions l p (Issue job line d w (RollbackItem txn)) =
    at_server
    (field (λ m. m.1.there) ∷ field (λ m. m.1.unbroken) ∷ field (λ m. m.1.next) ∷ field (λ m. m.1.its.positive)
    ∷ field (λ m. m.1.its.used) ∷ field (λ m. m.1.its.unended) ∷ [])
conditions l p (Read job line d at via (Get key value)) =
    at_server
    (field (λ m. m.1.there) ∷ field (λ m. m.1.no_less) ∷ field (λ m. m.1.within) ∷ field (λ m. m.1.answer.result)
    ∷ field (λ m. m.1.answer.by) ∷ field (λ m. m.1.answer.node.is_key) ∷ field (λ m. m.1.answer.node.within) ∷ [])
conditions l p (Read job line d at via (Shape key code)) =
    at_server
    (field (λ m. m.1.there) ∷ field (λ m. m.1.no_less) ∷ field (λ m. m.1.within) ∷ field (λ m. m.1.answer.result)
    ∷ field (λ m. m.1.answer.by) ∷ field (λ m. m.1.answer.entered) ∷ field (λ m. m.1.answer.node.is_key)
    ∷ field (λ m. m.1.answer.node.within) ∷ [])
conditions l p (Read job line d at via (Next parent sub found)) =
    at_server
    (field (λ m. m.1.there) ∷ field (λ m. m.1.no_less) ∷ field (λ m. m.1.within) ∷ field (λ m. m.1.answer.result)
    ∷ field (λ m. m.1.answer.by) ∷ field (λ m. m.1.answer.entered) ∷ field (λ m. m.1.answer.node)
    ∷ field (λ m. m.1.answer.within) ∷ [])
conditions l p (Grant d session job mode key at) =
    field (λ m. m.is_live) ∷ field (λ m. m.up) ∷ field (λ m. m.here) ∷ field (λ m. m.free) ∷ field (λ m. m.node.is_key)
    ∷ field (λ m. m.node.within) ∷ []
conditions l p (Granted job line d at) = at_server (field (λ m. m.1.session) ∷ field (λ m. m.1.sent) ∷ field (λ m. m.1.synced) ∷ [])
conditions l p (GiveUp job line d mode key) = at_server (field (λ m. m.1.session) ∷ field (λ m. m.1.answered) ∷ [])
conditions l p (Quit job line d mode key) = at_server (field (λ m. m.1.session) ∷ field (λ m. m.1.node.is_key) ∷ field (λ m. m.1.node.within) ∷ [])
conditions l p (Free d session job mode key) = field (λ m. m.given) ∷ field (λ m. m.entered) ∷ []
conditions l p (Counted job line d at sum) = of_sum
conditions l p (NotWhole job line d at) = of_sum
conditions l p (Range job line d at) = of_sum
conditions l p (Committed job line d at) =
    at_server
    (field (λ m. m.1.there) ∷ field (λ m. m.1.synced) ∷ field (λ m. m.1.its) ∷ field (λ m. m.1.in_told) ∷ field (λ m. m.1.in_order)
    ∷ [])
conditions l p (RolledBack job line d at) =
    at_server
    (field (λ m. m.1.there) ∷ field (λ m. m.1.synced) ∷ field (λ m. m.1.its) ∷ field (λ m. m.1.in_told) ∷ field (λ m. m.1.in_order)
    ∷ [])
conditions l p (Reached job line d at) =
    at_server
    (field (λ m. m.1.there) ∷ field (λ m. m.1.synced) ∷ field (λ m. m.1.within) ∷ field (λ m. m.1.in_told) ∷ field (λ m. m.1.in_order)
    ∷ [])
conditions l p (Level job line level) = of_job (field (λ m. m.1.near) ∷ field (λ m. m.1.ended) ∷ [])
conditions l p (Done job line) = field (λ m. m.known) ∷ field (λ m. m.alive) ∷ []
conditions l p (Refused job line NoTransaction) = of_job (field (λ m. m.1) ∷ [])
conditions l p (Refused job line TooDeep) = of_job (field (λ m. m.1) ∷ [])
conditions l p (Refused job line RollbackOnly) = of_job (field (λ m. m.1) ∷ [])
conditions l p (Refused job line LockTimeout) = of_job (field (λ m. m.1) ∷ [])
conditions l p (Refused job line (Network d state reason)) = of_job (field (λ m. m.1.news) ∷ field (λ m. m.1.bar) ∷ field (λ m. m.1.its_state) ∷ [])
conditions l p (Broke app d AppEnd time) = field (λ m. m.alive) ∷ field (λ m. m.now) ∷ field (λ m. m.there) ∷ field (λ m. m.fresh) ∷ []
conditions l p (Broke app d ServerEnd time) = field (λ m. m.now) ∷ field (λ m. m.has_live) ∷ []
conditions l p (Mended app d) = field (λ m. m.alive) ∷ field (λ m. m.broken) ∷ []
conditions l p (Tick time) = []
conditions l p (Lose app d (Reset at)) = field (λ m. m.0) ∷ field (λ m. m.1.there) ∷ field (λ m. m.1.synced) ∷ field (λ m. m.1.closed) ∷ []
conditions l p (Lose app d (Expired time)) = field (λ m. m.0) ∷ field (λ m. m.1.now) ∷ field (λ m. m.1.broken) ∷ field (λ m. m.1.over) ∷ []
conditions l p (Lose app d (NoWay before after)) = field (λ m. m.0) ∷ field (λ m. m.1.none) ∷ field (λ m. m.1.failed) ∷ []
conditions l p (Died app) = []

-- the conditions of an entry that follows an ordered list
abbrev pub conditions_behind : (before : List Entry) (e : Entry) → List (Condition (MayFollow before e))
conditions_behind before (Epoch number) = field (λ m. m.is_next) ∷ field (λ m. m.in_range) ∷ []
conditions_behind before (OpenEntry session app) = field (λ m. m.is_started) ∷ field (λ m. m.is_position) ∷ field (λ m. m.is_free) ∷ []
conditions_behind before (Closed session) = field (λ m. m.is_live) ∷ []
conditions_behind before (Update session w job txn (Set key value)) =
    field (λ m. m.is_live) ∷ field (λ m. m.is_next) ∷ field (λ m. m.within.key_may.is_key) ∷ field (λ m. m.within.key_may.within)
    ∷ field (λ m. m.within.within) ∷ []
conditions_behind before (Update session w job txn (Kill key)) =
    field (λ m. m.is_live) ∷ field (λ m. m.is_next) ∷ field (λ m. m.within.is_key) ∷ field (λ m. m.within.within) ∷ []
conditions_behind before (Update session w job txn (Add key amount)) =
    field (λ m. m.is_live) ∷ field (λ m. m.is_next) ∷ field (λ m. m.within.key_may.is_key) ∷ field (λ m. m.within.key_may.within)
    ∷ field (λ m. m.within.is_alone) ∷ field (λ m. m.within.within) ∷ []
conditions_behind before (Commit session w job txn) = field (λ m. m.is_live) ∷ field (λ m. m.is_next) ∷ field (λ m. m.is_begun) ∷ []
conditions_behind before (Rollback session w job txn) = field (λ m. m.is_live) ∷ field (λ m. m.is_next) ∷ field (λ m. m.is_begun) ∷ []

-- all of these hold
abbrev pub AllHold : {may : Type 0} → List (Condition may) → Type 0
AllHold [] = Unit {0}
AllHold (c ∷ cs) = c.fact × AllHold cs

-- the one at this place, the first being at 0, fails, and each other holds
abbrev pub JustFails : {may : Type 0} → ℕ → List (Condition may) → Type 0
JustFails k [] = ⊥
JustFails zero (c ∷ cs) = (c.fact → ⊥) × AllHold cs
JustFails (suc k) (c ∷ cs) = c.fact × JustFails k cs

-- An act may come where all its conditions hold.
abbrev pub NoneIsLeftOut : Type 0
NoneIsLeftOut = (l : Layout) (p : Plain) (a : Act) → AllHold (conditions l p a) → MayCome l p a

-- Nor is one of an entry.
abbrev pub NoneIsLeftOutBehind : Type 0
NoneIsLeftOutBehind = (before : List Entry) (e : Entry) → AllHold (conditions_behind before e) → MayFollow before e

-- An act may not come where just one of its conditions fails.
abbrev pub FailureRefuses : Type 0
FailureRefuses = (k : ℕ) (l : Layout) (p : Plain) (a : Act) → JustFails k (conditions l p a) → MayCome l p a → ⊥

-- Nor may an entry follow.
abbrev pub FailureRefusesBehind : Type 0
FailureRefusesBehind = (k : ℕ) (before : List Entry) (e : Entry) → JustFails k (conditions_behind before e) → MayFollow before e → ⊥
