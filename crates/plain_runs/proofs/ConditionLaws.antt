-- The conditions of an act are all that it needs.
use Rattle.plain_orders.specs.declared.act.Act.TheVariants.{Opened, Enter, Synced, Shut, Release, Met, Told, Back, Crash, Issue, Read, Grant, Granted, GiveUp, Quit, Free, Counted, NotWhole, Range, Committed, RolledBack, Reached, Level, Done, Refused, Broke, Mended, Tick, Lose, Died}
use Rattle.plain_orders.specs.declared.entry.Entry.TheVariants.{Epoch, Opened as OpenEntry, Closed, Update, Commit, Rollback}
use Rattle.plain_orders.specs.declared.op.Op.TheVariants.{Set, Kill, Add}
use Rattle.plain_orders.specs.declared.item.Item.TheVariants.{Op, Commit as CommitItem, Rollback as RollbackItem}
use Rattle.plain_orders.specs.declared.question.Question.TheVariants.{Get, Shape, Next}
use Rattle.plain_orders.specs.declared.causes.ShutCause.TheVariants.{Trouble, Replaced, Round}
use Rattle.plain_orders.specs.declared.causes.PairEnd.TheVariants.{App as AppEnd, Server as ServerEnd}
use Rattle.plain_orders.specs.declared.causes.Loss.TheVariants.{Reset, Expired, NoWay}
use Rattle.plain_orders.specs.declared.refused.Refused.TheVariants.{NoTransaction, TooDeep, RollbackOnly, LockTimeout, Network}
use Rattle.std.proofs.Common.{◌≡◌, ℕ, zero, suc, List, [], ◌∷◌, ◌==◌, ◌&&◌, refl, sym, ap, ◌∙◌, true, Option, Some, None}
use Rattle.std.specs.Option.{option_map}
use Rattle.plain_orders.specs.declared.entry.Entry.{Entry}
use Rattle.plain_orders.specs.declared.item.Item.{Item}
use Rattle.plain_orders.specs.declared.sum.Sum.{Sum}
use Rattle.plain_orders.specs.declared.sum.Sum.TheVariants.{Nothing}
use Rattle.plain_orders.specs.Answers.{entry_sum, sum_at, sum_if}
use Rattle.plain_orders.specs.Entries.{entry_at}
use Rattle.plain_orders.specs.Own.{Issued}
use Rattle.plain_orders.specs.PairMap.{Map}
use Rattle.plain_runs.specs.Plain.{pair_session, told_order}
use Rattle.plain_runs.specs.Items.{entry_of, entry_of_item, is_add}
use Rattle.plain_runs.specs.JobRows.{is_answered_item, item_at, w_at}
use Rattle.plain_runs.specs.Conditions.{Condition, FailureRefuses, FailureRefusesBehind, JustFails, NoneIsLeftOut, NoneIsLeftOutBehind, conditions, conditions_behind}
use Rattle.plain_runs.specs.Together.{OnlyAddsSum}

pub none_is_left_out : NoneIsLeftOut
none_is_left_out l p (Opened d entries) h = record { fresh = h.0; ordered = h.1.0; low = h.1.1.0 }
none_is_left_out l p (Enter d (Epoch number)) h = h.0
none_is_left_out l p (Enter d (OpenEntry session app)) h = record { opened = h.0; place = h.1.0; alone = h.1.1.0; up = h.1.1.1.0 }
none_is_left_out l p (Enter d (Closed session)) h = h.0
none_is_left_out l p (Enter d (Update session w job txn op)) h = record { is_live = h.0; told = h.1.0; next = h.1.1.0; issued = h.1.1.1.0 }
none_is_left_out l p (Enter d (Commit session w job txn)) h = record { is_live = h.0; told = h.1.0; next = h.1.1.0; issued = h.1.1.1.0 }
none_is_left_out l p (Enter d (Rollback session w job txn)) h = record { is_live = h.0; told = h.1.0; next = h.1.1.0; issued = h.1.1.1.0 }
none_is_left_out l p (Synced d n) h = record { opened = h.0; no_less = h.1.0; within = h.1.1.0 }
none_is_left_out l p (Shut d session (Trouble time)) h = record { is_live = h.0; now = h.1.0; broken = h.1.1.0; over = h.1.1.1.0 }
none_is_left_out l p (Shut d session Replaced) h = record { is_live = h.0 }
none_is_left_out l p (Shut d session (Round time)) h = record { is_live = h.0; now = h.1.0; recovering = h.1.1.0; over = h.1.1.1.0 }
none_is_left_out l p (Release d session) h = record { closed = h.0 }
none_is_left_out l p (Met app d session) h = (h.0, record { place = h.1.0; synced = h.1.1.0; entered = h.1.1.1.0; not_lost = h.1.1.1.1.0; fresh = h.1.1.1.1.1.0; none = h.1.1.1.1.1.1.0 })
none_is_left_out l p (Told app d session epoch kept) h = (h.0, record { its = h.1.0; later = h.1.1.0; place = h.1.1.1.0 })
none_is_left_out l p (Back d) h = record { recovering = h.0; told = h.1.0; counted = h.1.1.0; closes = h.1.1.1.0 }
none_is_left_out l p (Crash d kept) h = record { opened = h.0; no_less = h.1.0; within = h.1.1.0; low = h.1.1.1.0 }
none_is_left_out l p (Issue job line d w (Op (Set key value))) h = (record { known = h.0; alive = h.1.0; free = h.1.1.0 }, record { there = h.1.1.1.0; unbroken = h.1.1.1.1.0; next = h.1.1.1.1.1.0; its = record { key_may = record { is_key = h.1.1.1.1.1.1.0; within = h.1.1.1.1.1.1.1.0 }; within = h.1.1.1.1.1.1.1.1.0 } })
none_is_left_out l p (Issue job line d w (Op (Kill key))) h = (record { known = h.0; alive = h.1.0; free = h.1.1.0 }, record { there = h.1.1.1.0; unbroken = h.1.1.1.1.0; next = h.1.1.1.1.1.0; its = record { is_key = h.1.1.1.1.1.1.0; within = h.1.1.1.1.1.1.1.0 } })
none_is_left_out l p (Issue job line d w (Op (Add key amount))) h = (record { known = h.0; alive = h.1.0; free = h.1.1.0 }, record { there = h.1.1.1.0; unbroken = h.1.1.1.1.0; next = h.1.1.1.1.1.0; its = record { key_may = record { is_key = h.1.1.1.1.1.1.0; within = h.1.1.1.1.1.1.1.0 }; is_alone = h.1.1.1.1.1.1.1.1.0; within = h.1.1.1.1.1.1.1.1.1.0 } })
none_is_left_out l p (Issue job line d w (CommitItem txn)) h = (record { known = h.0; alive = h.1.0; free = h.1.1.0 }, record { there = h.1.1.1.0; unbroken = h.1.1.1.1.0; next = h.1.1.1.1.1.0; its = record { positive = h.1.1.1.1.1.1.0; used = h.1.1.1.1.1.1.1.0; unended = h.1.1.1.1.1.1.1.1.0 } })
none_is_left_out l p (Issue job line d w (RollbackItem txn)) h = (record { known = h.0; alive = h.1.0; free = h.1.1.0 }, record { there = h.1.1.1.0; unbroken = h.1.1.1.1.0; next = h.1.1.1.1.1.0; its = record { positive = h.1.1.1.1.1.1.0; used = h.1.1.1.1.1.1.1.0; unended = h.1.1.1.1.1.1.1.1.0 } })
none_is_left_out l p (Read job line d at via (Get key value)) h = (record { known = h.0; alive = h.1.0; free = h.1.1.0 }, record { there = h.1.1.1.0; no_less = h.1.1.1.1.0; within = h.1.1.1.1.1.0; answer = record { result = h.1.1.1.1.1.1.0; by = h.1.1.1.1.1.1.1.0; node = record { is_key = h.1.1.1.1.1.1.1.1.0; within = h.1.1.1.1.1.1.1.1.1.0 } } })
none_is_left_out l p (Read job line d at via (Shape key code)) h = (record { known = h.0; alive = h.1.0; free = h.1.1.0 }, record { there = h.1.1.1.0; no_less = h.1.1.1.1.0; within = h.1.1.1.1.1.0; answer = record { result = h.1.1.1.1.1.1.0; by = h.1.1.1.1.1.1.1.0; entered = h.1.1.1.1.1.1.1.1.0; node = record { is_key = h.1.1.1.1.1.1.1.1.1.0; within = h.1.1.1.1.1.1.1.1.1.1.0 } } })
none_is_left_out l p (Read job line d at via (Next parent sub found)) h = (record { known = h.0; alive = h.1.0; free = h.1.1.0 }, record { there = h.1.1.1.0; no_less = h.1.1.1.1.0; within = h.1.1.1.1.1.0; answer = record { result = h.1.1.1.1.1.1.0; by = h.1.1.1.1.1.1.1.0; entered = h.1.1.1.1.1.1.1.1.0; node = h.1.1.1.1.1.1.1.1.1.0; within = h.1.1.1.1.1.1.1.1.1.1.0 } })
none_is_left_out l p (Grant d session job mode key at) h = record { is_live = h.0; up = h.1.0; here = h.1.1.0; free = h.1.1.1.0; node = record { is_key = h.1.1.1.1.0; within = h.1.1.1.1.1.0 } }
none_is_left_out l p (Granted job line d at) h = (record { known = h.0; alive = h.1.0; free = h.1.1.0 }, record { session = h.1.1.1.0; sent = h.1.1.1.1.0; synced = h.1.1.1.1.1.0 })
none_is_left_out l p (GiveUp job line d mode key) h = (record { known = h.0; alive = h.1.0; free = h.1.1.0 }, record { session = h.1.1.1.0; answered = h.1.1.1.1.0 })
none_is_left_out l p (Quit job line d mode key) h = (record { known = h.0; alive = h.1.0; free = h.1.1.0 }, record { session = h.1.1.1.0; node = record { is_key = h.1.1.1.1.0; within = h.1.1.1.1.1.0 } })
none_is_left_out l p (Free d session job mode key) h = record { given = h.0; entered = h.1.0 }
none_is_left_out l p (Counted job line d at sum) h = (record { known = h.0; alive = h.1.0; free = h.1.1.0 }, record { stands = record { there = h.1.1.1.0; synced = h.1.1.1.1.0; its = h.1.1.1.1.1.0; in_told = h.1.1.1.1.1.1.0; in_order = h.1.1.1.1.1.1.1.0 }; is_sum = h.1.1.1.1.1.1.1.1.0 })
none_is_left_out l p (NotWhole job line d at) h = (record { known = h.0; alive = h.1.0; free = h.1.1.0 }, record { stands = record { there = h.1.1.1.0; synced = h.1.1.1.1.0; its = h.1.1.1.1.1.0; in_told = h.1.1.1.1.1.1.0; in_order = h.1.1.1.1.1.1.1.0 }; is_sum = h.1.1.1.1.1.1.1.1.0 })
none_is_left_out l p (Range job line d at) h = (record { known = h.0; alive = h.1.0; free = h.1.1.0 }, record { stands = record { there = h.1.1.1.0; synced = h.1.1.1.1.0; its = h.1.1.1.1.1.0; in_told = h.1.1.1.1.1.1.0; in_order = h.1.1.1.1.1.1.1.0 }; is_sum = h.1.1.1.1.1.1.1.1.0 })
none_is_left_out l p (Committed job line d at) h = (record { known = h.0; alive = h.1.0; free = h.1.1.0 }, record { there = h.1.1.1.0; synced = h.1.1.1.1.0; its = h.1.1.1.1.1.0; in_told = h.1.1.1.1.1.1.0; in_order = h.1.1.1.1.1.1.1.0 })
none_is_left_out l p (RolledBack job line d at) h = (record { known = h.0; alive = h.1.0; free = h.1.1.0 }, record { there = h.1.1.1.0; synced = h.1.1.1.1.0; its = h.1.1.1.1.1.0; in_told = h.1.1.1.1.1.1.0; in_order = h.1.1.1.1.1.1.1.0 })
none_is_left_out l p (Reached job line d at) h = (record { known = h.0; alive = h.1.0; free = h.1.1.0 }, record { there = h.1.1.1.0; synced = h.1.1.1.1.0; within = h.1.1.1.1.1.0; in_told = h.1.1.1.1.1.1.0; in_order = h.1.1.1.1.1.1.1.0 })
none_is_left_out l p (Level job line level) h = (record { known = h.0; alive = h.1.0 }, record { near = h.1.1.0; ended = h.1.1.1.0 })
none_is_left_out l p (Done job line) h = record { known = h.0; alive = h.1.0 }
none_is_left_out l p (Refused job line NoTransaction) h = (record { known = h.0; alive = h.1.0 }, h.1.1.0)
none_is_left_out l p (Refused job line TooDeep) h = (record { known = h.0; alive = h.1.0 }, h.1.1.0)
none_is_left_out l p (Refused job line RollbackOnly) h = (record { known = h.0; alive = h.1.0 }, h.1.1.0)
none_is_left_out l p (Refused job line LockTimeout) h = (record { known = h.0; alive = h.1.0 }, h.1.1.0)
none_is_left_out l p (Refused job line (Network d state reason)) h = (record { known = h.0; alive = h.1.0 }, record { news = h.1.1.0; bar = h.1.1.1.0; its_state = h.1.1.1.1.0 })
none_is_left_out l p (Broke app d AppEnd time) h = record { alive = h.0; now = h.1.0; there = h.1.1.0; fresh = h.1.1.1.0 }
none_is_left_out l p (Broke app d ServerEnd time) h = record { now = h.0; has_live = h.1.0 }
none_is_left_out l p (Mended app d) h = record { alive = h.0; broken = h.1.0 }
none_is_left_out l p (Tick time) h = tt
none_is_left_out l p (Lose app d (Reset at)) h = (h.0, record { there = h.1.0; synced = h.1.1.0; closed = h.1.1.1.0 })
none_is_left_out l p (Lose app d (Expired time)) h = (h.0, record { now = h.1.0; broken = h.1.1.0; over = h.1.1.1.0 })
none_is_left_out l p (Lose app d (NoWay before after)) h = (h.0, record { none = h.1.0; failed = h.1.1.0 })
none_is_left_out l p (Died app) h = tt

-- an entry that never has a sum has none at its position
no_sum : (es : List Entry) (at : ℕ) (e : Entry) (sum : Sum) → ((m : Map) → entry_sum m e ≡ Nothing) → entry_at es at ≡ Some e → sum_at es at ≡ sum → sum ≡ Nothing
no_sum es zero e sum none there is = absurd (cc (there))
no_sum es (suc i) e sum none there is = sym is ∙ (ap (sum_if _) there ∙ none _)

pub only_adds_sum : OnlyAddsSum
only_adds_sum s app job line at sum some is there its = go (item_at s app at) there its
  where
    w : ℕ
    w = w_at (entry_at (told_order s app) at)

    go : (o : Option Issued) → entry_at s.order at ≡ option_map (entry_of (pair_session s app) w) o → is_answered_item job line (λ i. true) o ≡ true → is_answered_item job line is_add o ≡ true
    go None there its = absurd (cc (its))
    go (Some i) there its = by (i.item) there its
      where
        by : (x : Item) → entry_at s.order at ≡ Some (entry_of_item (pair_session s app) w i.job i.txn x) → is_answered_item job line (λ i. true) (Some i) ≡ true → (i.job == job && i.line == line && is_add x) ≡ true
        by (Op (Set key value)) e h = absurd (some (no_sum s.order at _ sum (λ m. refl) e is))
        by (Op (Kill key)) e h = absurd (some (no_sum s.order at _ sum (λ m. refl) e is))
        by (Op (Add key amount)) e h = h
        by (CommitItem n) e h = absurd (some (no_sum s.order at _ sum (λ m. refl) e is))
        by (RollbackItem n) e h = absurd (some (no_sum s.order at _ sum (λ m. refl) e is))

pub none_is_left_out_behind : NoneIsLeftOutBehind
none_is_left_out_behind before (Epoch number) h = record { is_next = h.0; in_range = h.1.0 }
none_is_left_out_behind before (OpenEntry session app) h = record { is_started = h.0; is_position = h.1.0; is_free = h.1.1.0 }
none_is_left_out_behind before (Closed session) h = record { is_live = h.0 }
none_is_left_out_behind before (Update session w job txn (Set key value)) h =
    record { is_live = h.0; is_next = h.1.0; within = record { key_may = record { is_key = h.1.1.0; within = h.1.1.1.0 }; within = h.1.1.1.1.0 } }
none_is_left_out_behind before (Update session w job txn (Kill key)) h = record { is_live = h.0; is_next = h.1.0; within = record { is_key = h.1.1.0; within = h.1.1.1.0 } }
none_is_left_out_behind before (Update session w job txn (Add key amount)) h =
    record { is_live = h.0; is_next = h.1.0; within = record { key_may = record { is_key = h.1.1.0; within = h.1.1.1.0 }; is_alone = h.1.1.1.1.0; within = h.1.1.1.1.1.0 } }
none_is_left_out_behind before (Commit session w job txn) h = record { is_live = h.0; is_next = h.1.0; is_begun = h.1.1.0 }
none_is_left_out_behind before (Rollback session w job txn) h = record { is_live = h.0; is_next = h.1.0; is_begun = h.1.1.0 }

-- what may come meets each of its conditions
none_fails : {may : Type 0} (k : ℕ) (cs : List (Condition may)) → JustFails k cs → may → ⊥
none_fails k [] h m = h
none_fails zero (c ∷ cs) h m = h.0 (c.needed m)
none_fails (suc k) (c ∷ cs) h m = none_fails k cs h.1 m

pub failure_refuses : FailureRefuses
failure_refuses k l p a h m = none_fails k (conditions l p a) h m

pub failure_refuses_behind : FailureRefusesBehind
failure_refuses_behind k before e h m = none_fails k (conditions_behind before e) h m
