-- The trails on locks are runs.
use Rattle.std.proofs.Common.{[], ◌∷◌, refl, arith}
use Rattle.plain_orders.specs.declared.act.Act.TheVariants.{Enter, Synced, Shut, Release, Met, Issue, Grant, Granted, GiveUp, Quit, Refused as RefusedAct, Lose, Died}
use Rattle.plain_orders.specs.declared.entry.Entry.TheVariants.{Opened as OpenEntry}
use Rattle.plain_orders.specs.declared.mode.Mode.TheVariants.{Exclusive, Shared}
use Rattle.plain_orders.specs.declared.causes.ShutCause.TheVariants.{Replaced}
use Rattle.plain_orders.specs.declared.causes.Loss.TheVariants.{Reset as ByReset}
use Rattle.plain_orders.specs.declared.op.Op.TheVariants.{Set}
use Rattle.plain_orders.specs.declared.item.Item.TheVariants.{Op}
use Rattle.plain_orders.specs.declared.refused.Refused.TheVariants.{Network}
use Rattle.plain_orders.specs.declared.refused.ReasonName.TheVariants.{Reset}
use Rattle.plain_orders.specs.declared.refused.LinkName.TheVariants.{Recovery}
use Rattle.plain_runs.specs.Plain.{start}
use Rattle.plain_runs.specs.Run.{IsRun}
use Rattle.plain_examples.specs.Leads.{small, below_x, met, issued}
use Rattle.plain_examples.proofs.LeadRuns.{met_runs, issued_runs}
use Rattle.plain_examples.specs.LockLeads.{lock_granted, answered, given, quitted, issued_quit, both, both_held, both_shared, both_below, stranger_granted, granted_quit, granted_dead, answered_dead, quitted_dead, granted_released, answered_released, answered_again, answered_issued, issued_given, given_issued, given_closed, given_saved, given_released}
use Rattle.plain_runs.proofs.RunLemmas.{run_joined, run_more}
use Rattle.plain_examples.proofs.Keys.{x_may, below_x_may}

pub lock_granted_runs : IsRun small lock_granted
lock_granted_runs = run_more small start met (Grant 0 2 0 Exclusive (120 ∷ 0 ∷ []) 2) met_runs (record { is_live = refl; up = refl; here = refl; free = refl; node = x_may })

pub answered_runs : IsRun small answered
answered_runs = run_more small start lock_granted (Granted 0 5 0 2) lock_granted_runs ((record { known = omega arith; alive = refl; free = refl }, record { session = refl; sent = refl; synced = omega arith }))

pub given_runs : IsRun small given
given_runs = run_more small start answered (GiveUp 0 6 0 Exclusive (120 ∷ 0 ∷ [])) answered_runs ((record { known = omega arith; alive = refl; free = refl }, record { session = refl; answered = refl }))

pub quitted_runs : IsRun small quitted
quitted_runs = run_more small start met (Quit 0 5 0 Exclusive (120 ∷ 0 ∷ [])) met_runs ((record { known = omega arith; alive = refl; free = refl }, record { session = refl; node = x_may }))

pub issued_quit_runs : IsRun small issued_quit
issued_quit_runs = run_more small start issued (Quit 0 6 0 Exclusive (120 ∷ 0 ∷ [])) issued_runs ((record { known = omega arith; alive = refl; free = refl }, record { session = refl; node = x_may }))

pub both_runs : IsRun small both
both_runs = run_more small start met (Enter 0 (OpenEntry 3 1)) met_runs (record { opened = refl; place = refl; alone = refl; up = refl })

pub both_held_runs : IsRun small both_held
both_held_runs = run_more small start both (Grant 0 2 0 Exclusive (120 ∷ 0 ∷ []) 3) both_runs (record { is_live = refl; up = refl; here = refl; free = refl; node = x_may })

pub stranger_granted_runs : IsRun small stranger_granted
stranger_granted_runs = run_more small start met (Grant 0 2 3 Exclusive (120 ∷ 0 ∷ []) 2) met_runs (record { is_live = refl; up = refl; here = refl; free = refl; node = x_may })

pub granted_dead_runs : IsRun small granted_dead
granted_dead_runs = run_more small start lock_granted (Died 0) lock_granted_runs tt

pub answered_dead_runs : IsRun small answered_dead
answered_dead_runs = run_more small start answered (Died 0) answered_runs tt

pub quitted_dead_runs : IsRun small quitted_dead
quitted_dead_runs = run_more small start quitted (Died 0) quitted_runs tt

pub given_closed_runs : IsRun small given_closed
given_closed_runs = run_more small start given (Shut 0 2 Replaced) given_runs (record { is_live = refl })

pub given_saved_runs : IsRun small given_saved
given_saved_runs = run_more small start given_closed (Synced 0 3) given_closed_runs (record { opened = refl; no_less = omega arith; within = omega arith })

pub given_released_runs : IsRun small given_released
given_released_runs = run_more small start given_saved (Release 0 2) given_saved_runs (record { closed = refl })

pub both_shared_runs : IsRun small both_shared
both_shared_runs = run_more small start both (Grant 0 2 0 Shared (120 ∷ 0 ∷ []) 3) both_runs (record { is_live = refl; up = refl; here = refl; free = refl; node = x_may })

pub both_below_runs : IsRun small both_below
both_below_runs = run_more small start both (Grant 0 2 0 Exclusive below_x 3) both_runs (record { is_live = refl; up = refl; here = refl; free = refl; node = below_x_may })

pub granted_quit_runs : IsRun small granted_quit
granted_quit_runs = run_more small start lock_granted (Quit 0 5 0 Exclusive (120 ∷ 0 ∷ [])) lock_granted_runs ((record { known = omega arith; alive = refl; free = refl }, record { session = refl; node = x_may }))

pub granted_released_runs : IsRun small granted_released
granted_released_runs = run_joined small start lock_granted (Shut 0 2 Replaced ∷ Synced 0 3 ∷ Release 0 2 ∷ []) lock_granted_runs (record { is_live = refl }, (record { opened = refl; no_less = omega arith; within = omega arith }, (record { closed = refl }, tt)))

pub answered_released_runs : IsRun small answered_released
answered_released_runs = run_joined small start answered (Shut 0 2 Replaced ∷ Synced 0 3 ∷ Release 0 2 ∷ []) answered_runs (record { is_live = refl }, (record { opened = refl; no_less = omega arith; within = omega arith }, (record { closed = refl }, tt)))

pub answered_again_runs : IsRun small answered_again
answered_again_runs = run_joined small start answered (Shut 0 2 Replaced ∷ Synced 0 3 ∷ Lose 0 0 (ByReset 3) ∷ Enter 0 (OpenEntry 4 0) ∷ Synced 0 4 ∷ Met 0 0 4 ∷ RefusedAct 0 7 (Network 0 Recovery Reset) ∷ []) answered_runs (record { is_live = refl }, (record { opened = refl; no_less = omega arith; within = omega arith }, ((refl, record { there = refl; synced = omega arith; closed = refl }), (record { opened = refl; place = refl; alone = refl; up = refl }, (record { opened = refl; no_less = omega arith; within = omega arith }, ((refl, record { place = refl; synced = omega arith; entered = refl; not_lost = refl; fresh = refl; none = refl }), ((record { known = omega arith; alive = refl }, record { news = refl; bar = refl; its_state = refl }), tt)))))))

pub answered_issued_runs : IsRun small answered_issued
answered_issued_runs = run_more small start answered (Issue 0 6 0 1 (Op (Set (120 ∷ 0 ∷ []) (53 ∷ [])))) answered_runs ((record { known = omega arith; alive = refl; free = refl }, record { there = refl; unbroken = refl; next = refl; its = record { key_may = x_may; within = omega arith } }))

pub issued_given_runs : IsRun small issued_given
issued_given_runs = run_more small start answered_issued (GiveUp 0 6 0 Exclusive (120 ∷ 0 ∷ [])) answered_issued_runs ((record { known = omega arith; alive = refl; free = refl }, record { session = refl; answered = refl }))

pub given_issued_runs : IsRun small given_issued
given_issued_runs = run_more small start given (Issue 0 7 0 1 (Op (Set (120 ∷ 0 ∷ []) (53 ∷ [])))) given_runs ((record { known = omega arith; alive = refl; free = refl }, record { there = refl; unbroken = refl; next = refl; its = record { key_may = x_may; within = omega arith } }))
