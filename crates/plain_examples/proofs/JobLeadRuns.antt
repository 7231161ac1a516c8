-- The trails on items, transactions and losses are runs.
use Rattle.std.proofs.Common.{ℕ, zero, suc, false, eqb, ◌≡◌, List, [], ◌∷◌, ◌≤◌, refl, arith}
use Rattle.std.specs.Prelude.{pos}
use Rattle.plain_orders.specs.declared.act.Act.TheVariants.{Opened, Enter, Synced, Shut, Met, Told, Crash, Issue, Grant, Level, Refused as RefusedAct, Broke, Tick, Lose, Died}
use Rattle.plain_orders.specs.declared.op.Op.TheVariants.{Set, Kill, Add}
use Rattle.plain_orders.specs.declared.item.Item.TheVariants.{Op, Commit as CommitItem, Rollback as RollbackItem}
use Rattle.plain_orders.specs.declared.entry.Entry.TheVariants.{Opened as OpenEntry, Update, Commit, Rollback}
use Rattle.plain_orders.specs.declared.mode.Mode.TheVariants.{Exclusive}
use Rattle.plain_orders.specs.declared.causes.ShutCause.TheVariants.{Replaced}
use Rattle.plain_orders.specs.declared.causes.PairEnd.TheVariants.{App as AppEnd}
use Rattle.plain_orders.specs.declared.causes.Loss.TheVariants.{Reset as ByReset, Expired as ByExpired, NoWay as ByNoWay}
use Rattle.plain_orders.specs.declared.refused.Refused.TheVariants.{Network}
use Rattle.plain_orders.specs.declared.refused.ReasonName.TheVariants.{Reset}
use Rattle.plain_orders.specs.declared.refused.LinkName.TheVariants.{Recovery}
use Rattle.subscript_keys.specs.declared.limits.TheConstants.{VALUE_LIMIT}
use Rattle.plain_runs.specs.Plain.{start}
use Rattle.plain_runs.specs.Step.{MayCome}
use Rattle.plain_runs.specs.Run.{IsRun, state_after}
use Rattle.plain_examples.specs.Leads.{small, nines_text, open_saved, met, issued}
use Rattle.plain_examples.specs.JobLeads.{both_saved, both_met, overtaken, added, added_in, added_kept, added_dead, killed, level_two, updated_more, updated_next, updated_other, updated_both, updated_again, letter, letter_in, letter_added, letter_added_in, letter_kept, letter_dead, nines, nines_in, nines_added, nines_added_in, nines_kept, nines_dead, level_one, updated, updated_in, commit_issued, commit_closed, commit_untold, commit_early, commit_in, commit_kept, commit_dead, commit_cut, commit_cut_saved, rollback_issued, rollback_closed, rollback_untold, rollback_early, rollback_in, rollback_kept, rollback_dead, rollback_cut, rollback_cut_saved, updated_broke, updated_late, updated_lost, updated_dead, used_closed, used_saved, used_lost, used_again, used_again_saved, barred, barred_granted, used_no_way, connect_failed, no_way_dead, added_twice}
use Rattle.plain_examples.proofs.LeadRuns.{open_saved_runs, met_runs, issued_runs}
use Rattle.plain_examples.specs.LockLeads.{both}
use Rattle.plain_examples.proofs.LockLeadRuns.{both_runs}
use Rattle.plain_runs.proofs.RunLemmas.{run_more, run_joined}
use Rattle.plain_examples.proofs.Keys.{x_may, y_may}
use Rattle.std.specs.Prelude.{length}
use Rattle.std.proofs.lemmas.Bool.{ne_eqb}

pub added_runs : IsRun small added
added_runs = run_more small start met (Issue 0 5 0 1 (Op (Add (120 ∷ 0 ∷ []) (pos 1)))) met_runs ((record { known = omega arith; alive = refl; free = refl }, record { there = refl; unbroken = refl; next = refl; its = record { key_may = x_may; is_alone = refl; within = omega arith } }))

pub added_in_runs : IsRun small added_in
added_in_runs = run_more small start added (Enter 0 (Update 2 1 0 0 (Add (120 ∷ 0 ∷ []) (pos 1)))) added_runs (record { is_live = refl; told = refl; next = refl; issued = refl })

pub added_kept_runs : IsRun small added_kept
added_kept_runs = run_more small start added_in (Synced 0 3) added_in_runs (record { opened = refl; no_less = omega arith; within = omega arith })

pub added_dead_runs : IsRun small added_dead
added_dead_runs = run_more small start added_kept (Died 0) added_kept_runs tt

pub letter_runs : IsRun small letter
letter_runs = run_more small start met (Issue 0 4 0 1 (Op (Set (120 ∷ 0 ∷ []) (97 ∷ [])))) met_runs ((record { known = omega arith; alive = refl; free = refl }, record { there = refl; unbroken = refl; next = refl; its = record { key_may = x_may; within = omega arith } }))

pub letter_in_runs : IsRun small letter_in
letter_in_runs = run_more small start letter (Enter 0 (Update 2 1 0 0 (Set (120 ∷ 0 ∷ []) (97 ∷ [])))) letter_runs (record { is_live = refl; told = refl; next = refl; issued = refl })

pub letter_added_runs : IsRun small letter_added
letter_added_runs = run_more small start letter_in (Issue 0 5 0 2 (Op (Add (120 ∷ 0 ∷ []) (pos 1)))) letter_in_runs ((record { known = omega arith; alive = refl; free = refl }, record { there = refl; unbroken = refl; next = refl; its = record { key_may = x_may; is_alone = refl; within = omega arith } }))

pub letter_added_in_runs : IsRun small letter_added_in
letter_added_in_runs = run_more small start letter_added (Enter 0 (Update 2 2 0 0 (Add (120 ∷ 0 ∷ []) (pos 1)))) letter_added_runs (record { is_live = refl; told = refl; next = refl; issued = refl })

pub letter_kept_runs : IsRun small letter_kept
letter_kept_runs = run_more small start letter_added_in (Synced 0 4) letter_added_in_runs (record { opened = refl; no_less = omega arith; within = omega arith })

pub letter_dead_runs : IsRun small letter_dead
letter_dead_runs = run_more small start letter_kept (Died 0) letter_kept_runs tt

pub nines_runs : IsRun small nines
nines_runs = run_more small start met (Issue 0 4 0 1 (Op (Set (120 ∷ 0 ∷ []) nines_text))) met_runs ((record { known = omega arith; alive = refl; free = refl }, record { there = refl; unbroken = refl; next = refl; its = record { key_may = x_may; within = omega arith } }))

pub nines_in_runs : IsRun small nines_in
nines_in_runs = run_more small start nines (Enter 0 (Update 2 1 0 0 (Set (120 ∷ 0 ∷ []) nines_text))) nines_runs (record { is_live = refl; told = refl; next = refl; issued = refl })

pub nines_added_runs : IsRun small nines_added
nines_added_runs = run_more small start nines_in (Issue 0 5 0 2 (Op (Add (120 ∷ 0 ∷ []) (pos 1)))) nines_in_runs ((record { known = omega arith; alive = refl; free = refl }, record { there = refl; unbroken = refl; next = refl; its = record { key_may = x_may; is_alone = refl; within = omega arith } }))

pub nines_added_in_runs : IsRun small nines_added_in
nines_added_in_runs = run_more small start nines_added (Enter 0 (Update 2 2 0 0 (Add (120 ∷ 0 ∷ []) (pos 1)))) nines_added_runs (record { is_live = refl; told = refl; next = refl; issued = refl })

pub nines_kept_runs : IsRun small nines_kept
nines_kept_runs = run_more small start nines_added_in (Synced 0 4) nines_added_in_runs (record { opened = refl; no_less = omega arith; within = omega arith })

pub nines_dead_runs : IsRun small nines_dead
nines_dead_runs = run_more small start nines_kept (Died 0) nines_kept_runs tt

pub level_one_runs : IsRun small level_one
level_one_runs = run_more small start met (Level 0 4 1) met_runs ((record { known = omega arith; alive = refl }, record { near = refl; ended = λ e. absurd (omega arith) }))

pub updated_runs : IsRun small updated
updated_runs = run_more small start level_one (Issue 0 5 0 1 (Op (Set (120 ∷ 0 ∷ []) (53 ∷ [])))) level_one_runs ((record { known = omega arith; alive = refl; free = refl }, record { there = refl; unbroken = refl; next = refl; its = record { key_may = x_may; within = omega arith } }))

pub updated_in_runs : IsRun small updated_in
updated_in_runs = run_more small start updated (Enter 0 (Update 2 1 0 1 (Set (120 ∷ 0 ∷ []) (53 ∷ [])))) updated_runs (record { is_live = refl; told = refl; next = refl; issued = refl })

pub commit_issued_runs : IsRun small commit_issued
commit_issued_runs = run_more small start updated_in (Issue 0 6 0 2 (CommitItem 1)) updated_in_runs ((record { known = omega arith; alive = refl; free = refl }, record { there = refl; unbroken = refl; next = refl; its = record { positive = omega arith; used = refl; unended = refl } }))

pub commit_closed_runs : IsRun small commit_closed
commit_closed_runs = run_more small start commit_issued (Shut 0 2 Replaced) commit_issued_runs (record { is_live = refl })

pub commit_untold_runs : IsRun small commit_untold
commit_untold_runs = run_more small start commit_issued (Crash 0 3) commit_issued_runs (record { opened = refl; no_less = omega arith; within = omega arith; low = omega arith })

pub commit_early_runs : IsRun small commit_early
commit_early_runs = run_more small start updated (Issue 0 6 0 2 (CommitItem 1)) updated_runs (record { known = omega arith; alive = refl; free = refl }, record { there = refl; unbroken = refl; next = refl; its = record { positive = omega arith; used = refl; unended = refl } })

pub commit_in_runs : IsRun small commit_in
commit_in_runs = run_more small start commit_issued (Enter 0 (Commit 2 2 0 1)) commit_issued_runs (record { is_live = refl; told = refl; next = refl; issued = refl })

pub commit_kept_runs : IsRun small commit_kept
commit_kept_runs = run_more small start commit_in (Synced 0 4) commit_in_runs (record { opened = refl; no_less = omega arith; within = omega arith })

pub commit_dead_runs : IsRun small commit_dead
commit_dead_runs = run_more small start commit_kept (Died 0) commit_kept_runs tt

pub commit_cut_runs : IsRun small commit_cut
commit_cut_runs = run_more small start commit_in (Crash 0 3) commit_in_runs (record { opened = refl; no_less = omega arith; within = omega arith; low = omega arith })

pub commit_cut_saved_runs : IsRun small commit_cut_saved
commit_cut_saved_runs = run_more small start commit_cut (Synced 0 4) commit_cut_runs (record { opened = refl; no_less = omega arith; within = omega arith })

pub rollback_issued_runs : IsRun small rollback_issued
rollback_issued_runs = run_more small start updated_in (Issue 0 6 0 2 (RollbackItem 1)) updated_in_runs ((record { known = omega arith; alive = refl; free = refl }, record { there = refl; unbroken = refl; next = refl; its = record { positive = omega arith; used = refl; unended = refl } }))

pub rollback_closed_runs : IsRun small rollback_closed
rollback_closed_runs = run_more small start rollback_issued (Shut 0 2 Replaced) rollback_issued_runs (record { is_live = refl })

pub rollback_untold_runs : IsRun small rollback_untold
rollback_untold_runs = run_more small start rollback_issued (Crash 0 3) rollback_issued_runs (record { opened = refl; no_less = omega arith; within = omega arith; low = omega arith })

pub rollback_early_runs : IsRun small rollback_early
rollback_early_runs = run_more small start updated (Issue 0 6 0 2 (RollbackItem 1)) updated_runs (record { known = omega arith; alive = refl; free = refl }, record { there = refl; unbroken = refl; next = refl; its = record { positive = omega arith; used = refl; unended = refl } })

pub rollback_in_runs : IsRun small rollback_in
rollback_in_runs = run_more small start rollback_issued (Enter 0 (Rollback 2 2 0 1)) rollback_issued_runs (record { is_live = refl; told = refl; next = refl; issued = refl })

pub rollback_kept_runs : IsRun small rollback_kept
rollback_kept_runs = run_more small start rollback_in (Synced 0 4) rollback_in_runs (record { opened = refl; no_less = omega arith; within = omega arith })

pub rollback_dead_runs : IsRun small rollback_dead
rollback_dead_runs = run_more small start rollback_kept (Died 0) rollback_kept_runs tt

pub rollback_cut_runs : IsRun small rollback_cut
rollback_cut_runs = run_more small start rollback_in (Crash 0 3) rollback_in_runs (record { opened = refl; no_less = omega arith; within = omega arith; low = omega arith })

pub rollback_cut_saved_runs : IsRun small rollback_cut_saved
rollback_cut_saved_runs = run_more small start rollback_cut (Synced 0 4) rollback_cut_runs (record { opened = refl; no_less = omega arith; within = omega arith })

pub updated_broke_runs : IsRun small updated_broke
updated_broke_runs = run_more small start updated (Broke 0 0 AppEnd 0) updated_runs (record { alive = refl; now = refl; there = refl; fresh = refl })

pub updated_late_runs : IsRun small updated_late
updated_late_runs = run_more small start updated_broke (Tick 100) updated_broke_runs tt

pub updated_lost_runs : IsRun small updated_lost
updated_lost_runs = run_more small start updated_late (Lose 0 0 (ByExpired 100)) updated_late_runs ((refl, record { now = refl; broken = refl; over = omega arith }))

pub updated_dead_runs : IsRun small updated_dead
updated_dead_runs = run_more small start updated_lost (Died 0) updated_lost_runs tt

pub used_closed_runs : IsRun small used_closed
used_closed_runs = run_more small start issued (Shut 0 2 Replaced) issued_runs (record { is_live = refl })

pub used_saved_runs : IsRun small used_saved
used_saved_runs = run_more small start used_closed (Synced 0 3) used_closed_runs (record { opened = refl; no_less = omega arith; within = omega arith })

pub used_lost_runs : IsRun small used_lost
used_lost_runs = run_more small start used_saved (Lose 0 0 (ByReset 3)) used_saved_runs ((refl, record { there = refl; synced = omega arith; closed = refl }))

pub used_again_runs : IsRun small used_again
used_again_runs = run_more small start used_lost (Enter 0 (OpenEntry 4 0)) used_lost_runs (record { opened = refl; place = refl; alone = refl; up = refl })

pub used_again_saved_runs : IsRun small used_again_saved
used_again_saved_runs = run_more small start used_again (Synced 0 4) used_again_runs (record { opened = refl; no_less = omega arith; within = omega arith })

pub barred_runs : IsRun small barred
barred_runs = run_more small start used_again_saved (Met 0 0 4) used_again_saved_runs ((refl, record { place = refl; synced = omega arith; entered = refl; not_lost = refl; fresh = refl; none = refl }))

pub barred_granted_runs : IsRun small barred_granted
barred_granted_runs = run_more small start barred (Grant 0 4 0 Exclusive (120 ∷ 0 ∷ []) 4) barred_runs (record { is_live = refl; up = refl; here = refl; free = refl; node = x_may })

pub used_no_way_runs : IsRun small used_no_way
used_no_way_runs = run_more small start used_lost (Lose 0 0 (ByNoWay 0 1)) used_lost_runs ((refl, record { none = refl; failed = omega arith }))

pub connect_failed_runs : IsRun small connect_failed
connect_failed_runs = run_more small start open_saved (Lose 0 0 (ByNoWay 0 1)) open_saved_runs ((refl, record { none = refl; failed = omega arith }))

pub no_way_dead_runs : IsRun small no_way_dead
no_way_dead_runs = run_more small start connect_failed (Died 0) connect_failed_runs tt

pub both_saved_runs : IsRun small both_saved
both_saved_runs = run_more small start both (Synced 0 3) both_runs (record { opened = refl; no_less = omega arith; within = omega arith })

pub both_met_runs : IsRun small both_met
both_met_runs = run_more small start both_saved (Met 1 0 3) both_saved_runs (refl, record { place = refl; synced = omega arith; entered = refl; not_lost = refl; fresh = refl; none = refl })

pub added_twice_runs : (v : List ℕ) → length v ≤ VALUE_LIMIT → IsRun small (added_twice v)
added_twice_runs v short =
    run_joined small start both_met
    (Issue 0 3 0 1 (Op (Set (120 ∷ 0 ∷ []) v)) ∷ Enter 0 (Update 2 1 0 0 (Set (120 ∷ 0 ∷ []) v))
    ∷ Issue 0 4 0 2 (Op (Add (121 ∷ 0 ∷ []) (pos 1))) ∷ Enter 0 (Update 2 2 0 0 (Add (121 ∷ 0 ∷ []) (pos 1)))
    ∷ Issue 0 5 0 3 (Op (Add (120 ∷ 0 ∷ []) (pos 1))) ∷ Enter 0 (Update 2 3 0 0 (Add (120 ∷ 0 ∷ []) (pos 1))) ∷ [])
    both_met_runs
    ((
      (record { known = omega arith; alive = refl; free = refl }, record { there = refl; unbroken = refl; next = refl; its = record { key_may = x_may; within = short } }),
      (
        record { is_live = refl; told = refl; next = refl; issued = refl },
        (
          (record { known = omega arith; alive = refl; free = refl }, record { there = refl; unbroken = refl; next = refl; its = record { key_may = y_may; is_alone = refl; within = omega arith } }),
          (
            record { is_live = refl; told = refl; next = refl; issued = refl },
            (
              (record { known = omega arith; alive = refl; free = refl }, record { there = refl; unbroken = refl; next = refl; its = record { key_may = x_may; is_alone = refl; within = omega arith } }),
              (record { is_live = refl; told = refl; next = refl; issued = refl }, tt),
            ),
          ),
        ),
      ),
    ))

pub overtaken_runs : (v : List ℕ) → length v ≤ VALUE_LIMIT → IsRun small (overtaken v)
overtaken_runs v short =
    run_joined small start (added_twice v)
    (Crash 0 4 ∷ Told 1 0 3 2 4 ∷ Issue 1 5 0 1 (Op (Add (120 ∷ 0 ∷ []) (pos 1))) ∷ Enter 0 (Update 3 1 1 0 (Add (120 ∷ 0 ∷ []) (pos 1))) ∷ Synced 0 6 ∷ [])
    (added_twice_runs v short)
    ((
      record { opened = refl; no_less = omega arith; within = omega arith; low = omega arith },
      (
        (refl, record { its = refl; later = omega arith; place = refl }),
        (
          (record { known = omega arith; alive = refl; free = refl }, record { there = refl; unbroken = refl; next = refl; its = record { key_may = x_may; is_alone = refl; within = omega arith } }),
          (record { is_live = refl; told = refl; next = refl; issued = refl }, (record { opened = refl; no_less = omega arith; within = omega arith }, tt)),
        ),
      ),
    ))

pub killed_runs : IsRun small killed
killed_runs = run_more small start met (Issue 0 5 0 1 (Op (Kill (120 ∷ 0 ∷ [])))) met_runs ((record { known = omega arith; alive = refl; free = refl }, record { there = refl; unbroken = refl; next = refl; its = x_may }))

pub level_two_runs : IsRun small level_two
level_two_runs = run_more small start level_one (Level 0 5 2) level_one_runs ((record { known = omega arith; alive = refl }, record { near = refl; ended = λ e. absurd (omega arith) }))

pub updated_more_runs : IsRun small updated_more
updated_more_runs = run_more small start commit_issued (Issue 0 7 0 3 (Op (Set (120 ∷ 0 ∷ []) (53 ∷ [])))) commit_issued_runs ((record { known = omega arith; alive = refl; free = refl }, record { there = refl; unbroken = refl; next = refl; its = record { key_may = x_may; within = omega arith } }))

-- after a Commit the level may come back to 0
pub back_to_0 : MayCome small (state_after small commit_issued) (Level 0 6 0)
back_to_0 = (record { known = omega arith; alive = refl }, record { near = refl; ended = λ e. elim [ zero ↦ refl | suc d ↦ let none : eqb (suc d) 0 ≡ false = ne_eqb (suc d) 0 (λ e. omega arith) in rw none refl ] })

pub updated_next_runs : IsRun small updated_next
updated_next_runs = run_joined small start commit_issued (Level 0 6 0 ∷ Level 0 7 1 ∷ Issue 0 7 0 3 (Op (Set (120 ∷ 0 ∷ []) (53 ∷ []))) ∷ []) commit_issued_runs (back_to_0, ((record { known = omega arith; alive = refl }, record { near = refl; ended = λ e. absurd (omega arith) }), ((record { known = omega arith; alive = refl; free = refl }, record { there = refl; unbroken = refl; next = refl; its = record { key_may = x_may; within = omega arith } }), tt)))

pub updated_other_runs : IsRun small updated_other
updated_other_runs = run_joined small start updated (Level 2 5 1 ∷ Issue 2 5 0 2 (Op (Set (121 ∷ 0 ∷ []) (53 ∷ []))) ∷ Issue 2 6 0 3 (CommitItem 1) ∷ []) updated_runs ((record { known = omega arith; alive = refl }, record { near = refl; ended = λ e. absurd (omega arith) }), ((record { known = omega arith; alive = refl; free = refl }, record { there = refl; unbroken = refl; next = refl; its = record { key_may = y_may; within = omega arith } }), ((record { known = omega arith; alive = refl; free = refl }, record { there = refl; unbroken = refl; next = refl; its = record { positive = omega arith; used = refl; unended = refl } }), tt)))

pub updated_both_runs : IsRun small updated_both
updated_both_runs = run_joined small start updated (Opened 1 [] ∷ Enter 1 (OpenEntry 2 0) ∷ Synced 1 2 ∷ Met 0 1 2 ∷ Issue 0 5 1 1 (Op (Set (120 ∷ 0 ∷ []) (53 ∷ []))) ∷ Issue 0 6 1 2 (CommitItem 1) ∷ []) updated_runs (record { fresh = refl; ordered = tt; low = omega arith }, (record { opened = refl; place = refl; alone = refl; up = refl }, (record { opened = refl; no_less = omega arith; within = omega arith }, ((refl, record { place = refl; synced = omega arith; entered = refl; not_lost = refl; fresh = refl; none = refl }), ((record { known = omega arith; alive = refl; free = refl }, record { there = refl; unbroken = refl; next = refl; its = record { key_may = x_may; within = omega arith } }), ((record { known = omega arith; alive = refl; free = refl }, record { there = refl; unbroken = refl; next = refl; its = record { positive = omega arith; used = refl; unended = refl } }), tt))))))

pub updated_again_runs : IsRun small updated_again
updated_again_runs = run_joined small start updated_in (Shut 0 2 Replaced ∷ Synced 0 4 ∷ Lose 0 0 (ByReset 4) ∷ Enter 0 (OpenEntry 5 0) ∷ Synced 0 5 ∷ Met 0 0 5 ∷ RefusedAct 0 7 (Network 0 Recovery Reset) ∷ []) updated_in_runs (record { is_live = refl }, (record { opened = refl; no_less = omega arith; within = omega arith }, ((refl, record { there = refl; synced = omega arith; closed = refl }), (record { opened = refl; place = refl; alone = refl; up = refl }, (record { opened = refl; no_less = omega arith; within = omega arith }, ((refl, record { place = refl; synced = omega arith; entered = refl; not_lost = refl; fresh = refl; none = refl }), ((record { known = omega arith; alive = refl }, record { news = refl; bar = refl; its_state = refl }), tt)))))))
