-- The trails on orders, sessions and connections are runs.
use Rattle.std.proofs.Common.{ℕ, zero, suc, List, ◌+◌, ◌++◌, [], ◌∷◌, ◌≡◌, ◌<◌, ◌≤◌, refl, arith}
use Rattle.plain_orders.specs.declared.act.Act.TheVariants.{Opened, Enter, Synced, Shut, Met, Told, Crash, Issue, Broke, Tick, Lose, Died}
use Rattle.plain_orders.specs.declared.op.Op.TheVariants.{Set}
use Rattle.plain_orders.specs.declared.item.Item.TheVariants.{Op}
use Rattle.plain_orders.specs.declared.entry.Entry.{Entry}
use Rattle.plain_orders.specs.declared.entry.Entry.TheVariants.{Epoch, Opened as OpenEntry, Update}
use Rattle.plain_orders.specs.declared.causes.ShutCause.TheVariants.{Replaced}
use Rattle.plain_orders.specs.declared.causes.PairEnd.TheVariants.{App as AppEnd, Server as ServerEnd}
use Rattle.plain_orders.specs.declared.causes.Loss.TheVariants.{Reset as ByReset, Expired as ByExpired}
use Rattle.plain_orders.specs.declared.limits.TheConstants.{START_EPOCH_LIMIT, EPOCH_END}
use Rattle.plain_orders.specs.Entries.{last_epoch, epoch_from, epoch_after}
use Rattle.plain_orders.specs.Ordered.{OrderedFrom}
use Rattle.plain_runs.specs.Plain.{start}
use Rattle.plain_runs.specs.Run.{IsRun}
use Rattle.plain_examples.specs.Leads.{small, nothing, epochs, opened, open_entered, open_saved, met, issued, applied, kept, server_crashed, recovering, almost_due, crash_told, crash_told_closed, issued_more, issued_closed, issued_cut, issued_told, cut, cut_saved, met_cut, met_cut_saved, closed, closed_saved, closed_lost, replaced, replaced_broke, replaced_late, replaced_saved, replaced_lost, replaced_app_broke, replaced_app_late, replaced_expired, late, very_late, server_broke, server_late, server_early, app_broke, app_late, app_early, saved_dead, met_dead, crashed_dead, broke_dead, closed_dead, late_dead, found, open_cut, open_cut_saved, many_opened}
use Rattle.plain_runs.proofs.RunLemmas.{run_more}
use Rattle.plain_examples.proofs.Keys.{x_may}
use Rattle.std.specs.Prelude.{length}

pub nothing_runs : IsRun small nothing
nothing_runs = tt

pub opened_runs : IsRun small opened
opened_runs = run_more small start nothing (Opened 0 []) nothing_runs (record { fresh = refl; ordered = tt; low = omega arith })

pub open_entered_runs : IsRun small open_entered
open_entered_runs = run_more small start opened (Enter 0 (OpenEntry 2 0)) opened_runs (record { opened = refl; place = refl; alone = refl; up = refl })

pub open_saved_runs : IsRun small open_saved
open_saved_runs = run_more small start open_entered (Synced 0 2) open_entered_runs (record { opened = refl; no_less = omega arith; within = omega arith })

pub met_runs : IsRun small met
met_runs = run_more small start open_saved (Met 0 0 2) open_saved_runs ((refl, record { place = refl; synced = omega arith; entered = refl; not_lost = refl; fresh = refl; none = refl }))

pub issued_runs : IsRun small issued
issued_runs = run_more small start met (Issue 0 5 0 1 (Op (Set (120 ∷ 0 ∷ []) (53 ∷ [])))) met_runs ((record { known = omega arith; alive = refl; free = refl }, record { there = refl; unbroken = refl; next = refl; its = record { key_may = x_may; within = omega arith } }))

pub applied_runs : IsRun small applied
applied_runs = run_more small start issued (Enter 0 (Update 2 1 0 0 (Set (120 ∷ 0 ∷ []) (53 ∷ [])))) issued_runs (record { is_live = refl; told = refl; next = refl; issued = refl })

pub kept_runs : IsRun small kept
kept_runs = run_more small start applied (Synced 0 3) applied_runs (record { opened = refl; no_less = omega arith; within = omega arith })

pub server_crashed_runs : IsRun small server_crashed
server_crashed_runs = run_more small start kept (Crash 0 3) kept_runs (record { opened = refl; no_less = omega arith; within = omega arith; low = omega arith })

pub recovering_runs : IsRun small recovering
recovering_runs = run_more small start server_crashed (Tick 60) server_crashed_runs tt

pub almost_due_runs : IsRun small almost_due
almost_due_runs = run_more small start server_crashed (Tick 59) server_crashed_runs tt

pub crash_told_runs : IsRun small crash_told
crash_told_runs = run_more small start server_crashed (Told 0 0 2 2 3) server_crashed_runs ((refl, record { its = refl; later = omega arith; place = refl }))

pub crash_told_closed_runs : IsRun small crash_told_closed
crash_told_closed_runs = run_more small start crash_told (Shut 0 2 Replaced) crash_told_runs (record { is_live = refl })

pub issued_more_runs : IsRun small issued_more
issued_more_runs = run_more small start issued (Issue 0 6 0 2 (Op (Set (120 ∷ 0 ∷ []) (53 ∷ [])))) issued_runs ((record { known = omega arith; alive = refl; free = refl }, record { there = refl; unbroken = refl; next = refl; its = record { key_may = x_may; within = omega arith } }))

pub issued_closed_runs : IsRun small issued_closed
issued_closed_runs = run_more small start issued (Shut 0 2 Replaced) issued_runs (record { is_live = refl })

pub issued_cut_runs : IsRun small issued_cut
issued_cut_runs = run_more small start issued (Crash 0 2) issued_runs (record { opened = refl; no_less = omega arith; within = omega arith; low = omega arith })

pub issued_told_runs : IsRun small issued_told
issued_told_runs = run_more small start issued_cut (Told 0 0 2 2 2) issued_cut_runs ((refl, record { its = refl; later = omega arith; place = refl }))

pub cut_runs : IsRun small cut
cut_runs = run_more small start applied (Crash 0 2) applied_runs (record { opened = refl; no_less = omega arith; within = omega arith; low = omega arith })

pub cut_saved_runs : IsRun small cut_saved
cut_saved_runs = run_more small start cut (Synced 0 3) cut_runs (record { opened = refl; no_less = omega arith; within = omega arith })

pub met_cut_runs : IsRun small met_cut
met_cut_runs = run_more small start met (Crash 0 2) met_runs (record { opened = refl; no_less = omega arith; within = omega arith; low = omega arith })

pub met_cut_saved_runs : IsRun small met_cut_saved
met_cut_saved_runs = run_more small start met_cut (Synced 0 3) met_cut_runs (record { opened = refl; no_less = omega arith; within = omega arith })

pub closed_runs : IsRun small closed
closed_runs = run_more small start met (Shut 0 2 Replaced) met_runs (record { is_live = refl })

pub closed_saved_runs : IsRun small closed_saved
closed_saved_runs = run_more small start closed (Synced 0 3) closed_runs (record { opened = refl; no_less = omega arith; within = omega arith })

pub closed_lost_runs : IsRun small closed_lost
closed_lost_runs = run_more small start closed_saved (Lose 0 0 (ByReset 3)) closed_saved_runs (refl, record { there = refl; synced = omega arith; closed = refl })

pub replaced_runs : IsRun small replaced
replaced_runs = run_more small start closed (Enter 0 (OpenEntry 4 0)) closed_runs (record { opened = refl; place = refl; alone = refl; up = refl })

pub replaced_broke_runs : IsRun small replaced_broke
replaced_broke_runs = run_more small start replaced (Broke 0 0 ServerEnd 0) replaced_runs (record { now = refl; has_live = refl })

pub replaced_late_runs : IsRun small replaced_late
replaced_late_runs = run_more small start replaced_broke (Tick 60) replaced_broke_runs tt

pub replaced_saved_runs : IsRun small replaced_saved
replaced_saved_runs = run_more small start replaced (Synced 0 4) replaced_runs (record { opened = refl; no_less = omega arith; within = omega arith })

pub replaced_lost_runs : IsRun small replaced_lost
replaced_lost_runs = run_more small start replaced_saved (Lose 0 0 (ByReset 3)) replaced_saved_runs ((refl, record { there = refl; synced = omega arith; closed = refl }))

pub replaced_app_broke_runs : IsRun small replaced_app_broke
replaced_app_broke_runs = run_more small start replaced_saved (Broke 0 0 AppEnd 0) replaced_saved_runs (record { alive = refl; now = refl; there = refl; fresh = refl })

pub replaced_app_late_runs : IsRun small replaced_app_late
replaced_app_late_runs = run_more small start replaced_app_broke (Tick 100) replaced_app_broke_runs tt

pub replaced_expired_runs : IsRun small replaced_expired
replaced_expired_runs = run_more small start replaced_app_late (Lose 0 0 (ByExpired 100)) replaced_app_late_runs (refl, record { now = refl; broken = refl; over = omega arith })

pub late_runs : IsRun small late
late_runs = run_more small start met (Tick 60) met_runs tt

pub very_late_runs : IsRun small very_late
very_late_runs = run_more small start met (Tick 100) met_runs tt

pub server_broke_runs : IsRun small server_broke
server_broke_runs = run_more small start met (Broke 0 0 ServerEnd 0) met_runs (record { now = refl; has_live = refl })

pub server_late_runs : IsRun small server_late
server_late_runs = run_more small start server_broke (Tick 60) server_broke_runs tt

pub server_early_runs : IsRun small server_early
server_early_runs = run_more small start server_broke (Tick 59) server_broke_runs tt

pub app_broke_runs : IsRun small app_broke
app_broke_runs = run_more small start met (Broke 0 0 AppEnd 0) met_runs (record { alive = refl; now = refl; there = refl; fresh = refl })

pub app_late_runs : IsRun small app_late
app_late_runs = run_more small start app_broke (Tick 100) app_broke_runs tt

pub app_early_runs : IsRun small app_early
app_early_runs = run_more small start app_broke (Tick 99) app_broke_runs tt

pub saved_dead_runs : IsRun small saved_dead
saved_dead_runs = run_more small start open_saved (Died 0) open_saved_runs tt

pub met_dead_runs : IsRun small met_dead
met_dead_runs = run_more small start met (Died 0) met_runs tt

pub crashed_dead_runs : IsRun small crashed_dead
crashed_dead_runs = run_more small start server_crashed (Died 0) server_crashed_runs tt

pub broke_dead_runs : IsRun small broke_dead
broke_dead_runs = run_more small start app_broke (Died 0) app_broke_runs tt

pub closed_dead_runs : IsRun small closed_dead
closed_dead_runs = run_more small start closed_saved (Died 0) closed_saved_runs tt

pub late_dead_runs : IsRun small late_dead
late_dead_runs = run_more small start app_late (Died 0) app_late_runs tt

pub found_runs : IsRun small found
found_runs = run_more small start nothing (Opened 0 (Epoch 1 ∷ OpenEntry 2 0 ∷ [])) nothing_runs (record { fresh = refl; ordered = (record { is_next = refl; in_range = omega arith }, (record { is_started = λ e. omega arith; is_position = refl; is_free = refl }, tt)); low = omega arith })

pub open_cut_runs : IsRun small open_cut
open_cut_runs = run_more small start open_entered (Crash 0 1) open_entered_runs (record { opened = refl; no_less = omega arith; within = omega arith; low = omega arith })

pub open_cut_saved_runs : IsRun small open_cut_saved
open_cut_saved_runs = run_more small start open_cut (Synced 0 2) open_cut_runs (record { opened = refl; no_less = omega arith; within = omega arith })

-- an Epoch at the end is the last
pub epoch_last : (k : ℕ) (es : List Entry) (n : ℕ) → epoch_from k (es ++ Epoch n ∷ []) ≡ n
epoch_last k [] n = refl
epoch_last k (e ∷ es) n = epoch_last (epoch_after k e) es n

pub epochs_last : (m n : ℕ) → epoch_from m (epochs m n) ≡ m + n
epochs_last m zero = omega arith
epochs_last m (suc n) = omega (arith, epochs_last (m + 1) n)

pub epochs_length : (m n : ℕ) → length (epochs m n) ≡ n
epochs_length m zero = refl
epochs_length m (suc n) = omega (arith, epochs_length (m + 1) n)

-- Epochs that rise by one are ordered
pub epochs_ordered : (before : List Entry) (m n : ℕ) → last_epoch before ≡ m → m + n < EPOCH_END → OrderedFrom before (epochs m n)
epochs_ordered before m zero last low = tt
epochs_ordered before m (suc n) last low =
    (record { is_next = omega (arith, last); in_range = omega (arith, low) }, epochs_ordered (before ++ Epoch (m + 1) ∷ []) (m + 1) n (epoch_last 0 before (m + 1)) (omega (arith, low)))

pub many_opened_runs : (n : ℕ) → n ≤ START_EPOCH_LIMIT → IsRun small (many_opened n)
many_opened_runs n low =
    run_more small start nothing (Opened 0 (epochs 0 n)) nothing_runs
    (record { fresh = refl; ordered = epochs_ordered [] 0 n refl (omega (arith, low)); low = omega (arith, low, epochs_last 0 n) })
