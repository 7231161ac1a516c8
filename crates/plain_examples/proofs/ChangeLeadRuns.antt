-- The trails that show what an act changes are runs.
use Rattle.std.proofs.Common.{Some, [], ◌∷◌, refl, arith}
use Rattle.plain_orders.specs.declared.act.Act.TheVariants.{Synced, Shut, Release, Met, Told, Back, Crash, Issue, Read, Granted, GiveUp, Free}
use Rattle.plain_orders.specs.declared.op.Op.TheVariants.{Set}
use Rattle.plain_orders.specs.declared.item.Item.TheVariants.{Op}
use Rattle.plain_orders.specs.declared.mode.Mode.TheVariants.{Exclusive}
use Rattle.plain_orders.specs.declared.causes.ShutCause.TheVariants.{Replaced}
use Rattle.plain_orders.specs.declared.via.Via.TheVariants.{Fetched}
use Rattle.plain_orders.specs.declared.question.Question.TheVariants.{Get}
use Rattle.plain_runs.specs.Plain.{start}
use Rattle.plain_runs.specs.Run.{IsRun}
use Rattle.plain_examples.specs.Leads.{small, applied}
use Rattle.plain_examples.specs.JobLeads.{connect_failed}
use Rattle.plain_examples.proofs.LeadRuns.{applied_runs}
use Rattle.plain_examples.specs.LockLeads.{lock_granted, both_held}
use Rattle.plain_examples.proofs.LockLeadRuns.{lock_granted_runs, both_held_runs}
use Rattle.plain_examples.proofs.JobLeadRuns.{connect_failed_runs}
use Rattle.plain_examples.specs.ChangeLeads.{held_closed, held_saved, released, held_synced, held_answered, held_given, freed, granted_cut, granted_told, granted_back, no_way_met, no_way_issued, seen, seen_cut, seen_told}
use Rattle.plain_runs.proofs.RunLemmas.{run_more}
use Rattle.plain_examples.proofs.Keys.{x_may}

pub held_closed_runs : IsRun small held_closed
held_closed_runs = run_more small start both_held (Shut 0 2 Replaced) both_held_runs (record { is_live = refl })

pub held_saved_runs : IsRun small held_saved
held_saved_runs = run_more small start held_closed (Synced 0 4) held_closed_runs (record { opened = refl; no_less = omega arith; within = omega arith })

pub released_runs : IsRun small released
released_runs = run_more small start held_saved (Release 0 2) held_saved_runs (record { closed = refl })

pub held_synced_runs : IsRun small held_synced
held_synced_runs = run_more small start both_held (Synced 0 3) both_held_runs (record { opened = refl; no_less = omega arith; within = omega arith })

pub held_answered_runs : IsRun small held_answered
held_answered_runs = run_more small start held_synced (Granted 0 5 0 3) held_synced_runs (record { known = omega arith; alive = refl; free = refl }, record { session = refl; sent = refl; synced = omega arith })

pub held_given_runs : IsRun small held_given
held_given_runs = run_more small start held_answered (GiveUp 0 6 0 Exclusive (120 ∷ 0 ∷ [])) held_answered_runs (record { known = omega arith; alive = refl; free = refl }, record { session = refl; answered = refl })

pub freed_runs : IsRun small freed
freed_runs = run_more small start held_given (Free 0 2 0 Exclusive (120 ∷ 0 ∷ [])) held_given_runs (record { given = refl; entered = refl })

pub granted_cut_runs : IsRun small granted_cut
granted_cut_runs = run_more small start lock_granted (Crash 0 2) lock_granted_runs (record { opened = refl; no_less = omega arith; within = omega arith; low = omega arith })

pub granted_told_runs : IsRun small granted_told
granted_told_runs = run_more small start granted_cut (Told 0 0 2 2 2) granted_cut_runs (refl, record { its = refl; later = omega arith; place = refl })

pub granted_back_runs : IsRun small granted_back
granted_back_runs = run_more small start granted_told (Back 0) granted_told_runs (record { recovering = refl; told = refl; counted = refl; closes = refl })

pub no_way_met_runs : IsRun small no_way_met
no_way_met_runs = run_more small start connect_failed (Met 0 0 2) connect_failed_runs (refl, record { place = refl; synced = omega arith; entered = refl; not_lost = refl; fresh = refl; none = refl })

pub no_way_issued_runs : IsRun small no_way_issued
no_way_issued_runs = run_more small start no_way_met (Issue 0 5 0 1 (Op (Set (120 ∷ 0 ∷ []) (53 ∷ [])))) no_way_met_runs (record { known = omega arith; alive = refl; free = refl }, record { there = refl; unbroken = refl; next = refl; its = record { key_may = x_may; within = omega arith } })

pub seen_runs : IsRun small seen
seen_runs = run_more small start applied (Read 0 6 0 3 Fetched (Get (120 ∷ 0 ∷ []) (Some (53 ∷ [])))) applied_runs (record { known = omega arith; alive = refl; free = refl }, record { there = refl; no_less = omega arith; within = omega arith; answer = record { result = refl; by = refl; node = x_may } })

pub seen_cut_runs : IsRun small seen_cut
seen_cut_runs = run_more small start seen (Crash 0 2) seen_runs (record { opened = refl; no_less = omega arith; within = omega arith; low = omega arith })

pub seen_told_runs : IsRun small seen_told
seen_told_runs = run_more small start seen_cut (Told 0 0 2 2 2) seen_cut_runs (refl, record { its = refl; later = omega arith; place = refl })
