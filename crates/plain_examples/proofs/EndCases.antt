-- Examples of acts that are accepted, and of acts that are refused since one condition fails: the condition is named above each.
use Rattle.std.proofs.Common.{refl, arith, rules}
use Rattle.plain_orders.specs.declared.act.Act.TheVariants.{Shut, Met, Told, Broke, Mended, Tick, Lose, Died}
use Rattle.plain_orders.specs.declared.causes.ShutCause.TheVariants.{Trouble as ByTrouble, Replaced, Round as ByRound}
use Rattle.plain_orders.specs.declared.causes.PairEnd.TheVariants.{App as AppEnd, Server as ServerEnd}
use Rattle.plain_orders.specs.declared.causes.Loss.TheVariants.{Reset as ByReset, Expired as ByExpired, NoWay as ByNoWay}
use Rattle.plain_runs.specs.Plain.{start}
use Rattle.plain_examples.specs.Leads.{small, nothing, open_saved, met, server_crashed, recovering, closed_saved, server_late, app_broke, app_late}
use Rattle.plain_examples.proofs.LeadRuns.{opened_runs, open_entered_runs, open_saved_runs, met_runs, kept_runs, server_crashed_runs, recovering_runs, almost_due_runs, closed_runs, closed_saved_runs, closed_lost_runs, replaced_late_runs, replaced_saved_runs, replaced_lost_runs, replaced_expired_runs, late_runs, very_late_runs, server_late_runs, server_early_runs, app_broke_runs, app_late_runs, app_early_runs, saved_dead_runs, met_dead_runs, crashed_dead_runs, broke_dead_runs, closed_dead_runs, late_dead_runs, found_runs, open_cut_saved_runs, nothing_runs}
use Rattle.plain_runs.proofs.RunLemmas.{run_more}
use Rattle.plain_examples.specs.EndExamples.{ShutExamples, MetExamples, ToldExamples, BrokeExamples, MendedExamples, LoseExamples, FreeActExamples}

pub shut_examples : ShutExamples
shut_examples = (
  run_more small start server_late (Shut 0 2 (ByTrouble 60)) server_late_runs (record { is_live = refl; now = refl; broken = refl; over = omega arith }),
  (replaced_late_runs, search rules),
  (server_late_runs, search rules),
  (late_runs, search rules),
  (server_early_runs, search rules),
  run_more small start met (Shut 0 2 Replaced) met_runs (record { is_live = refl }),
  (opened_runs, search rules),
  run_more small start recovering (Shut 0 2 (ByRound 60)) recovering_runs (record { is_live = refl; now = refl; recovering = refl; over = omega arith }),
  (recovering_runs, search rules),
  (recovering_runs, search rules),
  (late_runs, search rules),
  (almost_due_runs, search rules),
)

pub met_examples : MetExamples
met_examples = (
  run_more small start open_saved (Met 0 0 2) open_saved_runs ((refl, record { place = refl; synced = omega arith; entered = refl; not_lost = refl; fresh = refl; none = refl })),
  (saved_dead_runs, search rules),
  (open_saved_runs, search rules),
  (open_cut_saved_runs, search rules),
  (open_entered_runs, search rules),
  (found_runs, search rules),
  (replaced_lost_runs, search rules),
  (replaced_expired_runs, search rules),
  (met_runs, λ may. absurd (cc (may.1.fresh))),
  (closed_lost_runs, λ may. absurd (cc (may.1.fresh))),
  (replaced_saved_runs, search rules),
)

pub told_examples : ToldExamples
told_examples = (
  run_more small start server_crashed (Told 0 0 2 2 3) server_crashed_runs ((refl, record { its = refl; later = omega arith; place = refl })),
  (crashed_dead_runs, search rules),
  (server_crashed_runs, search rules),
  (kept_runs, λ may. omega (arith, may.1.later)),
  (server_crashed_runs, search rules),
)

pub broke_examples : BrokeExamples
broke_examples = (
  run_more small start met (Broke 0 0 AppEnd 0) met_runs (record { alive = refl; now = refl; there = refl; fresh = refl }),
  (met_dead_runs, search rules),
  (met_runs, search rules),
  (open_saved_runs, search rules),
  (app_broke_runs, search rules),
  run_more small start met (Broke 0 0 ServerEnd 0) met_runs (record { now = refl; has_live = refl }),
  (met_runs, search rules),
  (opened_runs, search rules),
)

pub mended_examples : MendedExamples
mended_examples = (
  run_more small start app_broke (Mended 0 0) app_broke_runs (record { alive = refl; broken = refl }),
  (broke_dead_runs, search rules),
  (met_runs, search rules),
)

pub lose_examples : LoseExamples
lose_examples = (
  run_more small start closed_saved (Lose 0 0 (ByReset 3)) closed_saved_runs ((refl, record { there = refl; synced = omega arith; closed = refl })),
  (closed_dead_runs, search rules),
  (replaced_lost_runs, λ may. absurd (cc (may.1.there))),
  (closed_runs, search rules),
  (closed_saved_runs, search rules),
  run_more small start app_late (Lose 0 0 (ByExpired 100)) app_late_runs ((refl, record { now = refl; broken = refl; over = omega arith })),
  (late_dead_runs, search rules),
  (app_late_runs, search rules),
  (very_late_runs, search rules),
  (app_early_runs, search rules),
  run_more small start open_saved (Lose 0 0 (ByNoWay 0 1)) open_saved_runs ((refl, record { none = refl; failed = omega arith })),
  (saved_dead_runs, search rules),
  (met_runs, search rules),
  (open_saved_runs, search rules),
)

pub free_act_examples : FreeActExamples
free_act_examples = (
  run_more small start nothing (Tick 5) nothing_runs tt,
  run_more small start nothing (Died 0) nothing_runs tt,
)
