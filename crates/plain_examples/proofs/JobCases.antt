-- Examples of acts that are accepted, and of acts that are refused since one condition fails: the condition is named above each.
use Rattle.std.specs.Prelude.{pos}
use Rattle.std.proofs.Common.{ℕ, zero, suc, Some, None, ◌+◌, [], ◌∷◌, ◌≡◌, refl, arith, rules}
use Rattle.plain_orders.specs.declared.act.Act.TheVariants.{Issue, Read, Level, Done, Refused as RefusedAct, Died}
use Rattle.plain_orders.specs.declared.op.Op.TheVariants.{Set, Kill, Add}
use Rattle.plain_orders.specs.declared.item.Item.TheVariants.{Op, Commit as CommitItem, Rollback as RollbackItem}
use Rattle.plain_orders.specs.declared.via.Via.TheVariants.{Own, Cached, Fetched}
use Rattle.plain_orders.specs.declared.question.Question.TheVariants.{Get, Shape, Next}
use Rattle.plain_orders.specs.declared.refused.Refused.TheVariants.{NoTransaction, TooDeep, RollbackOnly, LockTimeout, Network}
use Rattle.plain_orders.specs.declared.refused.ReasonName.TheVariants.{Reset, Expired, NoWay}
use Rattle.plain_orders.specs.declared.refused.LinkName.TheVariants.{NotConnected, Trouble, Recovery}
use Rattle.plain_runs.specs.Plain.{Plain, start}
use Rattle.plain_runs.specs.Step.{after}
use Rattle.plain_runs.specs.Run.{RunFrom}
use Rattle.plain_examples.specs.Leads.{full_key, small, nothing, met, issued, kept}
use Rattle.plain_examples.specs.JobLeads.{updated_next, levels, level_two, updated_in, updated_more, commit_issued, updated_lost, barred, connect_failed}
use Rattle.plain_examples.proofs.LeadRuns.{open_saved_runs, met_runs, issued_runs, kept_runs, app_broke_runs, met_dead_runs, nothing_runs}
use Rattle.plain_examples.specs.LockLeads.{quitted}
use Rattle.plain_examples.proofs.LockLeadRuns.{quitted_runs, quitted_dead_runs}
use Rattle.plain_examples.proofs.JobLeadRuns.{back_to_0, level_one_runs, level_two_runs, updated_runs, updated_in_runs, updated_more_runs, updated_next_runs, updated_other_runs, updated_both_runs, updated_again_runs, commit_issued_runs, rollback_issued_runs, updated_lost_runs, updated_dead_runs, barred_runs, used_no_way_runs, connect_failed_runs, no_way_dead_runs}
use Rattle.plain_runs.proofs.RunLemmas.{run_more}
use Rattle.plain_examples.proofs.Keys.{x_may, x_key, no_empty_key, full_key_is_key, long_key_is_key, x_long_is_key}
use Rattle.plain_examples.specs.JobExamples.{IssueExamples, ReadExamples, LevelExamples, DoneExamples, RefusedExamples, TooDeepExamples}
use Rattle.std.proofs.Common.{◌∙◌, ◌==◌, ◌||◌, eqb, ap, Bool, true, false}
use Rattle.std.proofs.lemmas.Bool.{eq-eqb, ne_eqb}
use Rattle.subscript_keys.specs.Key.{text_bytes}
use Rattle.plain_runs.specs.JobRows.{is_near}

pub issue_examples : IssueExamples
issue_examples = (
  run_more small start met (Issue 0 5 0 1 (Op (Set (120 ∷ 0 ∷ []) (53 ∷ [])))) met_runs ((record { known = omega arith; alive = refl; free = refl }, record { there = refl; unbroken = refl; next = refl; its = record { key_may = x_may; within = omega arith } })),
  run_more small start met (Issue 0 5 0 1 (Op (Kill (120 ∷ 0 ∷ [])))) met_runs ((record { known = omega arith; alive = refl; free = refl }, record { there = refl; unbroken = refl; next = refl; its = x_may })),
  run_more small start met (Issue 0 5 0 1 (Op (Add (120 ∷ 0 ∷ []) (pos 1)))) met_runs ((record { known = omega arith; alive = refl; free = refl }, record { there = refl; unbroken = refl; next = refl; its = record { key_may = x_may; is_alone = refl; within = omega arith } })),
  (met_runs, search (rules, x_key)),
  (met_dead_runs, search (rules, x_key)),
  (barred_runs, search (rules, x_key)),
  (open_saved_runs, search (rules, x_key)),
  (app_broke_runs, search (rules, x_key)),
  (met_runs, search (rules, x_key)),
  (met_runs, (omega arith, (refl, (refl, (refl, (refl, (refl, (no_empty_key, (omega arith, (omega arith, tt)))))))))),
  (met_runs, (omega arith, (refl, (refl, (refl, (refl, (refl, (long_key_is_key, ((λ e. omega (arith, e)), (omega arith, tt)))))))))),
  (met_runs, (omega arith, (refl, (refl, (refl, (refl, (refl, (x_key, (omega arith, ((λ e. omega (arith, e)), tt)))))))))),
  (met_runs, (omega arith, (refl, (refl, (refl, (refl, (refl, (no_empty_key, (omega arith, tt))))))))),
  (met_runs, (omega arith, (refl, (refl, (refl, (refl, (refl, (long_key_is_key, ((λ e. omega (arith, e)), tt))))))))),
  (met_runs, (omega arith, (refl, (refl, (refl, (refl, (refl, (no_empty_key, (omega arith, (refl, (omega arith, tt))))))))))),
  (met_runs, (omega arith, (refl, (refl, (refl, (refl, (refl, (long_key_is_key, ((λ e. omega (arith, e)), (refl, (omega arith, tt))))))))))),
  (met_runs, (omega arith, (refl, (refl, (refl, (refl, (refl, (x_key, (omega arith, (refl, ((λ e. omega (arith, e)), tt))))))))))),
  run_more small start updated_in (Issue 0 6 0 2 (CommitItem 1)) updated_in_runs ((record { known = omega arith; alive = refl; free = refl }, record { there = refl; unbroken = refl; next = refl; its = record { positive = omega arith; used = refl; unended = refl } })),
  run_more small start updated_more (Issue 0 8 0 4 (CommitItem 1)) updated_more_runs ((record { known = omega arith; alive = refl; free = refl }, record { there = refl; unbroken = refl; next = refl; its = record { positive = omega arith; used = refl; unended = refl } })),
  (updated_in_runs, λ may. omega (arith, may.0.known)),
  (barred_runs, λ may. absurd (cc (may.0.free))),
  (open_saved_runs, λ may. absurd (cc (may.1.there))),
  (issued_runs, search (rules, x_key)),
  (issued_runs, search (rules, x_key)),
  (updated_in_runs, search (rules, x_key)),
  (updated_again_runs, search (rules, x_key)),
  (commit_issued_runs, search (rules, x_key)),
  (rollback_issued_runs, search (rules, x_key)),
  run_more small start updated_in (Issue 0 6 0 2 (RollbackItem 1)) updated_in_runs ((record { known = omega arith; alive = refl; free = refl }, record { there = refl; unbroken = refl; next = refl; its = record { positive = omega arith; used = refl; unended = refl } })),
  run_more small start updated_more (Issue 0 8 0 4 (RollbackItem 1)) updated_more_runs ((record { known = omega arith; alive = refl; free = refl }, record { there = refl; unbroken = refl; next = refl; its = record { positive = omega arith; used = refl; unended = refl } })),
  (updated_in_runs, λ may. omega (arith, may.0.known)),
  (barred_runs, λ may. absurd (cc (may.0.free))),
  (open_saved_runs, λ may. absurd (cc (may.1.there))),
  (issued_runs, search (rules, x_key)),
  (issued_runs, search (rules, x_key)),
  (updated_in_runs, search (rules, x_key)),
  (updated_again_runs, search (rules, x_key)),
  (commit_issued_runs, search (rules, x_key)),
  (rollback_issued_runs, search (rules, x_key)),
)

pub read_examples : ReadExamples
unfolding text_bytes
read_examples = (
  run_more small start kept (Read 0 6 0 3 Fetched (Get (120 ∷ 0 ∷ []) (Some (53 ∷ [])))) kept_runs ((record { known = omega arith; alive = refl; free = refl }, record { there = refl; no_less = omega arith; within = omega arith; answer = record { result = refl; by = refl; node = x_may } })),
  run_more small start issued (Read 0 6 0 2 Own (Get (120 ∷ 0 ∷ []) (Some (53 ∷ [])))) issued_runs ((record { known = omega arith; alive = refl; free = refl }, record { there = refl; no_less = omega arith; within = omega arith; answer = record { result = refl; by = refl; node = x_may } })),
  (met_runs, search (rules, x_key)),
  (met_dead_runs, search (rules, x_key)),
  (barred_runs, search (rules, x_key)),
  (open_saved_runs, search (rules, x_key)),
  (kept_runs, search (rules, x_key)),
  (kept_runs, search (rules, x_key)),
  (kept_runs, search (rules, x_key)),
  (kept_runs, search (rules, x_key)),
  (issued_runs, search (rules, x_key)),
  (issued_runs, search (rules, x_key)),
  (kept_runs, (omega arith, (refl, (refl, (refl, (omega arith, (omega arith, (refl, (refl, (no_empty_key, (omega arith, tt))))))))))),
  (met_runs, (omega arith, (refl, (refl, (refl, (omega arith, (omega arith, (refl, (refl, (long_key_is_key, ((λ e. omega (arith, e)), tt))))))))))),
  run_more small start kept (Read 0 6 0 3 Cached (Shape (120 ∷ 0 ∷ []) 1)) kept_runs ((record { known = omega arith; alive = refl; free = refl }, record { there = refl; no_less = omega arith; within = omega arith; answer = record { result = refl; by = refl; entered = refl; node = x_may } })),
  (kept_runs, search (rules, x_key)),
  (kept_runs, search (rules, x_key)),
  (issued_runs, search (rules, x_key)),
  (kept_runs, (omega arith, (refl, (refl, (refl, (omega arith, (omega arith, (refl, (refl, (refl, (no_empty_key, (omega arith, tt)))))))))))),
  (met_runs, (omega arith, (refl, (refl, (refl, (omega arith, (omega arith, (refl, (refl, (refl, (long_key_is_key, ((λ e. omega (arith, e)), tt)))))))))))),
  run_more small start kept (Read 0 6 0 3 Cached (Next (120 ∷ 0 ∷ []) None None)) kept_runs ((record { known = omega arith; alive = refl; free = refl }, record { there = refl; no_less = omega arith; within = omega arith; answer = record { result = tt; by = refl; entered = refl; node = x_may.is_key; within = omega arith } })),
  (kept_runs, search (rules, x_key)),
  (kept_runs, search (rules, x_key)),
  (issued_runs, search (rules, x_key)),
  (met_runs, (omega arith, (refl, (refl, (refl, (omega arith, (omega arith, (tt, (refl, (refl, (no_empty_key, (omega arith, tt)))))))))))),
  run_more small start kept (Read 0 6 0 3 Cached (Next full_key None None)) kept_runs ((record { known = omega arith; alive = refl; free = refl }, record { there = refl; no_less = omega arith; within = omega arith; answer = record { result = tt; by = refl; entered = refl; node = full_key_is_key; within = omega arith } })),
  (kept_runs, (omega arith, (refl, (refl, (refl, (omega arith, (omega arith, (tt, (refl, (refl, (long_key_is_key, ((λ e. omega (arith, e)), tt)))))))))))),
  (kept_runs, (omega arith, (refl, (refl, (refl, (omega arith, (omega arith, (tt, (refl, (refl, (x_long_is_key, ((λ e. omega (arith, e)), tt)))))))))))),
)

pub level_examples : LevelExamples
level_examples = (
  run_more small start commit_issued (Level 0 6 0) commit_issued_runs back_to_0,
  run_more small start nothing (Level 0 4 1) nothing_runs ((record { known = omega arith; alive = refl }, record { near = refl; ended = λ e. absurd (omega arith) })),
  run_more small start level_two (Level 0 6 1) level_two_runs ((record { known = omega arith; alive = refl }, record { near = refl; ended = λ e. absurd (omega arith) })),
  run_more small start level_two (Level 0 6 0) level_two_runs ((record { known = omega arith; alive = refl }, record { near = refl; ended = λ e. elim [ zero ↦ refl | suc d ↦ let none : eqb (suc d) 0 ≡ false = ne_eqb (suc d) 0 (λ e. omega arith) in rw none refl ] })),
  run_more small start updated_lost (Level 0 6 0) updated_lost_runs ((record { known = omega arith; alive = refl }, record { near = refl; ended = λ e. elim [ zero ↦ refl | suc d ↦ let none : eqb (suc d) 0 ≡ false = ne_eqb (suc d) 0 (λ e. omega arith) in rw none refl ] })),
  run_more small start updated_next (Level 0 6 0) updated_next_runs ((record { known = omega arith; alive = refl }, record { near = refl; ended = λ e. elim [ zero ↦ refl | suc d ↦ let none : eqb (suc d) 0 ≡ false = ne_eqb (suc d) 0 (λ e. omega arith) in rw none refl ] })),
  (nothing_runs, search rules),
  (met_dead_runs, search rules),
  (nothing_runs, search rules),
  (level_one_runs, search rules),
  (updated_runs, (omega arith, (refl, (refl, ((λ e. absurd (cc (e refl 0))), tt))))),
  (commit_issued_runs, (omega arith, (refl, (refl, ((λ e. absurd (cc (e refl 0))), tt))))),
  (updated_runs, (omega arith, (refl, (refl, ((λ e. absurd (cc (e refl 0))), tt))))),
  (updated_other_runs, (omega arith, (refl, (refl, ((λ e. absurd (cc (e refl 0))), tt))))),
  (updated_both_runs, (omega arith, (refl, (refl, ((λ e. absurd (cc (e refl 0))), tt))))),
)

pub done_examples : DoneExamples
done_examples = (
  run_more small start nothing (Done 0 4) nothing_runs (record { known = omega arith; alive = refl }),
  (nothing_runs, search rules),
  (met_dead_runs, search rules),
)

pub refused_examples : RefusedExamples
refused_examples = (
  run_more small start nothing (RefusedAct 0 4 NoTransaction) nothing_runs ((record { known = omega arith; alive = refl }, refl)),
  (nothing_runs, search rules),
  (met_dead_runs, search rules),
  (level_one_runs, search rules),
  (nothing_runs, search rules),
  run_more small start updated_lost (RefusedAct 0 6 RollbackOnly) updated_lost_runs ((record { known = omega arith; alive = refl }, refl)),
  (updated_dead_runs, search rules),
  (updated_runs, search rules),
  run_more small start quitted (RefusedAct 0 5 LockTimeout) quitted_runs ((record { known = omega arith; alive = refl }, refl)),
  (quitted_dead_runs, search rules),
  (quitted_runs, search rules),
  run_more small start barred (RefusedAct 0 6 (Network 0 Recovery Reset)) barred_runs ((record { known = omega arith; alive = refl }, record { news = refl; bar = refl; its_state = refl })),
  run_more small start updated_lost (RefusedAct 0 6 (Network 0 Trouble Expired)) updated_lost_runs ((record { known = omega arith; alive = refl }, record { news = refl; bar = refl; its_state = refl })),
  run_more small start connect_failed (RefusedAct 0 6 (Network 0 NotConnected NoWay)) connect_failed_runs ((record { known = omega arith; alive = refl }, record { news = refl; bar = refl; its_state = refl })),
  (no_way_dead_runs, search rules),
  (met_runs, search rules),
  (connect_failed_runs, search rules),
  (used_no_way_runs, search rules),
  (barred_runs, search rules),
  (barred_runs, search rules),
  (barred_runs, search rules),
  (updated_lost_runs, search rules),
  (updated_lost_runs, search rules),
  (updated_lost_runs, search rules),
  (connect_failed_runs, search rules),
  (connect_failed_runs, search rules),
  (connect_failed_runs, search rules),
)

-- levels above levels are a run
climbs : (p : Plain) (m n : ℕ) → p.died_at 0 ≡ false → (p.job_at 0).level ≡ m → RunFrom small p (levels m n)
climbs p m zero alive at = tt
climbs p m (suc n) alive at =
    ((record { known = omega arith; alive = alive }, record { near = near; ended = λ e. absurd (omega (arith, e)) }), climbs (after small p (Level 0 4 (m + 1))) (m + 1) n alive refl)
  where
    near : is_near (p.job_at 0).level (m + 1) ≡ true
    near = ap (λ k. (m + 1 == k + 1 || m + 1 + 1 == k) || m + 1 == 0) at ∙ ap (λ (b : Bool). (b || m + 1 + 1 == m) || m + 1 == 0) (eq-eqb (m + 1) (m + 1) refl)

pub too_deep_examples : TooDeepExamples
too_deep_examples = (
  run_more small start (levels 0 255) (RefusedAct 0 4 TooDeep) (climbs start 0 255 refl refl) (record { known = omega arith; alive = refl }, refl),
  (run_more small start (levels 0 255) (Died 0) (climbs start 0 255 refl refl) tt, (omega arith, ((λ e. absurd (cc (e))), (refl, tt)))),
  (climbs start 0 254 refl refl, (omega arith, (refl, ((λ e. omega (arith, e)), tt)))),
)
