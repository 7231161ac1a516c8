-- Examples of the commands of a job; and of steps that are refused since one condition fails: it is named above each.
use Rattle.std.proofs.Common.{refl, inl, arith, true, false, Some, None, [], ◌∷◌}
use Rattle.plain_orders.specs.declared.mode.Mode.TheVariants.{Exclusive}
use Rattle.plain_orders.specs.declared.op.Op.TheVariants as ops
use Rattle.app_job.specs.declared.command.Command.TheVariants.{Get, Start, Commit}
use Rattle.app_job.specs.declared.refusal.Refusal.TheVariants as refusals
use Rattle.app_job.specs.declared.reason.Reason.TheVariants as reasons
use Rattle.plain_orders.specs.declared.refused.LinkName.TheVariants as names
use Rattle.app_rules.specs.AppState.{no_end}
use Rattle.ecp_messages.specs.declared.about.About.TheVariants.{Counted, Synced}
use Rattle.std.specs.Prelude.{pos}
use Rattle.app_rules.specs.Works.{begun, sets}
use Rattle.app_rules.specs.Refusing.{refuses}
use Rattle.app_rules.specs.Issuing.{changes, increments}
use Rattle.app_rules.specs.Reading.{get_turn}
use Rattle.app_rules.specs.Locking.{lock_turn, unlock_turn}
use Rattle.app_rules.specs.Ending.{start_turn, commit_turn, rollback_turn, sync_turn}
use Rattle.app_rules.specs.Delivering.{with_drop, with_grant, with_answer}
use Rattle.app_rules.specs.Downs.{took, acknowledged}
use Rattle.app_rules.specs.JobStep.{work_of}
use Rattle.app_examples.specs.Apps.{app_with, head, x, joined, joined_with, unused, issued, broken_with, new_job, user, lost_end}
use Rattle.app_examples.specs.JobExamples.{AnswerExamples, adding, counted, adder, syncing, synced, GetExamples, LockExamples, TransactionExamples, begun_at, fetching, asking, cancelled, granted, within, inner, holding_back, cached, ticketed, waiter}

pub get_examples : GetExamples
get_examples = (
  record { turn = get_turn x (work_of (app_with no_end) new_job 4 3); turns = refl; answered = refl; app = refl; puts = refl; job = refl },
  record { turn = get_turn x (work_of (app_with (broken_with unused)) new_job 6 3); turns = refl; answered = refl; app = refl; puts = refl; job = refl },
  record { turn = changes 0 (ops.Set (120 ∷ 0 ∷ []) (53 ∷ [])) (work_of (app_with joined) new_job 4 3); turns = refl; answered = refl; app = refl; puts = refl; job = refl },
  record { turn = get_turn x (work_of (app_with (joined_with issued)) user 4 3); turns = refl; answered = refl; app = refl; puts = refl; job = refl },
  record { turn = sync_turn 0 (work_of (app_with (joined_with issued)) user 4 3); turns = refl; answered = refl; app = refl; puts = refl; job = refl },
  record { turn = get_turn x (work_of (app_with joined) new_job 4 3); turns = refl; answered = refl; app = refl; puts = refl; job = refl },
  record {
    turn = get_turn x (work_of (app_with (joined_with fetching)) (record user { progress = Some (record (begun_at 4) { fetched = true }) }) 5 3);
    turns = refl;
    answered = refl;
    app = refl;
    puts = refl;
    job = refl;
  },
  record { turn = get_turn x (work_of (app_with cached) user 4 3); turns = refl; answered = refl; app = refl; puts = refl; job = refl },
  record {
    taken = sets 0 (with_drop (record { lo = 120 ∷ 0 ∷ []; hi = 120 ∷ 0 ∷ 255 ∷ [] })) (sets 0 (took 1 0 (head 3 0 0)) (begun (app_with cached)));
    takes = inl (record { ahead = refl; made = refl });
    after = refl;
  },
  record { within = tt; known = omega arith; used = refl },
  (λ may. omega (arith, may.known)),
  (λ may. omega (arith, may.within.1)),
  (λ may. absurd (cc (may.used))),
)

pub lock_examples : LockExamples
lock_examples = (
  record { turn = lock_turn x Exclusive (Some 3) 10 (work_of (app_with joined) user 10 3); turns = refl; answered = refl; app = refl; puts = refl; job = refl },
  record {
    turn = lock_turn x Exclusive (Some 3) 12 (work_of (app_with (ticketed asking)) waiter 12 3);
    turns = refl;
    answered = refl;
    app = refl;
    puts = refl;
    job = refl;
  },
  record {
    turn = lock_turn x Exclusive (Some 3) 13 (work_of (app_with (ticketed asking)) waiter 13 3);
    turns = refl;
    answered = refl;
    app = refl;
    puts = refl;
    job = refl;
  },
  record {
    taken = sets 0 (with_grant 1 3) (sets 0 (took 1 1 (head 3 0 0)) (begun (app_with (ticketed cancelled))));
    takes = inl (record { ahead = refl; made = refl });
    after = refl;
  },
  record {
    taken = sets 0 (with_grant 1 3) (sets 0 (took 1 1 (head 3 0 0)) (begun (app_with (ticketed asking))));
    takes = inl (record { ahead = refl; made = refl });
    after = refl;
  },
  record {
    turn = lock_turn x Exclusive (Some 3) 13 (work_of (app_with (ticketed granted)) waiter 13 3);
    turns = refl;
    answered = refl;
    app = refl;
    puts = refl;
    job = refl;
  },
  record { turn = unlock_turn x Exclusive false (work_of (app_with joined) user 10 3); turns = refl; answered = refl; app = refl; puts = refl; job = refl },
)

pub transaction_examples : TransactionExamples
transaction_examples = (
  record { turn = start_turn (work_of (app_with joined) user 4 3); turns = refl; answered = refl; app = refl; puts = refl; job = refl },
  record { turn = unlock_turn x Exclusive false (work_of (app_with (joined_with within)) inner 4 3); turns = refl; answered = refl; app = refl; puts = refl; job = refl },
  record { turn = commit_turn false (work_of (app_with (joined_with within)) holding_back 4 3); turns = refl; answered = refl; app = refl; puts = refl; job = refl },
  record { turn = refuses refusals.NoTransaction (Commit false) (work_of (app_with joined) user 4 3); turns = refl; answered = refl; app = refl; puts = refl; job = refl },
  record { turn = refuses refusals.TooDeep Start (work_of (app_with joined) (record user { level = 255; txn = 1 }) 4 3); turns = refl; answered = refl; app = refl; puts = refl; job = refl },
  record {
    turn = refuses (refusals.Network 0 names.Trouble (reasons.Expired 5 105)) (Get x) (work_of (app_with lost_end) inner 106 3);
    turns = refl;
    answered = refl;
    app = refl;
    puts = refl;
    job = refl;
  },
  record { turn = refuses refusals.RollbackOnly (Get x) (work_of (app_with lost_end) (record inner { used = None ∷ [] }) 106 3); turns = refl; answered = refl; app = refl; puts = refl; job = refl },
  record { turn = rollback_turn (work_of (app_with lost_end) (record inner { used = None ∷ [] }) 106 3); turns = refl; answered = refl; app = refl; puts = refl; job = refl },
)

pub answer_examples : AnswerExamples
answer_examples = (
  record { turn = increments 0 (120 ∷ 0 ∷ []) (pos 5) (work_of (app_with joined) user 4 3); turns = refl; answered = refl; app = refl; puts = refl; job = refl },
  record {
    taken = sets 0 (with_answer Counted 1 3 (pos 11)) (sets 0 (took 1 1 (head 3 1 1)) (begun (app_with (joined_with adding))));
    takes = inl (record { ahead = refl; made = refl });
    after = refl;
  },
  record { turn = increments 0 (120 ∷ 0 ∷ []) (pos 5) (work_of (app_with (joined_with counted)) adder 6 3); turns = refl; answered = refl; app = refl; puts = refl; job = refl },
  record { taken = acknowledged 0 1 (begun (app_with (joined_with counted))); takes = refl; after = refl },
  record { turn = sync_turn 0 (work_of (app_with joined) user 4 3); turns = refl; answered = refl; app = refl; puts = refl; job = refl },
  record {
    taken = sets 0 (with_answer Synced 1 2 (pos 0)) (sets 0 (took 1 1 (head 2 0 0)) (begun (app_with (ticketed syncing))));
    takes = inl (record { ahead = refl; made = refl });
    after = refl;
  },
  record {
    turn = sync_turn 0 (work_of (app_with (ticketed synced)) (record user { progress = Some (begun_at 4) }) 6 3);
    turns = refl;
    answered = refl;
    app = refl;
    puts = refl;
    job = refl;
  },
)
