-- The Cancel of a lock crosses its Grant.
use Rattle.std.proofs.Common.{refl, inl, arith, [], ◌∷◌, Some, None, false}
use Rattle.app_rules.specs.JobStep.{work_of}
use Rattle.app_rules.specs.Locking.{lock_turn, unlock_turn}
use Rattle.cluster_examples.proofs.Frames.{a_field, a_is_site, a_may, app_outs_of}
use Rattle.cluster_examples.specs.Leading.{Leads}
use Rattle.cluster_examples.specs.Scenes.{a, down_frame, head}
use Rattle.cluster_runs.specs.CoresState.{app_at, job_at}
use Rattle.cluster_runs.specs.Moves.{Allowed}
use Rattle.cluster_runs.specs.Steps.{CoresStep, app_takes}
use Rattle.cluster_runs.specs.Views.{shown_at, with_shown}
use Rattle.plain_runs.specs.Run.{IsRun}
use Rattle.plain_orders.specs.declared.mode.Mode.TheVariants as modes
use Rattle.app_job.specs.declared.refusal.Refusal.TheVariants as refusals
use Rattle.ecp_messages.specs.declared.down.Down.TheVariants as downs
use Rattle.app_job.specs.declared.answer.Answer.TheVariants as answers
use Rattle.app_job.specs.declared.why.Why.TheVariants as why
use Rattle.app_rules.specs.declared.app_in.AppIn.TheVariants as app_in
use Rattle.cluster_examples.specs.CrossingCancel.{layout, first, ticked_by, ticked, timed_out_by, timed_out, unlocked_by, unlocked, granted_by, granted_node, granted, crossed_by, crossed, asking_by, asking, queued_by, queued_node, queued, cancelled_by, cancelled_node, cancelled, answered_by, answered, held_by, held, CancelCrossesGrant}

ticked_may : Allowed first ticked_by.move
ticked_may = tt

ticked_step : CoresStep first ticked_by ticked
ticked_step = record { puts = refl; acts = refl; after = refl }

timed_out_may : Allowed ticked timed_out_by.move
timed_out_may = record { alive = record { known = omega arith; placed = omega arith; alive = refl }; now_may = record { clock = refl; no_less = omega arith }; line_may = (refl, refl); may = record { within = (a_is_site, (omega arith, omega arith)); known = omega arith } }

timed_out_step : CoresStep ticked timed_out_by timed_out
timed_out_step = record { answer = answers.Refused refusals.LockTimeout; app_outs = app_outs_of timed_out_by; app = app_at timed_out 1; state = job_at timed_out 1; steps = record { turn = lock_turn a modes.Exclusive (Some 1) 1 (work_of (app_at ticked 1) (job_at ticked 1) 1 9); turns = refl; answered = refl; app = refl; puts = refl; job = refl }; puts = refl; acts = refl; after = refl }

unlocked_may : Allowed timed_out unlocked_by.move
unlocked_may = record { alive = record { known = omega arith; placed = omega arith; alive = refl }; now_may = record { clock = refl; no_less = omega arith }; line_may = omega arith; may = record { within = a_is_site; known = omega arith } }

unlocked_step : CoresStep timed_out unlocked_by unlocked
unlocked_step = record { answer = answers.Done; app_outs = app_outs_of unlocked_by; app = app_at unlocked 0; state = job_at unlocked 0; steps = record { turn = unlock_turn a modes.Exclusive false (work_of (app_at timed_out 0) (job_at timed_out 0) 1 10); turns = refl; answered = refl; app = refl; puts = refl; job = refl }; puts = refl; acts = refl; after = refl }

granted_may : Allowed unlocked granted_by.move
granted_may = record { known = omega arith; now_may = record { clock = refl; no_less = omega arith }; takes = (refl, refl); may = record { seq_fits = omega arith; ack_fits = omega arith; numbered = omega arith; fields = (omega arith, (tt, (a_field, tt))); sum = refl } }

granted_step : CoresStep unlocked granted_by granted
granted_step = record { data_outs = record { frames = granted_by.outs.downs; cuts = granted_by.outs.data_cuts; acts = granted_by.acts }; state = granted_node; steps = record { taken = _; takes = inl (record { made = record { after = refl } }); after = refl }; puts = refl; acts = refl; after = refl }

crossed_may : Allowed granted crossed_by.move
crossed_may = record { known = omega arith; alive = refl; now_may = record { clock = refl; no_less = omega arith }; takes = refl; may = record { known = omega arith; is_frame = record { seq_fits = omega arith; ack_fits = omega arith; numbered = omega arith; fields = (record { n_fits = omega arith; w_fits = omega arith; s_fits = omega arith }, (omega arith, (omega arith, tt))); sum = refl } } }

crossed_step : CoresStep granted crossed_by crossed
crossed_step = record { app_outs = app_outs_of crossed_by; state = app_at crossed 1; shown = with_shown 1 0 (shown_at crossed 1 0) (app_takes 1 (app_in.Frame 0 (down_frame 1 1 (downs.Grant (head 3 0 0) 1 3))) granted); steps = record { taken = _; takes = inl (record { ahead = refl; made = refl }); after = refl }; shows = record { shown = shown_at crossed 1 0; shows = refl; after = refl }; puts = refl; acts = refl; after = refl }

asking_may : Allowed crossed asking_by.move
asking_may = record { alive = record { known = omega arith; placed = omega arith; alive = refl }; now_may = record { clock = refl; no_less = omega arith }; line_may = omega arith; may = record { within = (a_is_site, tt); known = omega arith } }

asking_step : CoresStep crossed asking_by asking
asking_step = record { answer = answers.Waiting why.Grant; app_outs = app_outs_of asking_by; app = app_at asking 0; state = job_at asking 0; steps = record { turn = lock_turn a modes.Exclusive None 1 (work_of (app_at crossed 0) (job_at crossed 0) 1 11); turns = refl; answered = refl; app = refl; puts = refl; job = refl }; puts = refl; acts = refl; after = refl }

queued_may : Allowed asking queued_by.move
queued_may = record { known = omega arith; now_may = record { clock = refl; no_less = omega arith }; takes = (refl, refl); may = record { seq_fits = omega arith; ack_fits = omega arith; numbered = omega arith; fields = (omega arith, (omega arith, (tt, (a_field, tt)))); sum = refl } }

queued_step : CoresStep asking queued_by queued
queued_step = record { data_outs = record { frames = queued_by.outs.downs; cuts = queued_by.outs.data_cuts; acts = queued_by.acts }; state = queued_node; steps = record { taken = _; takes = inl (record { made = record { after = refl } }); after = refl }; puts = refl; acts = refl; after = refl }

cancelled_may : Allowed queued cancelled_by.move
cancelled_may = record { known = omega arith; now_may = record { clock = refl; no_less = omega arith }; takes = (refl, refl); may = record { seq_fits = omega arith; ack_fits = omega arith; numbered = omega arith; fields = (omega arith, tt); sum = refl } }

cancelled_step : CoresStep queued cancelled_by cancelled
cancelled_step = record { data_outs = record { frames = cancelled_by.outs.downs; cuts = cancelled_by.outs.data_cuts; acts = cancelled_by.acts }; state = cancelled_node; steps = record { taken = _; takes = inl (record { made = record { after = refl } }); after = refl }; puts = refl; acts = refl; after = refl }

answered_may : Allowed cancelled answered_by.move
answered_may = record { known = omega arith; alive = refl; now_may = record { clock = refl; no_less = omega arith }; takes = refl; may = record { known = omega arith; is_frame = record { seq_fits = omega arith; ack_fits = omega arith; numbered = omega arith; fields = (record { n_fits = omega arith; w_fits = omega arith; s_fits = omega arith }, (omega arith, (omega arith, tt))); sum = refl } } }

answered_step : CoresStep cancelled answered_by answered
answered_step = record { app_outs = app_outs_of answered_by; state = app_at answered 0; shown = with_shown 0 0 (shown_at answered 0 0) (app_takes 0 (app_in.Frame 0 (down_frame 2 3 (downs.Grant (head 3 0 0) 2 3))) cancelled); steps = record { taken = _; takes = inl (record { ahead = refl; made = refl }); after = refl }; shows = record { shown = shown_at answered 0 0; shows = refl; after = refl }; puts = refl; acts = refl; after = refl }

held_may : Allowed answered held_by.move
held_may = record { alive = record { known = omega arith; placed = omega arith; alive = refl }; now_may = record { clock = refl; no_less = omega arith }; line_may = (refl, refl); may = record { within = (a_is_site, tt); known = omega arith } }

held_step : CoresStep answered held_by held
held_step = record { answer = answers.Granted 3; app_outs = app_outs_of held_by; app = app_at held 0; state = job_at held 0; steps = record { turn = lock_turn a modes.Exclusive None 1 (work_of (app_at answered 0) (job_at answered 0) 1 11); turns = refl; answered = refl; app = refl; puts = refl; job = refl }; puts = refl; acts = refl; after = refl }

is_run : IsRun layout held.trail
is_run = (record { fresh = refl; ordered = tt; low = omega arith }, (record { opened = refl; place = refl; alone = refl; up = refl }, (record { opened = refl; no_less = omega arith; within = omega arith }, ((refl, record { place = refl; synced = omega arith; entered = refl; not_lost = refl; fresh = refl; none = refl }), (record { is_live = refl; up = refl; here = refl; free = refl; node = a_may }, ((record { known = omega arith; alive = refl; free = refl }, record { session = refl; sent = refl; synced = omega arith }), (record { opened = refl; place = refl; alone = refl; up = refl }, (record { opened = refl; no_less = omega arith; within = omega arith }, ((refl, record { place = refl; synced = omega arith; entered = refl; not_lost = refl; fresh = refl; none = refl }), (tt, ((record { known = omega arith; alive = refl; free = refl }, record { session = refl; node = a_may }), ((record { known = omega arith; alive = refl }, refl), ((record { known = omega arith; alive = refl; free = refl }, record { session = refl; answered = refl }), (record { known = omega arith; alive = refl }, (record { given = refl; entered = refl }, (record { is_live = refl; up = refl; here = refl; free = refl; node = a_may }, (record { given = refl; entered = refl }, (record { is_live = refl; up = refl; here = refl; free = refl; node = a_may }, ((record { known = omega arith; alive = refl; free = refl }, record { session = refl; sent = refl; synced = omega arith }), tt)))))))))))))))))))

leads : Leads first (ticked_by ∷ timed_out_by ∷ unlocked_by ∷ granted_by ∷ crossed_by ∷ asking_by ∷ queued_by ∷ cancelled_by ∷ answered_by ∷ held_by ∷ []) held
leads = (ticked, ticked_may, ticked_step, (timed_out, timed_out_may, timed_out_step, (unlocked, unlocked_may, unlocked_step, (granted, granted_may, granted_step, (crossed, crossed_may, crossed_step, (asking, asking_may, asking_step, (queued, queued_may, queued_step, (cancelled, cancelled_may, cancelled_step, (answered, answered_may, answered_step, (held, held_may, held_step, refl))))))))))

pub cancel_crosses_grant : CancelCrossesGrant
cancel_crosses_grant = (leads, is_run)
