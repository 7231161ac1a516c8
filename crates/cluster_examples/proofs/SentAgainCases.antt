-- A connection breaks, and a Recover in the same epoch sends again what the other end lacks.
use Rattle.std.proofs.Common.{refl, inl, inr, arith, [], ◌∷◌}
use Rattle.app_rules.specs.Issuing.{changes}
use Rattle.app_rules.specs.JobStep.{work_of}
use Rattle.cluster_examples.proofs.Frames.{app_outs_of, x_field, x_is_site, x_may}
use Rattle.cluster_examples.specs.Leading.{Leads}
use Rattle.cluster_examples.specs.Scenes.{down_frame, head, x_key}
use Rattle.cluster_runs.specs.CoresState.{app_at, job_at}
use Rattle.cluster_runs.specs.Moves.{Allowed}
use Rattle.cluster_runs.specs.Steps.{CoresStep, app_takes}
use Rattle.cluster_runs.specs.Views.{shown_at, with_shown}
use Rattle.plain_runs.specs.Run.{IsRun}
use Rattle.plain_orders.specs.declared.op.Op.TheVariants as ops
use Rattle.ecp_messages.specs.declared.down.Down.TheVariants as downs
use Rattle.app_job.specs.declared.answer.Answer.TheVariants as answers
use Rattle.app_rules.specs.declared.app_in.AppIn.TheVariants as app_in
use Rattle.cluster_examples.specs.SentAgain.{layout, first, issued_by, issued, reissued_by, reissued, entered_by, entered_node, entered, saved_by, saved_node, saved, left_by, left_node, left, broken_by, broken, joining_by, joining, dialed_by, dialed, accepted_by, accepted_node, accepted, recovered_by, recovered_node, recovered, welcomed_by, welcomed, dropped_by, dropped, acked_by, acked, reentered_by, reentered_node, reentered, RecoverSendsAgain}

issued_may : Allowed first issued_by.move
issued_may = record { alive = record { known = omega arith; placed = omega arith; alive = refl }; now_may = record { clock = refl; no_less = omega arith }; line_may = omega arith; may = record { within = (x_is_site, omega arith); known = omega arith } }

issued_step : CoresStep first issued_by issued
issued_step = record { answer = answers.Queued (record { server = 0; number = 1 } ∷ []); app_outs = app_outs_of issued_by; app = app_at issued 0; state = job_at issued 0; steps = record { turn = changes 0 (ops.Set x_key (49 ∷ [])) (work_of (app_at first 0) (job_at first 0) 0 7); turns = refl; answered = refl; app = refl; puts = refl; job = refl }; puts = refl; acts = refl; after = refl }

reissued_may : Allowed issued reissued_by.move
reissued_may = record { alive = record { known = omega arith; placed = omega arith; alive = refl }; now_may = record { clock = refl; no_less = omega arith }; line_may = omega arith; may = record { within = (x_is_site, omega arith); known = omega arith } }

reissued_step : CoresStep issued reissued_by reissued
reissued_step = record { answer = answers.Queued (record { server = 0; number = 2 } ∷ []); app_outs = app_outs_of reissued_by; app = app_at reissued 0; state = job_at reissued 0; steps = record { turn = changes 0 (ops.Set x_key (50 ∷ [])) (work_of (app_at issued 0) (job_at issued 0) 0 8); turns = refl; answered = refl; app = refl; puts = refl; job = refl }; puts = refl; acts = refl; after = refl }

entered_may : Allowed reissued entered_by.move
entered_may = record { known = omega arith; now_may = record { clock = refl; no_less = omega arith }; takes = (refl, refl); may = record { seq_fits = omega arith; ack_fits = omega arith; numbered = omega arith; fields = (omega arith, (omega arith, (omega arith, ((x_field, omega arith), tt)))); sum = refl } }

entered_step : CoresStep reissued entered_by entered
entered_step = record { data_outs = record { frames = entered_by.outs.downs; cuts = entered_by.outs.data_cuts; acts = entered_by.acts }; state = entered_node; steps = record { taken = _; takes = inl (record { made = record { fits = λ _. record { is_live = refl; is_next = refl; within = record { key_may = x_may; within = omega arith } }; after = refl } }); after = refl }; puts = refl; acts = refl; after = refl }

saved_may : Allowed entered saved_by.move
saved_may = record { known = omega arith; now_may = record { clock = refl; no_less = omega arith }; takes = tt; may = record { no_less = omega arith; within = omega arith } }

saved_step : CoresStep entered saved_by saved
saved_step = record { data_outs = record { frames = saved_by.outs.downs; cuts = saved_by.outs.data_cuts; acts = saved_by.acts }; state = saved_node; steps = refl; puts = refl; acts = refl; after = refl }

left_may : Allowed saved left_by.move
left_may = record { known = omega arith; now_may = record { clock = refl; no_less = omega arith }; takes = tt; may = tt }

left_step : CoresStep saved left_by left
left_step = record { data_outs = record { frames = left_by.outs.downs; cuts = left_by.outs.data_cuts; acts = left_by.acts }; state = left_node; steps = refl; puts = refl; acts = refl; after = refl }

broken_may : Allowed left broken_by.move
broken_may = record { known = omega arith; alive = refl; now_may = record { clock = refl; no_less = omega arith }; takes = tt; may = omega arith }

broken_step : CoresStep left broken_by broken
broken_step = record { app_outs = app_outs_of broken_by; state = app_at broken 0; shown = app_takes 0 (app_in.Broken 0) left; steps = refl; shows = refl; puts = refl; acts = refl; after = refl }

joining_may : Allowed broken joining_by.move
joining_may = record { known = omega arith; alive = refl; now_may = record { clock = refl; no_less = omega arith }; takes = tt; may = omega arith }

joining_step : CoresStep broken joining_by joining
joining_step = record { app_outs = app_outs_of joining_by; state = app_at joining 0; shown = app_takes 0 (app_in.Join 0) broken; steps = refl; shows = refl; puts = refl; acts = refl; after = refl }

dialed_may : Allowed joining dialed_by.move
dialed_may = record { known = omega arith; alive = refl; now_may = record { clock = refl; no_less = omega arith }; takes = tt; may = record { known = omega arith; tried = refl } }

dialed_step : CoresStep joining dialed_by dialed
dialed_step = record { app_outs = app_outs_of dialed_by; state = app_at dialed 0; shown = app_takes 0 (app_in.Connected 0) joining; steps = refl; shows = refl; puts = refl; acts = refl; after = refl }

accepted_may : Allowed dialed accepted_by.move
accepted_may = record { known = omega arith; now_may = record { clock = refl; no_less = omega arith }; takes = refl; may = refl }

accepted_step : CoresStep dialed accepted_by accepted
accepted_step = record { data_outs = record { frames = accepted_by.outs.downs; cuts = accepted_by.outs.data_cuts; acts = accepted_by.acts }; state = accepted_node; steps = refl; puts = refl; acts = refl; after = refl }

recovered_may : Allowed accepted recovered_by.move
recovered_may = record { known = omega arith; now_may = record { clock = refl; no_less = omega arith }; takes = (refl, record { unlinked = refl; first = refl }); may = record { seq_fits = omega arith; ack_fits = omega arith; numbered = refl; fields = (omega arith, (omega arith, (omega arith, (omega arith, (omega arith, tt))))); sum = refl } }

recovered_step : CoresStep accepted recovered_by recovered
recovered_step = record { data_outs = record { frames = recovered_by.outs.downs; cuts = recovered_by.outs.data_cuts; acts = recovered_by.acts }; state = recovered_node; steps = record { taken = _; takes = inl (inl (record { its = refl; later = omega arith; is_live = refl; same = refl; after = refl })); after = refl }; puts = refl; acts = refl; after = refl }

welcomed_may : Allowed recovered welcomed_by.move
welcomed_may = record { known = omega arith; alive = refl; now_may = record { clock = refl; no_less = omega arith }; takes = refl; may = record { known = omega arith; is_frame = record { seq_fits = omega arith; ack_fits = omega arith; numbered = refl; fields = (omega arith, (omega arith, (omega arith, (record { n_fits = omega arith; w_fits = omega arith; s_fits = omega arith }, (omega arith, tt))))); sum = refl } } }

welcomed_step : CoresStep recovered welcomed_by welcomed
welcomed_step = record { app_outs = app_outs_of welcomed_by; state = app_at welcomed 0; shown = with_shown 0 0 (shown_at welcomed 0 0) (app_takes 0 (app_in.Frame 0 (down_frame 0 2 (downs.Welcome 2 1 3 (head 3 1 1) 2))) recovered); steps = record { taken = _; takes = inr (inl (record { asked = record { asking = refl; its = refl; below = omega arith }; same = refl; after = refl })); after = refl }; shows = record { shown = shown_at welcomed 0 0; shows = refl; after = refl }; puts = refl; acts = refl; after = refl }

dropped_may : Allowed welcomed dropped_by.move
dropped_may = record { known = omega arith; alive = refl; now_may = record { clock = refl; no_less = omega arith }; takes = refl; may = record { known = omega arith; is_frame = record { seq_fits = omega arith; ack_fits = omega arith; numbered = omega arith; fields = (record { n_fits = omega arith; w_fits = omega arith; s_fits = omega arith }, (omega arith, (omega arith, tt))); sum = refl } } }

dropped_step : CoresStep welcomed dropped_by dropped
dropped_step = record { app_outs = app_outs_of dropped_by; state = app_at dropped 0; shown = with_shown 0 0 (shown_at dropped 0 0) (app_takes 0 (app_in.Frame 0 (down_frame 2 2 (downs.Drop (head 3 1 0) [] (255 ∷ [])))) welcomed); steps = record { taken = _; takes = inl (record { ahead = refl; made = refl }); after = refl }; shows = record { shown = shown_at dropped 0 0; shows = refl; after = refl }; puts = refl; acts = refl; after = refl }

acked_may : Allowed dropped acked_by.move
acked_may = record { known = omega arith; alive = refl; now_may = record { clock = refl; no_less = omega arith }; takes = refl; may = record { known = omega arith; is_frame = record { seq_fits = omega arith; ack_fits = omega arith; numbered = omega arith; fields = (record { n_fits = omega arith; w_fits = omega arith; s_fits = omega arith }, tt); sum = refl } } }

acked_step : CoresStep dropped acked_by acked
acked_step = record { app_outs = app_outs_of acked_by; state = app_at acked 0; shown = with_shown 0 0 (shown_at acked 0 0) (app_takes 0 (app_in.Frame 0 (down_frame 3 2 (downs.Ack (head 3 1 1)))) dropped); steps = record { taken = _; takes = inl (record { ahead = refl; made = refl }); after = refl }; shows = record { shown = shown_at acked 0 0; shows = refl; after = refl }; puts = refl; acts = refl; after = refl }

reentered_may : Allowed acked reentered_by.move
reentered_may = record { known = omega arith; now_may = record { clock = refl; no_less = omega arith }; takes = (refl, refl); may = record { seq_fits = omega arith; ack_fits = omega arith; numbered = omega arith; fields = (omega arith, (omega arith, (omega arith, ((x_field, omega arith), tt)))); sum = refl } }

reentered_step : CoresStep acked reentered_by reentered
reentered_step = record { data_outs = record { frames = reentered_by.outs.downs; cuts = reentered_by.outs.data_cuts; acts = reentered_by.acts }; state = reentered_node; steps = record { taken = _; takes = inl (record { made = record { fits = λ _. record { is_live = refl; is_next = refl; within = record { key_may = x_may; within = omega arith } }; after = refl } }); after = refl }; puts = refl; acts = refl; after = refl }

is_run : IsRun layout reentered.trail
is_run = (record { fresh = refl; ordered = tt; low = omega arith }, (record { opened = refl; place = refl; alone = refl; up = refl }, (record { opened = refl; no_less = omega arith; within = omega arith }, ((refl, record { place = refl; synced = omega arith; entered = refl; not_lost = refl; fresh = refl; none = refl }), ((record { known = omega arith; alive = refl; free = refl }, record { there = refl; no_less = omega arith; within = omega arith; answer = record { result = refl; by = refl; node = x_may } }), ((record { known = omega arith; alive = refl; free = refl }, record { there = refl; unbroken = refl; next = refl; its = record { key_may = x_may; within = omega arith } }), ((record { known = omega arith; alive = refl; free = refl }, record { there = refl; unbroken = refl; next = refl; its = record { key_may = x_may; within = omega arith } }), (record { is_live = refl; told = refl; next = refl; issued = refl }, (record { opened = refl; no_less = omega arith; within = omega arith }, (record { now = refl; has_live = refl }, (record { alive = refl; now = refl; there = refl; fresh = refl }, (record { alive = refl; broken = refl }, (record { is_live = refl; told = refl; next = refl; issued = refl }, tt)))))))))))))

leads : Leads first (issued_by ∷ reissued_by ∷ entered_by ∷ saved_by ∷ left_by ∷ broken_by ∷ joining_by ∷ dialed_by ∷ accepted_by ∷ recovered_by ∷ welcomed_by ∷ dropped_by ∷ acked_by ∷ reentered_by ∷ []) reentered
leads = (issued, issued_may, issued_step, (reissued, reissued_may, reissued_step, (entered, entered_may, entered_step, (saved, saved_may, saved_step, (left, left_may, left_step, (broken, broken_may, broken_step, (joining, joining_may, joining_step, (dialed, dialed_may, dialed_step, (accepted, accepted_may, accepted_step, (recovered, recovered_may, recovered_step, (welcomed, welcomed_may, welcomed_step, (dropped, dropped_may, dropped_step, (acked, acked_may, acked_step, (reentered, reentered_may, reentered_step, refl))))))))))))))

pub recover_sends_again : RecoverSendsAgain
recover_sends_again = (leads, is_run)
