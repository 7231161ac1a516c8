-- A data server crashes before it saved an item; a round, a Claim, and the item again.
use Rattle.std.proofs.Common.{refl, inl, inr, arith, [], ◌∷◌}
use Rattle.cluster_examples.proofs.Frames.{a_field, a_may, app_outs_of, x_field, x_may}
use Rattle.cluster_examples.specs.Leading.{Leads}
use Rattle.cluster_examples.specs.Scenes.{down_frame, head}
use Rattle.cluster_runs.specs.CoresState.{app_at}
use Rattle.cluster_runs.specs.Moves.{Allowed}
use Rattle.cluster_runs.specs.Steps.{CoresStep, app_takes}
use Rattle.cluster_runs.specs.Views.{shown_at, with_shown}
use Rattle.plain_runs.specs.Run.{IsRun}
use Rattle.ecp_messages.specs.declared.down.Down.TheVariants as downs
use Rattle.app_rules.specs.declared.app_in.AppIn.TheVariants as app_in
use Rattle.cluster_examples.specs.Crash.{layout, first, halted_by, halted, began_by, began, saved_epoch_by, saved_epoch_node, saved_epoch, broken_by, broken, joining_by, joining, dialed_by, dialed, accepted_by, accepted_node, accepted, returned_by, returned_node, returned, learned_by, learned, claimed_by, claimed_node, claimed, reentered_by, reentered_node, reentered, back_by, back_node, back, normal_by, normal, saved_by, saved_node, saved, CrashIsMended}

halted_may : Allowed first halted_by.move
halted_may = record { known = omega arith; is_up = refl }

halted_step : CoresStep first halted_by halted
halted_step = record { puts = refl; acts = refl; after = refl }

began_may : Allowed halted began_by.move
began_may = record { known = omega arith; is_down = refl; now_may = record { clock = refl; no_less = omega arith }; kept = record { front = refl; no_less = omega arith }; low = omega arith }

began_step : CoresStep halted began_by began
began_step = record { puts = refl; acts = refl; after = refl }

saved_epoch_may : Allowed began saved_epoch_by.move
saved_epoch_may = record { known = omega arith; now_may = record { clock = refl; no_less = omega arith }; takes = tt; may = record { no_less = omega arith; within = omega arith } }

saved_epoch_step : CoresStep began saved_epoch_by saved_epoch
saved_epoch_step = record { data_outs = record { frames = saved_epoch_by.outs.downs; cuts = saved_epoch_by.outs.data_cuts; acts = saved_epoch_by.acts }; state = saved_epoch_node; steps = refl; puts = refl; acts = refl; after = refl }

broken_may : Allowed saved_epoch broken_by.move
broken_may = record { known = omega arith; alive = refl; now_may = record { clock = refl; no_less = omega arith }; takes = tt; may = omega arith }

broken_step : CoresStep saved_epoch broken_by broken
broken_step = record { app_outs = app_outs_of broken_by; state = app_at broken 0; shown = app_takes 0 (app_in.Broken 0) saved_epoch; steps = refl; shows = refl; puts = refl; acts = refl; after = refl }

joining_may : Allowed broken joining_by.move
joining_may = record { known = omega arith; alive = refl; now_may = record { clock = refl; no_less = omega arith }; takes = tt; may = omega arith }

joining_step : CoresStep broken joining_by joining
joining_step = record { app_outs = app_outs_of joining_by; state = app_at joining 0; shown = app_takes 0 (app_in.Join 0) broken; steps = refl; shows = refl; puts = refl; acts = refl; after = refl }

dialed_may : Allowed joining dialed_by.move
dialed_may = record { known = omega arith; alive = refl; now_may = record { clock = refl; no_less = omega arith }; takes = tt; may = record { known = omega arith; tried = refl } }

dialed_step : CoresStep joining dialed_by dialed
dialed_step = record { app_outs = app_outs_of dialed_by; state = app_at dialed 0; shown = app_takes 0 (app_in.Connected 0) joining; steps = refl; shows = refl; puts = refl; acts = refl; after = refl }

accepted_may : Allowed dialed accepted_by.move
accepted_may = record { known = omega arith; now_may = record { clock = refl; no_less = omega arith }; takes = refl; may = refl }

accepted_step : CoresStep dialed accepted_by accepted
accepted_step = record { data_outs = record { frames = accepted_by.outs.downs; cuts = accepted_by.outs.data_cuts; acts = accepted_by.acts }; state = accepted_node; steps = refl; puts = refl; acts = refl; after = refl }

returned_may : Allowed accepted returned_by.move
returned_may = record { known = omega arith; now_may = record { clock = refl; no_less = omega arith }; takes = (refl, record { unlinked = refl; first = refl }); may = record { seq_fits = omega arith; ack_fits = omega arith; numbered = refl; fields = (omega arith, (omega arith, (omega arith, (omega arith, (omega arith, tt))))); sum = refl } }

returned_step : CoresStep accepted returned_by returned
returned_step = record { data_outs = record { frames = returned_by.outs.downs; cuts = returned_by.outs.data_cuts; acts = returned_by.acts }; state = returned_node; steps = record { taken = _; takes = inl (inr (inl (record { its = refl; later = omega arith; is_live = refl; older = omega arith; kept = 2; known = refl; after = refl }))); after = refl }; puts = refl; acts = refl; after = refl }

learned_may : Allowed returned learned_by.move
learned_may = record { known = omega arith; alive = refl; now_may = record { clock = refl; no_less = omega arith }; takes = refl; may = record { known = omega arith; is_frame = record { seq_fits = omega arith; ack_fits = omega arith; numbered = refl; fields = (omega arith, (omega arith, (omega arith, (record { n_fits = omega arith; w_fits = omega arith; s_fits = omega arith }, (omega arith, tt))))); sum = refl } } }

learned_step : CoresStep returned learned_by learned
learned_step = record { app_outs = app_outs_of learned_by; state = app_at learned 0; shown = with_shown 0 0 (shown_at learned 0 0) (app_takes 0 (app_in.Frame 0 (down_frame 0 0 (downs.Welcome 2 2 2 (head 3 0 0) 0))) returned); steps = record { taken = _; takes = inr (inr (inl (record { asked = record { asking = refl; its = refl; below = omega arith }; later = omega arith; after = refl }))); after = refl }; shows = record { shown = shown_at learned 0 0; shows = refl; after = refl }; puts = refl; acts = refl; after = refl }

claimed_may : Allowed learned claimed_by.move
claimed_may = record { known = omega arith; now_may = record { clock = refl; no_less = omega arith }; takes = (refl, refl); may = record { seq_fits = omega arith; ack_fits = omega arith; numbered = omega arith; fields = (omega arith, (tt, ((omega arith, omega arith), (omega arith, (a_field, tt))))); sum = refl } }

claimed_step : CoresStep learned claimed_by claimed
claimed_step = record { data_outs = record { frames = claimed_by.outs.downs; cuts = claimed_by.outs.data_cuts; acts = claimed_by.acts }; state = claimed_node; steps = record { taken = _; takes = inl (record { made = record { awaited = refl; alone = refl; after = refl } }); after = refl }; puts = refl; acts = refl; after = refl }

reentered_may : Allowed claimed reentered_by.move
reentered_may = record { known = omega arith; now_may = record { clock = refl; no_less = omega arith }; takes = (refl, refl); may = record { seq_fits = omega arith; ack_fits = omega arith; numbered = omega arith; fields = (omega arith, (omega arith, (omega arith, ((x_field, omega arith), tt)))); sum = refl } }

reentered_step : CoresStep claimed reentered_by reentered
reentered_step = record { data_outs = record { frames = reentered_by.outs.downs; cuts = reentered_by.outs.data_cuts; acts = reentered_by.acts }; state = reentered_node; steps = record { taken = _; takes = inl (record { made = record { fits = λ _. record { is_live = refl; is_next = refl; within = record { key_may = x_may; within = omega arith } }; after = refl } }); after = refl }; puts = refl; acts = refl; after = refl }

back_may : Allowed reentered back_by.move
back_may = record { known = omega arith; now_may = record { clock = refl; no_less = omega arith }; takes = (refl, refl); may = record { seq_fits = omega arith; ack_fits = omega arith; numbered = omega arith; fields = tt; sum = refl } }

back_step : CoresStep reentered back_by back
back_step = record { data_outs = record { frames = back_by.outs.downs; cuts = back_by.outs.data_cuts; acts = back_by.acts }; state = back_node; steps = record { taken = _; takes = inl (record { made = record { awaited = refl; after = refl } }); after = refl }; puts = refl; acts = refl; after = refl }

normal_may : Allowed back normal_by.move
normal_may = record { known = omega arith; alive = refl; now_may = record { clock = refl; no_less = omega arith }; takes = refl; may = record { known = omega arith; is_frame = record { seq_fits = omega arith; ack_fits = omega arith; numbered = omega arith; fields = (record { n_fits = omega arith; w_fits = omega arith; s_fits = omega arith }, tt); sum = refl } } }

normal_step : CoresStep back normal_by normal
normal_step = record { app_outs = app_outs_of normal_by; state = app_at normal 0; shown = with_shown 0 0 (shown_at normal 0 0) (app_takes 0 (app_in.Frame 0 (down_frame 1 3 (downs.Normal (head 4 1 0)))) back); steps = record { taken = _; takes = inl (record { ahead = refl; made = refl }); after = refl }; shows = record { shown = shown_at normal 0 0; shows = refl; after = refl }; puts = refl; acts = refl; after = refl }

saved_may : Allowed normal saved_by.move
saved_may = record { known = omega arith; now_may = record { clock = refl; no_less = omega arith }; takes = tt; may = record { no_less = omega arith; within = omega arith } }

saved_step : CoresStep normal saved_by saved
saved_step = record { data_outs = record { frames = saved_by.outs.downs; cuts = saved_by.outs.data_cuts; acts = saved_by.acts }; state = saved_node; steps = refl; puts = refl; acts = refl; after = refl }

is_run : IsRun layout saved.trail
is_run = (record { fresh = refl; ordered = tt; low = omega arith }, (record { opened = refl; place = refl; alone = refl; up = refl }, (record { opened = refl; no_less = omega arith; within = omega arith }, ((refl, record { place = refl; synced = omega arith; entered = refl; not_lost = refl; fresh = refl; none = refl }), (record { is_live = refl; up = refl; here = refl; free = refl; node = a_may }, ((record { known = omega arith; alive = refl; free = refl }, record { session = refl; sent = refl; synced = omega arith }), ((record { known = omega arith; alive = refl; free = refl }, record { there = refl; unbroken = refl; next = refl; its = record { key_may = x_may; within = omega arith } }), (record { is_live = refl; told = refl; next = refl; issued = refl }, (record { opened = refl; no_less = omega arith; within = omega arith; low = omega arith }, (record { opened = refl; no_less = omega arith; within = omega arith }, (record { alive = refl; now = refl; there = refl; fresh = refl }, (record { alive = refl; broken = refl }, ((refl, record { its = refl; later = omega arith; place = refl }), (record { is_live = refl; told = refl; next = refl; issued = refl }, (record { recovering = refl; told = refl; counted = refl; closes = refl }, (record { opened = refl; no_less = omega arith; within = omega arith }, tt))))))))))))))))

leads : Leads first (halted_by ∷ began_by ∷ saved_epoch_by ∷ broken_by ∷ joining_by ∷ dialed_by ∷ accepted_by ∷ returned_by ∷ learned_by ∷ claimed_by ∷ reentered_by ∷ back_by ∷ normal_by ∷ saved_by ∷ []) saved
leads = (halted, halted_may, halted_step, (began, began_may, began_step, (saved_epoch, saved_epoch_may, saved_epoch_step, (broken, broken_may, broken_step, (joining, joining_may, joining_step, (dialed, dialed_may, dialed_step, (accepted, accepted_may, accepted_step, (returned, returned_may, returned_step, (learned, learned_may, learned_step, (claimed, claimed_may, claimed_step, (reentered, reentered_may, reentered_step, (back, back_may, back_step, (normal, normal_may, normal_step, (saved, saved_may, saved_step, refl))))))))))))))

pub crash_is_mended : CrashIsMended
crash_is_mended = (leads, is_run)
