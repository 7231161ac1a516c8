-- The first worked run from the beginning: a job sets a node on a fresh server and reads it, move by move.
use Rattle.std.proofs.Common.{refl, inl, arith, [], ◌∷◌, Some}
use Rattle.app_rules.specs.Issuing.{changes}
use Rattle.app_rules.specs.JobStep.{work_of}
use Rattle.app_rules.specs.Reading.{get_turn}
use Rattle.cluster_examples.proofs.Frames.{app_outs_of, block_5_is, x_field, x_is_site, x_may, x_sought}
use Rattle.cluster_examples.specs.Scenes.{block_5, down_frame, head, run_of, x, x_is_5, x_key}
use Rattle.cluster_runs.specs.CoresState.{app_at, job_at, start}
use Rattle.cluster_runs.specs.Moves.{Allowed}
use Rattle.cluster_runs.specs.Reached.{CoresReachedBy}
use Rattle.cluster_runs.specs.Steps.{CoresStep, app_takes}
use Rattle.cluster_runs.specs.Views.{shown_at, with_shown}
use Rattle.plain_runs.specs.Run.{IsRun}
use Rattle.plain_orders.specs.declared.act.Act.TheVariants as acts
use Rattle.plain_orders.specs.declared.op.Op.TheVariants as ops
use Rattle.plain_orders.specs.declared.via.Via.TheVariants as vias
use Rattle.ecp_messages.specs.declared.down.Down.TheVariants as downs
use Rattle.app_job.specs.declared.answer.Answer.TheVariants as answers
use Rattle.app_job.specs.declared.why.Why.TheVariants as why
use Rattle.app_rules.specs.declared.app_in.AppIn.TheVariants as app_in
use Rattle.cluster_examples.specs.FirstRun.{layout, began_by, began, saved_epoch_by, saved_epoch_node, saved_epoch, tried_by, tried, dialed_by, dialed, accepted_by, accepted_node, accepted, greeted_by, greeted_node, greeted, welcomed_by, welcomed_node, welcomed, met_by, met, issued_by, issued, entered_by, entered_node, entered, saved_by, saved_node, saved, acked_by, acked, fetching_by, fetching, fetched_by, fetched_node, fetched, cached_by, cached, read_by, read, FirstRunIsReached}

began_may : Allowed (start layout) began_by.move
began_may = record { known = omega arith; is_down = refl; now_may = record { clock = refl; no_less = omega arith }; kept = tt; low = omega arith }

began_step : CoresStep (start layout) began_by began
began_step = record { puts = refl; acts = refl; after = refl }

saved_epoch_may : Allowed began saved_epoch_by.move
saved_epoch_may = record { known = omega arith; now_may = record { clock = refl; no_less = omega arith }; takes = tt; may = record { no_less = omega arith; within = omega arith } }

saved_epoch_step : CoresStep began saved_epoch_by saved_epoch
saved_epoch_step = record { data_outs = record { frames = saved_epoch_by.outs.downs; cuts = saved_epoch_by.outs.data_cuts; acts = acts.Synced 0 1 ∷ [] }; state = saved_epoch_node; steps = refl; puts = refl; acts = refl; after = refl }

tried_may : Allowed saved_epoch tried_by.move
tried_may = record { alive = record { known = omega arith; placed = omega arith; alive = refl }; now_may = record { clock = refl; no_less = omega arith }; line_may = omega arith; may = record { within = (x_is_site, omega arith); known = omega arith } }

tried_step : CoresStep saved_epoch tried_by tried
tried_step = record { answer = answers.Waiting why.State; app_outs = app_outs_of tried_by; app = app_at tried 0; state = job_at tried 0; steps = record { turn = changes 0 (ops.Set x_key (53 ∷ [])) (work_of (app_at saved_epoch 0) (job_at saved_epoch 0) 0 5); turns = refl; answered = refl; app = refl; puts = refl; job = refl }; puts = refl; acts = refl; after = refl }

dialed_may : Allowed tried dialed_by.move
dialed_may = record { known = omega arith; alive = refl; now_may = record { clock = refl; no_less = omega arith }; takes = tt; may = record { known = omega arith; tried = refl } }

dialed_step : CoresStep tried dialed_by dialed
dialed_step = record { app_outs = app_outs_of dialed_by; state = app_at dialed 0; shown = app_takes 0 (app_in.Connected 0) tried; steps = refl; shows = refl; puts = refl; acts = refl; after = refl }

accepted_may : Allowed dialed accepted_by.move
accepted_may = record { known = omega arith; now_may = record { clock = refl; no_less = omega arith }; takes = refl; may = refl }

accepted_step : CoresStep dialed accepted_by accepted
accepted_step = record { data_outs = record { frames = accepted_by.outs.downs; cuts = accepted_by.outs.data_cuts; acts = accepted_by.acts }; state = accepted_node; steps = refl; puts = refl; acts = refl; after = refl }

greeted_may : Allowed accepted greeted_by.move
greeted_may = record { known = omega arith; now_may = record { clock = refl; no_less = omega arith }; takes = (refl, record { unlinked = refl; first = refl }); may = record { seq_fits = omega arith; ack_fits = omega arith; numbered = refl; fields = (tt, (omega arith, (omega arith, tt))); sum = refl } }

greeted_step : CoresStep accepted greeted_by greeted
greeted_step = record { data_outs = record { frames = greeted_by.outs.downs; cuts = greeted_by.outs.data_cuts; acts = greeted_by.acts }; state = greeted_node; steps = record { taken = _; takes = inl (record { later = omega arith; after = refl }); after = refl }; puts = refl; acts = refl; after = refl }

welcomed_may : Allowed greeted welcomed_by.move
welcomed_may = record { known = omega arith; now_may = record { clock = refl; no_less = omega arith }; takes = tt; may = record { no_less = omega arith; within = omega arith } }

welcomed_step : CoresStep greeted welcomed_by welcomed
welcomed_step = record { data_outs = record { frames = welcomed_by.outs.downs; cuts = welcomed_by.outs.data_cuts; acts = welcomed_by.acts }; state = welcomed_node; steps = refl; puts = refl; acts = refl; after = refl }

met_may : Allowed welcomed met_by.move
met_may = record { known = omega arith; alive = refl; now_may = record { clock = refl; no_less = omega arith }; takes = refl; may = record { known = omega arith; is_frame = record { seq_fits = omega arith; ack_fits = omega arith; numbered = refl; fields = (omega arith, (omega arith, (omega arith, (record { n_fits = omega arith; w_fits = omega arith; s_fits = omega arith }, (omega arith, tt))))); sum = refl } } }

met_step : CoresStep welcomed met_by met
met_step = record { app_outs = app_outs_of met_by; state = app_at met 0; shown = with_shown 0 0 (shown_at met 0 0) (app_takes 0 (app_in.Frame 0 (down_frame 0 0 (downs.Welcome 2 1 2 (head 2 0 0) 0))) welcomed); steps = record { taken = _; takes = inl (record { greeting = refl; above = omega arith; below = omega arith; after = refl }); after = refl }; shows = record { shown = shown_at met 0 0; shows = refl; after = refl }; puts = refl; acts = refl; after = refl }

issued_may : Allowed met issued_by.move
issued_may = record { alive = record { known = omega arith; placed = omega arith; alive = refl }; now_may = record { clock = refl; no_less = omega arith }; line_may = (refl, refl); may = record { within = (x_is_site, omega arith); known = omega arith } }

issued_step : CoresStep met issued_by issued
issued_step = record { answer = answers.Queued (record { server = 0; number = 1 } ∷ []); app_outs = app_outs_of issued_by; app = app_at issued 0; state = job_at issued 0; steps = record { turn = changes 0 (ops.Set x_key (53 ∷ [])) (work_of (app_at met 0) (job_at met 0) 0 5); turns = refl; answered = refl; app = refl; puts = refl; job = refl }; puts = refl; acts = refl; after = refl }

entered_may : Allowed issued entered_by.move
entered_may = record { known = omega arith; now_may = record { clock = refl; no_less = omega arith }; takes = (refl, refl); may = record { seq_fits = omega arith; ack_fits = omega arith; numbered = omega arith; fields = (omega arith, (omega arith, (omega arith, ((x_field, omega arith), tt)))); sum = refl } }

entered_step : CoresStep issued entered_by entered
entered_step = record { data_outs = record { frames = entered_by.outs.downs; cuts = entered_by.outs.data_cuts; acts = entered_by.acts }; state = entered_node; steps = record { taken = _; takes = inl (record { made = record { fits = λ _. record { is_live = refl; is_next = refl; within = record { key_may = x_may; within = omega arith } }; after = refl } }); after = refl }; puts = refl; acts = refl; after = refl }

saved_may : Allowed entered saved_by.move
saved_may = record { known = omega arith; now_may = record { clock = refl; no_less = omega arith }; takes = tt; may = record { no_less = omega arith; within = omega arith } }

saved_step : CoresStep entered saved_by saved
saved_step = record { data_outs = record { frames = saved_by.outs.downs; cuts = saved_by.outs.data_cuts; acts = saved_by.acts }; state = saved_node; steps = refl; puts = refl; acts = refl; after = refl }

acked_may : Allowed saved acked_by.move
acked_may = record { known = omega arith; alive = refl; now_may = record { clock = refl; no_less = omega arith }; takes = refl; may = record { known = omega arith; is_frame = record { seq_fits = omega arith; ack_fits = omega arith; numbered = omega arith; fields = (record { n_fits = omega arith; w_fits = omega arith; s_fits = omega arith }, tt); sum = refl } } }

acked_step : CoresStep saved acked_by acked
acked_step = record { app_outs = app_outs_of acked_by; state = app_at acked 0; shown = with_shown 0 0 (shown_at acked 0 0) (app_takes 0 (app_in.Frame 0 (down_frame 1 1 (downs.Ack (head 3 1 1)))) saved); steps = record { taken = _; takes = inl (record { ahead = refl; made = refl }); after = refl }; shows = record { shown = shown_at acked 0 0; shows = refl; after = refl }; puts = refl; acts = refl; after = refl }

fetching_may : Allowed acked fetching_by.move
fetching_may = record { alive = record { known = omega arith; placed = omega arith; alive = refl }; now_may = record { clock = refl; no_less = omega arith }; line_may = omega arith; may = record { within = x_is_site; known = omega arith } }

fetching_step : CoresStep acked fetching_by fetching
fetching_step = record { answer = answers.Waiting why.Fetch; app_outs = app_outs_of fetching_by; app = app_at fetching 0; state = job_at fetching 0; steps = record { turn = get_turn x (work_of (app_at acked 0) (job_at acked 0) 0 6); turns = refl; answered = refl; app = refl; puts = refl; job = refl }; puts = refl; acts = refl; after = refl }

fetched_may : Allowed fetching fetched_by.move
fetched_may = record { known = omega arith; now_may = record { clock = refl; no_less = omega arith }; takes = (refl, refl); may = record { seq_fits = omega arith; ack_fits = omega arith; numbered = omega arith; fields = (x_sought, tt); sum = refl } }

fetched_step : CoresStep fetching fetched_by fetched
fetched_step = record { data_outs = record { frames = fetched_by.outs.downs; cuts = fetched_by.outs.data_cuts; acts = fetched_by.acts }; state = fetched_node; steps = record { taken = _; takes = inl (record { made = record { run = run_of (x_is_5 ∷ []); block = block_5; covered = refl; is_true = refl; in_bytes = block_5_is; after = refl } }); after = refl }; puts = refl; acts = refl; after = refl }

cached_may : Allowed fetched cached_by.move
cached_may = record { known = omega arith; alive = refl; now_may = record { clock = refl; no_less = omega arith }; takes = refl; may = record { known = omega arith; is_frame = record { seq_fits = omega arith; ack_fits = omega arith; numbered = omega arith; fields = (record { n_fits = omega arith; w_fits = omega arith; s_fits = omega arith }, (omega arith, tt)); sum = refl } } }

cached_step : CoresStep fetched cached_by cached
cached_step = record { app_outs = app_outs_of cached_by; state = app_at cached 0; shown = with_shown 0 0 (shown_at cached 0 0) (app_takes 0 (app_in.Frame 0 (down_frame 2 2 (downs.Block (head 3 1 1) block_5))) fetched); steps = record { taken = _; takes = inl (record { ahead = refl; made = record { run = run_of (x_is_5 ∷ []); its = block_5_is; after = refl } }); after = refl }; shows = record { shown = shown_at cached 0 0; shows = record { run = run_of (x_is_5 ∷ []); its = block_5_is; after = refl }; after = refl }; puts = refl; acts = refl; after = refl }

read_may : Allowed cached read_by.move
read_may = record { alive = record { known = omega arith; placed = omega arith; alive = refl }; now_may = record { clock = refl; no_less = omega arith }; line_may = (refl, refl); may = record { within = x_is_site; known = omega arith } }

read_step : CoresStep cached read_by read
read_step = record { answer = answers.Value (Some (53 ∷ [])) 3 vias.Fetched; app_outs = app_outs_of read_by; app = app_at read 0; state = job_at read 0; steps = record { turn = get_turn x (work_of (app_at cached 0) (job_at cached 0) 0 6); turns = refl; answered = refl; app = refl; puts = refl; job = refl }; puts = refl; acts = refl; after = refl }

began_reached : CoresReachedBy layout (began_by ∷ []) began
began_reached = (start layout, refl, began_may, began_step)

saved_epoch_reached : CoresReachedBy layout (saved_epoch_by ∷ began_by ∷ []) saved_epoch
saved_epoch_reached = (began, began_reached, saved_epoch_may, saved_epoch_step)

tried_reached : CoresReachedBy layout (tried_by ∷ saved_epoch_by ∷ began_by ∷ []) tried
tried_reached = (saved_epoch, saved_epoch_reached, tried_may, tried_step)

dialed_reached : CoresReachedBy layout (dialed_by ∷ tried_by ∷ saved_epoch_by ∷ began_by ∷ []) dialed
dialed_reached = (tried, tried_reached, dialed_may, dialed_step)

accepted_reached : CoresReachedBy layout (accepted_by ∷ dialed_by ∷ tried_by ∷ saved_epoch_by ∷ began_by ∷ []) accepted
accepted_reached = (dialed, dialed_reached, accepted_may, accepted_step)

greeted_reached : CoresReachedBy layout (greeted_by ∷ accepted_by ∷ dialed_by ∷ tried_by ∷ saved_epoch_by ∷ began_by ∷ []) greeted
greeted_reached = (accepted, accepted_reached, greeted_may, greeted_step)

welcomed_reached : CoresReachedBy layout (welcomed_by ∷ greeted_by ∷ accepted_by ∷ dialed_by ∷ tried_by ∷ saved_epoch_by ∷ began_by ∷ []) welcomed
welcomed_reached = (greeted, greeted_reached, welcomed_may, welcomed_step)

met_reached : CoresReachedBy layout (met_by ∷ welcomed_by ∷ greeted_by ∷ accepted_by ∷ dialed_by ∷ tried_by ∷ saved_epoch_by ∷ began_by ∷ []) met
met_reached = (welcomed, welcomed_reached, met_may, met_step)

issued_reached : CoresReachedBy layout (issued_by ∷ met_by ∷ welcomed_by ∷ greeted_by ∷ accepted_by ∷ dialed_by ∷ tried_by ∷ saved_epoch_by ∷ began_by ∷ []) issued
issued_reached = (met, met_reached, issued_may, issued_step)

entered_reached : CoresReachedBy layout (entered_by ∷ issued_by ∷ met_by ∷ welcomed_by ∷ greeted_by ∷ accepted_by ∷ dialed_by ∷ tried_by ∷ saved_epoch_by ∷ began_by ∷ []) entered
entered_reached = (issued, issued_reached, entered_may, entered_step)

saved_reached : CoresReachedBy layout (saved_by ∷ entered_by ∷ issued_by ∷ met_by ∷ welcomed_by ∷ greeted_by ∷ accepted_by ∷ dialed_by ∷ tried_by ∷ saved_epoch_by ∷ began_by ∷ []) saved
saved_reached = (entered, entered_reached, saved_may, saved_step)

acked_reached : CoresReachedBy layout (acked_by ∷ saved_by ∷ entered_by ∷ issued_by ∷ met_by ∷ welcomed_by ∷ greeted_by ∷ accepted_by ∷ dialed_by ∷ tried_by ∷ saved_epoch_by ∷ began_by ∷ []) acked
acked_reached = (saved, saved_reached, acked_may, acked_step)

fetching_reached : CoresReachedBy layout (fetching_by ∷ acked_by ∷ saved_by ∷ entered_by ∷ issued_by ∷ met_by ∷ welcomed_by ∷ greeted_by ∷ accepted_by ∷ dialed_by ∷ tried_by ∷ saved_epoch_by ∷ began_by ∷ []) fetching
fetching_reached = (acked, acked_reached, fetching_may, fetching_step)

fetched_reached : CoresReachedBy layout (fetched_by ∷ fetching_by ∷ acked_by ∷ saved_by ∷ entered_by ∷ issued_by ∷ met_by ∷ welcomed_by ∷ greeted_by ∷ accepted_by ∷ dialed_by ∷ tried_by ∷ saved_epoch_by ∷ began_by ∷ []) fetched
fetched_reached = (fetching, fetching_reached, fetched_may, fetched_step)

cached_reached : CoresReachedBy layout (cached_by ∷ fetched_by ∷ fetching_by ∷ acked_by ∷ saved_by ∷ entered_by ∷ issued_by ∷ met_by ∷ welcomed_by ∷ greeted_by ∷ accepted_by ∷ dialed_by ∷ tried_by ∷ saved_epoch_by ∷ began_by ∷ []) cached
cached_reached = (fetched, fetched_reached, cached_may, cached_step)

read_reached : CoresReachedBy layout (read_by ∷ cached_by ∷ fetched_by ∷ fetching_by ∷ acked_by ∷ saved_by ∷ entered_by ∷ issued_by ∷ met_by ∷ welcomed_by ∷ greeted_by ∷ accepted_by ∷ dialed_by ∷ tried_by ∷ saved_epoch_by ∷ began_by ∷ []) read
read_reached = (cached, cached_reached, read_may, read_step)

is_run : IsRun layout read.trail
is_run = (record { fresh = refl; ordered = tt; low = omega arith }, (record { opened = refl; place = refl; alone = refl; up = refl }, (record { opened = refl; no_less = omega arith; within = omega arith }, ((refl, record { place = refl; synced = omega arith; entered = refl; not_lost = refl; fresh = refl; none = refl }), ((record { known = omega arith; alive = refl; free = refl }, record { there = refl; unbroken = refl; next = refl; its = record { key_may = x_may; within = omega arith } }), (record { is_live = refl; told = refl; next = refl; issued = refl }, (record { opened = refl; no_less = omega arith; within = omega arith }, ((record { known = omega arith; alive = refl; free = refl }, record { there = refl; no_less = omega arith; within = omega arith; answer = record { result = refl; by = refl; node = x_may } }), tt))))))))

pub first_run_is_reached : FirstRunIsReached
first_run_is_reached = (read_reached, is_run)
