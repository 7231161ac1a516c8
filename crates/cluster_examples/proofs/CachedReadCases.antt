-- A get is answered from a cached run after a Drop for it was put and has not arrived.
use Rattle.std.proofs.Common.{refl, inl, arith, [], ◌∷◌, Some, None}
use Rattle.app_rules.specs.Issuing.{changes}
use Rattle.app_rules.specs.JobStep.{work_of}
use Rattle.app_rules.specs.Reading.{get_turn}
use Rattle.cluster_examples.proofs.Frames.{app_outs_of, block_1_is, x_field, x_is_site, x_may, x_sought}
use Rattle.cluster_examples.specs.Leading.{Leads}
use Rattle.cluster_examples.specs.Scenes.{block_1, down_frame, head, run_of, x, x_is_1, x_key}
use Rattle.cluster_runs.specs.CoresState.{app_at, job_at}
use Rattle.cluster_runs.specs.Moves.{Allowed}
use Rattle.cluster_runs.specs.Steps.{CoresStep, app_takes}
use Rattle.cluster_runs.specs.Views.{shown_at, with_shown}
use Rattle.plain_runs.specs.Run.{IsRun}
use Rattle.plain_orders.specs.declared.op.Op.TheVariants as ops
use Rattle.plain_orders.specs.declared.via.Via.TheVariants as vias
use Rattle.ecp_messages.specs.declared.down.Down.TheVariants as downs
use Rattle.app_job.specs.declared.answer.Answer.TheVariants as answers
use Rattle.app_job.specs.declared.why.Why.TheVariants as why
use Rattle.app_rules.specs.declared.app_in.AppIn.TheVariants as app_in
use Rattle.cluster_examples.specs.CachedRead.{layout, first, issued_by, issued, dropped_by, dropped_node, dropped, read_by, read, looked_by, looked, told_by, told, fetching_by, fetching, fetched_by, fetched_node, fetched, cached_by, cached, reread_by, reread, CachedReadLeads}

issued_may : Allowed first issued_by.move
issued_may = record { alive = record { known = omega arith; placed = omega arith; alive = refl }; now_may = record { clock = refl; no_less = omega arith }; line_may = omega arith; may = record { within = (x_is_site, omega arith); known = omega arith } }

issued_step : CoresStep first issued_by issued
issued_step = record { answer = answers.Queued (record { server = 0; number = 1 } ∷ []); app_outs = app_outs_of issued_by; app = app_at issued 0; state = job_at issued 0; steps = record { turn = changes 0 (ops.Set x_key (49 ∷ [])) (work_of (app_at first 0) (job_at first 0) 0 10); turns = refl; answered = refl; app = refl; puts = refl; job = refl }; puts = refl; acts = refl; after = refl }

dropped_may : Allowed issued dropped_by.move
dropped_may = record { known = omega arith; now_may = record { clock = refl; no_less = omega arith }; takes = (refl, refl); may = record { seq_fits = omega arith; ack_fits = omega arith; numbered = omega arith; fields = (omega arith, (omega arith, (omega arith, ((x_field, omega arith), tt)))); sum = refl } }

dropped_step : CoresStep issued dropped_by dropped
dropped_step = record { data_outs = record { frames = dropped_by.outs.downs; cuts = dropped_by.outs.data_cuts; acts = dropped_by.acts }; state = dropped_node; steps = record { taken = _; takes = inl (record { made = record { fits = λ _. record { is_live = refl; is_next = refl; within = record { key_may = x_may; within = omega arith } }; after = refl } }); after = refl }; puts = refl; acts = refl; after = refl }

read_may : Allowed dropped read_by.move
read_may = record { alive = record { known = omega arith; placed = omega arith; alive = refl }; now_may = record { clock = refl; no_less = omega arith }; line_may = omega arith; may = record { within = x_is_site; known = omega arith } }

read_step : CoresStep dropped read_by read
read_step = record { answer = answers.Value None 2 vias.Cached; app_outs = app_outs_of read_by; app = app_at read 1; state = job_at read 1; steps = record { turn = get_turn x (work_of (app_at dropped 1) (job_at dropped 1) 0 11); turns = refl; answered = refl; app = refl; puts = refl; job = refl }; puts = refl; acts = refl; after = refl }

looked_may : Allowed read looked_by.move
looked_may = record { alive = record { known = omega arith; placed = omega arith; alive = refl }; line_may = omega arith; free = refl; may = record { within = x_is_site; known = omega arith }; front = record { session = 2; epoch = 1; n = 2; w = 0 }; run = run_of []; look = record { unflagged = refl; unlost = refl; shown = refl; covered = refl; its = refl; undecided = refl } }

looked_step : CoresStep read looked_by looked
looked_step = record { front = record { session = 2; epoch = 1; n = 2; w = 0 }; run = run_of []; look = record { unflagged = refl; unlost = refl; shown = refl; covered = refl; its = refl; undecided = refl }; puts = refl; acts = refl; after = refl }

told_may : Allowed looked told_by.move
told_may = record { known = omega arith; alive = refl; now_may = record { clock = refl; no_less = omega arith }; takes = refl; may = record { known = omega arith; is_frame = record { seq_fits = omega arith; ack_fits = omega arith; numbered = omega arith; fields = (record { n_fits = omega arith; w_fits = omega arith; s_fits = omega arith }, (omega arith, (omega arith, tt))); sum = refl } } }

told_step : CoresStep looked told_by told
told_step = record { app_outs = app_outs_of told_by; state = app_at told 1; shown = with_shown 1 0 (shown_at told 1 0) (app_takes 1 (app_in.Frame 0 (down_frame 2 1 (downs.Drop (head 4 0 0) [] (255 ∷ [])))) looked); steps = record { taken = _; takes = inl (record { ahead = refl; made = refl }); after = refl }; shows = record { shown = shown_at told 1 0; shows = refl; after = refl }; puts = refl; acts = refl; after = refl }

fetching_may : Allowed told fetching_by.move
fetching_may = record { alive = record { known = omega arith; placed = omega arith; alive = refl }; now_may = record { clock = refl; no_less = omega arith }; line_may = omega arith; may = record { within = x_is_site; known = omega arith } }

fetching_step : CoresStep told fetching_by fetching
fetching_step = record { answer = answers.Waiting why.Fetch; app_outs = app_outs_of fetching_by; app = app_at fetching 1; state = job_at fetching 1; steps = record { turn = get_turn x (work_of (app_at told 1) (job_at told 1) 0 13); turns = refl; answered = refl; app = refl; puts = refl; job = refl }; puts = refl; acts = refl; after = refl }

fetched_may : Allowed fetching fetched_by.move
fetched_may = record { known = omega arith; now_may = record { clock = refl; no_less = omega arith }; takes = (refl, refl); may = record { seq_fits = omega arith; ack_fits = omega arith; numbered = omega arith; fields = (x_sought, tt); sum = refl } }

fetched_step : CoresStep fetching fetched_by fetched
fetched_step = record { data_outs = record { frames = fetched_by.outs.downs; cuts = fetched_by.outs.data_cuts; acts = fetched_by.acts }; state = fetched_node; steps = record { taken = _; takes = inl (record { made = record { run = run_of (x_is_1 ∷ []); block = block_1; covered = refl; is_true = refl; in_bytes = block_1_is; after = refl } }); after = refl }; puts = refl; acts = refl; after = refl }

cached_may : Allowed fetched cached_by.move
cached_may = record { known = omega arith; alive = refl; now_may = record { clock = refl; no_less = omega arith }; takes = refl; may = record { known = omega arith; is_frame = record { seq_fits = omega arith; ack_fits = omega arith; numbered = omega arith; fields = (record { n_fits = omega arith; w_fits = omega arith; s_fits = omega arith }, (omega arith, tt)); sum = refl } } }

cached_step : CoresStep fetched cached_by cached
cached_step = record { app_outs = app_outs_of cached_by; state = app_at cached 1; shown = with_shown 1 0 (shown_at cached 1 0) (app_takes 1 (app_in.Frame 0 (down_frame 3 2 (downs.Block (head 4 0 0) block_1))) fetched); steps = record { taken = _; takes = inl (record { ahead = refl; made = record { run = run_of (x_is_1 ∷ []); its = block_1_is; after = refl } }); after = refl }; shows = record { shown = shown_at cached 1 0; shows = record { run = run_of (x_is_1 ∷ []); its = block_1_is; after = refl }; after = refl }; puts = refl; acts = refl; after = refl }

reread_may : Allowed cached reread_by.move
reread_may = record { alive = record { known = omega arith; placed = omega arith; alive = refl }; now_may = record { clock = refl; no_less = omega arith }; line_may = (refl, refl); may = record { within = x_is_site; known = omega arith } }

reread_step : CoresStep cached reread_by reread
reread_step = record { answer = answers.Value (Some (49 ∷ [])) 4 vias.Fetched; app_outs = app_outs_of reread_by; app = app_at reread 1; state = job_at reread 1; steps = record { turn = get_turn x (work_of (app_at cached 1) (job_at cached 1) 0 13); turns = refl; answered = refl; app = refl; puts = refl; job = refl }; puts = refl; acts = refl; after = refl }

is_run : IsRun layout reread.trail
is_run = (record { fresh = refl; ordered = tt; low = omega arith }, (record { opened = refl; place = refl; alone = refl; up = refl }, (record { opened = refl; no_less = omega arith; within = omega arith }, ((refl, record { place = refl; synced = omega arith; entered = refl; not_lost = refl; fresh = refl; none = refl }), ((record { known = omega arith; alive = refl; free = refl }, record { there = refl; no_less = omega arith; within = omega arith; answer = record { result = refl; by = refl; node = x_may } }), (record { opened = refl; place = refl; alone = refl; up = refl }, (record { opened = refl; no_less = omega arith; within = omega arith }, ((refl, record { place = refl; synced = omega arith; entered = refl; not_lost = refl; fresh = refl; none = refl }), ((record { known = omega arith; alive = refl; free = refl }, record { there = refl; no_less = omega arith; within = omega arith; answer = record { result = refl; by = refl; node = x_may } }), ((record { known = omega arith; alive = refl; free = refl }, record { there = refl; unbroken = refl; next = refl; its = record { key_may = x_may; within = omega arith } }), (record { is_live = refl; told = refl; next = refl; issued = refl }, ((record { known = omega arith; alive = refl; free = refl }, record { there = refl; no_less = omega arith; within = omega arith; answer = record { result = refl; by = refl; node = x_may } }), ((record { known = omega arith; alive = refl; free = refl }, record { there = refl; no_less = omega arith; within = omega arith; answer = record { result = refl; by = refl; node = x_may } }), ((record { known = omega arith; alive = refl; free = refl }, record { there = refl; no_less = omega arith; within = omega arith; answer = record { result = refl; by = refl; node = x_may } }), tt))))))))))))))

leads : Leads first (issued_by ∷ dropped_by ∷ read_by ∷ looked_by ∷ told_by ∷ fetching_by ∷ fetched_by ∷ cached_by ∷ reread_by ∷ []) reread
leads = (issued, issued_may, issued_step, (dropped, dropped_may, dropped_step, (read, read_may, read_step, (looked, looked_may, looked_step, (told, told_may, told_step, (fetching, fetching_may, fetching_step, (fetched, fetched_may, fetched_step, (cached, cached_may, cached_step, (reread, reread_may, reread_step, refl)))))))))

pub cached_read_leads : CachedReadLeads
cached_read_leads = (leads, is_run)
