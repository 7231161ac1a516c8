-- A get is answered from a cached run after a Drop for it was put and has not arrived.
use Rattle.std.specs.Prelude.{[], ◌∷◌, ◌++◌, Some, None, true, false, replicate, set}
use Rattle.app_rules.specs.AppState.{AppEnd, Session, no_end, no_session}
use Rattle.app_rules.specs.JobState.{no_job}
use Rattle.cluster_examples.specs.Leading.{Leads}
use Rattle.cluster_examples.specs.Scenes.{a_conn, a_dial, all_keys, app_with, block_1, down_frame, empty_block, front_at, head, idle, knows, linked_with, on_conn, progress_at, run_of, times, to_server, up_frame, waiting, window, window_at, x, x_key}
use Rattle.cluster_runs.specs.CoresState.{CoresState}
use Rattle.cluster_runs.specs.Steps.{Made, no_outs}
use Rattle.data_rules.specs.DataState.{DataState}
use Rattle.data_rules.specs.declared.limits.TheConstants.{APP_LIMIT}
use Rattle.plain_orders.specs.declared.layout.Layout.{Layout}
use Rattle.plain_runs.specs.Run.{IsRun}
use Rattle.plain_orders.specs.declared.act.Act.TheVariants as acts
use Rattle.plain_orders.specs.declared.entry.Entry.TheVariants as entries
use Rattle.plain_orders.specs.declared.op.Op.TheVariants as ops
use Rattle.plain_orders.specs.declared.item.Item.TheVariants as items
use Rattle.plain_orders.specs.declared.question.Question.TheVariants as questions
use Rattle.plain_orders.specs.declared.via.Via.TheVariants as vias
use Rattle.ecp_messages.specs.declared.up.Up.TheVariants as ups
use Rattle.ecp_messages.specs.declared.down.Down.TheVariants as downs
use Rattle.app_job.specs.declared.command.Command.TheVariants as commands
use Rattle.app_job.specs.declared.answer.Answer.TheVariants as answers
use Rattle.app_job.specs.declared.why.Why.TheVariants as why
use Rattle.data_rules.specs.declared.data_in.DataIn.TheVariants as data_in
use Rattle.app_rules.specs.declared.app_in.AppIn.TheVariants as app_in
use Rattle.cluster_runs.specs.declared.moves.Move.TheVariants as moves
use Rattle.data_rules.specs.declared.rows.Role.TheVariants as roles
use Rattle.app_rules.specs.declared.line.Line.TheVariants as lines
use Rattle.link_states.specs.declared.app_link.AppLink.TheVariants as app_links
use Rattle.link_states.specs.declared.data_link.DataLink.TheVariants as data_links

-- the layout
abbrev pub layout : Layout
layout = record { servers = 1; apps = 2; job_apps = 0 ∷ 1 ∷ []; times = times }

-- the data server has two sessions, and each has the run over all keys
abbrev pub first_node : DataState
first_node =
    record {
      server = 0;
      times = times;
      order = entries.Epoch 1 ∷ entries.Opened 2 1 ∷ entries.Opened 3 0 ∷ [];
      synced = 3;
      links = set (set (replicate APP_LIMIT data_links.Free) 0 data_links.Normal) 1 data_links.Normal;
      dials = set (set (replicate APP_LIMIT 0) 0 1) 1 1;
      conns = record { number = 1; role = roles.Bound 2 } ∷ record { number = 2; role = roles.Bound 3 } ∷ [];
      callers = [];
      windows = window_at 2 0 (downs.Block (head 2 0 0) empty_block ∷ []) 1 0 ∷ window_at 3 0 (downs.Block (head 3 0 0) empty_block ∷ []) 1 0 ∷ [];
      locks = record { holds = []; requests = []; granted = [] };
      noted = record { session = 2; span = all_keys } ∷ record { session = 3; span = all_keys } ∷ [];
      round = None;
      replies = [];
    }

-- the session of application server 0
abbrev pub first_session : Session
first_session = record no_session { number = 3; epoch = 1; n = 3; window = window 1 [] 1 1; cache = run_of [] ∷ [] }

-- its end
abbrev pub first_end : AppEnd
first_end = record no_end { link = app_links.Normal; line = lines.Joined; dial = 1; told = 3; session = Some first_session }

-- the session of application server 1
abbrev pub second_session : Session
second_session = record no_session { number = 2; epoch = 1; n = 2; window = window 1 [] 1 1; cache = run_of [] ∷ [] }

-- its end
abbrev pub second_end : AppEnd
second_end = record no_end { link = app_links.Normal; line = lines.Joined; dial = 1; told = 2; session = Some second_session }

-- all that was put was taken
abbrev pub first : CoresState
first =
    record {
      layout = layout;
      nodes = Some first_node ∷ [];
      orders = Some first_node.order ∷ [];
      apps = app_with 0 first_end ∷ app_with 1 second_end ∷ [];
      jobs = record (no_job 0 0 1) { used = Some 3 ∷ [] } ∷ record (no_job 1 1 1) { used = Some 2 ∷ [] } ∷ [];
      begun = idle 9 ∷ idle 8 ∷ [];
      dials = a_dial 1 1 [] [] ∷ a_dial 0 1 [] [] ∷ [];
      accepted = a_conn 1 (Some (linked_with 1 1)) ∷ a_conn 2 (Some (linked_with 0 1)) ∷ [];
      clock = 0;
      app_nows = 0 ∷ 0 ∷ [];
      server_nows = 0 ∷ [];
      dead = false ∷ false ∷ [];
      shown =
          (record { front = Some (front_at 3 1 3 0); runs = run_of [] ∷ [] } ∷ [])
          ∷ (record { front = Some (front_at 2 1 2 0); runs = run_of [] ∷ [] } ∷ []) ∷ [];
      views = knows (Some 3) [] ∷ knows (Some 2) [] ∷ [];
      trail =
          acts.Opened 0 [] ∷ acts.Enter 0 (entries.Opened 2 1) ∷ acts.Synced 0 2 ∷ acts.Met 1 0 2
          ∷ acts.Read 1 8 0 2 vias.Fetched (questions.Get x_key None) ∷ acts.Enter 0 (entries.Opened 3 0) ∷ acts.Synced 0 3 ∷ acts.Met 0 0 3
          ∷ acts.Read 0 9 0 3 vias.Fetched (questions.Get x_key None) ∷ [];
    }

-- job 0 sets ^x to 1
abbrev pub issued_by : Made
issued_by =
    record {
      move = moves.Step 0 0 10 (commands.Set x (49 ∷ []));
      outs =
          record no_outs {
            answer = Some (answers.Queued (record { server = 0; number = 1 } ∷ []));
            ups = to_server (up_frame 2 1 (ups.Update 1 0 0 (ops.Set x_key (49 ∷ [])))) ∷ [];
          };
      acts = acts.Issue 0 10 0 1 (items.Op (ops.Set x_key (49 ∷ []))) ∷ [];
    }

-- the session then
abbrev pub issued_session : Session
issued_session =
    record first_session {
      window = window 1 (ups.Update 1 0 0 (ops.Set x_key (49 ∷ [])) ∷ []) 1 0;
      issued = 1;
      queue = record { w = 1; message = ups.Update 1 0 0 (ops.Set x_key (49 ∷ [])); job = 0 } ∷ [];
      late = record { w = 1; job = 0; op = ops.Set x_key (49 ∷ []) } ∷ [];
    }

-- the end then
abbrev pub issued_end : AppEnd
issued_end = record first_end { session = Some issued_session }

-- the cluster then
abbrev pub issued : CoresState
issued =
    record first {
      apps = app_with 0 issued_end ∷ app_with 1 second_end ∷ [];
      begun = idle 10 ∷ idle 8 ∷ [];
      dials = a_dial 1 1 [] [] ∷ a_dial 0 1 (up_frame 2 1 (ups.Update 1 0 0 (ops.Set x_key (49 ∷ []))) ∷ []) [] ∷ [];
      views = knows (Some 3) (record { w = 1; job = 0; op = ops.Set x_key (49 ∷ []) } ∷ []) ∷ knows (Some 2) [] ∷ [];
      trail = first.trail ++ issued_by.acts;
    }

-- the Set is taken and enters: a Drop to each application server, since both have the run
abbrev pub dropped_by : Made
dropped_by =
    record {
      move = moves.Server 0 0 (data_in.Frame 2 (up_frame 2 1 (ups.Update 1 0 0 (ops.Set x_key (49 ∷ [])))));
      outs =
          record no_outs {
            downs =
                on_conn 1 (down_frame 2 1 (downs.Drop (head 4 0 0) [] (255 ∷ []))) ∷ on_conn 2 (down_frame 2 2 (downs.Drop (head 4 1 0) [] (255 ∷ []))) ∷ [];
          };
      acts = acts.Enter 0 (entries.Update 3 1 0 0 (ops.Set x_key (49 ∷ []))) ∷ [];
    }

-- the data server then
abbrev pub dropped_node : DataState
dropped_node =
    record first_node {
      order = entries.Epoch 1 ∷ entries.Opened 2 1 ∷ entries.Opened 3 0 ∷ entries.Update 3 1 0 0 (ops.Set x_key (49 ∷ [])) ∷ [];
      windows =
          window_at 2 0 (downs.Block (head 2 0 0) empty_block ∷ downs.Drop (head 4 0 0) [] (255 ∷ []) ∷ []) 1 0
          ∷ window_at 3 1 (downs.Drop (head 4 1 0) [] (255 ∷ []) ∷ []) 2 0 ∷ [];
      noted = [];
    }

-- the cluster then
abbrev pub dropped : CoresState
dropped =
    record issued {
      nodes = Some dropped_node ∷ [];
      orders = Some dropped_node.order ∷ [];
      dials =
          a_dial 1 1 [] (down_frame 2 1 (downs.Drop (head 4 0 0) [] (255 ∷ [])) ∷ [])
          ∷ a_dial 0 1 [] (down_frame 2 2 (downs.Drop (head 4 1 0) [] (255 ∷ [])) ∷ []) ∷ [];
      trail = issued.trail ++ dropped_by.acts;
    }

-- job 1 of the other application server reads ^x: there is nothing, at the front of before
abbrev pub read_by : Made
read_by =
    record {
      move = moves.Step 1 0 11 (commands.Get x);
      outs = record no_outs { answer = Some (answers.Value None 2 vias.Cached) };
      acts = acts.Read 1 11 0 2 vias.Cached (questions.Get x_key None) ∷ [];
    }

-- the cluster then
abbrev pub read : CoresState
read = record dropped { begun = idle 10 ∷ idle 11 ∷ []; trail = dropped.trail ++ read_by.acts }

-- so does a look, which needs no step
abbrev pub looked_by : Made
looked_by =
    record {
      move = moves.Looked 1 12 (commands.Get x);
      outs = record no_outs { answer = Some (answers.Value None 2 vias.Cached) };
      acts = acts.Read 1 12 0 2 vias.Cached (questions.Get x_key None) ∷ [];
    }

-- the cluster then
abbrev pub looked : CoresState
looked = record read { begun = idle 10 ∷ idle 12 ∷ []; trail = read.trail ++ looked_by.acts }

-- the Drop is taken there
abbrev pub told_by : Made
told_by = record { move = moves.App 1 0 (app_in.Frame 0 (down_frame 2 1 (downs.Drop (head 4 0 0) [] (255 ∷ [])))); outs = no_outs; acts = [] }

-- the session then
abbrev pub told_session : Session
told_session = record second_session { n = 4; window = window 1 [] 2 2; cache = [] }

-- the end then
abbrev pub told_end : AppEnd
told_end = record second_end { session = Some told_session }

-- the cluster then
abbrev pub told : CoresState
told =
    record looked {
      apps = app_with 0 issued_end ∷ app_with 1 told_end ∷ [];
      dials = a_dial 1 1 [] [] ∷ a_dial 0 1 [] (down_frame 2 2 (downs.Drop (head 4 1 0) [] (255 ∷ [])) ∷ []) ∷ [];
      shown = (record { front = Some (front_at 3 1 3 0); runs = run_of [] ∷ [] } ∷ []) ∷ (record { front = Some (front_at 2 1 4 0); runs = [] } ∷ []) ∷ [];
    }

-- the same get: a Fetch
abbrev pub fetching_by : Made
fetching_by =
    record {
      move = moves.Step 1 0 13 (commands.Get x);
      outs = record no_outs { answer = Some (answers.Waiting why.Fetch); ups = to_server (up_frame 2 2 (ups.Fetch x_key)) ∷ [] };
      acts = [];
    }

-- the session then
abbrev pub fetching_session : Session
fetching_session = record told_session { window = window 1 (ups.Fetch x_key ∷ []) 2 0; fetches = record { job = 1; key = x_key; wanted = true } ∷ [] }

-- the end then
abbrev pub fetching_end : AppEnd
fetching_end = record told_end { session = Some fetching_session }

-- the cluster then
abbrev pub fetching : CoresState
fetching =
    record told {
      apps = app_with 0 issued_end ∷ app_with 1 fetching_end ∷ [];
      jobs = record (no_job 0 0 1) { used = Some 3 ∷ [] } ∷ record (no_job 1 1 1) { used = Some 2 ∷ []; progress = Some (progress_at 13 0 true) } ∷ [];
      begun = idle 10 ∷ waiting 13 (commands.Get x) ∷ [];
      dials = a_dial 1 1 (up_frame 2 2 (ups.Fetch x_key) ∷ []) [] ∷ a_dial 0 1 [] (down_frame 2 2 (downs.Drop (head 4 1 0) [] (255 ∷ [])) ∷ []) ∷ [];
    }

-- it is taken: a Block
abbrev pub fetched_by : Made
fetched_by =
    record {
      move = moves.Server 0 0 (data_in.Frame 1 (up_frame 2 2 (ups.Fetch x_key)));
      outs = record no_outs { downs = on_conn 1 (down_frame 3 2 (downs.Block (head 4 0 0) block_1)) ∷ [] };
      acts = [];
    }

-- the data server then
abbrev pub fetched_node : DataState
fetched_node =
    record dropped_node {
      windows = window_at 2 2 (downs.Block (head 4 0 0) block_1 ∷ []) 2 0 ∷ window_at 3 1 (downs.Drop (head 4 1 0) [] (255 ∷ []) ∷ []) 2 0 ∷ [];
      noted = record { session = 2; span = all_keys } ∷ [];
    }

-- the cluster then
abbrev pub fetched : CoresState
fetched =
    record fetching {
      nodes = Some fetched_node ∷ [];
      dials =
          a_dial 1 1 [] (down_frame 3 2 (downs.Block (head 4 0 0) block_1) ∷ [])
          ∷ a_dial 0 1 [] (down_frame 2 2 (downs.Drop (head 4 1 0) [] (255 ∷ [])) ∷ []) ∷ [];
    }

-- the Block is taken
abbrev pub cached_by : Made
cached_by = record { move = moves.App 1 0 (app_in.Frame 0 (down_frame 3 2 (downs.Block (head 4 0 0) block_1))); outs = no_outs; acts = [] }

-- the session then
abbrev pub cached_session : Session
cached_session = record fetching_session { window = window 2 [] 3 1; cache = run_of (record { key = x_key; value = 49 ∷ [] } ∷ []) ∷ []; fetches = [] }

-- the end then
abbrev pub cached_end : AppEnd
cached_end = record fetching_end { session = Some cached_session }

-- the cluster then
abbrev pub cached : CoresState
cached =
    record fetched {
      apps = app_with 0 issued_end ∷ app_with 1 cached_end ∷ [];
      dials = a_dial 1 1 [] [] ∷ a_dial 0 1 [] (down_frame 2 2 (downs.Drop (head 4 1 0) [] (255 ∷ [])) ∷ []) ∷ [];
      shown =
          (record { front = Some (front_at 3 1 3 0); runs = run_of [] ∷ [] } ∷ [])
          ∷ (record { front = Some (front_at 2 1 4 0); runs = run_of (record { key = x_key; value = 49 ∷ [] } ∷ []) ∷ [] } ∷ []) ∷ [];
    }

-- the job reads 1
abbrev pub reread_by : Made
reread_by =
    record {
      move = moves.Step 1 0 13 (commands.Get x);
      outs = record no_outs { answer = Some (answers.Value (Some (49 ∷ [])) 4 vias.Fetched) };
      acts = acts.Read 1 13 0 4 vias.Fetched (questions.Get x_key (Some (49 ∷ []))) ∷ [];
    }

-- the cluster then
abbrev pub reread : CoresState
reread =
    record cached {
      jobs = record (no_job 0 0 1) { used = Some 3 ∷ [] } ∷ record (no_job 1 1 1) { used = Some 2 ∷ [] } ∷ [];
      begun = idle 10 ∷ idle 13 ∷ [];
      trail = cached.trail ++ reread_by.acts;
    }

-- these moves lead there, each allowed
abbrev pub CachedReadLeads : Type 0
CachedReadLeads =
    Leads first (issued_by ∷ dropped_by ∷ read_by ∷ looked_by ∷ told_by ∷ fetching_by ∷ fetched_by ∷ cached_by ∷ reread_by ∷ []) reread
    -- and the plain machine takes the acts of its trail from the start
    × IsRun layout reread.trail
