-- A connection breaks, and a Recover in the same epoch sends again what the other end lacks.
use Rattle.std.specs.Prelude.{[], ◌∷◌, ◌++◌, Some, None, true, false, replicate, set}
use Rattle.app_rules.specs.AppState.{AppEnd, Session, no_end, no_session}
use Rattle.app_rules.specs.JobState.{no_job}
use Rattle.cluster_examples.specs.Leading.{Leads}
use Rattle.cluster_examples.specs.Scenes.{a_conn, a_dial, all_keys, app_with, down_frame, empty_block, front_at, head, idle, knows, linked_with, on_conn, run_of, times, to_server, up_frame, window, window_at, x, x_key}
use Rattle.cluster_runs.specs.CoresState.{CoresState}
use Rattle.cluster_runs.specs.Steps.{Made, no_outs}
use Rattle.data_rules.specs.DataState.{DataState}
use Rattle.data_rules.specs.declared.limits.TheConstants.{APP_LIMIT}
use Rattle.plain_orders.specs.declared.layout.Layout.{Layout}
use Rattle.plain_runs.specs.Run.{IsRun}
use Rattle.plain_orders.specs.declared.act.Act.TheVariants as acts
use Rattle.plain_orders.specs.declared.entry.Entry.TheVariants as entries
use Rattle.plain_orders.specs.declared.op.Op.TheVariants as ops
use Rattle.plain_orders.specs.declared.item.Item.TheVariants as items
use Rattle.plain_orders.specs.declared.question.Question.TheVariants as questions
use Rattle.plain_orders.specs.declared.via.Via.TheVariants as vias
use Rattle.plain_orders.specs.declared.causes.PairEnd.TheVariants as pair_ends
use Rattle.ecp_messages.specs.declared.up.Up.TheVariants as ups
use Rattle.ecp_messages.specs.declared.down.Down.TheVariants as downs
use Rattle.app_job.specs.declared.command.Command.TheVariants as commands
use Rattle.app_job.specs.declared.answer.Answer.TheVariants as answers
use Rattle.data_rules.specs.declared.data_in.DataIn.TheVariants as data_in
use Rattle.app_rules.specs.declared.app_in.AppIn.TheVariants as app_in
use Rattle.cluster_runs.specs.declared.moves.Move.TheVariants as moves
use Rattle.data_rules.specs.declared.rows.Role.TheVariants as roles
use Rattle.app_rules.specs.declared.line.Line.TheVariants as lines
use Rattle.link_states.specs.declared.app_link.AppLink.TheVariants as app_links
use Rattle.link_states.specs.declared.data_link.DataLink.TheVariants as data_links

-- the layout
abbrev pub layout : Layout
layout = record { servers = 1; apps = 1; job_apps = 0 ∷ []; times = times }

-- a data server with one session, which has the run over all keys
abbrev pub first_node : DataState
first_node =
    record {
      server = 0;
      times = times;
      order = entries.Epoch 1 ∷ entries.Opened 2 0 ∷ [];
      synced = 2;
      links = set (replicate APP_LIMIT data_links.Free) 0 data_links.Normal;
      dials = set (replicate APP_LIMIT 0) 0 1;
      conns = record { number = 1; role = roles.Bound 2 } ∷ [];
      callers = [];
      windows = window_at 2 0 (downs.Block (head 2 0 0) empty_block ∷ []) 1 0 ∷ [];
      locks = record { holds = []; requests = []; granted = [] };
      noted = record { session = 2; span = all_keys } ∷ [];
      round = None;
      replies = [];
    }

-- the session of application server 0
abbrev pub first_session : Session
first_session = record no_session { number = 2; epoch = 1; n = 2; window = window 1 [] 1 1; cache = run_of [] ∷ [] }

-- its end
abbrev pub first_end : AppEnd
first_end = record no_end { link = app_links.Normal; line = lines.Joined; dial = 1; told = 2; session = Some first_session }

-- all that was put was taken
abbrev pub first : CoresState
first =
    record {
      layout = layout;
      nodes = Some first_node ∷ [];
      orders = Some first_node.order ∷ [];
      apps = app_with 0 first_end ∷ [];
      jobs = record (no_job 0 0 1) { used = Some 2 ∷ [] } ∷ [];
      begun = idle 6 ∷ [];
      dials = a_dial 0 1 [] [] ∷ [];
      accepted = a_conn 1 (Some (linked_with 0 1)) ∷ [];
      clock = 0;
      app_nows = 0 ∷ [];
      server_nows = 0 ∷ [];
      dead = false ∷ [];
      shown = (record { front = Some (front_at 2 1 2 0); runs = run_of [] ∷ [] } ∷ []) ∷ [];
      views = knows (Some 2) [] ∷ [];
      trail =
          acts.Opened 0 [] ∷ acts.Enter 0 (entries.Opened 2 0) ∷ acts.Synced 0 2 ∷ acts.Met 0 0 2
          ∷ acts.Read 0 6 0 2 vias.Fetched (questions.Get x_key None) ∷ [];
    }

-- the job sets ^x to 1
abbrev pub issued_by : Made
issued_by =
    record {
      move = moves.Step 0 0 7 (commands.Set x (49 ∷ []));
      outs =
          record no_outs {
            answer = Some (answers.Queued (record { server = 0; number = 1 } ∷ []));
            ups = to_server (up_frame 2 1 (ups.Update 1 0 0 (ops.Set x_key (49 ∷ [])))) ∷ [];
          };
      acts = acts.Issue 0 7 0 1 (items.Op (ops.Set x_key (49 ∷ []))) ∷ [];
    }

-- the session then
abbrev pub issued_session : Session
issued_session =
    record first_session {
      window = window 1 (ups.Update 1 0 0 (ops.Set x_key (49 ∷ [])) ∷ []) 1 0;
      issued = 1;
      queue = record { w = 1; message = ups.Update 1 0 0 (ops.Set x_key (49 ∷ [])); job = 0 } ∷ [];
      late = record { w = 1; job = 0; op = ops.Set x_key (49 ∷ []) } ∷ [];
    }

-- the end then
abbrev pub issued_end : AppEnd
issued_end = record first_end { session = Some issued_session }

-- the cluster then
abbrev pub issued : CoresState
issued =
    record first {
      apps = app_with 0 issued_end ∷ [];
      begun = idle 7 ∷ [];
      dials = a_dial 0 1 (up_frame 2 1 (ups.Update 1 0 0 (ops.Set x_key (49 ∷ []))) ∷ []) [] ∷ [];
      views = knows (Some 2) (record { w = 1; job = 0; op = ops.Set x_key (49 ∷ []) } ∷ []) ∷ [];
      trail = first.trail ++ issued_by.acts;
    }

-- and to 2
abbrev pub reissued_by : Made
reissued_by =
    record {
      move = moves.Step 0 0 8 (commands.Set x (50 ∷ []));
      outs =
          record no_outs {
            answer = Some (answers.Queued (record { server = 0; number = 2 } ∷ []));
            ups = to_server (up_frame 3 1 (ups.Update 2 0 0 (ops.Set x_key (50 ∷ [])))) ∷ [];
          };
      acts = acts.Issue 0 8 0 2 (items.Op (ops.Set x_key (50 ∷ []))) ∷ [];
    }

-- the session then
abbrev pub reissued_session : Session
reissued_session =
    record issued_session {
      window = window 1 (ups.Update 1 0 0 (ops.Set x_key (49 ∷ [])) ∷ ups.Update 2 0 0 (ops.Set x_key (50 ∷ [])) ∷ []) 1 0;
      issued = 2;
      queue =
          record { w = 1; message = ups.Update 1 0 0 (ops.Set x_key (49 ∷ [])); job = 0 }
          ∷ record { w = 2; message = ups.Update 2 0 0 (ops.Set x_key (50 ∷ [])); job = 0 } ∷ [];
      late = record { w = 1; job = 0; op = ops.Set x_key (49 ∷ []) } ∷ record { w = 2; job = 0; op = ops.Set x_key (50 ∷ []) } ∷ [];
    }

-- the end then
abbrev pub reissued_end : AppEnd
reissued_end = record issued_end { session = Some reissued_session }

-- the cluster then
abbrev pub reissued : CoresState
reissued =
    record issued {
      apps = app_with 0 reissued_end ∷ [];
      begun = idle 8 ∷ [];
      dials =
          a_dial 0 1 (up_frame 2 1 (ups.Update 1 0 0 (ops.Set x_key (49 ∷ []))) ∷ up_frame 3 1 (ups.Update 2 0 0 (ops.Set x_key (50 ∷ []))) ∷ []) [] ∷ [];
      views = knows (Some 2) (record { w = 1; job = 0; op = ops.Set x_key (49 ∷ []) } ∷ record { w = 2; job = 0; op = ops.Set x_key (50 ∷ []) } ∷ []) ∷ [];
      trail = issued.trail ++ reissued_by.acts;
    }

-- the first of them is taken and enters: a Drop
abbrev pub entered_by : Made
entered_by =
    record {
      move = moves.Server 0 0 (data_in.Frame 1 (up_frame 2 1 (ups.Update 1 0 0 (ops.Set x_key (49 ∷ [])))));
      outs = record no_outs { downs = on_conn 1 (down_frame 2 2 (downs.Drop (head 3 1 0) [] (255 ∷ []))) ∷ [] };
      acts = acts.Enter 0 (entries.Update 2 1 0 0 (ops.Set x_key (49 ∷ []))) ∷ [];
    }

-- the data server then
abbrev pub entered_node : DataState
entered_node =
    record first_node {
      order = entries.Epoch 1 ∷ entries.Opened 2 0 ∷ entries.Update 2 1 0 0 (ops.Set x_key (49 ∷ [])) ∷ [];
      windows = window_at 2 1 (downs.Drop (head 3 1 0) [] (255 ∷ []) ∷ []) 2 0 ∷ [];
      noted = [];
    }

-- the cluster then
abbrev pub entered : CoresState
entered =
    record reissued {
      nodes = Some entered_node ∷ [];
      orders = Some entered_node.order ∷ [];
      dials =
          a_dial 0 1 (up_frame 3 1 (ups.Update 2 0 0 (ops.Set x_key (50 ∷ []))) ∷ []) (down_frame 2 2 (downs.Drop (head 3 1 0) [] (255 ∷ [])) ∷ []) ∷ [];
      trail = reissued.trail ++ entered_by.acts;
    }

-- it is saved: an Ack
abbrev pub saved_by : Made
saved_by =
    record {
      move = moves.Server 0 0 (data_in.Saved 3);
      outs = record no_outs { downs = on_conn 1 (down_frame 3 2 (downs.Ack (head 3 1 1))) ∷ [] };
      acts = acts.Synced 0 3 ∷ [];
    }

-- the data server then
abbrev pub saved_node : DataState
saved_node = record entered_node { synced = 3; windows = window_at 2 1 (downs.Drop (head 3 1 0) [] (255 ∷ []) ∷ downs.Ack (head 3 1 1) ∷ []) 2 0 ∷ [] }

-- the cluster then
abbrev pub saved : CoresState
saved =
    record entered {
      nodes = Some saved_node ∷ [];
      dials =
          a_dial 0 1 (up_frame 3 1 (ups.Update 2 0 0 (ops.Set x_key (50 ∷ []))) ∷ []) (down_frame 2 2 (downs.Drop (head 3 1 0) [] (255 ∷ [])) ∷ down_frame 3 2 (downs.Ack (head 3 1 1)) ∷ []) ∷ [];
      trail = entered.trail ++ saved_by.acts;
    }

-- the data server sees the connection end: the second Set is lost on its way
abbrev pub left_by : Made
left_by = record { move = moves.Server 0 0 (data_in.Broken 1); outs = no_outs; acts = acts.Broke 0 0 pair_ends.Server 0 ∷ [] }

-- the data server then
abbrev pub left_node : DataState
left_node = record saved_node { links = set (replicate APP_LIMIT data_links.Free) 0 (data_links.Trouble 0); conns = [] }

-- the cluster then
abbrev pub left : CoresState
left =
    record saved {
      nodes = Some left_node ∷ [];
      dials =
          record (a_dial 0 1 [] (down_frame 2 2 (downs.Drop (head 3 1 0) [] (255 ∷ [])) ∷ down_frame 3 2 (downs.Ack (head 3 1 1)) ∷ [])) { data_left = true } ∷ [];
      accepted = record (a_conn 1 (Some (linked_with 0 1))) { left = true } ∷ [];
      trail = saved.trail ++ left_by.acts;
    }

-- the application server sees it: the Drop and the Ack are lost
abbrev pub broken_by : Made
broken_by = record { move = moves.App 0 0 (app_in.Broken 0); outs = no_outs; acts = acts.Broke 0 0 pair_ends.App 0 ∷ [] }

-- the end then
abbrev pub broken_end : AppEnd
broken_end = record reissued_end { link = app_links.Trouble 0 5; line = lines.Apart }

-- the cluster then
abbrev pub broken : CoresState
broken =
    record left {
      apps = app_with 0 broken_end ∷ [];
      dials = record (a_dial 0 1 [] []) { app_left = true; data_left = true } ∷ [];
      trail = left.trail ++ broken_by.acts;
    }

-- it may connect again
abbrev pub joining_by : Made
joining_by = record { move = moves.App 0 0 (app_in.Join 0); outs = record no_outs { connects = 0 ∷ [] }; acts = [] }

-- the end then
abbrev pub joining_end : AppEnd
joining_end = record broken_end { line = lines.Trying }

-- the cluster then
abbrev pub joining : CoresState
joining = record broken { apps = app_with 0 joining_end ∷ [] }

-- the connection is there: a Recover
abbrev pub dialed_by : Made
dialed_by =
    record {
      move = moves.App 0 0 (app_in.Connected 0);
      outs = record no_outs { ups = to_server (up_frame 0 1 (ups.Recover 0 2 1 1 2)) ∷ [] };
      acts = acts.Mended 0 0 ∷ [];
    }

-- the end then
abbrev pub dialed_end : AppEnd
dialed_end = record joining_end { link = app_links.Recovery; line = lines.Asking; dial = 2 }

-- the cluster then
abbrev pub dialed : CoresState
dialed =
    record joining {
      apps = app_with 0 dialed_end ∷ [];
      dials =
          record (a_dial 0 1 [] []) { app_left = true; data_left = true }
          ∷ record (a_dial 0 2 (up_frame 0 1 (ups.Recover 0 2 1 1 2) ∷ []) []) { linked = false } ∷ [];
      trail = joining.trail ++ dialed_by.acts;
    }

-- the data server accepts it
abbrev pub accepted_by : Made
accepted_by = record { move = moves.Server 0 0 (data_in.Connected 2); outs = no_outs; acts = [] }

-- the data server then
abbrev pub accepted_node : DataState
accepted_node = record left_node { conns = record { number = 2; role = roles.New } ∷ [] }

-- the cluster then
abbrev pub accepted : CoresState
accepted = record dialed { nodes = Some accepted_node ∷ []; accepted = record (a_conn 1 (Some (linked_with 0 1))) { left = true } ∷ a_conn 2 None ∷ [] }

-- and takes the Recover: the Welcome, and the Drop and the Ack again
abbrev pub recovered_by : Made
recovered_by =
    record {
      move = moves.Server 0 0 (data_in.Frame 2 (up_frame 0 1 (ups.Recover 0 2 1 1 2)));
      outs =
          record no_outs {
            downs =
                on_conn 2 (down_frame 0 2 (downs.Welcome 2 1 3 (head 3 1 1) 2)) ∷ on_conn 2 (down_frame 2 2 (downs.Drop (head 3 1 0) [] (255 ∷ [])))
                ∷ on_conn 2 (down_frame 3 2 (downs.Ack (head 3 1 1))) ∷ [];
          };
      acts = [];
    }

-- the data server then
abbrev pub recovered_node : DataState
recovered_node =
    record accepted_node {
      links = set (replicate APP_LIMIT data_links.Free) 0 data_links.Normal;
      dials = set (replicate APP_LIMIT 0) 0 2;
      conns = record { number = 2; role = roles.Bound 2 } ∷ [];
    }

-- the cluster then
abbrev pub recovered : CoresState
recovered =
    record accepted {
      nodes = Some recovered_node ∷ [];
      dials =
          record (a_dial 0 1 [] []) { app_left = true; data_left = true }
          ∷ a_dial 0 2 [] (down_frame 0 2 (downs.Welcome 2 1 3 (head 3 1 1) 2) ∷ down_frame 2 2 (downs.Drop (head 3 1 0) [] (255 ∷ [])) ∷ down_frame 3 2 (downs.Ack (head 3 1 1)) ∷ [])
          ∷ [];
      accepted = record (a_conn 1 (Some (linked_with 0 1))) { left = true } ∷ a_conn 2 (Some (linked_with 0 2)) ∷ [];
    }

-- the Welcome is taken: the second Set again, with its number
abbrev pub welcomed_by : Made
welcomed_by =
    record {
      move = moves.App 0 0 (app_in.Frame 0 (down_frame 0 2 (downs.Welcome 2 1 3 (head 3 1 1) 2)));
      outs = record no_outs { ups = to_server (up_frame 3 1 (ups.Update 2 0 0 (ops.Set x_key (50 ∷ [])))) ∷ [] };
      acts = [];
    }

-- the session then
abbrev pub welcomed_session : Session
welcomed_session = record reissued_session { queue = record { w = 2; message = ups.Update 2 0 0 (ops.Set x_key (50 ∷ [])); job = 0 } ∷ [] }

-- the end then
abbrev pub welcomed_end : AppEnd
welcomed_end = record dialed_end { link = app_links.Normal; line = lines.Joined; session = Some welcomed_session }

-- the cluster then
abbrev pub welcomed : CoresState
welcomed =
    record recovered {
      apps = app_with 0 welcomed_end ∷ [];
      dials =
          record (a_dial 0 1 [] []) { app_left = true; data_left = true }
          ∷ a_dial 0 2 (up_frame 3 1 (ups.Update 2 0 0 (ops.Set x_key (50 ∷ []))) ∷ []) (down_frame 2 2 (downs.Drop (head 3 1 0) [] (255 ∷ [])) ∷ down_frame 3 2 (downs.Ack (head 3 1 1)) ∷ [])
          ∷ [];
    }

-- the Drop is taken
abbrev pub dropped_by : Made
dropped_by = record { move = moves.App 0 0 (app_in.Frame 0 (down_frame 2 2 (downs.Drop (head 3 1 0) [] (255 ∷ [])))); outs = no_outs; acts = [] }

-- the session then
abbrev pub dropped_session : Session
dropped_session =
    record welcomed_session {
      n = 3;
      w = 1;
      window = window 2 (ups.Update 2 0 0 (ops.Set x_key (50 ∷ [])) ∷ []) 2 1;
      late = record { w = 2; job = 0; op = ops.Set x_key (50 ∷ []) } ∷ [];
      cache = [];
    }

-- the end then
abbrev pub dropped_end : AppEnd
dropped_end = record welcomed_end { session = Some dropped_session }

-- the cluster then
abbrev pub dropped : CoresState
dropped =
    record welcomed {
      apps = app_with 0 dropped_end ∷ [];
      dials =
          record (a_dial 0 1 [] []) { app_left = true; data_left = true }
          ∷ a_dial 0 2 (up_frame 3 1 (ups.Update 2 0 0 (ops.Set x_key (50 ∷ []))) ∷ []) (down_frame 3 2 (downs.Ack (head 3 1 1)) ∷ []) ∷ [];
      shown = (record { front = Some (front_at 2 1 3 1); runs = [] } ∷ []) ∷ [];
    }

-- the Ack is taken
abbrev pub acked_by : Made
acked_by = record { move = moves.App 0 0 (app_in.Frame 0 (down_frame 3 2 (downs.Ack (head 3 1 1)))); outs = no_outs; acts = [] }

-- the session then
abbrev pub acked_session : Session
acked_session = record dropped_session { window = window 2 (ups.Update 2 0 0 (ops.Set x_key (50 ∷ [])) ∷ []) 3 2 }

-- the end then
abbrev pub acked_end : AppEnd
acked_end = record dropped_end { session = Some acked_session }

-- the cluster then
abbrev pub acked : CoresState
acked =
    record dropped {
      apps = app_with 0 acked_end ∷ [];
      dials =
          record (a_dial 0 1 [] []) { app_left = true; data_left = true }
          ∷ a_dial 0 2 (up_frame 3 1 (ups.Update 2 0 0 (ops.Set x_key (50 ∷ []))) ∷ []) [] ∷ [];
    }

-- the second Set is taken and enters
abbrev pub reentered_by : Made
reentered_by =
    record {
      move = moves.Server 0 0 (data_in.Frame 2 (up_frame 3 1 (ups.Update 2 0 0 (ops.Set x_key (50 ∷ [])))));
      outs = no_outs;
      acts = acts.Enter 0 (entries.Update 2 2 0 0 (ops.Set x_key (50 ∷ []))) ∷ [];
    }

-- the data server then
abbrev pub reentered_node : DataState
reentered_node =
    record recovered_node {
      order =
          entries.Epoch 1 ∷ entries.Opened 2 0 ∷ entries.Update 2 1 0 0 (ops.Set x_key (49 ∷ [])) ∷ entries.Update 2 2 0 0 (ops.Set x_key (50 ∷ [])) ∷ [];
      windows = window_at 2 1 (downs.Drop (head 3 1 0) [] (255 ∷ []) ∷ downs.Ack (head 3 1 1) ∷ []) 3 1 ∷ [];
    }

-- the cluster then
abbrev pub reentered : CoresState
reentered =
    record acked {
      nodes = Some reentered_node ∷ [];
      orders = Some reentered_node.order ∷ [];
      dials = record (a_dial 0 1 [] []) { app_left = true; data_left = true } ∷ a_dial 0 2 [] [] ∷ [];
      trail = acked.trail ++ reentered_by.acts;
    }

-- these moves lead there, each allowed
abbrev pub RecoverSendsAgain : Type 0
RecoverSendsAgain =
    Leads first (issued_by ∷ reissued_by ∷ entered_by ∷ saved_by ∷ left_by ∷ broken_by ∷ joining_by ∷ dialed_by ∷ accepted_by ∷ recovered_by ∷ welcomed_by ∷ dropped_by ∷ acked_by ∷ reentered_by ∷ []) reentered
    -- and the plain machine takes the acts of its trail from the start
    × IsRun layout reentered.trail
