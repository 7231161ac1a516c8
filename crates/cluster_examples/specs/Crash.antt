-- A data server crashes before it saved an item; a round, a Claim, and the item again.
use Rattle.std.specs.Prelude.{[], ◌∷◌, ◌++◌, Some, None, true, false, replicate, set}
use Rattle.app_rules.specs.AppState.{AppEnd, Session, no_end, no_session}
use Rattle.app_rules.specs.JobState.{no_job}
use Rattle.cluster_examples.specs.Leading.{Leads}
use Rattle.cluster_examples.specs.Scenes.{a_conn, a_dial, a_key, app_with, down_frame, front_at, head, idle, knows, linked_with, on_conn, times, to_server, up_frame, who, window, window_at, x_key}
use Rattle.cluster_runs.specs.CoresState.{CoresState}
use Rattle.cluster_runs.specs.Steps.{Made, no_outs}
use Rattle.data_rules.specs.DataState.{DataState}
use Rattle.data_rules.specs.declared.limits.TheConstants.{APP_LIMIT}
use Rattle.plain_orders.specs.declared.layout.Layout.{Layout}
use Rattle.plain_runs.specs.Run.{IsRun}
use Rattle.plain_orders.specs.declared.act.Act.TheVariants as acts
use Rattle.plain_orders.specs.declared.entry.Entry.TheVariants as entries
use Rattle.plain_orders.specs.declared.op.Op.TheVariants as ops
use Rattle.plain_orders.specs.declared.item.Item.TheVariants as items
use Rattle.plain_orders.specs.declared.mode.Mode.TheVariants as modes
use Rattle.plain_orders.specs.declared.causes.PairEnd.TheVariants as pair_ends
use Rattle.ecp_messages.specs.declared.up.Up.TheVariants as ups
use Rattle.ecp_messages.specs.declared.down.Down.TheVariants as downs
use Rattle.data_rules.specs.declared.data_in.DataIn.TheVariants as data_in
use Rattle.app_rules.specs.declared.app_in.AppIn.TheVariants as app_in
use Rattle.cluster_runs.specs.declared.moves.Move.TheVariants as moves
use Rattle.data_rules.specs.declared.rows.Role.TheVariants as roles
use Rattle.app_rules.specs.declared.line.Line.TheVariants as lines
use Rattle.link_states.specs.declared.app_link.AppLink.TheVariants as app_links
use Rattle.link_states.specs.declared.data_link.DataLink.TheVariants as data_links

-- the layout
abbrev pub layout : Layout
layout = record { servers = 1; apps = 1; job_apps = 0 ∷ []; times = times }

-- an item has entered that is not saved, and job 0 holds ^a
abbrev pub first_node : DataState
first_node =
    record {
      server = 0;
      times = times;
      order = entries.Epoch 1 ∷ entries.Opened 2 0 ∷ entries.Update 2 1 0 0 (ops.Set x_key (49 ∷ [])) ∷ [];
      synced = 2;
      links = set (replicate APP_LIMIT data_links.Free) 0 data_links.Normal;
      dials = set (replicate APP_LIMIT 0) 0 1;
      conns = record { number = 1; role = roles.Bound 2 } ∷ [];
      callers = [];
      windows = window_at 2 1 [] 2 1 ∷ [];
      locks =
          record {
            holds = record { who = who 2 0; name = a_key; mode = modes.Exclusive; count = 1; at = 2 } ∷ [];
            requests = [];
            granted = record { who = who 2 0; ticket = 1; name = a_key; mode = modes.Exclusive } ∷ [];
          };
      noted = [];
      round = None;
      replies = [];
    }

-- the session of application server 0
abbrev pub first_session : Session
first_session =
    record no_session {
      number = 2;
      epoch = 1;
      n = 2;
      window = window 1 (ups.Update 1 0 0 (ops.Set x_key (49 ∷ [])) ∷ []) 1 0;
      issued = 1;
      queue = record { w = 1; message = ups.Update 1 0 0 (ops.Set x_key (49 ∷ [])); job = 0 } ∷ [];
      late = record { w = 1; job = 0; op = ops.Set x_key (49 ∷ []) } ∷ [];
      held = record { job = 0; mode = modes.Exclusive; key = a_key; count = 1; at = 2 } ∷ [];
    }

-- its end
abbrev pub first_end : AppEnd
first_end = record no_end { link = app_links.Normal; line = lines.Joined; dial = 1; ticket = 1; told = 2; session = Some first_session }

-- all that was put was taken
abbrev pub first : CoresState
first =
    record {
      layout = layout;
      nodes = Some first_node ∷ [];
      orders = Some first_node.order ∷ [];
      apps = app_with 0 first_end ∷ [];
      jobs = record (no_job 0 0 1) { used = Some 2 ∷ [] } ∷ [];
      begun = idle 8 ∷ [];
      dials = a_dial 0 1 [] [] ∷ [];
      accepted = a_conn 1 (Some (linked_with 0 1)) ∷ [];
      clock = 0;
      app_nows = 0 ∷ [];
      server_nows = 0 ∷ [];
      dead = false ∷ [];
      shown = (record { front = Some (front_at 2 1 2 0); runs = [] } ∷ []) ∷ [];
      views = knows (Some 2) (record { w = 1; job = 0; op = ops.Set x_key (49 ∷ []) } ∷ []) ∷ [];
      trail =
          acts.Opened 0 [] ∷ acts.Enter 0 (entries.Opened 2 0) ∷ acts.Synced 0 2 ∷ acts.Met 0 0 2 ∷ acts.Grant 0 2 0 modes.Exclusive a_key 2
          ∷ acts.Granted 0 6 0 2 ∷ acts.Issue 0 8 0 1 (items.Op (ops.Set x_key (49 ∷ [])))
          ∷ acts.Enter 0 (entries.Update 2 1 0 0 (ops.Set x_key (49 ∷ []))) ∷ [];
    }

-- it loses its memory, and with it the connection
abbrev pub halted_by : Made
halted_by = record { move = moves.Halt 0; outs = no_outs; acts = [] }

-- the cluster then
abbrev pub halted : CoresState
halted =
    record first {
      nodes = None ∷ [];
      dials = record (a_dial 0 1 [] []) { data_left = true } ∷ [];
      accepted = record (a_conn 1 (Some (linked_with 0 1))) { left = true } ∷ [];
    }

-- it starts with what its journal held: the item is not there, a round begins
abbrev pub began_by : Made
began_by = record { move = moves.Begin 0 0 (entries.Epoch 1 ∷ entries.Opened 2 0 ∷ []); outs = no_outs; acts = acts.Crash 0 2 ∷ [] }

-- the data server then
abbrev pub began_node : DataState
began_node =
    record {
      server = 0;
      times = times;
      order = entries.Epoch 1 ∷ entries.Opened 2 0 ∷ entries.Epoch 2 ∷ [];
      synced = 2;
      links = set (replicate APP_LIMIT data_links.Free) 0 (data_links.Recovering 60);
      dials = replicate APP_LIMIT 0;
      conns = [];
      callers = [];
      windows = [];
      locks = record { holds = []; requests = []; granted = [] };
      noted = [];
      round = Some record { awaited = 2 ∷ []; due = 60 };
      replies = [];
    }

-- the cluster then
abbrev pub began : CoresState
began = record halted { nodes = Some began_node ∷ []; orders = Some began_node.order ∷ []; trail = halted.trail ++ began_by.acts }

-- its new Epoch is saved
abbrev pub saved_epoch_by : Made
saved_epoch_by = record { move = moves.Server 0 0 (data_in.Saved 3); outs = no_outs; acts = acts.Synced 0 3 ∷ [] }

-- the data server then
abbrev pub saved_epoch_node : DataState
saved_epoch_node = record began_node { synced = 3 }

-- the cluster then
abbrev pub saved_epoch : CoresState
saved_epoch = record began { nodes = Some saved_epoch_node ∷ []; trail = began.trail ++ saved_epoch_by.acts }

-- the application server sees the connection end
abbrev pub broken_by : Made
broken_by = record { move = moves.App 0 0 (app_in.Broken 0); outs = no_outs; acts = acts.Broke 0 0 pair_ends.App 0 ∷ [] }

-- the end then
abbrev pub broken_end : AppEnd
broken_end = record first_end { link = app_links.Trouble 0 5; line = lines.Apart }

-- the cluster then
abbrev pub broken : CoresState
broken =
    record saved_epoch {
      apps = app_with 0 broken_end ∷ [];
      dials = record (a_dial 0 1 [] []) { app_left = true; data_left = true } ∷ [];
      trail = saved_epoch.trail ++ broken_by.acts;
    }

-- it may connect again
abbrev pub joining_by : Made
joining_by = record { move = moves.App 0 0 (app_in.Join 0); outs = record no_outs { connects = 0 ∷ [] }; acts = [] }

-- the end then
abbrev pub joining_end : AppEnd
joining_end = record broken_end { line = lines.Trying }

-- the cluster then
abbrev pub joining : CoresState
joining = record broken { apps = app_with 0 joining_end ∷ [] }

-- the connection is there: a Recover
abbrev pub dialed_by : Made
dialed_by =
    record {
      move = moves.App 0 0 (app_in.Connected 0);
      outs = record no_outs { ups = to_server (up_frame 0 1 (ups.Recover 0 2 1 1 2)) ∷ [] };
      acts = acts.Mended 0 0 ∷ [];
    }

-- the end then
abbrev pub dialed_end : AppEnd
dialed_end = record joining_end { link = app_links.Recovery; line = lines.Asking; dial = 2 }

-- the cluster then
abbrev pub dialed : CoresState
dialed =
    record joining {
      apps = app_with 0 dialed_end ∷ [];
      dials =
          record (a_dial 0 1 [] []) { app_left = true; data_left = true }
          ∷ record (a_dial 0 2 (up_frame 0 1 (ups.Recover 0 2 1 1 2) ∷ []) []) { linked = false } ∷ [];
      trail = joining.trail ++ dialed_by.acts;
    }

-- the data server accepts it
abbrev pub accepted_by : Made
accepted_by = record { move = moves.Server 0 0 (data_in.Connected 2); outs = no_outs; acts = [] }

-- the data server then
abbrev pub accepted_node : DataState
accepted_node = record saved_epoch_node { conns = record { number = 2; role = roles.New } ∷ [] }

-- the cluster then
abbrev pub accepted : CoresState
accepted = record dialed { nodes = Some accepted_node ∷ []; accepted = record (a_conn 1 (Some (linked_with 0 1))) { left = true } ∷ a_conn 2 None ∷ [] }

-- and takes the Recover: the Welcome tells the new epoch, and how much of the list of before was kept
abbrev pub returned_by : Made
returned_by =
    record {
      move = moves.Server 0 0 (data_in.Frame 2 (up_frame 0 1 (ups.Recover 0 2 1 1 2)));
      outs = record no_outs { downs = on_conn 2 (down_frame 0 0 (downs.Welcome 2 2 2 (head 3 0 0) 0)) ∷ [] };
      acts = [];
    }

-- the data server then
abbrev pub returned_node : DataState
returned_node =
    record accepted_node {
      dials = set (replicate APP_LIMIT 0) 0 2;
      conns = record { number = 2; role = roles.Bound 2 } ∷ [];
      windows = window_at 2 0 [] 0 0 ∷ [];
    }

-- the cluster then
abbrev pub returned : CoresState
returned =
    record accepted {
      nodes = Some returned_node ∷ [];
      dials =
          record (a_dial 0 1 [] []) { app_left = true; data_left = true } ∷ a_dial 0 2 [] (down_frame 0 0 (downs.Welcome 2 2 2 (head 3 0 0) 0) ∷ []) ∷ [];
      accepted = record (a_conn 1 (Some (linked_with 0 1))) { left = true } ∷ a_conn 2 (Some (linked_with 0 2)) ∷ [];
    }

-- it is taken: the Claim of the lock, the item again, and Done
abbrev pub learned_by : Made
learned_by =
    record {
      move = moves.App 0 0 (app_in.Frame 0 (down_frame 0 0 (downs.Welcome 2 2 2 (head 3 0 0) 0)));
      outs =
          record no_outs {
            ups =
                to_server (up_frame 1 0 (ups.Claim 0 modes.Exclusive 1 2 a_key))
                ∷ to_server (up_frame 2 0 (ups.Update 1 0 0 (ops.Set x_key (49 ∷ [])))) ∷ to_server (up_frame 3 0 ups.Done) ∷ [];
          };
      acts = acts.Told 0 0 2 2 2 ∷ [];
    }

-- the session then
abbrev pub learned_session : Session
learned_session =
    record first_session {
      epoch = 2;
      n = 3;
      window = window 0 (ups.Claim 0 modes.Exclusive 1 2 a_key ∷ ups.Update 1 0 0 (ops.Set x_key (49 ∷ [])) ∷ ups.Done ∷ []) 0 0;
      normal_due = true;
    }

-- the end then
abbrev pub learned_end : AppEnd
learned_end = record dialed_end { line = lines.Joined; session = Some learned_session }

-- the cluster then
abbrev pub learned : CoresState
learned =
    record returned {
      apps = app_with 0 learned_end ∷ [];
      dials =
          record (a_dial 0 1 [] []) { app_left = true; data_left = true }
          ∷ a_dial 0 2 (up_frame 1 0 (ups.Claim 0 modes.Exclusive 1 2 a_key) ∷ up_frame 2 0 (ups.Update 1 0 0 (ops.Set x_key (49 ∷ []))) ∷ up_frame 3 0 ups.Done ∷ []) []
          ∷ [];
      shown = (record { front = Some (front_at 2 2 3 0); runs = [] } ∷ []) ∷ [];
      trail = returned.trail ++ learned_by.acts;
    }

-- the Claim is taken
abbrev pub claimed_by : Made
claimed_by = record { move = moves.Server 0 0 (data_in.Frame 2 (up_frame 1 0 (ups.Claim 0 modes.Exclusive 1 2 a_key))); outs = no_outs; acts = [] }

-- the data server then
abbrev pub claimed_node : DataState
claimed_node =
    record returned_node {
      windows = window_at 2 0 [] 1 1 ∷ [];
      locks = record returned_node.locks { holds = record { who = who 2 0; name = a_key; mode = modes.Exclusive; count = 1; at = 2 } ∷ [] };
    }

-- the cluster then
abbrev pub claimed : CoresState
claimed =
    record learned {
      nodes = Some claimed_node ∷ [];
      dials =
          record (a_dial 0 1 [] []) { app_left = true; data_left = true }
          ∷ a_dial 0 2 (up_frame 2 0 (ups.Update 1 0 0 (ops.Set x_key (49 ∷ []))) ∷ up_frame 3 0 ups.Done ∷ []) [] ∷ [];
    }

-- the item is taken, and enters again
abbrev pub reentered_by : Made
reentered_by =
    record {
      move = moves.Server 0 0 (data_in.Frame 2 (up_frame 2 0 (ups.Update 1 0 0 (ops.Set x_key (49 ∷ [])))));
      outs = no_outs;
      acts = acts.Enter 0 (entries.Update 2 1 0 0 (ops.Set x_key (49 ∷ []))) ∷ [];
    }

-- the data server then
abbrev pub reentered_node : DataState
reentered_node =
    record claimed_node {
      order = entries.Epoch 1 ∷ entries.Opened 2 0 ∷ entries.Epoch 2 ∷ entries.Update 2 1 0 0 (ops.Set x_key (49 ∷ [])) ∷ [];
      windows = window_at 2 0 [] 2 2 ∷ [];
    }

-- the cluster then
abbrev pub reentered : CoresState
reentered =
    record claimed {
      nodes = Some reentered_node ∷ [];
      orders = Some reentered_node.order ∷ [];
      dials = record (a_dial 0 1 [] []) { app_left = true; data_left = true } ∷ a_dial 0 2 (up_frame 3 0 ups.Done ∷ []) [] ∷ [];
      trail = claimed.trail ++ reentered_by.acts;
    }

-- Done is taken: the round is over, and Normal leaves
abbrev pub back_by : Made
back_by =
    record {
      move = moves.Server 0 0 (data_in.Frame 2 (up_frame 3 0 ups.Done));
      outs = record no_outs { downs = on_conn 2 (down_frame 1 3 (downs.Normal (head 4 1 0))) ∷ [] };
      acts = acts.Back 0 ∷ [];
    }

-- the data server then
abbrev pub back_node : DataState
back_node =
    record reentered_node {
      links = set (replicate APP_LIMIT data_links.Free) 0 data_links.Normal;
      windows = window_at 2 0 (downs.Normal (head 4 1 0) ∷ []) 3 0 ∷ [];
      round = None;
    }

-- the cluster then
abbrev pub back : CoresState
back =
    record reentered {
      nodes = Some back_node ∷ [];
      dials = record (a_dial 0 1 [] []) { app_left = true; data_left = true } ∷ a_dial 0 2 [] (down_frame 1 3 (downs.Normal (head 4 1 0)) ∷ []) ∷ [];
      trail = reentered.trail ++ back_by.acts;
    }

-- Normal is taken
abbrev pub normal_by : Made
normal_by = record { move = moves.App 0 0 (app_in.Frame 0 (down_frame 1 3 (downs.Normal (head 4 1 0)))); outs = no_outs; acts = [] }

-- the session then
abbrev pub normal_session : Session
normal_session = record learned_session { n = 4; w = 1; window = window 3 [] 1 1; late = []; normal_due = false }

-- the end then
abbrev pub normal_end : AppEnd
normal_end = record learned_end { link = app_links.Normal; session = Some normal_session }

-- the cluster then
abbrev pub normal : CoresState
normal =
    record back {
      apps = app_with 0 normal_end ∷ [];
      dials = record (a_dial 0 1 [] []) { app_left = true; data_left = true } ∷ a_dial 0 2 [] [] ∷ [];
      shown = (record { front = Some (front_at 2 2 4 1); runs = [] } ∷ []) ∷ [];
    }

-- the item is saved: an Ack
abbrev pub saved_by : Made
saved_by =
    record {
      move = moves.Server 0 0 (data_in.Saved 4);
      outs = record no_outs { downs = on_conn 2 (down_frame 2 3 (downs.Ack (head 4 1 1))) ∷ [] };
      acts = acts.Synced 0 4 ∷ [];
    }

-- the data server then
abbrev pub saved_node : DataState
saved_node = record back_node { synced = 4; windows = window_at 2 0 (downs.Normal (head 4 1 0) ∷ downs.Ack (head 4 1 1) ∷ []) 3 0 ∷ [] }

-- the cluster then
abbrev pub saved : CoresState
saved =
    record normal {
      nodes = Some saved_node ∷ [];
      dials = record (a_dial 0 1 [] []) { app_left = true; data_left = true } ∷ a_dial 0 2 [] (down_frame 2 3 (downs.Ack (head 4 1 1)) ∷ []) ∷ [];
      trail = normal.trail ++ saved_by.acts;
    }

-- these moves lead there, each allowed
abbrev pub CrashIsMended : Type 0
CrashIsMended =
    Leads first (halted_by ∷ began_by ∷ saved_epoch_by ∷ broken_by ∷ joining_by ∷ dialed_by ∷ accepted_by ∷ returned_by ∷ learned_by ∷ claimed_by ∷ reentered_by ∷ back_by ∷ normal_by ∷ saved_by ∷ []) saved
    -- and the plain machine takes the acts of its trail from the start
    × IsRun layout saved.trail
