-- The first worked run from the beginning: a job sets a node on a fresh server and reads it, move by move.
use Rattle.std.specs.Prelude.{List, [], ◌∷◌, ◌++◌, Some, None, true, false, replicate, set}
use Rattle.app_rules.specs.AppState.{AppEnd, Session, no_end, no_session}
use Rattle.app_rules.specs.JobState.{no_job}
use Rattle.cluster_examples.specs.Scenes.{a_conn, a_dial, all_keys, app_with, block_5, down_frame, front_at, head, idle, knows, linked_with, on_conn, progress_at, run_of, times, to_server, up_frame, waiting, window, window_at, x, x_key}
use Rattle.cluster_runs.specs.CoresState.{CoresState, start}
use Rattle.cluster_runs.specs.Reached.{CoresReachedBy}
use Rattle.cluster_runs.specs.Steps.{Made, no_outs}
use Rattle.data_rules.specs.DataState.{DataState}
use Rattle.data_rules.specs.declared.limits.TheConstants.{APP_LIMIT}
use Rattle.plain_orders.specs.declared.layout.Layout.{Layout}
use Rattle.plain_runs.specs.Run.{IsRun}
use Rattle.plain_orders.specs.declared.act.Act.TheVariants as acts
use Rattle.plain_orders.specs.declared.entry.Entry.TheVariants as entries
use Rattle.plain_orders.specs.declared.op.Op.TheVariants as ops
use Rattle.plain_orders.specs.declared.item.Item.TheVariants as items
use Rattle.plain_orders.specs.declared.question.Question.TheVariants as questions
use Rattle.plain_orders.specs.declared.via.Via.TheVariants as vias
use Rattle.ecp_messages.specs.declared.up.Up.TheVariants as ups
use Rattle.ecp_messages.specs.declared.down.Down.TheVariants as downs
use Rattle.app_job.specs.declared.command.Command.TheVariants as commands
use Rattle.app_job.specs.declared.answer.Answer.TheVariants as answers
use Rattle.app_job.specs.declared.why.Why.TheVariants as why
use Rattle.data_rules.specs.declared.data_in.DataIn.TheVariants as data_in
use Rattle.app_rules.specs.declared.app_in.AppIn.TheVariants as app_in
use Rattle.cluster_runs.specs.declared.moves.Move.TheVariants as moves
use Rattle.data_rules.specs.declared.rows.Says.TheVariants as says
use Rattle.data_rules.specs.declared.rows.Role.TheVariants as roles
use Rattle.app_rules.specs.declared.line.Line.TheVariants as lines
use Rattle.link_states.specs.declared.app_link.AppLink.TheVariants as app_links
use Rattle.link_states.specs.declared.data_link.DataLink.TheVariants as data_links

-- the layout
abbrev pub layout : Layout
layout = record { servers = 1; apps = 1; job_apps = 0 ∷ []; times = times }

-- the data server starts with nothing in its journal
abbrev pub began_by : Made
began_by = record { move = moves.Begin 0 0 []; outs = no_outs; acts = acts.Opened 0 [] ∷ [] }

-- the data server then
abbrev pub began_node : DataState
began_node =
    record {
      server = 0;
      times = times;
      order = entries.Epoch 1 ∷ [];
      synced = 0;
      links = replicate APP_LIMIT data_links.Free;
      dials = replicate APP_LIMIT 0;
      conns = [];
      callers = [];
      windows = [];
      locks = record { holds = []; requests = []; granted = [] };
      noted = [];
      round = None;
      replies = [];
    }

-- the cluster then
abbrev pub began : CoresState
began = record (start layout) { nodes = Some began_node ∷ []; orders = Some began_node.order ∷ []; trail = (start layout).trail ++ began_by.acts }

-- its Epoch is saved; the plain machine counts it as synced already
abbrev pub saved_epoch_by : Made
saved_epoch_by = record { move = moves.Server 0 0 (data_in.Saved 1); outs = no_outs; acts = [] }

-- the data server then
abbrev pub saved_epoch_node : DataState
saved_epoch_node = record began_node { synced = 1 }

-- the cluster then
abbrev pub saved_epoch : CoresState
saved_epoch = record began { nodes = Some saved_epoch_node ∷ [] }

-- the job wants to set ^x: its application server asks for a connection
abbrev pub tried_by : Made
tried_by =
    record {
      move = moves.Step 0 0 5 (commands.Set x (53 ∷ []));
      outs = record no_outs { answer = Some (answers.Waiting why.State); connects = 0 ∷ [] };
      acts = [];
    }

-- the end then
abbrev pub tried_end : AppEnd
tried_end = record no_end { line = lines.Trying }

-- the cluster then
abbrev pub tried : CoresState
tried =
    record saved_epoch {
      apps = app_with 0 tried_end ∷ [];
      jobs = record (no_job 0 0 1) { progress = Some (progress_at 5 0 false) } ∷ [];
      begun = waiting 5 (commands.Set x (53 ∷ [])) ∷ [];
      views = knows None [] ∷ [];
    }

-- the connection is there: a Hello
abbrev pub dialed_by : Made
dialed_by = record { move = moves.App 0 0 (app_in.Connected 0); outs = record no_outs { ups = to_server (up_frame 0 0 (ups.Hello 0 1)) ∷ [] }; acts = [] }

-- the end then
abbrev pub dialed_end : AppEnd
dialed_end = record tried_end { line = lines.Greeting; dial = 1 }

-- the cluster then
abbrev pub dialed : CoresState
dialed = record tried { apps = app_with 0 dialed_end ∷ []; dials = record (a_dial 0 1 (up_frame 0 0 (ups.Hello 0 1) ∷ []) []) { linked = false } ∷ [] }

-- the data server accepts it
abbrev pub accepted_by : Made
accepted_by = record { move = moves.Server 0 0 (data_in.Connected 1); outs = no_outs; acts = [] }

-- the data server then
abbrev pub accepted_node : DataState
accepted_node = record saved_epoch_node { conns = record { number = 1; role = roles.New } ∷ [] }

-- the cluster then
abbrev pub accepted : CoresState
accepted = record dialed { nodes = Some accepted_node ∷ []; accepted = a_conn 1 None ∷ [] }

-- and takes the Hello: a session opens
abbrev pub greeted_by : Made
greeted_by = record { move = moves.Server 0 0 (data_in.Frame 1 (up_frame 0 0 (ups.Hello 0 1))); outs = no_outs; acts = acts.Enter 0 (entries.Opened 2 0) ∷ [] }

-- the data server then
abbrev pub greeted_node : DataState
greeted_node =
    record accepted_node {
      order = entries.Epoch 1 ∷ entries.Opened 2 0 ∷ [];
      links = set (replicate APP_LIMIT data_links.Free) 0 data_links.Normal;
      dials = set (replicate APP_LIMIT 0) 0 1;
      conns = record { number = 1; role = roles.Bound 2 } ∷ [];
      windows = window_at 2 0 [] 0 0 ∷ [];
      replies = record { at = 2; says = says.NewWelcome 1 2 } ∷ [];
    }

-- the cluster then
abbrev pub greeted : CoresState
greeted =
    record accepted {
      nodes = Some greeted_node ∷ [];
      orders = Some greeted_node.order ∷ [];
      dials = a_dial 0 1 [] [] ∷ [];
      accepted = a_conn 1 (Some (linked_with 0 1)) ∷ [];
      trail = accepted.trail ++ greeted_by.acts;
    }

-- the Open is saved: the Welcome leaves
abbrev pub welcomed_by : Made
welcomed_by =
    record {
      move = moves.Server 0 0 (data_in.Saved 2);
      outs = record no_outs { downs = on_conn 1 (down_frame 0 0 (downs.Welcome 2 1 2 (head 2 0 0) 0)) ∷ [] };
      acts = acts.Synced 0 2 ∷ [];
    }

-- the data server then
abbrev pub welcomed_node : DataState
welcomed_node = record greeted_node { synced = 2; replies = [] }

-- the cluster then
abbrev pub welcomed : CoresState
welcomed =
    record greeted {
      nodes = Some welcomed_node ∷ [];
      dials = a_dial 0 1 [] (down_frame 0 0 (downs.Welcome 2 1 2 (head 2 0 0) 0) ∷ []) ∷ [];
      trail = greeted.trail ++ welcomed_by.acts;
    }

-- it is taken
abbrev pub met_by : Made
met_by = record { move = moves.App 0 0 (app_in.Frame 0 (down_frame 0 0 (downs.Welcome 2 1 2 (head 2 0 0) 0))); outs = no_outs; acts = acts.Met 0 0 2 ∷ [] }

-- the session then
abbrev pub met_session : Session
met_session = record no_session { number = 2; epoch = 1; n = 2 }

-- the end then
abbrev pub met_end : AppEnd
met_end = record dialed_end { link = app_links.Normal; line = lines.Joined; told = 2; session = Some met_session }

-- the cluster then
abbrev pub met : CoresState
met = record welcomed { apps = app_with 0 met_end ∷ []; dials = a_dial 0 1 [] [] ∷ []; trail = welcomed.trail ++ met_by.acts }

-- the Set of ^x to 5 is issued
abbrev pub issued_by : Made
issued_by =
    record {
      move = moves.Step 0 0 5 (commands.Set x (53 ∷ []));
      outs =
          record no_outs {
            answer = Some (answers.Queued (record { server = 0; number = 1 } ∷ []));
            ups = to_server (up_frame 1 0 (ups.Update 1 0 0 (ops.Set x_key (53 ∷ [])))) ∷ [];
          };
      acts = acts.Issue 0 5 0 1 (items.Op (ops.Set x_key (53 ∷ []))) ∷ [];
    }

-- the session then
abbrev pub issued_session : Session
issued_session =
    record met_session {
      window = window 0 (ups.Update 1 0 0 (ops.Set x_key (53 ∷ [])) ∷ []) 0 0;
      issued = 1;
      queue = record { w = 1; message = ups.Update 1 0 0 (ops.Set x_key (53 ∷ [])); job = 0 } ∷ [];
      late = record { w = 1; job = 0; op = ops.Set x_key (53 ∷ []) } ∷ [];
    }

-- the end then
abbrev pub issued_end : AppEnd
issued_end = record met_end { session = Some issued_session }

-- the cluster then
abbrev pub issued : CoresState
issued =
    record met {
      apps = app_with 0 issued_end ∷ [];
      jobs = record (no_job 0 0 1) { used = Some 2 ∷ [] } ∷ [];
      begun = idle 5 ∷ [];
      dials = a_dial 0 1 (up_frame 1 0 (ups.Update 1 0 0 (ops.Set x_key (53 ∷ []))) ∷ []) [] ∷ [];
      views = knows (Some 2) (record { w = 1; job = 0; op = ops.Set x_key (53 ∷ []) } ∷ []) ∷ [];
      trail = met.trail ++ issued_by.acts;
    }

-- it is taken, and enters
abbrev pub entered_by : Made
entered_by =
    record {
      move = moves.Server 0 0 (data_in.Frame 1 (up_frame 1 0 (ups.Update 1 0 0 (ops.Set x_key (53 ∷ [])))));
      outs = no_outs;
      acts = acts.Enter 0 (entries.Update 2 1 0 0 (ops.Set x_key (53 ∷ []))) ∷ [];
    }

-- the data server then
abbrev pub entered_node : DataState
entered_node =
    record welcomed_node {
      order = entries.Epoch 1 ∷ entries.Opened 2 0 ∷ entries.Update 2 1 0 0 (ops.Set x_key (53 ∷ [])) ∷ [];
      windows = window_at 2 0 [] 1 1 ∷ [];
    }

-- the cluster then
abbrev pub entered : CoresState
entered =
    record issued {
      nodes = Some entered_node ∷ [];
      orders = Some entered_node.order ∷ [];
      dials = a_dial 0 1 [] [] ∷ [];
      trail = issued.trail ++ entered_by.acts;
    }

-- it is saved: an Ack
abbrev pub saved_by : Made
saved_by =
    record {
      move = moves.Server 0 0 (data_in.Saved 3);
      outs = record no_outs { downs = on_conn 1 (down_frame 1 1 (downs.Ack (head 3 1 1))) ∷ [] };
      acts = acts.Synced 0 3 ∷ [];
    }

-- the data server then
abbrev pub saved_node : DataState
saved_node = record entered_node { synced = 3; windows = window_at 2 0 (downs.Ack (head 3 1 1) ∷ []) 1 0 ∷ [] }

-- the cluster then
abbrev pub saved : CoresState
saved =
    record entered {
      nodes = Some saved_node ∷ [];
      dials = a_dial 0 1 [] (down_frame 1 1 (downs.Ack (head 3 1 1)) ∷ []) ∷ [];
      trail = entered.trail ++ saved_by.acts;
    }

-- the Ack is taken
abbrev pub acked_by : Made
acked_by = record { move = moves.App 0 0 (app_in.Frame 0 (down_frame 1 1 (downs.Ack (head 3 1 1)))); outs = no_outs; acts = [] }

-- the session then
abbrev pub acked_session : Session
acked_session = record issued_session { n = 3; w = 1; window = window 1 [] 1 1; queue = []; late = [] }

-- the end then
abbrev pub acked_end : AppEnd
acked_end = record issued_end { session = Some acked_session }

-- the cluster then
abbrev pub acked : CoresState
acked =
    record saved {
      apps = app_with 0 acked_end ∷ [];
      dials = a_dial 0 1 [] [] ∷ [];
      shown = (record { front = Some (front_at 2 1 3 1); runs = [] } ∷ []) ∷ [];
    }

-- the job wants to read ^x: a Fetch
abbrev pub fetching_by : Made
fetching_by =
    record {
      move = moves.Step 0 0 6 (commands.Get x);
      outs = record no_outs { answer = Some (answers.Waiting why.Fetch); ups = to_server (up_frame 2 1 (ups.Fetch x_key)) ∷ [] };
      acts = [];
    }

-- the session then
abbrev pub fetching_session : Session
fetching_session = record acked_session { window = window 1 (ups.Fetch x_key ∷ []) 1 0; fetches = record { job = 0; key = x_key; wanted = true } ∷ [] }

-- the end then
abbrev pub fetching_end : AppEnd
fetching_end = record acked_end { session = Some fetching_session }

-- the cluster then
abbrev pub fetching : CoresState
fetching =
    record acked {
      apps = app_with 0 fetching_end ∷ [];
      jobs = record (no_job 0 0 1) { used = Some 2 ∷ []; progress = Some (progress_at 6 0 true) } ∷ [];
      begun = waiting 6 (commands.Get x) ∷ [];
      dials = a_dial 0 1 (up_frame 2 1 (ups.Fetch x_key) ∷ []) [] ∷ [];
      views = knows (Some 2) [] ∷ [];
    }

-- it is taken: a Block with all that the list leaves
abbrev pub fetched_by : Made
fetched_by =
    record {
      move = moves.Server 0 0 (data_in.Frame 1 (up_frame 2 1 (ups.Fetch x_key)));
      outs = record no_outs { downs = on_conn 1 (down_frame 2 2 (downs.Block (head 3 1 1) block_5)) ∷ [] };
      acts = [];
    }

-- the data server then
abbrev pub fetched_node : DataState
fetched_node =
    record saved_node { windows = window_at 2 1 (downs.Block (head 3 1 1) block_5 ∷ []) 2 0 ∷ []; noted = record { session = 2; span = all_keys } ∷ [] }

-- the cluster then
abbrev pub fetched : CoresState
fetched = record fetching { nodes = Some fetched_node ∷ []; dials = a_dial 0 1 [] (down_frame 2 2 (downs.Block (head 3 1 1) block_5) ∷ []) ∷ [] }

-- the Block is taken
abbrev pub cached_by : Made
cached_by = record { move = moves.App 0 0 (app_in.Frame 0 (down_frame 2 2 (downs.Block (head 3 1 1) block_5))); outs = no_outs; acts = [] }

-- the session then
abbrev pub cached_session : Session
cached_session = record fetching_session { window = window 2 [] 2 1; cache = run_of (record { key = x_key; value = 53 ∷ [] } ∷ []) ∷ []; fetches = [] }

-- the end then
abbrev pub cached_end : AppEnd
cached_end = record fetching_end { session = Some cached_session }

-- the cluster then
abbrev pub cached : CoresState
cached =
    record fetched {
      apps = app_with 0 cached_end ∷ [];
      dials = a_dial 0 1 [] [] ∷ [];
      shown = (record { front = Some (front_at 2 1 3 1); runs = run_of (record { key = x_key; value = 53 ∷ [] } ∷ []) ∷ [] } ∷ []) ∷ [];
    }

-- the job reads 5
abbrev pub read_by : Made
read_by =
    record {
      move = moves.Step 0 0 6 (commands.Get x);
      outs = record no_outs { answer = Some (answers.Value (Some (53 ∷ [])) 3 vias.Fetched) };
      acts = acts.Read 0 6 0 3 vias.Fetched (questions.Get x_key (Some (53 ∷ []))) ∷ [];
    }

-- the cluster then
abbrev pub read : CoresState
read = record cached { jobs = record (no_job 0 0 1) { used = Some 2 ∷ [] } ∷ []; begun = idle 6 ∷ []; trail = cached.trail ++ read_by.acts }

-- the moves, the last of them first
abbrev pub first_run : List Made
first_run =
    read_by ∷ cached_by ∷ fetched_by ∷ fetching_by ∷ acked_by ∷ saved_by ∷ entered_by ∷ issued_by ∷ met_by ∷ welcomed_by ∷ greeted_by ∷ accepted_by
    ∷ dialed_by ∷ tried_by ∷ saved_epoch_by ∷ began_by ∷ []

-- these moves lead from the beginning to this state, each allowed
abbrev pub FirstRunIsReached : Type 0
FirstRunIsReached =
    CoresReachedBy layout first_run read
    -- and the plain machine takes the acts of their trail
    × IsRun layout read.trail
