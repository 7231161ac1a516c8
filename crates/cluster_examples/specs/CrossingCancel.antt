-- The Cancel of a lock crosses its Grant.
use Rattle.std.specs.Prelude.{[], ◌∷◌, ◌++◌, Some, None, true, false, replicate, set}
use Rattle.app_rules.specs.AppState.{AppEnd, Session, no_end, no_session}
use Rattle.app_rules.specs.JobState.{no_job}
use Rattle.cluster_examples.specs.Leading.{Leads}
use Rattle.cluster_examples.specs.Scenes.{a, a_conn, a_dial, a_key, app_with, down_frame, front_at, head, idle, knows, linked_with, on_conn, progress_at, times, to_server, up_frame, waiting, who, window, window_at}
use Rattle.cluster_runs.specs.CoresState.{CoresState}
use Rattle.cluster_runs.specs.Steps.{Made, no_outs}
use Rattle.data_rules.specs.DataState.{DataState}
use Rattle.data_rules.specs.declared.limits.TheConstants.{APP_LIMIT}
use Rattle.plain_orders.specs.declared.layout.Layout.{Layout}
use Rattle.plain_runs.specs.Run.{IsRun}
use Rattle.plain_orders.specs.declared.act.Act.TheVariants as acts
use Rattle.plain_orders.specs.declared.entry.Entry.TheVariants as entries
use Rattle.plain_orders.specs.declared.mode.Mode.TheVariants as modes
use Rattle.plain_orders.specs.declared.refused.Refused.TheVariants as refusals_short
use Rattle.app_job.specs.declared.refusal.Refusal.TheVariants as refusals
use Rattle.ecp_messages.specs.declared.up.Up.TheVariants as ups
use Rattle.ecp_messages.specs.declared.down.Down.TheVariants as downs
use Rattle.app_job.specs.declared.command.Command.TheVariants as commands
use Rattle.app_job.specs.declared.answer.Answer.TheVariants as answers
use Rattle.app_job.specs.declared.why.Why.TheVariants as why
use Rattle.data_rules.specs.declared.data_in.DataIn.TheVariants as data_in
use Rattle.app_rules.specs.declared.app_in.AppIn.TheVariants as app_in
use Rattle.cluster_runs.specs.declared.moves.Move.TheVariants as moves
use Rattle.data_rules.specs.declared.rows.Role.TheVariants as roles
use Rattle.app_rules.specs.declared.line.Line.TheVariants as lines
use Rattle.link_states.specs.declared.app_link.AppLink.TheVariants as app_links
use Rattle.link_states.specs.declared.data_link.DataLink.TheVariants as data_links

-- the layout
abbrev pub layout : Layout
layout = record { servers = 1; apps = 2; job_apps = 0 ∷ 1 ∷ []; times = times }

-- a job of session 2 holds ^a, and one of session 3 waits for it
abbrev pub first_node : DataState
first_node =
    record {
      server = 0;
      times = times;
      order = entries.Epoch 1 ∷ entries.Opened 2 0 ∷ entries.Opened 3 1 ∷ [];
      synced = 3;
      links = set (set (replicate APP_LIMIT data_links.Free) 0 data_links.Normal) 1 data_links.Normal;
      dials = set (set (replicate APP_LIMIT 0) 0 1) 1 1;
      conns = record { number = 1; role = roles.Bound 2 } ∷ record { number = 2; role = roles.Bound 3 } ∷ [];
      callers = [];
      windows = window_at 2 0 (downs.Grant (head 2 0 0) 1 2 ∷ []) 1 0 ∷ window_at 3 0 [] 1 1 ∷ [];
      locks =
          record {
            holds = record { who = who 2 0; name = a_key; mode = modes.Exclusive; count = 1; at = 2 } ∷ [];
            requests = record { who = who 3 1; ticket = 1; name = a_key; mode = modes.Exclusive } ∷ [];
            granted = record { who = who 2 0; ticket = 1; name = a_key; mode = modes.Exclusive } ∷ [];
          };
      noted = [];
      round = None;
      replies = [];
    }

-- the session of application server 0
abbrev pub first_session : Session
first_session =
    record no_session {
      number = 2;
      epoch = 1;
      n = 2;
      window = window 1 [] 1 1;
      held = record { job = 0; mode = modes.Exclusive; key = a_key; count = 1; at = 2 } ∷ [];
    }

-- its end
abbrev pub first_end : AppEnd
first_end = record no_end { link = app_links.Normal; line = lines.Joined; dial = 1; ticket = 1; told = 2; session = Some first_session }

-- the session of application server 1
abbrev pub second_session : Session
second_session =
    record no_session {
      number = 3;
      epoch = 1;
      n = 3;
      window = window 0 (ups.Ask 1 1 modes.Exclusive a_key ∷ []) 0 0;
      asks = record { ticket = 1; job = 1; mode = modes.Exclusive; key = a_key; put = true; at = None } ∷ [];
    }

-- its end
abbrev pub second_end : AppEnd
second_end = record no_end { link = app_links.Normal; line = lines.Joined; dial = 1; ticket = 1; told = 3; session = Some second_session }

-- all that was put was taken
abbrev pub first : CoresState
first =
    record {
      layout = layout;
      nodes = Some first_node ∷ [];
      orders = Some first_node.order ∷ [];
      apps = app_with 0 first_end ∷ app_with 1 second_end ∷ [];
      jobs = record (no_job 0 0 1) { used = Some 2 ∷ [] } ∷ record (no_job 1 1 1) { used = Some 3 ∷ []; progress = Some (progress_at 9 0 false) } ∷ [];
      begun = idle 8 ∷ waiting 9 (commands.Lock a modes.Exclusive (Some 1)) ∷ [];
      dials = a_dial 0 1 [] [] ∷ a_dial 1 1 [] [] ∷ [];
      accepted = a_conn 1 (Some (linked_with 0 1)) ∷ a_conn 2 (Some (linked_with 1 1)) ∷ [];
      clock = 0;
      app_nows = 0 ∷ 0 ∷ [];
      server_nows = 0 ∷ [];
      dead = false ∷ false ∷ [];
      shown = (record { front = Some (front_at 2 1 2 0); runs = [] } ∷ []) ∷ (record { front = None; runs = [] } ∷ []) ∷ [];
      views = knows (Some 2) [] ∷ knows (Some 3) [] ∷ [];
      trail =
          acts.Opened 0 [] ∷ acts.Enter 0 (entries.Opened 2 0) ∷ acts.Synced 0 2 ∷ acts.Met 0 0 2 ∷ acts.Grant 0 2 0 modes.Exclusive a_key 2
          ∷ acts.Granted 0 8 0 2 ∷ acts.Enter 0 (entries.Opened 3 1) ∷ acts.Synced 0 3 ∷ acts.Met 1 0 3 ∷ [];
    }

-- a tick
abbrev pub ticked_by : Made
ticked_by = record { move = moves.Tick 1; outs = no_outs; acts = acts.Tick 1 ∷ [] }

-- the cluster then
abbrev pub ticked : CoresState
ticked = record first { clock = 1; trail = first.trail ++ ticked_by.acts }

-- the time of job 1 to wait for ^a is over: a Cancel
abbrev pub timed_out_by : Made
timed_out_by =
    record {
      move = moves.Step 1 1 9 (commands.Lock a modes.Exclusive (Some 1));
      outs = record no_outs { answer = Some (answers.Refused refusals.LockTimeout); ups = to_server (up_frame 2 0 (ups.Cancel 1)) ∷ [] };
      acts = acts.Quit 1 9 0 modes.Exclusive a_key ∷ acts.Refused 1 9 refusals_short.LockTimeout ∷ [];
    }

-- the session then
abbrev pub timed_out_session : Session
timed_out_session = record second_session { window = window 0 (ups.Ask 1 1 modes.Exclusive a_key ∷ ups.Cancel 1 ∷ []) 0 0; asks = [] }

-- the end then
abbrev pub timed_out_end : AppEnd
timed_out_end = record second_end { session = Some timed_out_session }

-- the cluster then
abbrev pub timed_out : CoresState
timed_out =
    record ticked {
      apps = app_with 0 first_end ∷ app_with 1 timed_out_end ∷ [];
      jobs = record (no_job 0 0 1) { used = Some 2 ∷ [] } ∷ record (no_job 1 1 1) { used = Some 3 ∷ [] } ∷ [];
      begun = idle 8 ∷ idle 9 ∷ [];
      dials = a_dial 0 1 [] [] ∷ a_dial 1 1 (up_frame 2 0 (ups.Cancel 1) ∷ []) [] ∷ [];
      app_nows = 0 ∷ 1 ∷ [];
      trail = ticked.trail ++ timed_out_by.acts;
    }

-- job 0, which holds ^a, unlocks it
abbrev pub unlocked_by : Made
unlocked_by =
    record {
      move = moves.Step 0 1 10 (commands.Unlock a modes.Exclusive false);
      outs = record no_outs { answer = Some answers.Done; ups = to_server (up_frame 2 1 (ups.Unlock 0 modes.Exclusive a_key)) ∷ [] };
      acts = acts.GiveUp 0 10 0 modes.Exclusive a_key ∷ acts.Done 0 10 ∷ [];
    }

-- the session then
abbrev pub unlocked_session : Session
unlocked_session = record first_session { window = window 1 (ups.Unlock 0 modes.Exclusive a_key ∷ []) 1 0; held = [] }

-- the end then
abbrev pub unlocked_end : AppEnd
unlocked_end = record first_end { session = Some unlocked_session }

-- the cluster then
abbrev pub unlocked : CoresState
unlocked =
    record timed_out {
      apps = app_with 0 unlocked_end ∷ app_with 1 timed_out_end ∷ [];
      begun = idle 10 ∷ idle 9 ∷ [];
      dials = a_dial 0 1 (up_frame 2 1 (ups.Unlock 0 modes.Exclusive a_key) ∷ []) [] ∷ a_dial 1 1 (up_frame 2 0 (ups.Cancel 1) ∷ []) [] ∷ [];
      app_nows = 1 ∷ 1 ∷ [];
      trail = timed_out.trail ++ unlocked_by.acts;
    }

-- the Unlock is taken: the Grant of job 1 leaves
abbrev pub granted_by : Made
granted_by =
    record {
      move = moves.Server 0 1 (data_in.Frame 1 (up_frame 2 1 (ups.Unlock 0 modes.Exclusive a_key)));
      outs = record no_outs { downs = on_conn 2 (down_frame 1 1 (downs.Grant (head 3 0 0) 1 3)) ∷ [] };
      acts = acts.Free 0 2 0 modes.Exclusive a_key ∷ acts.Grant 0 3 1 modes.Exclusive a_key 3 ∷ [];
    }

-- the data server then
abbrev pub granted_node : DataState
granted_node =
    record first_node {
      windows = window_at 2 1 [] 2 1 ∷ window_at 3 0 (downs.Grant (head 3 0 0) 1 3 ∷ []) 1 0 ∷ [];
      locks =
          record first_node.locks {
            holds = record { who = who 3 1; name = a_key; mode = modes.Exclusive; count = 1; at = 3 } ∷ [];
            requests = [];
            granted =
                record { who = who 2 0; ticket = 1; name = a_key; mode = modes.Exclusive }
                ∷ record { who = who 3 1; ticket = 1; name = a_key; mode = modes.Exclusive } ∷ [];
          };
    }

-- the cluster then
abbrev pub granted : CoresState
granted =
    record unlocked {
      nodes = Some granted_node ∷ [];
      dials = a_dial 0 1 [] [] ∷ a_dial 1 1 (up_frame 2 0 (ups.Cancel 1) ∷ []) (down_frame 1 1 (downs.Grant (head 3 0 0) 1 3) ∷ []) ∷ [];
      server_nows = 1 ∷ [];
      trail = unlocked.trail ++ granted_by.acts;
    }

-- it is taken for nobody
abbrev pub crossed_by : Made
crossed_by = record { move = moves.App 1 1 (app_in.Frame 0 (down_frame 1 1 (downs.Grant (head 3 0 0) 1 3))); outs = no_outs; acts = [] }

-- the session then
abbrev pub crossed_session : Session
crossed_session = record timed_out_session { window = window 1 (ups.Cancel 1 ∷ []) 1 1 }

-- the end then
abbrev pub crossed_end : AppEnd
crossed_end = record timed_out_end { session = Some crossed_session }

-- the cluster then
abbrev pub crossed : CoresState
crossed =
    record granted {
      apps = app_with 0 unlocked_end ∷ app_with 1 crossed_end ∷ [];
      dials = a_dial 0 1 [] [] ∷ a_dial 1 1 (up_frame 2 0 (ups.Cancel 1) ∷ []) [] ∷ [];
      shown = (record { front = Some (front_at 2 1 2 0); runs = [] } ∷ []) ∷ (record { front = Some (front_at 3 1 3 0); runs = [] } ∷ []) ∷ [];
    }

-- job 0 asks for ^a again
abbrev pub asking_by : Made
asking_by =
    record {
      move = moves.Step 0 1 11 (commands.Lock a modes.Exclusive None);
      outs = record no_outs { answer = Some (answers.Waiting why.Grant); ups = to_server (up_frame 3 1 (ups.Ask 2 0 modes.Exclusive a_key)) ∷ [] };
      acts = [];
    }

-- the session then
abbrev pub asking_session : Session
asking_session =
    record unlocked_session {
      window = window 1 (ups.Unlock 0 modes.Exclusive a_key ∷ ups.Ask 2 0 modes.Exclusive a_key ∷ []) 1 0;
      asks = record { ticket = 2; job = 0; mode = modes.Exclusive; key = a_key; put = true; at = None } ∷ [];
    }

-- the end then
abbrev pub asking_end : AppEnd
asking_end = record unlocked_end { ticket = 2; session = Some asking_session }

-- the cluster then
abbrev pub asking : CoresState
asking =
    record crossed {
      apps = app_with 0 asking_end ∷ app_with 1 crossed_end ∷ [];
      jobs = record (no_job 0 0 1) { used = Some 2 ∷ []; progress = Some (progress_at 11 1 false) } ∷ record (no_job 1 1 1) { used = Some 3 ∷ [] } ∷ [];
      begun = waiting 11 (commands.Lock a modes.Exclusive None) ∷ idle 9 ∷ [];
      dials = a_dial 0 1 (up_frame 3 1 (ups.Ask 2 0 modes.Exclusive a_key) ∷ []) [] ∷ a_dial 1 1 (up_frame 2 0 (ups.Cancel 1) ∷ []) [] ∷ [];
    }

-- its Ask is taken, and waits
abbrev pub queued_by : Made
queued_by = record { move = moves.Server 0 1 (data_in.Frame 1 (up_frame 3 1 (ups.Ask 2 0 modes.Exclusive a_key))); outs = no_outs; acts = [] }

-- the data server then
abbrev pub queued_node : DataState
queued_node =
    record granted_node {
      windows = window_at 2 1 [] 3 2 ∷ window_at 3 0 (downs.Grant (head 3 0 0) 1 3 ∷ []) 1 0 ∷ [];
      locks = record granted_node.locks { requests = record { who = who 2 0; ticket = 2; name = a_key; mode = modes.Exclusive } ∷ [] };
    }

-- the cluster then
abbrev pub queued : CoresState
queued = record asking { nodes = Some queued_node ∷ []; dials = a_dial 0 1 [] [] ∷ a_dial 1 1 (up_frame 2 0 (ups.Cancel 1) ∷ []) [] ∷ [] }

-- the Cancel is taken: the hold of job 1 ends, and the Grant of job 0 leaves
abbrev pub cancelled_by : Made
cancelled_by =
    record {
      move = moves.Server 0 1 (data_in.Frame 2 (up_frame 2 0 (ups.Cancel 1)));
      outs = record no_outs { downs = on_conn 1 (down_frame 2 3 (downs.Grant (head 3 0 0) 2 3)) ∷ [] };
      acts = acts.Free 0 3 1 modes.Exclusive a_key ∷ acts.Grant 0 2 0 modes.Exclusive a_key 3 ∷ [];
    }

-- the data server then
abbrev pub cancelled_node : DataState
cancelled_node =
    record queued_node {
      windows = window_at 2 1 (downs.Grant (head 3 0 0) 2 3 ∷ []) 3 0 ∷ window_at 3 0 (downs.Grant (head 3 0 0) 1 3 ∷ []) 2 1 ∷ [];
      locks =
          record queued_node.locks {
            holds = record { who = who 2 0; name = a_key; mode = modes.Exclusive; count = 1; at = 3 } ∷ [];
            requests = [];
            granted =
                record { who = who 2 0; ticket = 1; name = a_key; mode = modes.Exclusive }
                ∷ record { who = who 2 0; ticket = 2; name = a_key; mode = modes.Exclusive } ∷ [];
          };
    }

-- the cluster then
abbrev pub cancelled : CoresState
cancelled =
    record queued {
      nodes = Some cancelled_node ∷ [];
      dials = a_dial 0 1 [] (down_frame 2 3 (downs.Grant (head 3 0 0) 2 3) ∷ []) ∷ a_dial 1 1 [] [] ∷ [];
      trail = queued.trail ++ cancelled_by.acts;
    }

-- it is taken
abbrev pub answered_by : Made
answered_by = record { move = moves.App 0 1 (app_in.Frame 0 (down_frame 2 3 (downs.Grant (head 3 0 0) 2 3))); outs = no_outs; acts = [] }

-- the session then
abbrev pub answered_session : Session
answered_session =
    record asking_session {
      n = 3;
      window = window 3 [] 2 1;
      asks = record { ticket = 2; job = 0; mode = modes.Exclusive; key = a_key; put = true; at = Some 3 } ∷ [];
    }

-- the end then
abbrev pub answered_end : AppEnd
answered_end = record asking_end { session = Some answered_session }

-- the cluster then
abbrev pub answered : CoresState
answered =
    record cancelled {
      apps = app_with 0 answered_end ∷ app_with 1 crossed_end ∷ [];
      dials = a_dial 0 1 [] [] ∷ a_dial 1 1 [] [] ∷ [];
      shown = (record { front = Some (front_at 2 1 3 0); runs = [] } ∷ []) ∷ (record { front = Some (front_at 3 1 3 0); runs = [] } ∷ []) ∷ [];
    }

-- job 0 has the lock
abbrev pub held_by : Made
held_by =
    record {
      move = moves.Step 0 1 11 (commands.Lock a modes.Exclusive None);
      outs = record no_outs { answer = Some (answers.Granted 3) };
      acts = acts.Granted 0 11 0 3 ∷ [];
    }

-- the session then
abbrev pub held_session : Session
held_session = record answered_session { asks = []; held = record { job = 0; mode = modes.Exclusive; key = a_key; count = 1; at = 3 } ∷ [] }

-- the end then
abbrev pub held_end : AppEnd
held_end = record answered_end { session = Some held_session }

-- the cluster then
abbrev pub held : CoresState
held =
    record answered {
      apps = app_with 0 held_end ∷ app_with 1 crossed_end ∷ [];
      jobs = record (no_job 0 0 1) { used = Some 2 ∷ [] } ∷ record (no_job 1 1 1) { used = Some 3 ∷ [] } ∷ [];
      begun = idle 11 ∷ idle 9 ∷ [];
      trail = answered.trail ++ held_by.acts;
    }

-- these moves lead there, each allowed
abbrev pub CancelCrossesGrant : Type 0
CancelCrossesGrant =
    Leads first (ticked_by ∷ timed_out_by ∷ unlocked_by ∷ granted_by ∷ crossed_by ∷ asking_by ∷ queued_by ∷ cancelled_by ∷ answered_by ∷ held_by ∷ []) held
    -- and the plain machine takes the acts of its trail from the start
    × IsRun layout held.trail
