-- What a move makes of the machine, each node by its own rules.
use Rattle.std.specs.Prelude.{◌≡◌, ℕ, Bool, true, false, ◌==◌, ◌&&◌, ◌+◌, if◌then◌else◌, List, [], ◌∷◌, Option, Some, None}
use Rattle.plain_orders.specs.declared.act.Act.{Act}
use Rattle.plain_orders.specs.declared.act.Act.TheVariants as act
use Rattle.plain_orders.specs.declared.entry.Entry.{Entry}
use Rattle.plain_orders.specs.declared.layout.Layout.{Layout}
use Rattle.plain_orders.specs.declared.question.Question.TheVariants.{Get as GetQuestion}
use Rattle.plain_orders.specs.declared.via.Via.TheVariants.{Cached}
use Rattle.plain_orders.specs.PairMap.{value_at}
use Rattle.plain_runs.specs.Plain.{put}
use Rattle.plain_runs.specs.Run.{state_after}
use Rattle.subscript_keys.specs.declared.run.Run.{Run}
use Rattle.ecp_messages.specs.declared.down.Down.{Down}
use Rattle.end_words.specs.Runs.{pairs_of}
use Rattle.app_job.specs.Sites.{Site as Target}
use Rattle.app_job.specs.declared.answer.Answer.{Answer}
use Rattle.app_job.specs.declared.answer.Answer.TheVariants as answers
use Rattle.app_job.specs.declared.command.Command.{Command}
use Rattle.app_job.specs.declared.command.Command.TheVariants as commands
use Rattle.app_rules.specs.declared.app_in.AppIn.{AppIn}
use Rattle.app_rules.specs.declared.app_in.AppIn.TheVariants as app_in
use Rattle.app_rules.specs.declared.app_outs.AppOuts.{AppOuts}
use Rattle.app_rules.specs.AppState.{AppState, AppEnd}
use Rattle.app_rules.specs.AppStep.{AppStep}
use Rattle.app_rules.specs.JobState.{JobState, with_used}
use Rattle.app_rules.specs.JobStep.{JobStep}
use Rattle.block_cache.specs.declared.front.Front.{Front}
use Rattle.app_rules.specs.Looks.{Shown, View, LookMay, ShowsEnd, view_of}
use Rattle.app_rules.specs.Works.{end_at}
use Rattle.data_rules.specs.declared.data_in.DataIn.{DataIn}
use Rattle.data_rules.specs.declared.data_in.DataIn.TheVariants as data_in
use Rattle.data_rules.specs.declared.data_outs.DataOuts.{DataOuts}
use Rattle.data_rules.specs.DataState.{DataState}
use Rattle.data_rules.specs.Step.{DataStep, started}
use Rattle.cluster_runs.specs.declared.moves.Move.{Move}
use Rattle.cluster_runs.specs.declared.moves.Move.TheVariants.{Step, Looked, App, Server, Begin, Halt, Die, Tick}
use Rattle.cluster_runs.specs.declared.move_outs.MoveOuts.{MoveOuts}
use Rattle.cluster_runs.specs.CoresState.{Begun, app_of_job}
use Rattle.cluster_runs.specs.Moves.{named_dial}
use Rattle.cluster_runs.specs.Sent.{Lane, Place}
use Rattle.cluster_runs.specs.Steps.{no_outs, app_move_outs, data_move_outs, begun_with, raised, begin_act, greatest, ticked_shown}
use Rattle.cluster_runs.specs.Machine.{Machine, Site, End, app_state, end_state, with_acts}
use Rattle.cluster_runs.specs.Connections.{link_of, linked_if, at_link, at_conn, up_taken, down_taken, app_leaves, at_number, at_each, with_connection, accepts, leaves_conn, leaves_conns, leaves_all, hears_downs, ups_to, carries_up}
use Rattle.cluster_runs.specs.Lanes.{with_data_step, hellos_by, is_told_new, sent_before, with_app_step, told_by}

-- a data server's step

-- what an input does to the connections before the step's outputs join them
abbrev pub server_takes : DataIn → Site → Site
server_takes (data_in.Frame conn frame) x =
    at_link (link_of (at_conn conn (linked_if (named_dial frame.message)) x) conn) (up_taken x.past conn) (at_conn conn (linked_if (named_dial frame.message)) x)
server_takes (data_in.Connected conn) x = accepts conn x
server_takes (data_in.Broken conn) x = leaves_conn conn x
server_takes data_in.Tick x = x
server_takes (data_in.Saved upto) x = x

-- in the current order, what was put and taken grows by the step
abbrev pub with_lanes : DataState → DataState → DataOuts → Site → Site
with_lanes old new outs x = record x {
  lane_at = λ session k. if k == x.past then with_data_step old new outs.frames session (x.lane_at session k) else x.lane_at session k;
}

-- a Hello more, where one was taken in the current order
abbrev pub with_hellos : DataIn → Site → Site
with_hellos input x = record x { hellos_at = λ k app. if k == x.past then x.hellos_at k app + hellos_by input app else x.hellos_at k app }

-- the data server, its order and the moment after a step
abbrev pub with_node : ℕ → DataState → Site → Site
with_node now d x = record x { node = Some d; order = Some d.order; now = now }

-- a site after a step of its data server
abbrev pub server_site : DataState → ℕ → DataIn → DataOuts → DataState → Site → Site
server_site old now input outs new x =
    with_lanes old new outs (with_hellos input (leaves_conns outs.cuts (hears_downs outs.frames (with_node now new (server_takes input x)))))

-- the data server of this number, changed
abbrev pub at_site : ℕ → (Site → Site) → Machine → Machine
at_site server f m = record m { site_at = put m.site_at server (f (m.site_at server)) }

-- a step of a data server that runs
pub record ServerGoes (m : Machine) (server now : ℕ) (input : DataIn) (outs : MoveOuts) (written : List Act) (new : Machine) : Type 0 where
  pub node : DataState
  pub runs : (m.site_at server).node ≡ Some node
  pub data_outs : DataOuts
  pub state : DataState
  pub steps : DataStep node now input data_outs state
  pub sent : outs ≡ data_move_outs data_outs
  pub acts : written ≡ raised ((state_after m.layout m.trail).server_at server).synced data_outs.acts
  pub after : new ≡ with_acts written (at_site server (server_site node now input data_outs state) m)

-- how many orders are before the one that begins
abbrev pub past_with : Option (List Entry) → ℕ → ℕ
past_with None past = past
past_with (Some order) past = past + 1

-- a site after a start of its data server
abbrev pub begun_site : Layout → ℕ → ℕ → List Entry → Site → Site
begun_site l server now entries x = with_node now (started server l.times entries now) (record x { past = past_with x.order x.past })

-- a data server starts
pub record BeginGoes (m : Machine) (server now : ℕ) (entries : List Entry) (outs : MoveOuts) (written : List Act) (new : Machine) : Type 0 where
  pub sent : outs ≡ no_outs
  pub acts : written ≡ begin_act (m.site_at server).order server entries ∷ []
  pub after : new ≡ with_acts written (at_site server (begun_site m.layout server now entries) m)

-- the data server is down
abbrev pub without_node : Site → Site
without_node x = record x { node = None }

-- a site after a halt of its data server
abbrev pub halted_site : Site → Site
halted_site x = leaves_all (without_node x)

-- it loses its memory, and leaves its connections
pub record HaltGoes (m : Machine) (server : ℕ) (outs : MoveOuts) (written : List Act) (new : Machine) : Type 0 where
  pub sent : outs ≡ no_outs
  pub acts : written ≡ []
  pub after : new ≡ at_site server halted_site m

-- an application server's step

-- what an input does to the connections of an end before the step's outputs join them, by the number of its last one
abbrev pub app_takes : ℕ → AppIn → ℕ → End → End
app_takes server (app_in.Frame d frame) number e = if d == server then at_number number down_taken e else e
app_takes server (app_in.Connected d) number e = if d == server then with_connection (number + 1) e else e
app_takes server (app_in.NoWay d fails_before fails_after) number e = e
app_takes server (app_in.Broken d) number e = if d == server then at_number number app_leaves e else e
app_takes server (app_in.Join d) number e = e
app_takes server app_in.Tick number e = e

-- its end after a step
abbrev pub with_state : AppEnd → Shown → End → End
with_state e shown x = record x { state = e; shown = shown }

-- the lane that an end is told of, changed
abbrev pub at_told : Option Place → (Lane → Lane) → Site → Site
at_told None f x = x
at_told (Some p) f x = record x { lane_at = λ session k. if session == p.session && k == p.order then f (x.lane_at session k) else x.lane_at session k }

-- an end after a step that took an input, if it took one
abbrev pub app_end : ℕ → AppOuts → AppEnd → AppEnd → Shown → Option Down → End → End
app_end server outs old new shown m e =
    carries_up server new.dial outs.frames outs.cuts (told_by (is_told_new old.session new.session) m old.dial (with_state new shown e))

-- a site after a step of an application server: its end, and then the lane that it is told of
abbrev pub app_site : ℕ → ℕ → AppOuts → AppEnd → AppEnd → Option Down → End → Site → Site
app_site app server outs old new m e x =
    at_told e.told (with_app_step (is_told_new old.session new.session) m old.dial (sent_before old.session) new.session (ups_to server outs.frames))
    (record x { end_at = put x.end_at app e })

-- a frame of this data server shows its change, another shows none
abbrev pub ShowsIf : Bool → Down → AppEnd → AppEnd → Shown → Shown → Type 0
ShowsIf true m old new x y = ShowsEnd old.session new.session m greatest x y
ShowsIf false m old new x y = y ≡ x

-- what is shown of a data server after a step of its end: a frame's change, or what a tick clears
abbrev pub ShowsInput : ℕ → AppIn → AppEnd → AppEnd → Shown → Shown → Type 0
ShowsInput server (app_in.Frame d frame) old new x y = ShowsIf (d == server) frame.message old new x y
ShowsInput server (app_in.Connected d) old new x y = y ≡ x
ShowsInput server (app_in.NoWay d fails_before fails_after) old new x y = y ≡ x
ShowsInput server (app_in.Broken d) old new x y = y ≡ x
ShowsInput server (app_in.Join d) old new x y = y ≡ x
ShowsInput server app_in.Tick old new x y = y ≡ ticked_shown old.session new.session x

-- the message that an input brings from this data server
abbrev pub message_from : ℕ → AppIn → Option Down
message_from server (app_in.Frame d frame) = if d == server then Some frame.message else None
message_from server (app_in.Connected d) = None
message_from server (app_in.NoWay d fails_before fails_after) = None
message_from server (app_in.Broken d) = None
message_from server (app_in.Join d) = None
message_from server app_in.Tick = None

-- a site after a step of an application server that took an input
abbrev pub input_site : ℕ → AppIn → AppOuts → AppState → (ℕ → Shown) → ℕ → Site → Site
input_site app input outs new shown server x =
    app_site app server outs (x.end_at app).state (end_at new server) (message_from server input)
    (app_end server outs (x.end_at app).state (end_at new server) (shown server) (message_from server input)
    (app_takes server input (x.end_at app).state.dial (x.end_at app)))
    x

-- each site after a step of an application server, and its moment
abbrev pub at_app : ℕ → ℕ → (ℕ → Site → Site) → Machine → Machine
at_app app now f m = record m { site_at = λ server. f server (m.site_at server); app_now_at = put m.app_now_at app now }

-- a step of an application server's ends
pub record AppGoes (m : Machine) (app now : ℕ) (input : AppIn) (outs : MoveOuts) (written : List Act) (new : Machine) : Type 0 where
  pub app_outs : AppOuts
  pub state : AppState
  pub shown : ℕ → Shown
  pub steps : AppStep (app_state m app) now input app_outs state
  pub shows : (server : ℕ) → ShowsInput server input (end_state m app server) (end_at state server) ((m.site_at server).end_at app).shown (shown server)
  pub sent : outs ≡ app_move_outs None app_outs
  pub acts : written ≡ app_outs.acts
  pub after : new ≡ with_acts written (at_app app now (input_site app input app_outs state shown) m)

-- a site after a step of a job: its end took nothing
abbrev pub job_site : ℕ → AppOuts → AppState → ℕ → Site → Site
job_site app outs new server x =
    app_site app server outs (x.end_at app).state (end_at new server) None
    (app_end server outs (x.end_at app).state (end_at new server) (x.end_at app).shown None (x.end_at app))
    x

-- a job after a step
abbrev pub with_job : ℕ → JobState → Begun → Machine → Machine
with_job job j b m = record m { job_at = put m.job_at job j; begun_at = put m.begun_at job b }

-- what it knows after it
abbrev pub with_view : ℕ → View → Machine → Machine
with_view job v m = record m { view_at = put m.view_at job v }

-- a step of a job
pub record JobGoes (m : Machine) (app job now line : ℕ) (command : Command) (outs : MoveOuts) (written : List Act) (new : Machine) : Type 0 where
  pub answer : Answer
  pub app_outs : AppOuts
  pub state : AppState
  pub job_state : JobState
  pub steps : JobStep (app_state m app) (m.job_at job) now line command answer app_outs state job_state
  pub sent : outs ≡ app_move_outs (Some answer) app_outs
  pub acts : written ≡ app_outs.acts
  pub after : new ≡ with_acts written (with_view job (view_of state job_state) (with_job job job_state (begun_with line command answer)
      (at_app app now (job_site app app_outs state) m)))

-- a look is answered from what is shown
pub record LookGoes (m : Machine) (app job line : ℕ) (at : Target) (outs : MoveOuts) (written : List Act) (new : Machine) : Type 0 where
  pub front : Front
  pub run : Run
  pub look : LookMay (m.view_at job) ((m.site_at at.server).end_at app).shown at.server at.key front run
  pub sent : outs ≡ record no_outs { answer = Some (answers.Value (value_at (pairs_of run) at.key) front.n Cached) }
  pub acts : written ≡ act.Read job line at.server front.n Cached (GetQuestion at.key (value_at (pairs_of run) at.key)) ∷ []
  pub after : new ≡ with_acts written (with_job job (with_used at.server (Some front.session) (m.job_at job)) (record { line = line; waits = None }) m)

-- its connections are left
abbrev pub dies : ℕ → Machine → Machine
dies app m = record m {
  site_at = λ server. at_each (λ a n c. if a == app then app_leaves c else c) (m.site_at server);
  is_dead_at = put m.is_dead_at app true;
}

-- an application server is gone
pub record DieGoes (m : Machine) (app : ℕ) (outs : MoveOuts) (written : List Act) (new : Machine) : Type 0 where
  pub sent : outs ≡ no_outs
  pub acts : written ≡ act.Died app ∷ []
  pub after : new ≡ with_acts written (dies app m)

-- a tick is written
pub record TickGoes (m : Machine) (now : ℕ) (outs : MoveOuts) (written : List Act) (new : Machine) : Type 0 where
  pub sent : outs ≡ no_outs
  pub acts : written ≡ act.Tick now ∷ []
  pub after : new ≡ with_acts written (record m { clock = now })

-- only a get may be looked at
abbrev pub LookedGoes : Machine → ℕ → ℕ → ℕ → Command → MoveOuts → List Act → Machine → Type 0
LookedGoes m app job line (commands.Get at) outs written new = LookGoes m app job line at outs written new
LookedGoes m app job line command outs written new = ⊥

-- What a move makes of the machine.
abbrev pub Goes : Machine → Move → MoveOuts → List Act → Machine → Type 0
Goes m (Step job now line command) outs written new = JobGoes m (app_of_job m.layout job) job now line command outs written new
Goes m (Looked job line command) outs written new = LookedGoes m (app_of_job m.layout job) job line command outs written new
Goes m (App app now input) outs written new = AppGoes m app now input outs written new
Goes m (Server server now input) outs written new = ServerGoes m server now input outs written new
Goes m (Begin server now entries) outs written new = BeginGoes m server now entries outs written new
Goes m (Halt server) outs written new = HaltGoes m server outs written new
Goes m (Die app) outs written new = DieGoes m app outs written new
Goes m (Tick now) outs written new = TickGoes m now outs written new
