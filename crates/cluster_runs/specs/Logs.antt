-- What a node's log is: the moves of one node with their outputs, and when the node is what its steps make of its log. A log doesn't tell
-- that a frame taken is the frame put, nor that a first one is the first of the dial that it names, nor the time of the last tick.
use Rattle.std.specs.Prelude.{◌≡◌, ◌≤◌, ◌<◌, ℕ, Bool, true, false, ◌==◌, ◌||◌, ◌+◌, ◌-◌, not, List, [], ◌∷◌, ◌++◌, map, max, length, replicate, take, drop, get_or, set, Option, Some, None, is_some, ⊤}
use Rattle.std.specs.List.{find, filter, list_any, range_with_len}
use Rattle.plain_orders.specs.declared.act.Act.{Act}
use Rattle.plain_orders.specs.declared.act.Act.TheVariants as acts
use Rattle.plain_orders.specs.declared.entry.Entry.{Entry}
use Rattle.plain_orders.specs.declared.layout.Layout.{Layout}
use Rattle.plain_orders.specs.declared.limits.TheConstants.{START_EPOCH_LIMIT}
use Rattle.plain_orders.specs.declared.question.Question.TheVariants.{Get as GetQuestion}
use Rattle.plain_orders.specs.declared.via.Via.TheVariants.{Cached}
use Rattle.plain_orders.specs.Entries.{last_epoch}
use Rattle.plain_orders.specs.PairMap.{value_at}
use Rattle.subscript_keys.specs.declared.run.Run.{Run}
use Rattle.end_words.specs.Runs.{pairs_of}
use Rattle.block_cache.specs.declared.front.Front.{Front}
use Rattle.app_job.specs.Sites.{Site}
use Rattle.app_job.specs.declared.answer.Answer.{Answer}
use Rattle.app_job.specs.declared.answer.Answer.TheVariants as answers
use Rattle.app_job.specs.declared.command.Command.{Command}
use Rattle.app_job.specs.declared.command.Command.TheVariants as commands
use Rattle.app_rules.specs.declared.line.Line.{Line}
use Rattle.app_rules.specs.declared.line.Line.TheVariants.{Apart, Trying, Greeting, Asking, Joined}
use Rattle.app_rules.specs.declared.app_in.AppIn.{AppIn}
use Rattle.app_rules.specs.declared.app_in.AppIn.TheVariants as app_in
use Rattle.app_rules.specs.declared.app_outs.AppOuts.{AppOuts}
use Rattle.app_rules.specs.AppState.{AppState, Session}
use Rattle.app_rules.specs.AppStep.{AppMay, AppStep}
use Rattle.app_rules.specs.JobState.{JobState, no_job, with_used}
use Rattle.app_rules.specs.JobStep.{JobStep}
use Rattle.app_rules.specs.Looks.{Shown, View, LookMay, nothing_shown, took_one, view_of}
use Rattle.app_rules.specs.Works.{end_at}
use Rattle.data_rules.specs.declared.data_in.DataIn.{DataIn}
use Rattle.data_rules.specs.declared.data_in.DataIn.TheVariants as data_in
use Rattle.data_rules.specs.declared.data_outs.DataOuts.{DataOuts}
use Rattle.data_rules.specs.DataState.{DataState}
use Rattle.data_rules.specs.Step.{DataStep, started}
use Rattle.cluster_runs.specs.declared.moves.Move.{Move}
use Rattle.cluster_runs.specs.declared.moves.Move.TheVariants.{Step, Looked, App, Server, Begin, Halt, Die, Tick}
use Rattle.cluster_runs.specs.declared.move_outs.MoveOuts.{MoveOuts}
use Rattle.cluster_runs.specs.CoresState.{Begun, app_of_job, new_app, new_job}
use Rattle.cluster_runs.specs.Moves.{LineMay, CommandIs, EntriesMay, NodeMay}
use Rattle.cluster_runs.specs.Steps.{no_outs, app_move_outs, data_move_outs, begun_with}
use Rattle.cluster_runs.specs.Connections.{is_index}
use Rattle.cluster_runs.specs.Goes.{ShowsInput}

-- a step or look of a log: a move of its node, and the outputs that stand beside it, with the acts among them; a start, a halt and a death
-- have none
pub record Logged : Type 0 where
  pub move : Move
  pub outs : MoveOuts
  pub acts : List Act
  -- of a look: how many changes were published before the state that it read
  pub place : ℕ

-- an application server

-- what it keeps
pub record AppNode : Type 0 where
  pub core : AppState
  -- by job
  pub jobs : List JobState
  pub begun : List Begun
  pub views : List View
  -- the places of their last steps or looks: how many changes were published before
  pub places : List ℕ
  -- by place and data server: what was published, at first nothing
  pub published : List (List Shown)
  -- the moment of its last step
  pub now : ℕ
  -- it is gone
  pub is_dead : Bool

-- a job of it, if it is there
abbrev pub job_in : AppNode → ℕ → JobState
job_in x job = get_or x.jobs job (no_job job 0 0)

-- its last line, and its command where it waits
abbrev pub begun_in : AppNode → ℕ → Begun
begun_in x job = get_or x.begun job (record { line = 0; waits = None })

-- what it knew after its last step
abbrev pub view_in : AppNode → ℕ → View
view_in x job = get_or x.views job (record { rollback_only = false; servers = [] })

-- the place of its last step or look
abbrev pub place_in : AppNode → ℕ → ℕ
place_in x job = get_or x.places job 0

-- how many changes were published
abbrev pub changes_in : AppNode → ℕ
changes_in x = length x.published - 1

-- what was published at a place, by data server
abbrev pub shown_in : AppNode → ℕ → List Shown
shown_in x place = get_or x.published place []

-- what is published now
abbrev pub shown_now : AppNode → List Shown
shown_now x = shown_in x (changes_in x)

-- what of it is of a data server
abbrev pub of_server : List Shown → ℕ → Shown
of_server shown server = get_or shown server nothing_shown

-- nothing was done yet
abbrev pub new_app_node : Layout → ℕ → AppNode
new_app_node l app = record {
  core = new_app l app;
  jobs = map (new_job l) (range_with_len 0 (length l.job_apps));
  begun = replicate (length l.job_apps) (record { line = 0; waits = None });
  views = replicate (length l.job_apps) (record { rollback_only = false; servers = [] });
  places = replicate (length l.job_apps) 0;
  published = replicate l.servers nothing_shown ∷ [];
  now = 0;
  is_dead = false;
}

-- the node that a move names is this one, which is among so many
pub record IsOfNode (count node named : ℕ) : Type 0 where
  pub its : named ≡ node
  pub placed : node < count

-- a job of this application server, which is there
pub record IsJobOf (l : Layout) (app job : ℕ) : Type 0 where
  pub known : job < length l.job_apps
  pub its : app_of_job l job ≡ app
  pub placed : app < l.apps

-- a step's moment isn't before the last, and a server that is gone makes none
pub record StepsOn (x : AppNode) (now : ℕ) : Type 0 where
  pub alive : x.is_dead ≡ false
  pub no_less : x.now ≤ now

-- a step of a job
pub record JobLogged (l : Layout) (app : ℕ) (x : AppNode) (job now line : ℕ) (command : Command) (s : Logged) (y : AppNode) : Type 0 where
  pub its : IsJobOf l app job
  pub on : StepsOn x now
  pub line_may : LineMay (begun_in x job).waits (begun_in x job).line line command
  pub may : CommandIs x.core command
  pub answer : Answer
  pub app_outs : AppOuts
  pub core : AppState
  pub state : JobState
  pub steps : JobStep x.core (job_in x job) now line command answer app_outs core state
  pub puts : s.outs ≡ app_move_outs (Some answer) app_outs
  pub acts : s.acts ≡ app_outs.acts
  pub after : y ≡ record x {
    core = core;
    jobs = set x.jobs job state;
    begun = set x.begun job (begun_with line command answer);
    views = set x.views job (view_of core state);
    places = set x.places job (changes_in x);
    now = now;
  }

-- a look of a job that waits for nothing, answered from what was published at its place, which isn't before that of its last step or look
pub record LookLogged (l : Layout) (app : ℕ) (x : AppNode) (job line : ℕ) (at : Site) (s : Logged) (y : AppNode) : Type 0 where
  pub its : IsJobOf l app job
  pub alive : x.is_dead ≡ false
  pub line_may : LineMay (begun_in x job).waits (begun_in x job).line line (commands.Get at)
  pub free : is_some (begun_in x job).waits ≡ false
  pub may : CommandIs x.core (commands.Get at)
  pub no_less : place_in x job ≤ s.place
  pub within : s.place ≤ changes_in x
  pub front : Front
  pub run : Run
  pub look : LookMay (view_in x job) (of_server (shown_in x s.place) at.server) at.server at.key front run
  pub puts : s.outs ≡ record no_outs { answer = Some (answers.Value (value_at (pairs_of run) at.key) front.n Cached) }
  pub acts : s.acts ≡ acts.Read job line at.server front.n Cached (GetQuestion at.key (value_at (pairs_of run) at.key)) ∷ []
  pub after : y ≡ record x {
    jobs = set x.jobs job (with_used at.server (Some front.session) (job_in x job));
    begun = set x.begun job (record { line = line; waits = None });
    places = set x.places job s.place;
  }

-- only a get may be one
abbrev pub LookedLogged : Layout → ℕ → AppNode → ℕ → ℕ → Command → Logged → AppNode → Type 0
LookedLogged l app x job line (commands.Get at) s y = LookLogged l app x job line at s y
LookedLogged l app x job line command s y = ⊥

-- an end has a connection
abbrev pub has_line : Line → Bool
has_line Apart = false
has_line Trying = false
has_line Greeting = true
has_line Asking = true
has_line Joined = true

-- a frame comes on the connection that the end has
abbrev pub ComesOn : AppState → AppIn → Type 0
ComesOn a (app_in.Frame server down) = has_line (end_at a server).line ≡ true
ComesOn a (app_in.Connected server) = ⊤
ComesOn a (app_in.NoWay server before after) = ⊤
ComesOn a (app_in.Broken server) = ⊤
ComesOn a (app_in.Join server) = ⊤
ComesOn a app_in.Tick = ⊤

-- a change is published of a data server: the session was lost or came into a new epoch, or a fresh numbered message was taken of it
abbrev pub is_changed : Option Session → Option Session → Bool
is_changed None after = false
is_changed (Some s) None = true
is_changed (Some s) (Some t) = not (s.epoch == t.epoch) || took_one s t

-- what is published after the change of a data server: those above it are as they were
abbrev pub changed_up_to : List Shown → List Shown → ℕ → List Shown
changed_up_to old new server = take (server + 1) new ++ drop (server + 1) old

-- what a step publishes, a change for each data server that has one, in their order
abbrev pub published_by : AppState → AppState → List Shown → List Shown → List (List Shown)
published_by a b old new =
    map (changed_up_to old new) (filter (λ server. is_changed (end_at a server).session (end_at b server).session) (range_with_len 0 (length a.ends)))

-- a step of its ends
pub record InputLogged (x : AppNode) (now : ℕ) (input : AppIn) (s : Logged) (y : AppNode) : Type 0 where
  pub on : StepsOn x now
  pub comes : ComesOn x.core input
  pub may : AppMay x.core input
  pub app_outs : AppOuts
  pub core : AppState
  pub shown : List Shown
  pub steps : AppStep x.core now input app_outs core
  pub whole : length shown ≡ length (shown_now x)
  pub shows : (server : ℕ)
      → ShowsInput server input (end_at x.core server) (end_at core server) (of_server (shown_now x) server) (of_server shown server)
  pub puts : s.outs ≡ app_move_outs None app_outs
  pub acts : s.acts ≡ app_outs.acts
  pub after : y ≡ record x {
    core = core;
    published = x.published ++ published_by x.core core (shown_now x) shown;
    now = now;
  }

-- it is gone
pub record DeathLogged (x : AppNode) (s : Logged) (y : AppNode) : Type 0 where
  pub alive : x.is_dead ≡ false
  pub puts : s.outs ≡ no_outs
  pub acts : s.acts ≡ []
  pub after : y ≡ record x { is_dead = true }

-- a move of an application server's log
abbrev pub AppLogs : Layout → ℕ → AppNode → Move → Logged → AppNode → Type 0
AppLogs l app x (Step job now line command) s y = JobLogged l app x job now line command s y
AppLogs l app x (Looked job line command) s y = LookedLogged l app x job line command s y
AppLogs l app x (App a now input) s y = IsOfNode l.apps app a × InputLogged x now input s y
AppLogs l app x (Server server now input) s y = ⊥
AppLogs l app x (Begin server now entries) s y = ⊥
AppLogs l app x (Halt server) s y = ⊥
AppLogs l app x (Die a) s y = IsOfNode l.apps app a × DeathLogged x s y
AppLogs l app x (Tick now) s y = ⊥

-- An application server is what its log makes of it, the last step first.
abbrev pub AppLogRun : Layout → ℕ → List Logged → AppNode → Type 0
AppLogRun l app [] y = y ≡ new_app_node l app
AppLogRun l app (s ∷ log) y = (x : AppNode) × AppLogRun l app log x × AppLogs l app x s.move s y

-- a data server

-- a connection that it accepted, and whether this end has left it
pub record Taken : Type 0 where
  pub conn : ℕ
  pub left : Bool

-- what it keeps: its state, if it runs; the order that outlives a halt, and how much of it may not be lost; all connections that it accepted;
-- the moment of its last step
pub record DataNode : Type 0 where
  pub core : Option DataState
  pub order : Option (List Entry)
  pub synced : ℕ
  pub taken : List Taken
  pub now : ℕ

-- it never started
abbrev pub new_data_node : DataNode
new_data_node = record { core = None; order = None; synced = 0; taken = []; now = 0 }

-- it is this connection
abbrev pub is_taken : ℕ → Taken → Bool
is_taken conn t = t.conn == conn

-- it was accepted since the last start and not left
abbrev pub IsOpen : Option Taken → Type 0
IsOpen None = ⊥
IsOpen (Some t) = t.left ≡ false

-- what comes, comes on a connection; and a new connection has a new number
abbrev pub ComesTo : List Taken → DataIn → Type 0
ComesTo ts (data_in.Frame conn up) = IsOpen (find (is_taken conn) ts)
ComesTo ts (data_in.Connected conn) = list_any (is_taken conn) ts ≡ false
ComesTo ts (data_in.Broken conn) = ⊤
ComesTo ts data_in.Tick = ⊤
ComesTo ts (data_in.Saved upto) = ⊤

-- this end leaves it, where it is among these
abbrev pub left_if : List ℕ → Taken → Taken
left_if conns t = record t { left = t.left || list_any (is_index t.conn) conns }

-- the connections after an input, before the step's outputs
abbrev pub taken_with : DataIn → List Taken → List Taken
taken_with (data_in.Frame conn up) ts = ts
taken_with (data_in.Connected conn) ts = ts ++ record { conn = conn; left = false } ∷ []
taken_with (data_in.Broken conn) ts = map (left_if (conn ∷ [])) ts
taken_with data_in.Tick ts = ts
taken_with (data_in.Saved upto) ts = ts

-- how much may not be lost, after an input
abbrev pub synced_with : DataIn → ℕ → ℕ
synced_with (data_in.Frame conn up) synced = synced
synced_with (data_in.Connected conn) synced = synced
synced_with (data_in.Broken conn) synced = synced
synced_with data_in.Tick synced = synced
synced_with (data_in.Saved upto) synced = max synced upto

-- a step of one that runs
pub record StepLogged (x : DataNode) (now : ℕ) (input : DataIn) (s : Logged) (y : DataNode) : Type 0 where
  pub no_less : x.now ≤ now
  pub comes : ComesTo x.taken input
  pub may : NodeMay x.core input
  pub before : DataState
  pub runs : x.core ≡ Some before
  pub data_outs : DataOuts
  pub core : DataState
  pub steps : DataStep before now input data_outs core
  pub puts : s.outs ≡ data_move_outs data_outs
  pub acts : s.acts ≡ data_outs.acts
  pub after : y ≡ record x {
    core = Some core;
    order = Some core.order;
    synced = synced_with input x.synced;
    taken = map (left_if data_outs.cuts) (taken_with input x.taken);
    now = now;
  }

-- what may not be lost after a start: all that was kept, and after the first one its Epoch too
abbrev pub synced_first : Option (List Entry) → List Entry → ℕ
synced_first None entries = length entries + 1
synced_first (Some order) entries = length entries

-- a start of one that is down
pub record BeginLogged (l : Layout) (server : ℕ) (x : DataNode) (now : ℕ) (entries : List Entry) (s : Logged) (y : DataNode) : Type 0 where
  pub is_down : is_some x.core ≡ false
  pub no_less : x.now ≤ now
  pub kept : EntriesMay x.order x.synced entries
  pub low : last_epoch entries ≤ START_EPOCH_LIMIT
  pub puts : s.outs ≡ no_outs
  pub acts : s.acts ≡ []
  pub after : y ≡ record x {
    core = Some (started server l.times entries now);
    order = Some (started server l.times entries now).order;
    synced = synced_first x.order entries;
    now = now;
  }

-- this end leaves it
abbrev pub is_left : Taken → Taken
is_left t = record t { left = true }

-- a halt of one that runs
pub record HaltLogged (x : DataNode) (s : Logged) (y : DataNode) : Type 0 where
  pub is_up : is_some x.core ≡ true
  pub puts : s.outs ≡ no_outs
  pub acts : s.acts ≡ []
  pub after : y ≡ record x { core = None; taken = map is_left x.taken }

-- a move of a data server's log
abbrev pub DataLogs : Layout → ℕ → DataNode → Move → Logged → DataNode → Type 0
DataLogs l server x (Step job now line command) s y = ⊥
DataLogs l server x (Looked job line command) s y = ⊥
DataLogs l server x (App app now input) s y = ⊥
DataLogs l server x (Server d now input) s y = IsOfNode l.servers server d × StepLogged x now input s y
DataLogs l server x (Begin d now entries) s y = IsOfNode l.servers server d × BeginLogged l server x now entries s y
DataLogs l server x (Halt d) s y = IsOfNode l.servers server d × HaltLogged x s y
DataLogs l server x (Die app) s y = ⊥
DataLogs l server x (Tick now) s y = ⊥

-- A data server is what its log makes of it, the last step first.
abbrev pub DataLogRun : Layout → ℕ → List Logged → DataNode → Type 0
DataLogRun l server [] y = y ≡ new_data_node
DataLogRun l server (s ∷ log) y = (x : DataNode) × DataLogRun l server log x × DataLogs l server x s.move s y
