-- The machine of the theorem: functions, cut by data server, with all that was put and taken.
use Rattle.std.specs.Prelude.{ℕ, Bool, false, List, [], ◌++◌, map, Option, None}
use Rattle.std.specs.List.{range_with_len}
use Rattle.plain_orders.specs.declared.act.Act.{Act}
use Rattle.plain_orders.specs.declared.entry.Entry.{Entry}
use Rattle.plain_orders.specs.declared.layout.Layout.{Layout}
use Rattle.data_rules.specs.DataState.{DataState}
use Rattle.app_rules.specs.AppState.{AppState, AppEnd, no_end}
use Rattle.app_rules.specs.JobState.{JobState}
use Rattle.app_rules.specs.Looks.{Shown, View, nothing_shown}
use Rattle.cluster_runs.specs.CoresState.{Linked, Begun, start, job_at as first_job, begun_at as first_begun}
use Rattle.cluster_runs.specs.Views.{view_at as first_view}
use Rattle.cluster_runs.specs.Sent.{Sent, Lane, Place, Connection, Welcomed, no_lane}

-- an application server's end of a pair
pub record End : Type 0 where
  pub state : AppEnd
  -- what is published
  pub shown : Shown
  -- the session and the order that it was told of last
  pub told : Option Place
  -- the connections that it made, by number from 1
  pub connection_at : ℕ → Option Connection
  -- the Welcomes that told it something, the oldest first
  pub welcomes : List Welcomed

-- a connection that a data server accepted: what it is linked to, and whether this end has left it
pub record DataConnection : Type 0 where
  pub link : Option Linked
  pub left : Bool

-- a data server with all its pairs
pub record Site : Type 0 where
  -- none is down
  pub node : Option DataState
  -- the current order, which outlives a crash; none before the first start
  pub order : Option (List Entry)
  -- how many orders were before it
  pub past : ℕ
  -- the moment of the node's last step
  pub now : ℕ
  -- by their numbers
  pub connection_at : ℕ → Option DataConnection
  -- by application server
  pub end_at : ℕ → End
  -- by session and place of the order
  pub lane_at : ℕ → ℕ → Lane
  -- by place of the order and application server: how many Hellos were taken
  pub hellos_at : ℕ → ℕ → ℕ

-- all data servers, and what isn't of one of them
pub record Machine : Type 0 where
  pub layout : Layout
  -- by data server
  pub site_at : ℕ → Site
  -- by job
  pub job_at : ℕ → JobState
  pub begun_at : ℕ → Begun
  pub view_at : ℕ → View
  -- by application server: the moment of its last step, and whether it is gone
  pub app_now_at : ℕ → ℕ
  pub is_dead_at : ℕ → Bool
  pub clock : ℕ
  pub trail : List Act

-- an end that never connected
abbrev pub fresh_end : End
fresh_end = record { state = no_end; shown = nothing_shown; told = None; connection_at = λ _. None; welcomes = [] }

-- a data server that never started
abbrev pub fresh_site : Site
fresh_site = record {
  node = None;
  order = None;
  past = 0;
  now = 0;
  connection_at = λ _. None;
  end_at = λ _. fresh_end;
  lane_at = λ _ _. no_lane;
  hellos_at = λ _ _. 0;
}

-- nothing was done yet
abbrev pub begin : Layout → Machine
begin l = record {
  layout = l;
  site_at = λ _. fresh_site;
  job_at = first_job (start l);
  begun_at = first_begun (start l);
  view_at = first_view (start l);
  app_now_at = λ _. 0;
  is_dead_at = λ _. false;
  clock = 0;
  trail = [];
}

-- an application server's end of a pair as its rules see it
abbrev pub end_state : Machine → ℕ → ℕ → AppEnd
end_state m app d = ((m.site_at d).end_at app).state

-- an application server as its rules see it
abbrev pub app_state : Machine → ℕ → AppState
app_state m app = record { app = app; times = m.layout.times; ends = map (end_state m app) (range_with_len 0 m.layout.servers) }

-- what the ends put and took
abbrev pub sent_of : Machine → Sent
sent_of m = record {
  lane_at = λ server. (m.site_at server).lane_at;
  hellos_at = λ server. (m.site_at server).hellos_at;
  welcomes_at = λ app server. ((m.site_at server).end_at app).welcomes;
  dials_at = λ app server. (end_state m app server).dial;
  connection_at = λ app server. ((m.site_at server).end_at app).connection_at;
}

-- acts join the trail
abbrev pub with_acts : List Act → Machine → Machine
with_acts written m = record m { trail = m.trail ++ written }
