-- The lists show the machine: at each place, and beyond their ends what nothing was done to.
use Rattle.std.specs.Prelude.{◌≡◌, ◌<◌, ℕ, length, get_or}
use Rattle.std.specs.Option.{option_map}
use Rattle.app_rules.specs.Works.{end_at}
use Rattle.cluster_runs.specs.CoresState.{CoresState, Accepted, node_at, order_at, app_at, job_at, begun_at, is_dead, dial_at, accepted_at}
use Rattle.cluster_runs.specs.Views.{view_at, shown_of, shown_at}
use Rattle.cluster_runs.specs.Machine.{Machine, DataConnection, end_state}
use Rattle.cluster_runs.specs.Connections.{dial_of}

-- a data connection as the lists have it
abbrev pub accepted_of : ℕ → ℕ → DataConnection → Accepted
accepted_of server conn c = record { server = server; conn = conn; dial = c.link; left = c.left }

-- an application server of the layout has its number, the times, and an end for each data server
pub record IsApp (c : CoresState) (app : ℕ) : Type 0 where
  pub its : (app_at c app).app ≡ app
  pub times : (app_at c app).times ≡ c.layout.times
  pub whole : length (app_at c app).ends ≡ c.layout.servers

-- each list has a place for each node, pair and job of the layout
pub record IsWhole (c : CoresState) : Type 0 where
  pub nodes : length c.nodes ≡ c.layout.servers
  pub orders : length c.orders ≡ c.layout.servers
  pub server_nows : length c.server_nows ≡ c.layout.servers
  pub apps : length c.apps ≡ c.layout.apps
  pub app_nows : length c.app_nows ≡ c.layout.apps
  pub dead : length c.dead ≡ c.layout.apps
  pub shown : length c.shown ≡ c.layout.apps
  pub rows : (app : ℕ) → app < c.layout.apps → length (shown_of c app) ≡ c.layout.servers
  pub jobs : length c.jobs ≡ length c.layout.job_apps
  pub begun : length c.begun ≡ length c.layout.job_apps
  pub views : length c.views ≡ length c.layout.job_apps
  pub used : (job : ℕ) → job < length c.layout.job_apps → length (job_at c job).used ≡ c.layout.servers

-- The lists show the machine.
pub record Mirrors (c : CoresState) (m : Machine) : Type 0 where
  pub layout : c.layout ≡ m.layout
  pub whole : IsWhole c
  pub nodes : (server : ℕ) → node_at c server ≡ (m.site_at server).node
  pub orders : (server : ℕ) → order_at c server ≡ (m.site_at server).order
  pub server_nows : (server : ℕ) → get_or c.server_nows server 0 ≡ (m.site_at server).now
  pub accepted : (server conn : ℕ) → accepted_at c server conn ≡ option_map (accepted_of server conn) ((m.site_at server).connection_at conn)
  pub apps : (app : ℕ) → app < c.layout.apps → IsApp c app
  pub ends : (app server : ℕ) → end_at (app_at c app) server ≡ end_state m app server
  pub shown : (app server : ℕ) → shown_at c app server ≡ ((m.site_at server).end_at app).shown
  pub dials : (app server number : ℕ) → dial_at c app server number ≡ option_map (dial_of app server number) (((m.site_at server).end_at app).connection_at number)
  pub jobs : (job : ℕ) → job_at c job ≡ m.job_at job
  pub begun : (job : ℕ) → begun_at c job ≡ m.begun_at job
  pub views : (job : ℕ) → view_at c job ≡ m.view_at job
  pub app_nows : (app : ℕ) → get_or c.app_nows app 0 ≡ m.app_now_at app
  pub dead : (app : ℕ) → is_dead c app ≡ m.is_dead_at app
  pub clock : c.clock ≡ m.clock
  pub trail : c.trail ≡ m.trail
