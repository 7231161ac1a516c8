-- What each event makes of the two ends of a pair. What no row names stays.
use Rattle.std.specs.Prelude.{ℕ, nat_le, if◌then◌else◌, true, false}
use Rattle.plain_orders.specs.Times.{until}
use Rattle.plain_orders.specs.declared.layout.Times.{Times}
use Rattle.link_states.specs.declared.app_link.AppLink.{AppLink}
use Rattle.link_states.specs.declared.app_link.AppLink.TheVariants as client
use Rattle.link_states.specs.declared.data_link.DataLink.{DataLink}
use Rattle.link_states.specs.declared.data_link.DataLink.TheVariants as server
use Rattle.link_states.specs.declared.link_event.LinkEvent.{LinkEvent}
use Rattle.link_states.specs.declared.link_event.LinkEvent.TheVariants.{Welcomed, Ended, Ticked, Connected, ConnectFailed, Settled, ResetCame, Opened, Resumed, RoundOver, Replaced}

-- in trouble since a moment, the next try at now and the time to retry
abbrev pub app_trouble : Times → ℕ → ℕ → AppLink
app_trouble times now broke = client.Trouble broke (until now times.retry)

-- the application server's end
abbrev pub app_next : Times → ℕ → AppLink → LinkEvent → AppLink
app_next times now client.NotConnected Welcomed = client.Normal
app_next times now client.Normal Ended = app_trouble times now now
app_next times now (client.Trouble broke try_at) Ticked = if nat_le (until broke times.recover) now then client.NotConnected else client.Trouble broke try_at
app_next times now (client.Trouble broke try_at) Connected = client.Recovery
app_next times now (client.Trouble broke try_at) ConnectFailed = app_trouble times now broke
app_next times now client.Recovery Ended = app_trouble times now now
app_next times now client.Recovery Settled = client.Normal
app_next times now client.Recovery ResetCame = client.NotConnected
app_next times now state event = state

-- the data server's end
abbrev pub data_next : Times → ℕ → DataLink → LinkEvent → DataLink
data_next times now server.Free Opened = server.Normal
data_next times now server.Normal Ended = server.Trouble now
data_next times now server.Normal Replaced = server.Free
data_next times now (server.Trouble broke) Resumed = server.Normal
data_next times now (server.Trouble broke) Ticked = if nat_le (until broke times.trouble) now then server.Free else server.Trouble broke
data_next times now (server.Trouble broke) Replaced = server.Free
data_next times now (server.Recovering due) Ticked = if nat_le due now then server.Free else server.Recovering due
data_next times now (server.Recovering due) (RoundOver true) = server.Normal
data_next times now (server.Recovering due) (RoundOver false) = server.Trouble now
data_next times now (server.Recovering due) Replaced = server.Free
data_next times now state event = state
