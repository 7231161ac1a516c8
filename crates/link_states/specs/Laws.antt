-- When a session is lost, and when it is closed by a tick.
use Rattle.std.specs.Prelude.{◌≡◌, ◌≢◌, ◌↔◌, ◌≤◌, ◌⊎◌, ℕ}
use Rattle.plain_orders.specs.Times.{until}
use Rattle.plain_orders.specs.declared.layout.Times.{Times}
use Rattle.link_states.specs.declared.app_link.AppLink.{AppLink}
use Rattle.link_states.specs.declared.app_link.AppLink.TheVariants as client
use Rattle.link_states.specs.declared.data_link.DataLink.{DataLink}
use Rattle.link_states.specs.declared.data_link.DataLink.TheVariants as server
use Rattle.link_states.specs.declared.link_event.LinkEvent.{LinkEvent}
use Rattle.link_states.specs.declared.link_event.LinkEvent.TheVariants.{Ticked, ResetCame}
use Rattle.link_states.specs.Tables.{app_next, data_next}

-- the end was in trouble since a moment, and its time to recover is over
abbrev pub IsExpired : Times → ℕ → AppLink → LinkEvent → Type 0
IsExpired times now state event = (broke : ℕ) × (try_at : ℕ) × (state ≡ client.Trouble broke try_at) × (event ≡ Ticked) × (until broke times.recover ≤ now)

-- a Reset came while the end recovered
abbrev pub IsReset : AppLink → LinkEvent → Type 0
IsReset state event = (state ≡ client.Recovery) × (event ≡ ResetCame)

abbrev pub LostForACause : Type 0
LostForACause = (times : Times) (now : ℕ) (state : AppLink) (event : LinkEvent)
    → state ≢ client.NotConnected → (app_next times now state event ≡ client.NotConnected) ↔ (IsExpired times now state event ⊎ IsReset state event)

-- the end is in trouble or recovering, and its time is over
abbrev pub IsOver : Times → ℕ → DataLink → Type 0
IsOver times now server.Free = ⊥
IsOver times now server.Normal = ⊥
IsOver times now (server.Trouble broke) = until broke times.trouble ≤ now
IsOver times now (server.Recovering due) = due ≤ now

abbrev pub ClosedWhenOver : Type 0
ClosedWhenOver = (times : Times) (now : ℕ) (state : DataLink)
    → (data_next times now state Ticked ≡ server.Free) ↔ ((state ≡ server.Free) ⊎ IsOver times now state)
