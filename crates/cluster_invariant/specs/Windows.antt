-- Which sessions have windows at a running node.
use Rattle.std.specs.Prelude.{◌≡◌, ℕ, true, IfSome}
use Rattle.std.specs.List.{list_any}
use Rattle.plain_orders.specs.Entries.{live}
use Rattle.data_rules.specs.DataState.{DataState}
use Rattle.cluster_runs.specs.Sent.{Place, Connection}
use Rattle.cluster_runs.specs.Machine.{Site}
use Rattle.cluster_invariant.specs.Link.{is_window_of}

-- the session, if it is one of the current order and live, has a window
abbrev pub PlaceHas : Site → DataState → Place → Type 0
PlaceHas x n p = p.order ≡ x.past → live n.order p.session ≡ true → list_any (is_window_of p.session) n.windows ≡ true

-- the session whose messages a connection carries
abbrev pub ItsHas : Site → DataState → Connection → Type 0
ItsHas x n c = IfSome c.its (PlaceHas x n)

-- A live session whose Welcome was put in the current order has a window.
abbrev pub WindowsAre : Site → Type 0
WindowsAre x = IfSome x.node (λ n. (app number : ℕ) → IfSome ((x.end_at app).connection_at number) (ItsHas x n))
