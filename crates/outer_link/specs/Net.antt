-- What the calls of a net promise.
use Rattle.std.specs.Prelude.{ℕ, ◌≡◌, ◌<◌, ◌≤◌, List, length, take, position, Bool, Option, Some, None}
use Rattle.outer_link.specs.declared.end.End.{End}
use Rattle.outer_link.specs.declared.moved.Put.{Put}
use Rattle.outer_link.specs.declared.moved.Put.TheVariants as put
use Rattle.outer_link.specs.declared.moved.Took.{Took}
use Rattle.outer_link.specs.declared.moved.Took.TheVariants as took
use Rattle.outer_link.specs.declared.node_name.NodeName.{NodeName}
use Rattle.outer_link.specs.declared.node_name.NodeName.TheVariants as node
use Rattle.outer_link.specs.Told.{Told, after_accept, after_put, after_take, is_waiting, undelivered}

-- how many application servers and data servers a net joins, and whether it may hold back what is there
pub record Shape : Type 0 where
  pub apps : ℕ
  pub servers : ℕ
  pub holds_back : Bool

-- what a call changed, of a net that tells; whether it tells stays
abbrev pub IfTold : Option Told → Option Told → (Told → Told → Type 0) → Type 0
IfTold (Some t) (Some now) P = P t now
IfTold None None P = Unit {0}
IfTold _ _ P = ⊥

-- an accept answers the oldest connection that waits there, or none and changes nothing
abbrev pub AcceptedAs : Told → Told → ℕ → Option ℕ → Type 0
AcceptedAs t now server None = now ≡ t
AcceptedAs t now server (Some n) = (position (is_waiting server) t.conns ≡ Some n) × (now ≡ after_accept t n)

-- a put moved so many bytes from the front of the part, or none
abbrev pub PutAs : Told → Told → ℕ → End → List ℕ → Put → Type 0
PutAs t now conn end part (put.Bytes n) = now ≡ after_put t conn end (take n part)
PutAs t now conn end part put.NotNow = now ≡ t

-- some bytes from the front of the part were put
abbrev pub PutSome : Told → Told → ℕ → End → List ℕ → Type 0
PutSome t now conn end part = (n : ℕ) × (now ≡ after_put t conn end (take n part))

-- at least one byte and no more than there are
abbrev pub PutWithin : ℕ → Put → Type 0
PutWithin limit (put.Bytes n) = (0 < n) × (n ≤ limit)
PutWithin limit put.NotNow = Unit {0}

-- a take moved the first bytes that were to be taken there into the buffer, or none
abbrev pub TookAs : Told → Told → ℕ → End → List ℕ → Took → Type 0
TookAs t now conn end buf (took.Bytes n) =
    (n ≤ length (undelivered t conn end)) × (take n buf ≡ take n (undelivered t conn end)) × (now ≡ after_take t conn end n)
TookAs t now conn end buf took.NotNow = now ≡ t
TookAs t now conn end buf took.Ended = now ≡ t

-- at least one byte and no more than there is room
abbrev pub TookWithin : ℕ → Took → Type 0
TookWithin limit (took.Bytes n) = (0 < n) × (n ≤ limit)
TookWithin limit took.NotNow = Unit {0}
TookWithin limit took.Ended = Unit {0}

-- the node is one of those that the net joins
abbrev pub IsNodeOf : Shape → NodeName → Type 0
IsNodeOf shape (node.App app) = app < shape.apps
IsNodeOf shape (node.Server server) = server < shape.servers
