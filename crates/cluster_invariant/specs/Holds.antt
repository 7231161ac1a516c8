-- What holds in each state that some list of allowed moves leads to: the parts that concern orders and pairs of ends.
use Rattle.std.specs.Prelude.{◌≡◌, ℕ, Bool}
use Rattle.plain_orders.specs.declared.layout.Layout.{Layout}
use Rattle.plain_runs.specs.Plain.{Plain, Server}
use Rattle.plain_runs.specs.Run.{state_after}
use Rattle.cluster_runs.specs.Machine.{Machine, Site}
use Rattle.cluster_invariant.specs.Orders.{OrderIs}
use Rattle.cluster_invariant.specs.Ends.{EndsAre}
use Rattle.cluster_invariant.specs.Dials.{DialsAre}
use Rattle.cluster_invariant.specs.Link.{LinkHolds}
use Rattle.cluster_invariant.specs.Coherence.{CoherenceHolds}
use Rattle.cluster_invariant.specs.Fronts.{FrontsHold}
use Rattle.cluster_invariant.specs.Rounds.{RoundsHold}
use Rattle.cluster_invariant.specs.Asks.{AsksHold}
use Rattle.cluster_invariant.specs.Windows.{WindowsAre}
use Rattle.cluster_invariant.specs.Commands.{CommandsHold}

-- one data server with its pairs, against the plain one
pub record SiteHolds (l : Layout) (d : ℕ) (is_dead : ℕ → Bool) (v : Server) (x : Site) : Type 0 where
  pub order : OrderIs l d v x
  pub ends : EndsAre v x is_dead
  pub dials : DialsAre v x is_dead
  pub link : LinkHolds v x is_dead
  pub coherence : CoherenceHolds v x
  pub fronts : FrontsHold v x is_dead
  pub rounds : RoundsHold v x is_dead
  pub windows : WindowsAre x
  pub asks : AsksHold x is_dead

-- all data servers, against a plain state
pub record HoldsOf (l : Layout) (p : Plain) (m : Machine) : Type 0 where
  pub layout : m.layout ≡ l
  pub clock : p.clock ≡ m.clock
  pub died : (app : ℕ) → p.died_at app ≡ m.is_dead_at app
  pub sites : (d : ℕ) → SiteHolds l d m.is_dead_at (p.server_at d) (m.site_at d)
  pub commands : CommandsHold m

-- What holds, against the plain state that the trail leads to.
abbrev pub Holds : Layout → Machine → Type 0
Holds l m = HoldsOf l (state_after l m.trail) m
