-- A trail that is being written.
use Rattle.std.specs.Prelude.{List}
use Rattle.plain_orders.specs.declared.act.Act.{Act}
use Rattle.plain_orders.specs.declared.layout.Layout.{Layout}
use Rattle.plain_runs.specs.Plain.{Plain}
use Rattle.plain_runs.specs.Run.{state_after}

-- a layout and the acts so far
pub record Recording : Type 0 where
  pub layout : Layout
  pub acts : List Act

-- the plain machine's state after it
abbrev pub state_of : Recording → Plain
state_of r = state_after r.layout r.acts
