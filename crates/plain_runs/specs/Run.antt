-- Runs of the plain machine.
use Rattle.std.specs.Prelude.{List, [], ◌∷◌}
use Rattle.plain_orders.specs.declared.act.Act.{Act}
use Rattle.plain_orders.specs.declared.layout.Layout.{Layout}
use Rattle.plain_runs.specs.Plain.{Plain, start}
use Rattle.plain_runs.specs.Step.{MayCome, after}

-- the state after some acts
abbrev pub after_all : Layout → Plain → List Act → Plain
after_all layout p [] = p
after_all layout p (a ∷ acts) = after_all layout (after layout p a) acts

-- each act may come after those before it
abbrev pub RunFrom : Layout → Plain → List Act → Type 0
RunFrom layout p [] = Unit {0}
RunFrom layout p (a ∷ acts) = MayCome layout p a × RunFrom layout (after layout p a) acts

-- the trail is a run
abbrev pub IsRun : Layout → List Act → Type 0
IsRun layout acts = RunFrom layout start acts

-- the state of the plain machine after a trail
abbrev pub state_after : Layout → List Act → Plain
state_after layout acts = after_all layout start acts
