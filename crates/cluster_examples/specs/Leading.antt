-- What moves lead to.
use Rattle.std.specs.Prelude.{◌≡◌, List, [], ◌∷◌}
use Rattle.cluster_runs.specs.CoresState.{CoresState}
use Rattle.cluster_runs.specs.Moves.{Allowed}
use Rattle.cluster_runs.specs.Steps.{Made, CoresStep}

-- allowed moves, the first of them first, lead from this state to that one
abbrev pub Leads : CoresState → List Made → CoresState → Type 0
Leads c [] d = d ≡ c
Leads c (made ∷ more) d = (next : CoresState) × Allowed c made.move × CoresStep c made next × Leads next more d
