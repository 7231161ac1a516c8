-- What a job has seen falls only where a restart had cut the list.
use Rattle.std.specs.Prelude.{◌≡◌, ℕ, true, ◌<◌, ◌≤◌, List, [], ◌∷◌, ◌++◌, length}
use Rattle.plain_orders.specs.declared.act.Act.{Act}
use Rattle.plain_orders.specs.declared.act.Act.TheVariants.{Crash, Told}
use Rattle.plain_orders.specs.declared.layout.Layout.{Layout}
use Rattle.plain_runs.specs.Run.{IsRun}
use Rattle.plain_runs.specs.Laws.{may_fall, server_after}
use Rattle.trail_laws.specs.ExampleTrails.{cut_off, two_jobs}

-- what a job has seen of a server after a trail
abbrev pub seen_after : Layout → List Act → ℕ → ℕ → ℕ
seen_after layout acts d j = ((server_after layout acts d).known_at j).seen

-- a restart cut the server's order, which had n entries or more, to fewer
pub record WasCut (layout : Layout) (acts : List Act) (d n : ℕ) : Type 0 where
  pub before : List Act
  pub kept : ℕ
  pub later : List Act
  pub crash : acts ≡ before ++ Crash d kept ∷ later
  pub cut : kept < n
  pub had : n ≤ length (server_after layout before d).order

-- What a job has seen falls only by a `told` or a `met`, and there only where a restart had cut the order to less.
abbrev pub SeenFallsWhereCut : Type 0
SeenFallsWhereCut =
    (layout : Layout) (acts : List Act) (a : Act) (d j : ℕ) → IsRun layout (acts ++ a ∷ [])
    → seen_after layout (acts ++ a ∷ []) d j < seen_after layout acts d j
    → (may_fall a ≡ true) × WasCut layout acts d (seen_after layout acts d j)

-- What a job has seen falls by a `told`.
abbrev pub PrefixExample : Type 0
PrefixExample = IsRun two_jobs (cut_off ++ Told 0 0 2 2 2 ∷ []) × (seen_after two_jobs (cut_off ++ Told 0 0 2 2 2 ∷ []) 0 0 < seen_after two_jobs cut_off 0 0)
