-- What a cache ends as, once the run that was found in it is no longer borrowed.
use Rattle.std.specs.Prelude.{◌≡◌, ⊤, List}
use Rattle.std.specs.Borrow.{follows_so, MutBor, Fml}
use mathlib.Core.Option.{none}
use Rattle.subscript_keys.specs.declared.run.Run.{Run}
use Rattle.block_cache.specs.contracts.block_cache.BlockCache.{the_row}

-- it is these runs
abbrev pub EndsAs : MutBor (List Run) → List Run → Fml
EndsAs cache runs = follows_so the_row the_row cache.ghost_name none (λ _ _. ⊤) (λ last. last ≡ runs)
