use Rattle.fronts_kept.proofs.CachedRuns.{cached_are_true, published_are_true}
use Rattle.fronts_kept.proofs.laws.cached_runs_are_true.Goals as goal

pub returns-clause-cached : goal.returns-clause-cached
returns-clause-cached c = cached_are_true

pub returns-clause-published : goal.returns-clause-published
returns-clause-published c = published_are_true
