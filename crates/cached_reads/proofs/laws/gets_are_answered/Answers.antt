use Rattle.cached_reads.proofs.Gets.{runs_answer, own_decide}
use Rattle.cached_reads.proofs.laws.gets_are_answered.Goals as goal

pub returns-clause-runs : goal.returns-clause-runs
returns-clause-runs c = runs_answer

pub returns-clause-own : goal.returns-clause-own
returns-clause-own c = own_decide
