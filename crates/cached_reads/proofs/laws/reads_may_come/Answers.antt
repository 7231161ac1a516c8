use Rattle.cached_reads.proofs.MayCome.{gets_may, nexts_may, shapes_may}
use Rattle.cached_reads.proofs.StepsCome.{steps_reads_may}
use Rattle.cached_reads.proofs.laws.reads_may_come.Goals as goal

pub returns-clause-gets : goal.returns-clause-gets
returns-clause-gets c = gets_may

pub returns-clause-shapes : goal.returns-clause-shapes
returns-clause-shapes c = shapes_may

pub returns-clause-nexts : goal.returns-clause-nexts
returns-clause-nexts c = nexts_may

pub returns-clause-steps : goal.returns-clause-steps
returns-clause-steps c = steps_reads_may
