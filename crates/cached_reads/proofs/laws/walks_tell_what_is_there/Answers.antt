use Rattle.cached_reads.proofs.Firsts.{walks_tell_next}
use Rattle.cached_reads.proofs.Shapes.{walks_tell_shapes}
use Rattle.cached_reads.proofs.laws.walks_tell_what_is_there.Goals as goal

pub returns-clause-shapes : goal.returns-clause-shapes
returns-clause-shapes c = walks_tell_shapes

pub returns-clause-nexts : goal.returns-clause-nexts
returns-clause-nexts c = walks_tell_next
