use Rattle.cluster_examples.proofs.CachedReadCases.{cached_read_leads as proof}
use Rattle.cluster_examples.proofs.examples.cached_read.Goals as goal

pub returns : goal.returns
returns c = proof
