use Rattle.cluster_examples.proofs.CrossingCancelCases.{cancel_crosses_grant as proof}
use Rattle.cluster_examples.proofs.examples.crossing_cancel.Goals as goal

pub returns : goal.returns
returns c = proof
