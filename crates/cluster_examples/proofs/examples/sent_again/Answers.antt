use Rattle.cluster_examples.proofs.SentAgainCases.{recover_sends_again as proof}
use Rattle.cluster_examples.proofs.examples.sent_again.Goals as goal

pub returns : goal.returns
returns c = proof
