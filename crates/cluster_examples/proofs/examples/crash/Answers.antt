use Rattle.cluster_examples.proofs.CrashCases.{crash_is_mended as proof}
use Rattle.cluster_examples.proofs.examples.crash.Goals as goal

pub returns : goal.returns
returns c = proof
