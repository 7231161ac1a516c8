use Rattle.block_bytes.proofs.OneRun.{one_run}
use Rattle.block_bytes.proofs.one_run.blocks_have_one_run.Goals as goal

pub returns : goal.returns
returns c = one_run
