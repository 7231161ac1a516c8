use Rattle.std.proofs.Common.{arith}
use Rattle.block_bytes.proofs.BlockLengths.{short_run}
use Rattle.block_bytes.proofs.block_writer.write_block.Goals as goal

pub run_bytes-requires : goal.run_bytes-requires
run_bytes-requires c =
    let left = c.in-Some.ensures.some in
    short_run c.args.run.now (omega (arith, left))
