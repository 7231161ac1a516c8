use Rattle.std.proofs.Common.{rules}
use Rattle.std.proofs.lemmas.Bool.{iff_false}
use Rattle.block_bytes.proofs.RunReads.{no_run, not_in_order, read_again}
use Rattle.block_bytes.proofs.block_reader.read_block.Goals as goal

pub returns-in-Err-NoField-clause-not_a_block : goal.returns-in-Err-NoField-clause-not_a_block
returns-in-Err-NoField-clause-not_a_block c =
    λ e run. no_run run c.args.bytes.now (search rules)

pub returns-then-not-is_block_run-clause-not_a_block : goal.returns-then-not-is_block_run-clause-not_a_block
returns-then-not-is_block_run-clause-not_a_block c =
    λ e run. not_in_order c.in-Ok.run' run c.args.bytes.now c.in-Ok.ensures.short c.in-Ok.ensures.some (iff_false c.is_block_run.ensures c.if-not-is_block_run.true)

pub returns-clause-again : goal.returns-clause-again
returns-clause-again c =
    λ run. read_again c.in-Ok.run' run c.args.bytes.now c.in-Ok.ensures.short c.in-Ok.ensures.some
