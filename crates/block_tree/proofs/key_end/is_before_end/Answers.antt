use Rattle.block_tree.proofs.EndLemmas.{first_decides}
use Rattle.block_tree.proofs.key_end.is_before_end.Goals as goal

pub returns-in-Some : goal.returns-in-Some
returns-in-Some c = first_decides c.args.key.now c.in-Some.byte.now (rw c.as_slice.ensures at c.in-Some.ensures.value)
