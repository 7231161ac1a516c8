use Rattle.block_tree.proofs.SpanTests.{rising_from_sorted}
use Rattle.block_tree.proofs.block_tree.BlockTree.len.Goals as goal

pub returns-clause-rises : goal.returns-clause-rises
returns-clause-rises c = rw (← c.self.view_is) (rising_from_sorted _ c.len.ensures.ordered)
