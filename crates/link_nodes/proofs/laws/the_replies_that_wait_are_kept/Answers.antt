use Rattle.link_nodes.proofs.RepliesNow.{replies_are_kept}
use Rattle.link_nodes.proofs.laws.the_replies_that_wait_are_kept.Goals as goal

pub returns : goal.returns
returns c = replies_are_kept
