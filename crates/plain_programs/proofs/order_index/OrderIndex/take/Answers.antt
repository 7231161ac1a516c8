use Rattle.plain_programs.proofs.IndexLemmas.{index-epoch}
use Rattle.plain_programs.proofs.order_index.OrderIndex.take.Goals as goal

pub returns-in-Epoch-clause-ok : goal.returns-in-Epoch-clause-ok
returns-in-Epoch-clause-ok c = λ es t. rw c.in-Epoch.is (index-epoch es c.in-Epoch.number c.args.self.now t.indexes)
