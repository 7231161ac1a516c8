use Rattle.update_queue.proofs.ItemLemmas.{early_within, rest_after}
use Rattle.update_queue.proofs.update_queue.front_len.Goals as goal

pub returns-clause-within : goal.returns-clause-within
returns-clause-within c = rw c.early_count.ensures (early_within c.args.w c.args.items.now)

pub returns-clause-rest : goal.returns-clause-rest
returns-clause-rest c = rw c.early_count.ensures (rest_after c.args.w c.args.items.now c.requires)
