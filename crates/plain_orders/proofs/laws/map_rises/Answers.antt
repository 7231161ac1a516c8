use Rattle.plain_orders.proofs.RisingLemmas.{fold_rises}
use Rattle.plain_orders.proofs.laws.map_rises.Goals as goal

pub returns : goal.returns
returns c = fold_rises
