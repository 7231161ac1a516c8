use Rattle.plain_orders.proofs.FoldLemmas.{fold-push}
use Rattle.plain_orders.proofs.laws.fold_goes_on.Goals as goal

pub returns : goal.returns
returns c = fold-push
