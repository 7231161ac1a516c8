use Rattle.std.proofs.Common.{rules}
use Rattle.std.proofs.lemmas.Map.Steps.{set_value_same}
use Rattle.lock_index.proofs.number_index.NumberIndex.add.Goals as goal

pub returns-in_err-push-clause-err : goal.returns-in_err-push-clause-err
returns-in_err-push-clause-err g c = search (rules, set_value_same)
