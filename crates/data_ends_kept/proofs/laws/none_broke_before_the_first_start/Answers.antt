use Rattle.data_ends_kept.proofs.Unopened.{unopened_is_kept}
use Rattle.data_ends_kept.proofs.laws.none_broke_before_the_first_start.Goals as goal

pub returns : goal.returns
returns c = unopened_is_kept
