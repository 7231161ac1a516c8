use Rattle.journal_disk.proofs.OneList.{one_place}
use Rattle.journal_disk.proofs.laws.the_first_bad_gate_is_one.Goals as goal

pub returns : goal.returns
returns c = one_place
