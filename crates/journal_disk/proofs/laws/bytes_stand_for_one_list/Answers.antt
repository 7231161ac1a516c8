use Rattle.journal_disk.proofs.OneList.{one_list}
use Rattle.journal_disk.proofs.laws.bytes_stand_for_one_list.Goals as goal

pub returns : goal.returns
returns c = one_list
