use Rattle.journal_disk.proofs.OneList.{bad_no_list}
use Rattle.journal_disk.proofs.laws.a_bad_gate_is_in_no_journal.Goals as goal

pub returns : goal.returns
returns c = bad_no_list
