use Rattle.journal_records.proofs.OrderedRecords.{may_record}
use Rattle.journal_records.proofs.laws.ordered_entries_have_records.Goals as goal

pub returns : goal.returns
returns c = may_record
