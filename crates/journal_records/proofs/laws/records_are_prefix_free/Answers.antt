use Rattle.journal_records.proofs.OneRecord.{entry_prefix_free}
use Rattle.journal_records.proofs.laws.records_are_prefix_free.Goals as goal

pub returns : goal.returns
returns c = entry_prefix_free
