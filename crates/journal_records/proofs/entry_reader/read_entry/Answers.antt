use Rattle.journal_records.proofs.NoRecord.{read_again}
use Rattle.journal_records.proofs.entry_reader.read_entry.Goals as goal

pub returns-in-Ok-clause-again : goal.returns-in-Ok-clause-again
returns-in-Ok-clause-again c =
    λ entry rest p e. read_again c.in-Ok.entry entry c.args.bytes.now c.in-Ok.rest.now rest c.in-Ok.ensures.is_record p c.in-Ok.ensures.some e
