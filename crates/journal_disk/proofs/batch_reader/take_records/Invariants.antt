use Rattle.std.proofs.Common.{length}
use Rattle.journal_disk.proofs.RecordRows.{AreReading}
use Rattle.journal_disk.proofs.batch_reader.take_records.Given as goal

abbrev pub invariant-loop-rest : goal.invariant-loop-rest
invariant-loop-rest l = AreReading l.fn.list l.list l.bytes l.rest

abbrev pub decreases-loop-rest : goal.decreases-loop-rest
decreases-loop-rest l = length l.rest
