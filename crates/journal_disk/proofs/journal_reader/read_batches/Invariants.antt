use Rattle.std.proofs.Common.{length}
use Rattle.journal_disk.proofs.BatchRows.{AreReadingBatches}
use Rattle.journal_disk.proofs.journal_reader.read_batches.Given as goal

abbrev pub invariant-loop-rest : goal.invariant-loop-rest
invariant-loop-rest l = AreReadingBatches l.bytes l.list l.rest

abbrev pub decreases-loop-rest : goal.decreases-loop-rest
decreases-loop-rest l = length l.rest
