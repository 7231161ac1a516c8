use Rattle.std.proofs.Common.{All, length}
use Rattle.journal_records.specs.Records.{HasRecordOp}
use Rattle.journal_disk.proofs.Staging.{IsStaging}
use Rattle.journal_disk.proofs.batch_writer.stage.Given as goal

abbrev pub invariant-loop-rest : goal.invariant-loop-rest
invariant-loop-rest l = record {
  staging : IsStaging l.part l.rest l.bytes.items l.sizes.items;
  ops : All HasRecordOp l.rest;
}

abbrev pub decreases-loop-rest : goal.decreases-loop-rest
decreases-loop-rest l = length l.rest
