use Rattle.std.proofs.Common.{◌≡◌, ◌≤◌, take}
use Rattle.journal_disk.specs.Batches.{body_length}
use Rattle.journal_disk.proofs.batch_writer.front_batch.Given as goal

abbrev pub invariant-loop-entry : goal.invariant-loop-entry
invariant-loop-entry l = record {
  count : l.front.count ≡ l.entry-index;
  body : l.front.body ≡ body_length (take l.entry-index l.part);
  short : l.front.body ≤ 16777216;
}
