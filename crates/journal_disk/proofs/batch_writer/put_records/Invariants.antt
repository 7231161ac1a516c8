use Rattle.std.proofs.Common.{◌≡◌, ◌++◌, take}
use Rattle.std.specs.List.{AllByRecursion}
use Rattle.journal_records.specs.Records.{IsRecord}
use Rattle.journal_disk.specs.Batches.{records}
use Rattle.journal_disk.proofs.batch_writer.put_records.Given as goal

abbrev pub invariant-loop-entry : goal.invariant-loop-entry
invariant-loop-entry l = record {
  written : l.to.items ≡ l.fn.to.items ++ records (take l.entry-index l.entries);
  have_records : AllByRecursion IsRecord (take l.entry-index l.entries);
}
