use Rattle.std.proofs.Common.{take}
use Rattle.global_text.specs.Printed.{Appends}
use Rattle.transcript.specs.ActText.{AreEntryLines}
use Rattle.transcript.proofs.entry_printer.put_entries.Given as goal

abbrev pub invariant-loop-entry : goal.invariant-loop-entry
invariant-loop-entry l = Appends (AreEntryLines (take l.entry-index l.entries)) l.initial.to l.to
