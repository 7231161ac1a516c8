use Rattle.std.proofs.Common.{◌≡◌, ◌++◌, drop}
use Rattle.transcript.specs.Parts.{fields}
use Rattle.transcript.proofs.printer.Printer.fields.Given as goal

abbrev pub invariant-loop-number : goal.invariant-loop-number
invariant-loop-number l = l.self ++ fields (drop l.number-index l.numbers) ≡ l.initial.self ++ fields l.numbers
