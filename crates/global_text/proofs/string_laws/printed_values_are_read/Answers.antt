use Rattle.std.proofs.Common.{subst}
use Rattle.global_text.specs.Printed.{IsPrinted}
use Rattle.global_text.proofs.PrintedReads.{one-printed, printed-read, never-none}
use Rattle.global_text.proofs.string_laws.printed_values_are_read.Goals as goal

pub returns-clause-one : goal.returns-clause-one
returns-clause-one c = one-printed

pub returns-clause-read : goal.returns-clause-read
returns-clause-read c = printed-read

pub returns-clause-never_none : goal.returns-clause-never_none
returns-clause-never_none c = λ s text is e. never-none s (subst (IsPrinted s) e is)
