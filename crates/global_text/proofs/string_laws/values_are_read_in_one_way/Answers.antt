use Rattle.global_text.proofs.StringReads.{spelling}
use Rattle.global_text.proofs.StringLaws.{one-string, value-no-fault}
use Rattle.global_text.proofs.OneFault.{one-value-fault}
use Rattle.global_text.proofs.string_laws.values_are_read_in_one_way.Goals as goal

pub returns-clause-one : goal.returns-clause-one
returns-clause-one c = one-string

pub returns-clause-spelled : goal.returns-clause-spelled
returns-clause-spelled c = spelling

pub returns-clause-read : goal.returns-clause-read
returns-clause-read c = value-no-fault

pub returns-clause-refused : goal.returns-clause-refused
returns-clause-refused c = one-value-fault
