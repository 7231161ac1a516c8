-- Parts of a line.
use Rattle.std.proofs.Common.{ℕ, List, [], refl}
use Rattle.job_script.specs.declared.declared.Declared.{Declared}
use Rattle.job_script.specs.declared.line_fault.LineFault.{LineFault}
use Rattle.job_script.specs.declared.line_fault.LineFault.TheVariants.{Bad}
use Rattle.job_script.specs.declared.line_kind.LineKind.TheVariants.{Words}
use Rattle.job_script.specs.Refusals.{RefusesEnd, RefusesParts}

-- what follows the last part is refused
pub over-end : (d : Declared) (text : List ℕ) (fault : LineFault) → RefusesEnd text fault → RefusesParts d [] text fault
over-end d text (Bad Words) over = (over, refl)
over-end d text fault over = absurd over
