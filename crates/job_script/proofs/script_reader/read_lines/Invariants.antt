use Rattle.std.proofs.Common.{ℕ, List, length}
use Rattle.job_script.specs.declared.line.Line.{Line}
use Rattle.job_script.proofs.ScriptLemmas.{IsReadTo}
use Rattle.job_script.proofs.script_reader.read_lines.Given as goal

abbrev pub invariant-loop-rest : goal.invariant-loop-rest
invariant-loop-rest l = (raws : List (List ℕ)) × (lines : List Line) × IsReadTo raws lines l.text l.rest l.reading.declared l.reading.declarations.items l.reading.todos.items l.reading.line

abbrev pub decreases-loop-rest : goal.decreases-loop-rest
decreases-loop-rest l = length l.rest
