use Rattle.std.proofs.Common.{◌≡◌, length}
use Rattle.job_script.specs.Words.{spaces_off}
use Rattle.job_script.proofs.splits.skip_spaces.Given as goal

abbrev pub invariant-loop-first : goal.invariant-loop-first
invariant-loop-first l = spaces_off l.rest ≡ spaces_off l.text

abbrev pub decreases-loop-first : goal.decreases-loop-first
decreases-loop-first l = length l.rest
