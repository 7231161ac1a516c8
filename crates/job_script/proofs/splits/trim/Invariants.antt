use Rattle.std.proofs.Common.{◌≡◌, length, reverse}
use Rattle.job_script.specs.Words.{spaces_off}
use Rattle.job_script.proofs.splits.trim.Given as goal

abbrev pub invariant-loop-last : goal.invariant-loop-last
invariant-loop-last l = spaces_off (reverse l.rest) ≡ spaces_off (reverse (spaces_off l.text))

abbrev pub decreases-loop-last : goal.decreases-loop-last
decreases-loop-last l = length l.rest
