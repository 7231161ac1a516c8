use Rattle.std.proofs.Common.{◌≡◌, ℕ, length}
use Rattle.std.specs.Map.{values_of}
use Rattle.block_cache.specs.CacheWords.{without_met}
use Rattle.block_cache.specs.Numbering.{IsNumberedBelow, SameSpans}
use Rattle.block_cache.proofs.block_cache.drop_met.Given as goal

-- what was let go so far meets the span
abbrev pub invariant-loop-spans : goal.invariant-loop-spans
invariant-loop-spans l = record {
  values : without_met l.span (values_of l.runs.entries) ≡ without_met l.span (values_of l.initial.runs.entries);
  cap : l.runs.cap ≡ l.initial.runs.cap;
  numbers : (n : ℕ) → IsNumberedBelow n l.initial.runs.entries → IsNumberedBelow n l.runs.entries;
  spans : SameSpans l.runs.entries l.spans;
}

abbrev pub decreases-loop-spans : goal.decreases-loop-spans
decreases-loop-spans l = length l.runs.entries
