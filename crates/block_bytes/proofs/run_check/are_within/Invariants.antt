use Rattle.std.proofs.Common.{drop}
use Rattle.std.specs.Prelude.{◌↔◌}
use Rattle.std.specs.List.{AllByRecursion}
use Rattle.subscript_keys.specs.Span.{IsIn}
use Rattle.block_bytes.proofs.run_check.are_within.Given as goal

abbrev pub invariant-loop-pair : goal.invariant-loop-pair
invariant-loop-pair l = AllByRecursion (λ p. IsIn l.span.lo l.span.hi p.key) (drop l.pair-index l.pairs) ↔ AllByRecursion (λ p. IsIn l.span.lo l.span.hi p.key) l.pairs
