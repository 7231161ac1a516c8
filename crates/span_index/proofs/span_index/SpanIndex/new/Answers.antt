use Rattle.span_index.proofs.NumberLemmas.{IsIndex-none}
use Rattle.span_index.proofs.span_index.SpanIndex.new.Goals as goal

pub invariant_of-result : goal.invariant_of-result
invariant_of-result c = IsIndex-none 0 _ _ c.new.ensures.items c.new-2.ensures.items
