use Rattle.span_index.proofs.NumberLemmas.{IsIndex-none}
use Rattle.span_index.proofs.span_index.SpanIndex.clear.Goals as goal

pub invariant_of-self : goal.invariant_of-self
invariant_of-self c = IsIndex-none c.self.inside.next _ _ c.clear.ensures.items c.clear-2.ensures.items
