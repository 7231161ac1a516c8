use Rattle.std.proofs.Common.{◌∙◌}
use Rattle.block_cache.proofs.block_cache.BlockCache.drop_span.Goals as goal

pub invariant_of-self : goal.invariant_of-self
invariant_of-self c =
    (c.drop_met.ensures.cap ∙ c.self.invariant.0, c.drop_met.ensures.numbers c.self.inside.next c.self.invariant.1, c.drop_met.ensures.spans)
