use Rattle.std.proofs.Common.{◌∙◌}
use Rattle.block_cache.proofs.block_cache.BlockCache.use_cover.Goals as goal

pub invariant_of-self : goal.invariant_of-self
invariant_of-self c =
    (c.use_cover.ensures.cap ∙ c.self.invariant.0, c.use_cover.ensures.numbers c.self.inside.next c.self.invariant.1, c.use_cover.ensures.spans)
