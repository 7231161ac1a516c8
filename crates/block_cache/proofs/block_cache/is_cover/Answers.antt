use Rattle.end_words.proofs.SpanTests.{contains_is}
use Rattle.block_cache.proofs.block_cache.is_cover.Goals as goal

pub returns : goal.returns
returns c = contains_is c.contains.result c.args.run.now.span c.args.key.now c.contains.ensures
