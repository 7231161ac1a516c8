use Rattle.end_words.proofs.SpanTests.{contains_is}
use Rattle.span_index.proofs.holding.contains.Goals as goal

pub returns : goal.returns
returns c = contains_is c.contains.result c.args.span.now c.args.key.now c.contains.ensures
