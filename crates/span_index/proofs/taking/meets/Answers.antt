use Rattle.end_words.proofs.SpanTests.{meets_is}
use Rattle.span_index.proofs.taking.meets.Goals as goal

pub returns : goal.returns
returns c = meets_is c.meets.result c.args.a.now c.args.b.now c.meets.ensures
