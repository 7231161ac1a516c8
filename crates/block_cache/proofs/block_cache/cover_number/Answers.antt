use Rattle.block_cache.proofs.SpanLemmas.{cover-nowhere, cover-once}
use Rattle.block_cache.proofs.block_cache.cover_number.Goals as goal

pub returns-in-Nowhere : goal.returns-in-Nowhere
returns-in-Nowhere c = cover-nowhere c.args.runs.now.entries c.args.spans.now c.requires c.args.key.now c.in-Nowhere.ensures

pub returns-in-Once : goal.returns-in-Once
returns-in-Once c = cover-once c.args.runs.now.entries c.args.spans.now c.requires c.args.key.now c.in-Once.number c.in-Once.ensures
