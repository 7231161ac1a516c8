use Rattle.std.proofs.Common.{rules, tests}
use Rattle.std.proofs.lemmas.Iterator.Search.{find_from_yields_List}
use Rattle.std.proofs.lemmas.Iterator.Consumers.{YieldsList-from_rest}
use Rattle.end_words.specs.Runs.{covers}
use Rattle.block_cache.proofs.block_cache.find_cover.Goals as goal

pub returns : goal.returns
returns c =
    find_from_yields_List (λ e. covers c.args.key.now e.1) _ _ _ c.find.ensures.ran (YieldsList-from_rest c.args.runs.now.entries c.iter.ensures.rest) (λ x b q k. search (rules, tests))
