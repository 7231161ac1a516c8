use Rattle.std.proofs.Common.{◌∙◌, ap}
use Rattle.block_tree.specs.TreeWords.{without}
use Rattle.folded_store.proofs.MapLemmas.{node_removed}
use Rattle.folded_store.proofs.changing.remove_pair.Goals as goal

pub returns-clause-ok : goal.returns-clause-ok
returns-clause-ok g c =
    c.in_ok-kill_span.ensures.ok ∙ ap (without (g.P.PairTable.pairs c.args.pairs.now)) c.in_ok-span.ensures ∙ node_removed c.args.key.now (g.P.PairTable.pairs c.args.pairs.now) c.requires.rises
