use Rattle.std.proofs.Common.{◌≡◌, ◌∙◌, ap, map}
use Rattle.std.proofs.lemmas.Result.{IfOk-weaker, on_ok_weaker}
use Rattle.plain_orders.specs.PairMap.{within}
use Rattle.plain_orders.specs.Spans.{killed_span}
use Rattle.end_words.specs.Runs.{as_entry}
use Rattle.block_tree.specs.TreeWords.{without}
use Rattle.block_tree.proofs.RunLemmas.{pairs_back}
use Rattle.folded_store.proofs.MapLemmas.{span_of, killed}
use Rattle.folded_store.proofs.changing.remove_node.Goals as goal

pub returns-clause-removed : goal.returns-clause-removed
returns-clause-removed g c =
    let m = (g.P.PairTable.pairs c.args.pairs.now) in
    let span = c.in_ok-span.span in
    let same : span ≡ killed_span c.args.node.now = span_of span c.args.node.now c.in_ok-span.ensures.lo c.in_ok-span.ensures.hi in
    IfOk-weaker c.kill_span.result _ _
    (λ removed h. ap (map as_entry) h ∙ pairs_back (within m span) ∙ ap (within m) same ∙ (killed c.args.node.now m c.requires.node.is_key c.requires.pairs.pairs).0)
    c.kill_span.ensures.removed

pub returns-clause-ok : goal.returns-clause-ok
returns-clause-ok g c =
    let m = (g.P.PairTable.pairs c.args.pairs.now) in
    let span = c.in_ok-span.span in
    let same : span ≡ killed_span c.args.node.now = span_of span c.args.node.now c.in_ok-span.ensures.lo c.in_ok-span.ensures.hi in
    on_ok_weaker c.kill_span.result
    (λ h. h ∙ ap (without m) same ∙ (killed c.args.node.now m c.requires.node.is_key c.requires.pairs.pairs).1)
    c.kill_span.ensures.ok
