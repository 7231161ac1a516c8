use Rattle.std.proofs.Common.{◌∙◌, ap, is_some}
use Rattle.plain_programs.proofs.SearchLemmas.{any_descendant, some_copied}
use Rattle.folded_store.proofs.folded_store.FoldedStore.has_descendants.Goals as goal

pub returns : goal.returns
returns g c =
    c.is_some.ensures ∙ some_copied c.descendant_behind.result ∙ ap is_some c.descendant_behind.ensures.value
    ∙ any_descendant c.args.self.now.pairs c.args.node.now
