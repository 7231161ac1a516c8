use Rattle.std.proofs.Common.{◌∙◌, ap}
use Rattle.std.specs.Prelude.{slice_get}
use Rattle.block_tree.proofs.SpanTests.{first_above, head_taken}
use Rattle.block_tree.proofs.flat_pairs.FlatPairsPairTable.next.Goals as goal

pub returns : goal.returns
returns c =
    rw (← c.self.view_is)
    (head_taken c.range.result c.next.new.self c.next.result c.next.ensures.steps ∙ ap (λ es. slice_get es 0) (c.range.ensures.between tt) ∙ first_above c.args.key.now _)
