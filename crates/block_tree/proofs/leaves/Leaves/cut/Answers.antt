use Rattle.std.proofs.Common.{◌≡◌, ◌∙◌, ◌+◌, ◌<◌, ap, get_or, length}
use Rattle.std.specs.List.{insert}
use Rattle.block_tree.specs.LeafWords.{cut_at}
use Rattle.block_tree.proofs.LeafLemmas.{inserted_is_cut}
use Rattle.block_tree.proofs.leaves.Leaves.cut.Goals as goal

pub returns-clause-ok : goal.returns-clause-ok
returns-clause-ok c =
    let ls = c.self.inside.items.items in
    let there : c.args.at < length ls = rw c.self.view_is c.requires in
    let bytes : c.index.result.now.bytes ≡ (get_or ls c.args.at c.index.result.now).bytes = ap (λ l. l.bytes) c.index.ensures in
    c.in_ok-insert.ensures.items ∙ ap (λ b. insert ls (c.args.at + 1) (record { lo = c.args.key; bytes = b })) bytes
    ∙ inserted_is_cut ls c.args.at c.args.key c.index.result.now there ∙ ap (λ xs. cut_at xs c.args.at c.args.key) c.self.view_is
