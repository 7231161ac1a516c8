use Rattle.std.proofs.Common.{◌≡◌, ◌∙◌, ◌<◌, sym, ap, drop, length}
use Rattle.block_tree.specs.LeafWords.{begin_of}
use Rattle.block_tree.proofs.LeafLemmas.{begin_get, set_one}
use Rattle.block_tree.proofs.leaves.Leaves.set_bytes.Goals as goal

pub returns : goal.returns
returns c =
    let ls = c.self.inside.items.items in
    let there : c.args.at < length ls = rw c.self.view_is c.requires in
    let lo : c.index_mut.result.now.lo ≡ begin_of (drop c.args.at ls) = ap (λ l. l.lo) c.index_mut.ensures.value ∙ sym (begin_get ls c.args.at c.index_mut.result.now there) in
    rw (← c.self.view_is, lo) (set_one ls c.args.at c.args.bytes there)
