use Rattle.std.proofs.Common.{◌≡◌, ◌∙◌, ◌<◌, ◌+◌, ◌++◌, sym, ap, take, drop, length, arith}
use Rattle.block_tree.specs.LeafWords.{begin_of}
use Rattle.block_tree.proofs.LeafLemmas.{begin_get, set_kept, get_kept}
use Rattle.block_tree.proofs.leaves.Leaves.unite.Goals as goal

pub returns : goal.returns
returns c =
    let ls = c.self.inside.items.items in
    let first = c.args.first in
    let there : first < length ls = rw c.self.view_is (omega arith) in
    let kept : c.drop-drain.new.self.0.items ≡ take (first + 1) ls ++ drop (c.args.last + 1) ls = c.drop-drain.ensures.items ∙ c.drain.ensures.kept in
    let lo : c.index_mut.result.now.lo ≡ begin_of (drop first ls) =
    ap (λ l. l.lo) (rw kept at c.index_mut.ensures.value ∙ get_kept ls (drop (c.args.last + 1) ls) first c.index_mut.result.now there)
    ∙ sym (begin_get ls first c.index_mut.result.now there) in
    rw (← c.self.view_is, kept, lo) (set_kept ls (drop (c.args.last + 1) ls) first _ there)
