use Rattle.std.proofs.Common.{arith}
use Rattle.plain_orders.specs.PairMap.{is_in}
use Rattle.block_tree.proofs.RunLemmas.{whole_fits}
use Rattle.block_tree.proofs.SizeLemmas.{part}
use Rattle.block_tree.proofs.flat_pairs.FlatPairs.span_for.Goals as goal

pub returns-clause-whole : goal.returns-clause-whole
returns-clause-whole c = λ fits.
    let m = c.self.inside.pairs.entries in
    let few = whole_fits m (rw c.self.view_is fits) in
    let fewer = part (is_in (record { lo = c.from_vec-first.result; hi = c.in_ok-end.end })) m in
    absurd (omega (arith, few, fewer, c.measure.ensures, c.if-measure-le-WHOLE_ROOM.false))
