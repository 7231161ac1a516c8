use Rattle.std.proofs.Common.{sym, subst}
use Rattle.block_tree.specs.FlatWords.{AreShort}
use Rattle.block_tree.proofs.FlatLemmas.{put_short}
use Rattle.block_tree.proofs.flat_pairs.FlatPairsPairTable.set.Goals as goal

pub invariant_of-self-2 : goal.invariant_of-self-2
invariant_of-self-2 c =
    subst AreShort (sym c.in_ok-old.ensures.entries) (put_short c.args.key c.args.value c.self.inside.pairs.entries c.requires.key c.requires.value c.self.invariant)
