use Rattle.std.proofs.Common.{◌≡◌, ◌+◌, ◌∙◌, ap, sym, rules}
use Rattle.plain_orders.specs.PairMap.{IsRising}
use Rattle.block_tree.specs.TreeWords.{size, size_of}
use Rattle.block_tree.specs.LeafWords.{begin_of, IsRoom}
use Rattle.block_tree.proofs.SpanTests.{rising_from_sorted}
use Rattle.block_tree.proofs.LeafLemmas.{united_begins}
use Rattle.block_tree.proofs.PutLemmas.{put_leaves, put_count}
use Rattle.block_tree.proofs.block_tree.BlockTree.set.Goals as goal

pub invariant_of-self-2 : goal.invariant_of-self-2
invariant_of-self-2 c =
    let m = c.self.inside.pairs.entries in
    let key = c.args.key in
    let ls = c.make_room.new.leaves in
    let room = c.in_ok-room.room in
    let rises : IsRising m = rising_from_sorted m c.in_ok-old.ensures.was_ordered in
    let roomy : IsRoom m key (size_of (key, c.args.value)) ls room = rw (← c.size_of-needed.ensures) c.in_ok-room.ensures.room in
    let sum : c.in_ok-bytes.bytes ≡ c.self.inside.bytes + c.size_of-needed.result = search rules in
    record {
      leaves = rw (c.in_ok-old.ensures.entries, c.set_bytes.ensures) (put_leaves m key c.args.value ls room rises c.make_room.ensures.leaves roomy);
      begins = ap begin_of c.set_bytes.ensures ∙ united_begins ls room.at (room.at + 1) room.bytes ∙ c.make_room.ensures.begins;
      counted = rw c.as_slice-key_bytes.ensures at c.without_old-self-inside.ensures
          ∙ put_count m key c.args.value c.self.inside.bytes c.size_of-needed.result c.in_ok-bytes.bytes c.in_ok-old.old rises c.self.invariant.counted c.size_of-needed.ensures sum c.in_ok-old.ensures.old
          ∙ ap size (sym c.in_ok-old.ensures.entries);
    }
