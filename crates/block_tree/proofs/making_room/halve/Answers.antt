use Rattle.std.proofs.Common.{◌≡◌, ◌∙◌, ap, rules}
use Rattle.block_tree.specs.LeafWords.{begin_of}
use Rattle.block_tree.proofs.LeafLemmas.{leaf_full}
use Rattle.block_tree.proofs.CutLemmas.{cut_leaves, cut_begins}
use Rattle.block_tree.proofs.making_room.halve.Goals as goal
use Rattle.block_tree.proofs.making_room.halve.Goals.{in-Some+in_ok-clone+in_ok-behind, in_default}

pub middle-requires : goal.middle-requires
middle-requires c = rw (c.begin.ensures, c.end.ensures) (leaf_full c.args.pairs.now.entries c.args.leaves.now c.args.at c.requires.at c.requires.leaves)

pub count_anew-requires-clause-leaves : goal.count_anew-requires-clause-leaves
count_anew-requires-clause-leaves c =
    let key = c.in-Some.key.now in
    let same : c.in_ok-clone.field-0 ≡ key = search rules in
    rw (c.in_ok-behind.ensures.ok, same)
    (cut_leaves c.args.pairs.now.entries c.args.leaves.now c.args.at key c.requires.at c.requires.leaves (rw (← c.begin.ensures) c.in-Some.ensures.from) (rw (← c.end.ensures) c.in-Some.ensures.to) c.in-Some.ensures.short)

pub returns-clause-begins : goal.returns-clause-begins
returns-clause-begins c =
    c.count_anew-2.ensures.begins ∙ (elim c.match-middle.branch [
      | in-Some+in_ok-clone+in_ok-behind w ↦ ap begin_of w.leaves-is ∙ w.count_anew.ensures.begins ∙ ap begin_of w.in_ok-behind.ensures.ok ∙ cut_begins c.args.leaves.now c.args.at w.in_ok-clone.field-0
      | in_default w ↦ ap begin_of w.leaves-is
    ])
