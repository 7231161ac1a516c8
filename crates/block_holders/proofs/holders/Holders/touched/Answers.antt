use Rattle.std.proofs.Common.{map, sym, ap, ◌∙◌}
use Rattle.block_holders.specs.HolderWords.{is_touched, is_untouched}
use Rattle.block_holders.specs.Notes.{noted_of}
use Rattle.block_holders.proofs.NoteLemmas.{filter-noted, map-noted}
use Rattle.block_holders.proofs.holders.Holders.touched.Goals as goal

pub returns-clause-drops : goal.returns-clause-drops
returns-clause-drops c =
    let spans = c.args.spans.now in
    let hits = rw c.as_slice-2.ensures at c.in_ok-hits.ensures.hits in
    rw (c.from_vec.ensures, c.move_noted.ensures, c.in_ok-drops.ensures.items, ← c.self.view_is)
    (map-noted c.in_ok-hits.hits.items ∙ ap (map noted_of) hits ∙ sym (filter-noted (is_touched spans) c.self.inside.notes))

pub returns-clause-ok : goal.returns-clause-ok
returns-clause-ok c =
    let left = rw c.as_slice-2.ensures at c.in_ok-hits.ensures.ok in
    rw (left, ← c.self.view_is) (sym (filter-noted (is_untouched c.args.spans.now) c.self.inside.notes))
