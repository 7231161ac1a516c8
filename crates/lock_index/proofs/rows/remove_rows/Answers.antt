use Rattle.lock_index.specs.IndexWords.{without_rows}
use Rattle.lock_index.proofs.RowLemmas.{next_removed}
use Rattle.lock_index.proofs.rows.remove_rows.Goals as goal

pub loop-number-preserved : goal.loop-number-preserved
loop-number-preserved g c =
    next_removed c.args.numbers.now c.loop-number.number-index c.loop-number.rows.entries c.remove.new.self.entries (without_rows c.args.numbers.now c.args.rows.now.entries) c.loop-number-test.true c.remove.ensures.entries c.loop-number.invariant
