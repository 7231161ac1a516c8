use Rattle.journal_bench.proofs.WrittenLemmas.{part_more}
use Rattle.journal_bench.proofs.updates.Goals as goal

pub loop-place-preserved : goal.loop-place-preserved
loop-place-preserved c = part_more c.args.from c.loop-place.place c.loop-place.part.items c.push.new.self.items c.in_ok-update.field-0 c.loop-place.invariant c.in_ok-update.ensures c.in_ok-push.ensures.items
