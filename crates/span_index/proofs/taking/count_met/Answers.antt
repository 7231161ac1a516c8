use Rattle.std.proofs.Common.{◌+◌, take, arith}
use Rattle.std.proofs.lemmas.List.Sums.{count_by-le-length, length-filter}
use Rattle.span_index.specs.Ranges.{touches}
use Rattle.span_index.proofs.TakeLemmas.{count-step, touches-none}
use Rattle.span_index.proofs.taking.count_met.Goals as goal

pub loop-span-init : goal.loop-span-init
loop-span-init c = let none = touches-none c.args.places.now in record { all = rw none (omega arith); most = omega arith }

pub loop-span-preserved : goal.loop-span-preserved
loop-span-preserved c =
    let step = count-step c.args.spans.now c.loop-span.span-index c.span-item.result c.loop-span-test.true c.span-item.is c.args.places.now c.loop-span.count c.meeting-range.result.first c.meeting-range.result.last c.loop-span.invariant.all c.meeting-range.ensures in
    let test = touches (take (c.loop-span.span-index + 1) c.args.spans.now) in
    record {
      all = omega (arith, step, length-filter test c.args.places.now, count_by-le-length test c.args.places.now);
      most = omega arith;
    }
