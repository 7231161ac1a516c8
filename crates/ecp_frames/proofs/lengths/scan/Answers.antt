use Rattle.std.proofs.Common.{◌≡◌, drop, None, Some, rules, arith}
use Rattle.ecp_frames.specs.Stream.{length_ahead, refusal}
use Rattle.ecp_frames.proofs.StreamLemmas.{scan_more, scan_end, scan_past, scan_fault, refusal_is}
use Rattle.ecp_frames.proofs.lengths.scan.Goals as goal

pub returns-in_default : goal.returns-in_default
returns-in_default c =
    let ahead : length_ahead (drop c.loop-at.at c.args.bytes.now) ≡ None = search rules in
    (scan_end c.args.bytes.now c.args.from c.loop-at.at c.loop-at.invariant ahead, c.loop-at.invariant)

pub returns-in-Some-refusal_of : goal.returns-in-Some-refusal_of
returns-in-Some-refusal_of c =
    let ahead : length_ahead (drop c.loop-at.at c.args.bytes.now) ≡ Some c.in-Some.length = search rules in
    let bad : refusal c.in-Some.length ≡ Some c.in-Some-refusal_of.fault = search rules in
    (refusal_is c.in-Some.length c.in-Some-refusal_of.fault bad, scan_fault c.args.bytes.now c.args.from c.loop-at.at c.in-Some.length c.in-Some-refusal_of.fault c.loop-at.invariant ahead bad)

pub loop-at-preserved : goal.loop-at-preserved
loop-at-preserved c =
    let ahead : length_ahead (drop c.loop-at.at c.args.bytes.now) ≡ Some c.in-Some.length = search rules in
    let good : refusal c.in-Some.length ≡ None = search rules in
    scan_more c.args.bytes.now c.args.from c.loop-at.at c.in-Some.length (omega arith) ahead good c.loop-at.invariant

pub returns : goal.returns
returns c = (scan_past c.args.bytes.now c.args.from c.loop-at.at c.loop-at.invariant (omega arith), c.loop-at.invariant)
