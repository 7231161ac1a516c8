use Rattle.std.proofs.Common.{◌≡◌, ◌∷◌, [], ◌++◌, rules}
use Rattle.subscript_keys.proofs.NodeReads.{no-more-subs, subs-push, subs-turn, sub-shorter}
use Rattle.subscript_keys.proofs.decoder.take_subs.Goals as goal

pub returns-in_default-clause-none : goal.returns-in_default-clause-none
returns-in_default-clause-none c =
    let none = rw c.in_default.is at c.in_ok-sub.ensures.none in
    no-more-subs c.loop-rest.subs c.args.bytes.now c.loop-rest.rest.now c.loop-rest.invariant.read c.loop-rest.invariant.all (search rules) none

pub loop-rest-smaller : goal.loop-rest-smaller
loop-rest-smaller c =
    let read = rw c.in-Some.is at c.in_ok-sub.ensures.some in
    sub-shorter c.in-Some.sub c.loop-rest.rest.now c.in-Some.after.now read.0 read.1

pub loop-rest-preserved : goal.loop-rest-preserved
loop-rest-preserved c =
    let read = rw c.in-Some.is at c.in_ok-sub.ensures.some in
    let pushed : c.push.new.self ≡ c.loop-rest.subs ++ c.in-Some.sub ∷ [] = search rules in
    record {
      read = rw pushed (subs-push c.loop-rest.subs c.in-Some.sub c.loop-rest.invariant.read read.0);
      all = rw pushed (subs-turn c.loop-rest.subs c.in-Some.sub c.args.bytes.now c.loop-rest.rest.now c.in-Some.after.now c.loop-rest.invariant.all read.1);
    }
