use Rattle.std.proofs.Common.{◌≡◌, ◌+◌, ◌++◌, ◌∷◌, [], length, rules, arith}
use Rattle.std.proofs.lemmas.List.{length-append}
use Rattle.field_bytes.specs.Fields.{NoneAhead}
use Rattle.block_bytes.specs.Blocks.{pair_bytes, HasShortLists}
use Rattle.block_bytes.proofs.OneRun.{pairs-push, pairs-turn, no_more_pairs, left_over}
use Rattle.block_bytes.proofs.block_reader.take_pairs.Goals as goal

pub returns-in_err-pair-clause-none : goal.returns-in_err-pair-clause-none
returns-in_err-pair-clause-none c = λ e.
    let none : NoneAhead pair_bytes HasShortLists c.loop.rest.now = search rules in
    no_more_pairs c.loop.pairs c.args.bytes.now c.loop.rest.now c.args.count c.loop.invariant.short c.loop.invariant.all (omega arith) none

pub loop-preserved : goal.loop-preserved
loop-preserved c =
    let some = c.in_ok-pair.ensures.some in
    let short = c.in_ok-pair.ensures.short in
    let pushed : c.push.new.self ≡ c.loop.pairs ++ c.in_ok-pair.pair ∷ [] = search rules in
    let longer : length (c.loop.pairs ++ c.in_ok-pair.pair ∷ []) ≡ c.loop.counter + 1 = omega (arith, length-append c.loop.pairs (c.in_ok-pair.pair ∷ [])) in
    record {
      short = rw pushed (pairs-push c.loop.pairs c.in_ok-pair.pair c.loop.invariant.short short);
      taken = rw pushed longer;
      all = rw pushed (pairs-turn c.loop.pairs c.in_ok-pair.pair c.args.bytes.now c.loop.rest.now c.in_ok-pair.after.now c.loop.invariant.all some);
    }

pub returns-clause-none : goal.returns-clause-none
returns-clause-none c =
    λ _. left_over c.loop.pairs c.args.bytes.now c.loop.rest.now c.args.count c.loop.invariant.short c.loop.invariant.all (search rules) (search rules)
