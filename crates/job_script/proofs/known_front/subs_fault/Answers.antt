use Rattle.std.proofs.Common.{refl}
use Rattle.std.proofs.lemmas.Bool.{iff_false}
use Rattle.subscript_keys.specs.Key.{HasEmpty}
use Rattle.job_script.specs.Refusals.{HasEmptyFront}
use Rattle.job_script.proofs.NodeRefusals.{other_stop, empty_stop, long_stop}
use Rattle.job_script.proofs.known_front.subs_fault.Goals as goal

pub returns-then-has_empty-clause-node : goal.returns-then-has_empty-clause-node
returns-then-has_empty-clause-node c =
    λ d name text is stop. empty_stop c.args.subs.now c.args.error.now c.in-KeyTooLong.is (c.if-has_empty.ensures.0 refl) d HasEmpty name text is stop

pub returns-then-has_empty-clause-next : goal.returns-then-has_empty-clause-next
returns-then-has_empty-clause-next c =
    λ d name text is stop. empty_stop c.args.subs.now c.args.error.now c.in-KeyTooLong.is (c.if-has_empty.ensures.0 refl) d HasEmptyFront name text is stop

pub returns-else-has_empty-clause-node : goal.returns-else-has_empty-clause-node
returns-else-has_empty-clause-node c =
    λ d name text is stop. long_stop c.args.subs.now c.args.error.now c.in-KeyTooLong.is (iff_false c.has_empty.ensures c.if-has_empty.false) d name text is stop

pub returns-else-has_empty-clause-next : goal.returns-else-has_empty-clause-next
returns-else-has_empty-clause-next c =
    λ d name text is stop. long_stop c.args.subs.now c.args.error.now c.in-KeyTooLong.is (iff_false c.has_empty.ensures c.if-has_empty.false) d name text is stop

pub returns-in_default : goal.returns-in_default
returns-in_default c = record {
  node = λ d name text is stop. other_stop c.args.subs.now c.args.error.now c.in_default.not-KeyTooLong c.in_default.not-Memory d HasEmpty name text is stop;
  next = λ d name text is stop. other_stop c.args.subs.now c.args.error.now c.in_default.not-KeyTooLong c.in_default.not-Memory d HasEmptyFront name text is stop;
}
