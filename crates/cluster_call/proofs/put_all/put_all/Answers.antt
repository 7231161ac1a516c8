use Rattle.std.proofs.Common.{◌+◌, arith}
use Rattle.cluster_call.proofs.PutLemmas.{Appends-more}
use Rattle.cluster_call.proofs.put_all.put_all.Goals as goal

pub loop-done-preserved : goal.loop-done-preserved
loop-done-preserved g c = (
  omega (arith, c.in_ok-count.ensures.within, c.split_at.ensures.back_len),
  Appends-more _ _ _ c.args.bytes.now c.split_at.result.1.now c.loop-done.done c.in_ok-count.count c.loop-done.invariant.1 c.split_at.ensures.back c.in_ok-count.ensures.bytes,
  omega (arith, c.loop-done.invariant.2, c.in_ok-count.ensures.faults),
  omega (arith, c.loop-done.invariant.3, c.in_ok-count.ensures.refusals),
)

pub returns-in_err-count-clause-front : goal.returns-in_err-count-clause-front
returns-in_err-count-clause-front g c = (
  c.loop-done.done + c.in_err-count.ensures.bytes.0,
  omega (arith, c.in_err-count.ensures.bytes.1, c.split_at.ensures.back_len),
  Appends-more _ _ _ c.args.bytes.now c.split_at.result.1.now c.loop-done.done c.in_err-count.ensures.bytes.0 c.loop-done.invariant.1 c.split_at.ensures.back c.in_err-count.ensures.bytes.2,
)
