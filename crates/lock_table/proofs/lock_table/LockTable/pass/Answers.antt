use Rattle.std.proofs.Common.{◌+◌, ◌<◌, length, rules, sym, ◌∙◌, arith}
use Rattle.lock_table.specs.Passing.{IsCutShort}
use Rattle.lock_table.proofs.PassLemmas.{turn_waits, turn_granted, turn_within, turns_cut, after_error}
use Rattle.lock_table.proofs.lock_table.LockTable.pass.Goals as goal
use Rattle.lock_table.proofs.lock_table.LockTable.pass.Goals.{then-must_wait, else-must_wait+in_ok-request+in_ok-push}

pub overflow_add-place : goal.overflow_add-place
overflow_add-place c =
    let within = turn_within c.args.self.now c.args.at c.loop-turn._turn c.loop-turn.self c.loop-turn.grants c.loop-turn.place c.loop-turn.invariant in
    omega (arith, within, c.loop-turn-test.true, c.loop-turn.auto._turn-end)

pub returns-in_err-push-clause-err : goal.returns-in_err-push-clause-err
returns-in_err-push-clause-err c =
    let there : c.loop-turn._turn < length c.args.self.now.requests = search rules in
    after_error _ (IsCutShort c.args.self.now c.args.at c.grant_at.new.self)
    (rw c.in_ok-request.ensures.ok
    (turns_cut c.args.self.now c.args.at (c.loop-turn._turn + 1) _ _ c.loop-turn.place
    (turn_granted c.args.self.now c.args.at c.loop-turn._turn c.loop-turn.self c.loop-turn.grants c.loop-turn.place c.in_ok-request.request c.loop-turn.invariant there (λ d. sym (c.in_ok-must_wait.ensures d) ∙ c.if-must_wait.false) c.in_ok-request.ensures.value)))

pub returns-in_err-must_wait-clause-err : goal.returns-in_err-must_wait-clause-err
returns-in_err-must_wait-clause-err c =
    after_error _ (IsCutShort c.args.self.now c.args.at c.loop-turn.self)
    (turns_cut c.args.self.now c.args.at c.loop-turn._turn c.loop-turn.self c.loop-turn.grants c.loop-turn.place c.loop-turn.invariant)

pub loop-turn-preserved : goal.loop-turn-preserved
loop-turn-preserved c =
    let there : c.loop-turn._turn < length c.args.self.now.requests = search rules in
    elim c.if-must_wait.branch [
      | then-must_wait w ↦
          rw (w.self-is, w.grants-is, w.place-is)
          (turn_waits c.args.self.now c.args.at c.loop-turn._turn c.loop-turn.self c.loop-turn.grants c.loop-turn.place c.loop-turn.invariant there (λ d. sym (c.in_ok-must_wait.ensures d) ∙ w.if-must_wait.true))
      | else-must_wait+in_ok-request+in_ok-push w ↦
          rw (w.self-is, w.grants-is, w.place-is, w.in_ok-push.ensures.ok, w.in_ok-request.ensures.ok)
          (turn_granted c.args.self.now c.args.at c.loop-turn._turn c.loop-turn.self c.loop-turn.grants c.loop-turn.place w.in_ok-request.request c.loop-turn.invariant there (λ d. sym (c.in_ok-must_wait.ensures d) ∙ w.if-must_wait.false) w.in_ok-request.ensures.value)
    ]
