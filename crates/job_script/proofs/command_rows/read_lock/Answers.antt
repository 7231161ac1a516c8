use Rattle.std.proofs.Common.{None, refl, inl, inr}
use Rattle.std.proofs.lemmas.Result.{err_from_is_err_and}
use Rattle.plain_orders.specs.declared.mode.Mode.TheVariants.{Shared}
use Rattle.app_job.specs.declared.command.Command.TheVariants.{Lock}
use Rattle.job_script.proofs.PartLemmas.{over-end}
use Rattle.job_script.proofs.CommandLemmas.{no_site}
use Rattle.job_script.proofs.command_rows.read_lock.Goals as goal

pub returns-in_err-at-clause-err : goal.returns-in_err-at-clause-err
returns-in_err-at-clause-err c =
    let p = err_from_is_err_and c.from_residual.result c.from_residual.ensures.1 in
    rw (p.1, p.2) (record { line = Lock no_site Shared None; word_is = refl; parts = inl c.in_err-at.ensures.err })

pub returns-in_err-wait-clause-err : goal.returns-in_err-wait-clause-err
returns-in_err-wait-clause-err c =
    let p = err_from_is_err_and c.from_residual-in_err-wait.result c.from_residual-in_err-wait.ensures.1 in
    rw (p.1, p.2) (record { line = Lock c.in_ok-at.at c.take_mode-mode.result.0 None; word_is = refl; parts = inr (c.in_ok-at.rest.now, c.in_ok-at.ensures.ok, inr (c.take_mode-mode.result.1.now, c.take_mode-mode.ensures, inl c.in_err-wait.ensures.err)) })

pub returns-in_err-line_end-clause-err : goal.returns-in_err-line_end-clause-err
returns-in_err-line_end-clause-err c =
    let p = err_from_is_err_and c.from_residual-in_err-line_end.result c.from_residual-in_err-line_end.ensures.1 in
    rw (p.1, p.2) (record { line = Lock c.in_ok-at.at c.take_mode-mode.result.0 c.in_ok-wait.wait; word_is = refl; parts = inr (c.in_ok-at.rest.now, c.in_ok-at.ensures.ok, inr (c.take_mode-mode.result.1.now, c.take_mode-mode.ensures, inr (c.in_ok-wait.rest.now, c.in_ok-wait.ensures.ok, over-end c.args.declared.now c.in_ok-wait.rest.now c.in_err-line_end.field-0.0 c.in_err-line_end.ensures.err))) })
