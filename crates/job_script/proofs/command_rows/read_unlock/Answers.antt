use Rattle.std.proofs.Common.{true, refl, inl, inr}
use Rattle.std.proofs.lemmas.Result.{err_from_is_err_and}
use Rattle.plain_orders.specs.declared.mode.Mode.TheVariants.{Shared}
use Rattle.app_job.specs.declared.command.Command.TheVariants.{Unlock}
use Rattle.job_script.proofs.PartLemmas.{over-end}
use Rattle.job_script.proofs.CommandLemmas.{no_site}
use Rattle.job_script.proofs.command_rows.read_unlock.Goals as goal

pub returns-in_err-at-clause-err : goal.returns-in_err-at-clause-err
returns-in_err-at-clause-err c =
    let p = err_from_is_err_and c.from_residual.result c.from_residual.ensures.1 in
    rw (p.1, p.2) (record { line = Unlock no_site Shared true; word_is = refl; parts = inl c.in_err-at.ensures.err })

pub returns-in_err-line_end-clause-err : goal.returns-in_err-line_end-clause-err
returns-in_err-line_end-clause-err c =
    let p = err_from_is_err_and c.from_residual-in_err-line_end.result c.from_residual-in_err-line_end.ensures.1 in
    rw (p.1, p.2) (record { line = Unlock c.in_ok-at.at c.take_mode-mode.result.0 c.take_flag-now.result.0; word_is = refl; parts = inr (c.in_ok-at.rest.now, c.in_ok-at.ensures.ok, inr (c.take_mode-mode.result.1.now, c.take_mode-mode.ensures, inr (c.take_flag-now.result.1.now, c.take_flag-now.ensures, over-end c.args.declared.now c.take_flag-now.result.1.now c.in_err-line_end.field-0.0 c.in_err-line_end.ensures.err))) })
