use Rattle.std.proofs.Common.{pos, refl, inl, inr}
use Rattle.std.proofs.lemmas.Result.{err_from_is_err_and}
use Rattle.app_job.specs.declared.command.Command.TheVariants.{Incr}
use Rattle.job_script.proofs.PartLemmas.{over-end}
use Rattle.job_script.proofs.CommandLemmas.{no_site}
use Rattle.job_script.proofs.command_rows.read_incr.Goals as goal

pub returns-in_err-at-clause-err : goal.returns-in_err-at-clause-err
returns-in_err-at-clause-err c =
    let p = err_from_is_err_and c.from_residual.result c.from_residual.ensures.1 in
    rw (p.1, p.2) (record { line = Incr no_site (pos 0); word_is = refl; parts = inl c.in_err-at.ensures.err })

pub returns-in_err-amount-clause-err : goal.returns-in_err-amount-clause-err
returns-in_err-amount-clause-err c =
    let p = err_from_is_err_and c.from_residual-in_err-amount.result c.from_residual-in_err-amount.ensures.1 in
    rw (p.1, p.2) (record { line = Incr c.in_ok-at.at (pos 0); word_is = refl; parts = inr (c.in_ok-at.rest.now, c.in_ok-at.ensures.ok, inl c.in_err-amount.ensures.err) })

pub returns-in_err-line_end-clause-err : goal.returns-in_err-line_end-clause-err
returns-in_err-line_end-clause-err c =
    let p = err_from_is_err_and c.from_residual-in_err-line_end.result c.from_residual-in_err-line_end.ensures.1 in
    rw (p.1, p.2) (record { line = Incr c.in_ok-at.at c.in_ok-amount.amount; word_is = refl; parts = inr (c.in_ok-at.rest.now, c.in_ok-at.ensures.ok, inr (c.in_ok-amount.rest.now, c.in_ok-amount.ensures.ok, over-end c.args.declared.now c.in_ok-amount.rest.now c.in_err-line_end.field-0.0 c.in_err-line_end.ensures.err)) })
