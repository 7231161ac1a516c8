use Rattle.std.proofs.Common.{None, refl, inl, inr}
use Rattle.std.proofs.lemmas.Result.{err_from_is_err_and}
use Rattle.app_job.specs.declared.command.Command.TheVariants.{Next}
use Rattle.job_script.proofs.PartLemmas.{over-end}
use Rattle.job_script.proofs.CommandLemmas.{no_site}
use Rattle.job_script.proofs.command_rows.read_next.Goals as goal

pub returns-in_err-parent-clause-err : goal.returns-in_err-parent-clause-err
returns-in_err-parent-clause-err c =
    let p = err_from_is_err_and c.from_residual.result c.from_residual.ensures.1 in
    rw (p.1, p.2) (record { line = Next no_site None; word_is = refl; parts = inl c.in_err-parent.ensures.err })

pub returns-in_err-line_end-clause-err : goal.returns-in_err-line_end-clause-err
returns-in_err-line_end-clause-err c =
    let p = err_from_is_err_and c.from_residual-in_err-line_end.result c.from_residual-in_err-line_end.ensures.1 in
    rw (p.1, p.2) (record { line = Next c.in_ok-parent.parent c.in_ok-parent.sub; word_is = refl; parts = inr (c.in_ok-parent.rest.now, c.in_ok-parent.ensures.ok, over-end c.args.declared.now c.in_ok-parent.rest.now c.in_err-line_end.field-0.0 c.in_err-line_end.ensures.err) })
