use Rattle.std.proofs.Common.{refl}
use Rattle.std.proofs.lemmas.Result.{err_from_is_err_and}
use Rattle.app_job.specs.declared.command.Command.TheVariants.{Get}
use Rattle.job_script.proofs.command_rows.read_get.Goals as goal

pub returns-in_err-at-clause-err : goal.returns-in_err-at-clause-err
returns-in_err-at-clause-err c =
    let p = err_from_is_err_and c.from_residual.result c.from_residual.ensures.1 in
    rw (p.1, p.2) (record { line = Get c.in_err-at.ensures.err.0; word_is = refl; parts = c.in_err-at.ensures.err.1 })
