use Rattle.std.proofs.Common.{refl, inr}
use Rattle.std.proofs.lemmas.Result.{err_from_is_err_and}
use Rattle.app_job.specs.declared.command.Command.TheVariants.{Commit}
use Rattle.job_script.proofs.PartLemmas.{over-end}
use Rattle.job_script.proofs.command_rows.read_commit.Goals as goal

pub returns-in_err-line_end-clause-err : goal.returns-in_err-line_end-clause-err
returns-in_err-line_end-clause-err c =
    let p = err_from_is_err_and c.from_residual.result c.from_residual.ensures.1 in
    rw (p.1, p.2) (λ d. record { line = Commit c.take_flag-sync.result.0; word_is = refl; parts = inr (c.take_flag-sync.result.1.now, c.take_flag-sync.ensures, over-end d c.take_flag-sync.result.1.now c.in_err-line_end.field-0.0 c.in_err-line_end.ensures.err) })
