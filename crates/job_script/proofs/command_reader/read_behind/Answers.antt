use Rattle.std.proofs.Common.{sym, ap}
use Rattle.std.proofs.lemmas.Result.{err_from_is_err_and}
use Rattle.app_job.specs.declared.command.Command.TheVariants.{Start, Rollback}
use Rattle.job_script.specs.CommandWords.{command_text}
use Rattle.job_script.proofs.PartLemmas.{over-end}
use Rattle.job_script.proofs.command_reader.read_behind.Goals as goal

pub returns-in_err-line_end-in-Start-clause-err : goal.returns-in_err-line_end-in-Start-clause-err
returns-in_err-line_end-in-Start-clause-err c =
    let p = err_from_is_err_and c.from_residual.result c.from_residual.ensures.1 in
    rw (p.1, p.2) (record { line = Start; word_is = sym (ap command_text c.in-Start.is); parts = over-end c.args.declared.now c.args.text.now c.in_err-line_end-in-Start.field-0.0 c.in_err-line_end-in-Start.ensures.err })

pub returns-in_err-line_end-in-Rollback-clause-err : goal.returns-in_err-line_end-in-Rollback-clause-err
returns-in_err-line_end-in-Rollback-clause-err c =
    let p = err_from_is_err_and c.from_residual-in_err-line_end-in-Rollback.result c.from_residual-in_err-line_end-in-Rollback.ensures.1 in
    rw (p.1, p.2) (record { line = Rollback; word_is = sym (ap command_text c.in-Rollback.is); parts = over-end c.args.declared.now c.args.text.now c.in_err-line_end-in-Rollback.field-0.0 c.in_err-line_end-in-Rollback.ensures.err })
