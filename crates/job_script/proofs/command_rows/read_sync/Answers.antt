use Rattle.std.proofs.Common.{refl, inl, inr}
use Rattle.std.proofs.lemmas.Result.{err_from_is_err_and}
use Rattle.app_job.specs.declared.command.Command.TheVariants.{Sync}
use Rattle.job_script.proofs.PartLemmas.{over-end}
use Rattle.job_script.proofs.command_rows.read_sync.Goals as goal

pub returns-in_err-server-clause-err : goal.returns-in_err-server-clause-err
returns-in_err-server-clause-err c =
    let p = err_from_is_err_and c.from_residual.result c.from_residual.ensures.1 in
    rw (p.1, p.2) (record { line = Sync 0; word_is = refl; parts = inl c.in_err-server.ensures.err })

pub returns-in_err-line_end-clause-err : goal.returns-in_err-line_end-clause-err
returns-in_err-line_end-clause-err c =
    let p = err_from_is_err_and c.from_residual-in_err-line_end.result c.from_residual-in_err-line_end.ensures.1 in
    rw (p.1, p.2) (record { line = Sync c.in_ok-server.server; word_is = refl; parts = inr (c.in_ok-server.rest.now, c.in_ok-server.ensures.ok, over-end c.args.declared.now c.in_ok-server.rest.now c.in_err-line_end.field-0.0 c.in_err-line_end.ensures.err) })
