use Rattle.std.proofs.Common.{rules}
use Rattle.job_script.proofs.DeclarationLemmas.{job_end}
use Rattle.job_script.proofs.declaration_rows.read_job.Goals as goal

pub returns-in_err-line_end-clause-err : goal.returns-in_err-line_end-clause-err
returns-in_err-line_end-clause-err c =
    let refused = job_end c.args.declared.now c.args.text.now c.in_err-line_end.field-0.0 c.in_ok-name.name c.in_ok-name.rest.now c.in_ok-app.app c.in_ok-app.rest.now c.in_ok-name.ensures.ok c.in_ok-app.ensures.ok c.in_err-line_end.ensures.err in
    search rules
