use Rattle.std.proofs.Common.{rules}
use Rattle.job_script.proofs.DeclarationLemmas.{time_second, time_end}
use Rattle.job_script.proofs.declaration_rows.read_time.Goals as goal

pub returns-in_err-ticks-clause-err : goal.returns-in_err-ticks-clause-err
returns-in_err-ticks-clause-err c =
    let refused = time_second c.args.declared.now c.args.text.now c.in_err-ticks.field-0.0 c.in_ok-setting.setting c.in_ok-setting.rest.now c.in_ok-setting.ensures.ok c.in_err-ticks.ensures.err in
    search rules

pub returns-in_err-line_end-clause-err : goal.returns-in_err-line_end-clause-err
returns-in_err-line_end-clause-err c =
    let refused = time_end c.args.declared.now c.args.text.now c.in_err-line_end.field-0.0 c.in_ok-setting.setting c.in_ok-setting.rest.now c.in_ok-ticks.ticks c.in_ok-ticks.rest.now c.in_ok-setting.ensures.ok c.in_ok-ticks.ensures.ok c.in_err-line_end.ensures.err in
    search rules
