use Rattle.std.proofs.Common.{rules}
use Rattle.job_script.proofs.TodoLemmas.{crash_second, crash_end}
use Rattle.job_script.proofs.todo_rows.read_crash.Goals as goal

pub returns-in_err-pick-clause-err : goal.returns-in_err-pick-clause-err
returns-in_err-pick-clause-err c =
    let refused = crash_second c.args.declared.now c.args.text.now c.in_err-pick.field-0.0 c.in_ok-server.server c.in_ok-server.rest.now c.in_ok-server.ensures.ok c.in_err-pick.ensures.err in
    search rules

pub returns-in_err-line_end-clause-err : goal.returns-in_err-line_end-clause-err
returns-in_err-line_end-clause-err c =
    let refused = crash_end c.args.declared.now c.args.text.now c.in_err-line_end.field-0.0 c.in_ok-server.server c.in_ok-server.rest.now c.in_ok-pick.pick c.in_ok-pick.rest.now c.in_ok-server.ensures.ok c.in_ok-pick.ensures.ok c.in_err-line_end.ensures.err in
    search rules
