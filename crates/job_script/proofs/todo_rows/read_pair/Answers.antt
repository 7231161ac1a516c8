use Rattle.std.proofs.Common.{rules}
use Rattle.job_script.proofs.TodoLemmas.{pair_second, pair_end}
use Rattle.job_script.proofs.todo_rows.read_pair.Goals as goal

pub returns-in_err-server-clause-err : goal.returns-in_err-server-clause-err
returns-in_err-server-clause-err c =
    let refused = pair_second c.args.declared.now c.args.text.now c.in_err-server.field-0.0 c.in_ok-app.app c.in_ok-app.rest.now c.in_ok-app.ensures.ok c.in_err-server.ensures.err in
    search rules

pub returns-in_err-line_end-clause-err : goal.returns-in_err-line_end-clause-err
returns-in_err-line_end-clause-err c =
    let refused = pair_end c.args.declared.now c.args.text.now c.in_err-line_end.field-0.0 c.in_ok-app.app c.in_ok-app.rest.now c.in_ok-server.server c.in_ok-server.rest.now c.in_ok-app.ensures.ok c.in_ok-server.ensures.ok c.in_err-line_end.ensures.err in
    search rules
