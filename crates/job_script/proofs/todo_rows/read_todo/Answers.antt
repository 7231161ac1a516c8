use Rattle.std.proofs.Common.{rules}
use Rattle.job_script.proofs.TodoLemmas.{up_refused, down_refused, break_refused, mend_refused}
use Rattle.job_script.proofs.todo_rows.read_todo.Goals as goal

pub returns-in_err-app-in-Up-clause-err : goal.returns-in_err-app-in-Up-clause-err
returns-in_err-app-in-Up-clause-err c =
    let refused = up_refused c.args.declared.now c.args.text.now c.in_err-app-in-Up.field-0.0 c.in_err-app-in-Up.ensures.err in
    search rules

pub returns-in_err-app-in-Down-clause-err : goal.returns-in_err-app-in-Down-clause-err
returns-in_err-app-in-Down-clause-err c =
    let refused = down_refused c.args.declared.now c.args.text.now c.in_err-app-in-Down.field-0.0 c.in_err-app-in-Down.ensures.err in
    search rules

pub returns-in_err-app-in-Break-clause-err : goal.returns-in_err-app-in-Break-clause-err
returns-in_err-app-in-Break-clause-err c =
    let refused = break_refused c.args.declared.now c.args.text.now c.in_err-app-in-Break.field-0.0 c.in_err-app-in-Break.ensures.err in
    search rules

pub returns-in_err-app-in-Mend-clause-err : goal.returns-in_err-app-in-Mend-clause-err
returns-in_err-app-in-Mend-clause-err c =
    let refused = mend_refused c.args.declared.now c.args.text.now c.in_err-app-in-Mend.field-0.0 c.in_err-app-in-Mend.ensures.err in
    search rules
