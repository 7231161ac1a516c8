use Rattle.std.proofs.Common.{inl, inr}
use Rattle.std.proofs.lemmas.Result.{err_from_is_err_and}
use Rattle.job_script.proofs.PartLemmas.{over-end}
use Rattle.job_script.proofs.CommandLemmas.{no_site}
use Rattle.job_script.proofs.command_rows.only_node.Goals as goal

pub returns-in_err-at-clause-err : goal.returns-in_err-at-clause-err
returns-in_err-at-clause-err c =
    let p = err_from_is_err_and c.from_residual.result c.from_residual.ensures.1 in
    rw (p.1, p.2) ((no_site, inl c.in_err-at.ensures.err))

pub returns-in_err-line_end-clause-err : goal.returns-in_err-line_end-clause-err
returns-in_err-line_end-clause-err c =
    let p = err_from_is_err_and c.from_residual-in_err-line_end.result c.from_residual-in_err-line_end.ensures.1 in
    rw (p.1, p.2) ((c.in_ok-at.at, inr (c.in_ok-at.rest.now, c.in_ok-at.ensures.ok, over-end c.args.declared.now c.in_ok-at.rest.now c.in_err-line_end.field-0.0 c.in_err-line_end.ensures.err)))
