use Rattle.std.proofs.lemmas.Result.{err_from_is_err_and}
use Rattle.job_script.proofs.known_front.read_known.Goals as goal

pub returns-in_err-front-clause-node : goal.returns-in_err-front-clause-node
returns-in_err-front-clause-node c =
    let p = err_from_is_err_and c.from_residual.result c.from_residual.ensures.1 in
    rw (p.1, p.2) (c.in_err-front.ensures.node c.args.declared.now)

pub returns-in_err-front-clause-next : goal.returns-in_err-front-clause-next
returns-in_err-front-clause-next c =
    let p = err_from_is_err_and c.from_residual.result c.from_residual.ensures.1 in
    rw (p.1, p.2) (c.in_err-front.ensures.next c.args.declared.now)
