use Rattle.std.proofs.lemmas.Result.{err_from_is_err_and}
use Rattle.global_text.proofs.NodeParts.{key_within}
use Rattle.job_script.proofs.NodeRefusals.{node_refused}
use Rattle.job_script.proofs.node_parts.take_node.Goals as goal

pub target_at-requires-clause-limit : goal.target_at-requires-clause-limit
target_at-requires-clause-limit c =
    let known = c.in_ok-server.field-0.front in
    key_within (record { name = known.name; subs = known.subs }) c.in_ok-rest.ensures.ok.1.limit

pub returns-in_err-target-clause-err : goal.returns-in_err-target-clause-err
returns-in_err-target-clause-err c =
    let p = err_from_is_err_and c.from_residual-in_err-target.result c.from_residual-in_err-target.ensures.1 in
    rw (p.1, p.2) (node_refused c.args.declared.now c.args.text.now c.in_ok-server.field-0.front c.in_ok-server.field-0.server c.in_ok-rest.ensures.ok.0 c.in_err-target.field-0.0 c.in_ok-server.ensures.ok c.in_ok-server.ensures.server c.in_ok-rest.ensures.ok.1 c.in_err-target.ensures.err)
