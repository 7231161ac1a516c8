use Rattle.std.proofs.Common.{◌≡◌, ◌∷◌, [], ◌++◌, rules}
use Rattle.std.proofs.lemmas.Result.{err_from_is_err_and}
use Rattle.job_script.proofs.NodeRefusals.{next_refused, parent_within}
use Rattle.job_script.proofs.node_parts.take_next.Goals as goal

pub target_at-requires-clause-limit : goal.target_at-requires-clause-limit
target_at-requires-clause-limit c =
    let whole : c.in_ok-server.field-0.front.subs ≡ c.from_vec-subs.result ++ c.in-Some.last ∷ [] = search rules in
    parent_within c.in_ok-server.field-0.front.name c.in_ok-server.field-0.front.subs c.from_vec-subs.result c.in-Some.last whole c.in_ok-rest.ensures.ok.1.limit

pub returns-in_err-parent-clause-err : goal.returns-in_err-parent-clause-err
returns-in_err-parent-clause-err c =
    let whole : c.in_ok-server.field-0.front.subs ≡ c.from_vec-subs.result ++ c.in-Some.last ∷ [] = search rules in
    let p = err_from_is_err_and c.from_residual-in_err-parent.result c.from_residual-in_err-parent.ensures.1 in
    rw (p.1, p.2) (next_refused c.args.declared.now c.args.text.now c.in_ok-server.field-0.front c.in_ok-server.field-0.server c.in_ok-rest.ensures.ok.0 c.in_err-parent.field-0.0 c.from_vec-subs.result c.in-Some.last c.in_ok-server.ensures.ok c.in_ok-server.ensures.server c.in_ok-rest.ensures.ok.1 whole c.in_err-parent.ensures.err)
