use Rattle.std.proofs.Common.{◌≡◌, None, rules}
use Rattle.cluster_call.specs.Built.{first_unbuilt}
use Rattle.cluster_call.proofs.BuiltLemmas.{can_run}
use Rattle.cluster_call.proofs.top_calls.read_source.Goals as goal

pub returns-clause-can_run : goal.returns-clause-can_run
returns-clause-can_run g c =
    let built : first_unbuilt c.in-Ok-read_script.script ≡ None = search rules in
    can_run c.in-Ok-read_script.script _ c.in-Ok-read_script.ensures.ok c.in-Ok-read_script.ensures.may built

pub returns-clause-built : goal.returns-clause-built
returns-clause-built g c = search rules
