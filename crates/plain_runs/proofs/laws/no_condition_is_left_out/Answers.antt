use Rattle.plain_runs.proofs.ConditionLaws.{failure_refuses, failure_refuses_behind, none_is_left_out, none_is_left_out_behind}
use Rattle.plain_runs.proofs.laws.no_condition_is_left_out.Goals as goal

pub returns : goal.returns
returns c = record { acts = none_is_left_out; entries = none_is_left_out_behind; refused_acts = failure_refuses; refused_entries = failure_refuses_behind }
