use Rattle.plain_runs.proofs.ToldItemLaws.{answered_is_told, all_in_order_are_told}
use Rattle.plain_runs.proofs.laws.what_is_answered_was_told.Goals as goal

pub returns : goal.returns
returns c = record { answered = answered_is_told; reached = all_in_order_are_told }
