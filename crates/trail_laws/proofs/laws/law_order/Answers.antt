use Rattle.plain_runs.proofs.OrderLaws.{items_in_order as sessions}
use Rattle.trail_laws.proofs.Order.{jobs_in_order as jobs}
use Rattle.plain_runs.proofs.Issued.{items_were_issued as issued}
use Rattle.trail_laws.proofs.laws.law_order.Goals as goal

pub returns : goal.returns
returns c = record { sessions = sessions; jobs = jobs; issued = issued }
