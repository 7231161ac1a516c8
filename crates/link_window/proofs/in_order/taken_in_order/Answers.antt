use Rattle.link_window.proofs.Flows.{keeps_order}
use Rattle.link_window.proofs.in_order.taken_in_order.Goals as goal

pub returns : goal.returns
returns c = keeps_order
