use Rattle.frames_taken.proofs.InOrder.{downs_come, ups_come}
use Rattle.frames_taken.proofs.laws.messages_come_in_order.Goals as goal

pub returns-clause-down : goal.returns-clause-down
returns-clause-down c = downs_come

pub returns-clause-up : goal.returns-clause-up
returns-clause-up c = ups_come
