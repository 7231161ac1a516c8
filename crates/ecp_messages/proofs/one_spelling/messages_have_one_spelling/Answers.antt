use Rattle.ecp_messages.proofs.UpFrames.{up-free}
use Rattle.ecp_messages.proofs.DownFrames.{down-free}
use Rattle.ecp_messages.proofs.one_spelling.messages_have_one_spelling.Goals as goal

pub returns-clause-up : goal.returns-clause-up
returns-clause-up c = up-free

pub returns-clause-down : goal.returns-clause-down
returns-clause-down c = down-free
