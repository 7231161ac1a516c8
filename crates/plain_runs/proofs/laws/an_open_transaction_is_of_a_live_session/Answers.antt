use Rattle.plain_runs.proofs.OpenTransactions.{open_is_live as proof}
use Rattle.plain_runs.proofs.laws.an_open_transaction_is_of_a_live_session.Goals as goal

pub returns : goal.returns
returns c = proof
