use Rattle.rounds_server.proofs.RoundsServer.{rounds_kept_by_server}
use Rattle.rounds_server.proofs.laws.rounds_are_kept_by_data_servers.Goals as goal

pub returns : goal.returns
returns c = rounds_kept_by_server
