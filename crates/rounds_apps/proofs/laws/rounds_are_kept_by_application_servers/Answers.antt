use Rattle.rounds_apps.proofs.RoundApps.{rounds_kept_by_app}
use Rattle.rounds_apps.proofs.RoundCommands.{rounds_kept_by_job}
use Rattle.rounds_apps.proofs.laws.rounds_are_kept_by_application_servers.Goals as goal

pub returns-clause-inputs : goal.returns-clause-inputs
returns-clause-inputs c = rounds_kept_by_app

pub returns-clause-commands : goal.returns-clause-commands
returns-clause-commands c = rounds_kept_by_job
