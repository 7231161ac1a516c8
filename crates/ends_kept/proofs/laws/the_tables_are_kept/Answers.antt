use Rattle.ends_kept.proofs.TablesMoves.{tables_kept_by_app, tables_kept_by_job}
use Rattle.ends_kept.proofs.laws.the_tables_are_kept.Goals as goal

pub returns-clause-inputs : goal.returns-clause-inputs
returns-clause-inputs c = tables_kept_by_app

pub returns-clause-commands : goal.returns-clause-commands
returns-clause-commands c = tables_kept_by_job
