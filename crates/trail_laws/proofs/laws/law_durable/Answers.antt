use Rattle.trail_laws.proofs.Durable.{entries_stay as entries, answers_stay as answers}
use Rattle.trail_laws.proofs.laws.law_durable.Goals as goal

pub returns : goal.returns
returns c = record { entries = entries; answers = answers }
