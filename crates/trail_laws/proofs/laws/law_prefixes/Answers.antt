use Rattle.plain_runs.proofs.SeenLaw.{seen_is_told as told}
use Rattle.trail_laws.proofs.Prefixes.{seen_falls_where_cut}
use Rattle.trail_laws.proofs.laws.law_prefixes.Goals as goal

pub returns : goal.returns
returns c = record { falls = seen_falls_where_cut c.what_is_seen_never_falls.ensures; told = told }
