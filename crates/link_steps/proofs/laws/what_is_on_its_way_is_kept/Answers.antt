use Rattle.link_steps.proofs.LinksKept.{links_are_kept}
use Rattle.link_steps.proofs.laws.what_is_on_its_way_is_kept.Goals as goal

pub returns : goal.returns
returns c = links_are_kept
