use Rattle.link_news.proofs.NewsKept.{links_kept_by_inputs}
use Rattle.link_news.proofs.laws.inputs_keep_what_is_on_its_way.Goals as goal

pub returns : goal.returns
returns c = links_kept_by_inputs
