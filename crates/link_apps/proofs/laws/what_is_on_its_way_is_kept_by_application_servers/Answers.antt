use Rattle.link_apps.proofs.CommandLinks.{links_kept_by_job}
use Rattle.link_apps.proofs.FrameLinks.{links_kept_by_frames}
use Rattle.link_apps.proofs.InputLinks.{links_kept_by_others}
use Rattle.link_apps.proofs.NewsBeside.{links_kept_beside_news}
use Rattle.link_apps.proofs.NewsLinks.{lanes_kept_by_news, way_kept_by_news}
use Rattle.link_apps.proofs.laws.what_is_on_its_way_is_kept_by_application_servers.Goals as goal

pub returns-clause-commands : goal.returns-clause-commands
returns-clause-commands c = links_kept_by_job

pub returns-clause-other_inputs : goal.returns-clause-other_inputs
returns-clause-other_inputs c = links_kept_by_others

pub returns-clause-frames : goal.returns-clause-frames
returns-clause-frames c = links_kept_by_frames

pub returns-clause-news : goal.returns-clause-news
returns-clause-news c = way_kept_by_news

pub returns-clause-news_beside : goal.returns-clause-news_beside
returns-clause-news_beside c = links_kept_beside_news

pub returns-clause-news_lanes : goal.returns-clause-news_lanes
returns-clause-news_lanes c = lanes_kept_by_news
