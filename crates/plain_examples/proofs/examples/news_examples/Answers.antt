use Rattle.plain_examples.proofs.ChangeCases.{news_examples as proof}
use Rattle.plain_examples.proofs.examples.news_examples.Goals as goal

pub returns : goal.returns
returns c = proof
