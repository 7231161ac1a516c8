use Rattle.transcript.proofs.OneText.{one-answer-text}
use Rattle.transcript.proofs.laws.an_answer_has_one_text.Goals as goal

pub returns : goal.returns
returns c = one-answer-text
