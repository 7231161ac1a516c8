use Rattle.transcript.proofs.OneText.{one-act-text}
use Rattle.transcript.proofs.laws.an_act_has_one_text.Goals as goal

pub returns : goal.returns
returns c = one-act-text
