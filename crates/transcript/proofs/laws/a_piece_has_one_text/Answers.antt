use Rattle.transcript.proofs.OneText.{one-piece-text}
use Rattle.transcript.proofs.laws.a_piece_has_one_text.Goals as goal

pub returns : goal.returns
returns c = one-piece-text
