use Rattle.ecp_messages.specs.declared.down.Down.{Down}
use Rattle.end_words.proofs.WindowFirsts.{sends_firsts}
use Rattle.data_rules.proofs.laws.what_is_sent_again_was_sent.Goals as goal

pub returns : goal.returns
returns c = sends_firsts Down
