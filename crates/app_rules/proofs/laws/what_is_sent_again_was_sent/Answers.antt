use Rattle.ecp_messages.specs.declared.up.Up.{Up}
use Rattle.end_words.proofs.WindowFirsts.{sends_firsts}
use Rattle.app_rules.proofs.laws.what_is_sent_again_was_sent.Goals as goal

pub returns : goal.returns
returns c = sends_firsts Up
