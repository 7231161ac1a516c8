use Rattle.ecp_messages.specs.declared.down.Down.{Down}
use Rattle.data_rules.specs.Puts.{body_of}
use Rattle.end_words.proofs.WindowLemmas.{windows_agree}
use Rattle.data_rules.proofs.laws.a_session_window_keeps_what_its_bodies_do.Goals as goal

pub returns : goal.returns
returns c = windows_agree Down body_of
