use Rattle.global_text.proofs.NumberAgreement.{numbers-agree}
use Rattle.global_text.proofs.number_laws.canonical_numbers_agree.Goals as goal

pub returns : goal.returns
returns c = numbers-agree
