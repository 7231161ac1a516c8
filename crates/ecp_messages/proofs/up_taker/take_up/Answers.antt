use Rattle.std.proofs.Common.{rules, refl}
use Rattle.ecp_messages.proofs.UpTable.{known-kind}
use Rattle.ecp_messages.proofs.up_taker.take_up.Goals as goal

pub returns-in-1-clause-known : goal.returns-in-1-clause-known
returns-in-1-clause-known c = λ _. known-kind 0x01 c.args.kind refl (search rules)

pub returns-in-2-clause-known : goal.returns-in-2-clause-known
returns-in-2-clause-known c = λ _. known-kind 0x02 c.args.kind refl (search rules)

pub returns-in_ok-take_update-in-3-clause-known : goal.returns-in_ok-take_update-in-3-clause-known
returns-in_ok-take_update-in-3-clause-known c = λ _. known-kind 0x03 c.args.kind refl (search rules)

pub returns-in_err-take_update-in-3-clause-known : goal.returns-in_err-take_update-in-3-clause-known
returns-in_err-take_update-in-3-clause-known c = λ _. known-kind 0x03 c.args.kind refl (search rules)

pub returns-in_ok-take_add-in-4-clause-known : goal.returns-in_ok-take_add-in-4-clause-known
returns-in_ok-take_add-in-4-clause-known c = λ _. known-kind 0x04 c.args.kind refl (search rules)

pub returns-in_err-take_add-in-4-clause-known : goal.returns-in_err-take_add-in-4-clause-known
returns-in_err-take_add-in-4-clause-known c = λ _. known-kind 0x04 c.args.kind refl (search rules)

pub returns-in_ok-take_fetch-in-5-clause-known : goal.returns-in_ok-take_fetch-in-5-clause-known
returns-in_ok-take_fetch-in-5-clause-known c = λ _. known-kind 0x05 c.args.kind refl (search rules)

pub returns-in_err-take_fetch-in-5-clause-known : goal.returns-in_err-take_fetch-in-5-clause-known
returns-in_err-take_fetch-in-5-clause-known c = λ _. known-kind 0x05 c.args.kind refl (search rules)

pub returns-in_ok-take_ask-in-6-clause-known : goal.returns-in_ok-take_ask-in-6-clause-known
returns-in_ok-take_ask-in-6-clause-known c = λ _. known-kind 0x06 c.args.kind refl (search rules)

pub returns-in_err-take_ask-in-6-clause-known : goal.returns-in_err-take_ask-in-6-clause-known
returns-in_err-take_ask-in-6-clause-known c = λ _. known-kind 0x06 c.args.kind refl (search rules)

pub returns-in_ok-take_unlock-in-7-clause-known : goal.returns-in_ok-take_unlock-in-7-clause-known
returns-in_ok-take_unlock-in-7-clause-known c = λ _. known-kind 0x07 c.args.kind refl (search rules)

pub returns-in_err-take_unlock-in-7-clause-known : goal.returns-in_err-take_unlock-in-7-clause-known
returns-in_err-take_unlock-in-7-clause-known c = λ _. known-kind 0x07 c.args.kind refl (search rules)

pub returns-in-8-clause-known : goal.returns-in-8-clause-known
returns-in-8-clause-known c = λ _. known-kind 0x08 c.args.kind refl (search rules)

pub returns-in-9-clause-known : goal.returns-in-9-clause-known
returns-in-9-clause-known c = λ _. known-kind 0x09 c.args.kind refl (search rules)

pub returns-in-10-clause-known : goal.returns-in-10-clause-known
returns-in-10-clause-known c = λ _. known-kind 0x0A c.args.kind refl (search rules)

pub returns-in-11-clause-known : goal.returns-in-11-clause-known
returns-in-11-clause-known c = λ _. known-kind 0x0B c.args.kind refl (search rules)

pub returns-in-12-clause-known : goal.returns-in-12-clause-known
returns-in-12-clause-known c = λ _. known-kind 0x0C c.args.kind refl (search rules)

pub returns-in_ok-take_claim-in-13-clause-known : goal.returns-in_ok-take_claim-in-13-clause-known
returns-in_ok-take_claim-in-13-clause-known c = λ _. known-kind 0x0D c.args.kind refl (search rules)

pub returns-in_err-take_claim-in-13-clause-known : goal.returns-in_err-take_claim-in-13-clause-known
returns-in_err-take_claim-in-13-clause-known c = λ _. known-kind 0x0D c.args.kind refl (search rules)

pub returns-in-127-clause-known : goal.returns-in-127-clause-known
returns-in-127-clause-known c = λ _. known-kind 0x7F c.args.kind refl (search rules)
