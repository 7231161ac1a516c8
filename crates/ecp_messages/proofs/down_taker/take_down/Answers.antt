use Rattle.std.proofs.Common.{rules, refl}
use Rattle.ecp_messages.proofs.DownTable.{known-kind}
use Rattle.ecp_messages.proofs.down_taker.take_down.Goals as goal

pub returns-in-129-clause-known : goal.returns-in-129-clause-known
returns-in-129-clause-known c = λ _. known-kind 0x81 c.args.kind refl (search rules)

pub returns-in-130-clause-known : goal.returns-in-130-clause-known
returns-in-130-clause-known c = λ _. known-kind 0x82 c.args.kind refl (search rules)

pub returns-in_ok-take_block-in-131-clause-known : goal.returns-in_ok-take_block-in-131-clause-known
returns-in_ok-take_block-in-131-clause-known c = λ _. known-kind 0x83 c.args.kind refl (search rules)

pub returns-in_err-take_block-in-131-clause-known : goal.returns-in_err-take_block-in-131-clause-known
returns-in_err-take_block-in-131-clause-known c = λ _. known-kind 0x83 c.args.kind refl (search rules)

pub returns-in_ok-take_drop-in-132-clause-known : goal.returns-in_ok-take_drop-in-132-clause-known
returns-in_ok-take_drop-in-132-clause-known c = λ _. known-kind 0x84 c.args.kind refl (search rules)

pub returns-in_err-take_drop-in-132-clause-known : goal.returns-in_err-take_drop-in-132-clause-known
returns-in_err-take_drop-in-132-clause-known c = λ _. known-kind 0x84 c.args.kind refl (search rules)

pub returns-in-133-clause-known : goal.returns-in-133-clause-known
returns-in-133-clause-known c = λ _. known-kind 0x85 c.args.kind refl (search rules)

pub returns-in-134-clause-known : goal.returns-in-134-clause-known
returns-in-134-clause-known c = λ _. known-kind 0x86 c.args.kind refl (search rules)

pub returns-in-135-clause-known : goal.returns-in-135-clause-known
returns-in-135-clause-known c = λ _. known-kind 0x87 c.args.kind refl (search rules)

pub returns-in-136-clause-known : goal.returns-in-136-clause-known
returns-in-136-clause-known c = λ _. known-kind 0x88 c.args.kind refl (search rules)

pub returns-in-127-clause-known : goal.returns-in-127-clause-known
returns-in-127-clause-known c = λ _. known-kind 0x7F c.args.kind refl (search rules)
