use Rattle.std.proofs.Common.{rules}
use Rattle.field_bytes.specs.Fields.{list_bytes, i64_bytes, IsKeyField, IsI64, NoneAhead}
use Rattle.field_bytes.proofs.PrefixFree.{key_prefix_free, no_second}
use Rattle.field_bytes.proofs.op_fields.take_add.Goals as goal

pub returns-in_err-amount-clause-none : goal.returns-in_err-amount-clause-none
returns-in_err-amount-clause-none c =
    let none : NoneAhead i64_bytes IsI64 c.in_ok-key.rest.now = search rules in
    λ _. no_second list_bytes i64_bytes IsKeyField IsI64 key_prefix_free c.args.bytes.now c.in_ok-key.rest.now c.in_ok-key.key c.in_ok-key.ensures.key c.in_ok-key.ensures.some none
