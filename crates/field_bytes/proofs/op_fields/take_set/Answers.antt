use Rattle.std.proofs.Common.{rules}
use Rattle.field_bytes.specs.Fields.{list_bytes, IsKeyField, IsShortList, NoneAhead}
use Rattle.field_bytes.proofs.PrefixFree.{key_prefix_free, no_second}
use Rattle.field_bytes.proofs.op_fields.take_set.Goals as goal

pub returns-in_err-value-clause-none : goal.returns-in_err-value-clause-none
returns-in_err-value-clause-none c =
    let none : NoneAhead list_bytes IsShortList c.in_ok-key.rest.now = search rules in
    λ _. no_second list_bytes list_bytes IsKeyField IsShortList key_prefix_free c.args.bytes.now c.in_ok-key.rest.now c.in_ok-key.key c.in_ok-key.ensures.key c.in_ok-key.ensures.some none
