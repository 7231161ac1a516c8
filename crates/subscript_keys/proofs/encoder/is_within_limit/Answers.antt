use Rattle.std.proofs.Common.{arith}
use Rattle.subscript_keys.proofs.KeyForms.{bytes-read}
use Rattle.subscript_keys.proofs.encoder.is_within_limit.Goals as goal

pub returns-clause-bytes : goal.returns-clause-bytes
returns-clause-bytes c = bytes-read _ (λ k. omega (arith, c.type_inv.key k))
