use Rattle.std.proofs.lemmas.Bool.{iff_false}
use Rattle.subscript_keys.proofs.NodeReads.{no-zero, no-other-name}
use Rattle.subscript_keys.proofs.decoder.split_name.Goals as goal

pub returns-in_default-clause-none : goal.returns-in_default-clause-none
returns-in_default-clause-none c =
    let none = rw c.in_default.is at c.split_at_zero.ensures.none in
    no-zero c.args.key.now none

pub returns-then-not-is_name-clause-none : goal.returns-then-not-is_name-clause-none
returns-then-not-is_name-clause-none c =
    no-other-name c.in-Some.name.now c.in-Some.rest.now c.args.key.now c.in-Some.ensures.some.0 c.in-Some.ensures.some.1 (λ n. iff_false c.is_name.ensures c.if-not-is_name.true n)
