use Rattle.std.proofs.Common.{ap, arith, length}
use Rattle.std.proofs.lemmas.List.{drop_all}
use Rattle.subscript_keys.specs.Key.{escaped}
use Rattle.global_text.proofs.KeyLengths.{text-length}
use Rattle.global_text.proofs.sub_length.text_length.Goals as goal

pub returns-clause-value : goal.returns-clause-value
returns-clause-value c =
    omega (arith, text-length c.args.text.now, ap (λ s. length (escaped s)) (drop_all c.loop-byte.byte-index c.args.text.now (omega arith)), c.loop-byte.invariant.all)
