use Rattle.std.proofs.Common.{◌≡◌, ◌∷◌, rules}
use Rattle.subscript_keys.proofs.SubReads.{no-sub-left, other-tag, text-tag, none-to}
use Rattle.subscript_keys.proofs.sub_reader.take_sub.Goals as goal

pub returns-in_default-clause-none : goal.returns-in_default-clause-none
returns-in_default-clause-none c = λ sub rest p e. no-sub-left c.args.bytes.now sub rest p (search rules) e

pub returns-then-tag-eq64-clause-none : goal.returns-then-tag-eq64-clause-none
returns-then-tag-eq64-clause-none c =
    let stands : c.args.bytes.now ≡ c.in-Some.tag.now ∷ c.in-Some.left.now = search rules in
    none-to c.take_text_sub.result _ _ (text-tag c.in-Some.tag.now c.in-Some.left.now c.args.bytes.now c.if-tag-eq64.true stands) c.take_text_sub.ensures.none

pub returns-in_default-take_number-clause-none : goal.returns-in_default-take_number-clause-none
returns-in_default-take_number-clause-none c =
    let stands : c.args.bytes.now ≡ c.in-Some.tag.now ∷ c.in-Some.left.now = search rules in
    let none = rw c.in_default-take_number.is at c.take_number.ensures.none in
    other-tag c.in-Some.tag.now c.in-Some.left.now c.args.bytes.now (λ e. c.if-tag-eq64.false e) stands none
