use Rattle.std.proofs.Common.{◌≡◌, ◌∷◌, ◌++◌, sym, ap, ◌∙◌, inl, arith, rules}
use Rattle.subscript_keys.specs.declared.sub.Sub.TheVariants.{Num}
use Rattle.subscript_keys.proofs.SubReads.{no-sub-left, no-number}
use Rattle.subscript_keys.proofs.NumberForms.{zero-null}
use Rattle.subscript_keys.proofs.NumberTexts.{null, null-zero}
use Rattle.subscript_keys.proofs.sub_reader.take_number.Goals as goal

pub returns-in_default-clause-none : goal.returns-in_default-clause-none
returns-in_default-clause-none c = λ number rest p e. no-sub-left c.args.bytes.now (Num number) rest p (search rules) e

pub returns-then-tag-eq32-clause-some : goal.returns-then-tag-eq32-clause-some
unfolding null
returns-then-tag-eq32-clause-some c =
    let stands : c.args.bytes.now ≡ c.in-Some.tag.now ∷ c.in-Some.rest.now = search rules in
    let zero : c.in-Some.tag.now ≡ 0x20 = omega arith in
    (inl null-zero, stands ∙ ap (λ x. x ∷ c.in-Some.rest.now) zero ∙ sym (ap (λ b. b ++ c.in-Some.rest.now) (zero-null null null-zero).bytes))

pub returns-clause-none : goal.returns-clause-none
returns-clause-none c =
    let stands : c.args.bytes.now ≡ c.in-Some.tag.now ∷ c.in-Some.rest.now = search rules in
    no-number c.in-Some.tag.now c.in-Some.rest.now c.args.bytes.now (λ e. c.if-tag-eq16.false e) (λ e. c.if-tag-eq32.false e) (λ e. c.if-tag-eq48.false e) stands
