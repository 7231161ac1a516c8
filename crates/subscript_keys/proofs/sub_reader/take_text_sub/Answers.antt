use Rattle.std.proofs.Common.{◌≡◌, length, sym, ap, subst, ◌∙◌, arith, rules}
use Rattle.std.specs.Prelude.{IsSome}
use Rattle.std.proofs.lemmas.List.{nil_from_length}
use Rattle.subscript_keys.specs.Decimal.{IsNumberText}
use Rattle.subscript_keys.proofs.KeyForms.{bytes-read}
use Rattle.subscript_keys.proofs.SubReads.{text-tail, one-text-sub, text-stands}
use Rattle.subscript_keys.proofs.sub_reader.take_text_sub.Goals as goal

pub returns-in_default-clause-none : goal.returns-in_default-clause-none
returns-in_default-clause-none c = λ text rest p e.
    let none = rw c.in_default.is at c.in_ok-text.ensures.none in
    none text rest (text-tail text rest c.args.bytes.now e)

pub returns-then-is_empty-clause-none : goal.returns-then-is_empty-clause-none
returns-then-is_empty-clause-none c = λ text rest p e.
    let read = rw c.in-Some.is at c.in_ok-text.ensures.some in
    let empty : length c.in-Some.text.items ≡ 0 = search rules in
    p.some (one-text-sub c.in-Some.text.items text c.in-Some.rest.now rest c.args.bytes.now read e ∙ nil_from_length c.in-Some.text.items empty)

pub returns-then-is_some-clause-none : goal.returns-then-is_some-clause-none
returns-then-is_some-clause-none c = λ text rest p e.
    let read = rw c.in-Some.is at c.in_ok-text.ensures.some in
    let some : IsSome c.read.result = search rules in
    let number : IsNumberText c.in-Some.text.items = subst IsNumberText c.as_slice.ensures.value (c.read.ensures.some.0 some) in
    p.no_number (subst IsNumberText (sym (one-text-sub c.in-Some.text.items text c.in-Some.rest.now rest c.args.bytes.now read e)) number)

pub returns-clause-some : goal.returns-clause-some
returns-clause-some c =
    let read = rw c.in-Some.is at c.in_ok-text.ensures.some in
    let full : length c.in-Some.text.items ≡ 0 → ⊥ = search rules in
    text-stands c.from_vec.result c.in-Some.text.items c.args.bytes.now c.in-Some.rest.now c.from_vec.ensures
    (λ z. full (ap length z))
    (λ z. let some : IsSome c.read.result = c.read.ensures.some.1 (subst IsNumberText (sym c.as_slice.ensures.value) z) in search rules)
    (bytes-read _ (λ k. omega (arith, c.type_inv.bytes k)))
    read
