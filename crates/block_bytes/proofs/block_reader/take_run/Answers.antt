use Rattle.std.proofs.Common.{◌≡◌, ◌++◌, rules}
use Rattle.field_bytes.specs.Fields.{u8_bytes, u16_bytes, IsU8, IsU16, NoneAhead}
use Rattle.block_bytes.specs.Blocks.{span_bytes, HasShortEnds}
use Rattle.block_bytes.proofs.RunReads.{no_byte, other_form, no_span, no_count, no_pairs, run_stands}
use Rattle.block_bytes.proofs.block_reader.take_run.Goals as goal

pub returns-in_err-form-clause-none : goal.returns-in_err-form-clause-none
returns-in_err-form-clause-none c =
    let none : NoneAhead u8_bytes IsU8 c.args.bytes.now = search rules in
    λ _. no_byte c.args.bytes.now none

pub returns-then-form-ne-FORM-clause-none : goal.returns-then-form-ne-FORM-clause-none
returns-then-form-ne-FORM-clause-none c =
    let form : c.args.bytes.now ≡ u8_bytes c.in_ok-form.form ++ c.in_ok-form.rest.now = search rules in
    λ _. other_form c.in_ok-form.form c.args.bytes.now c.in_ok-form.rest.now form (λ e. search rules)

pub returns-in_err-span-clause-none : goal.returns-in_err-span-clause-none
returns-in_err-span-clause-none c =
    let form : c.args.bytes.now ≡ u8_bytes c.in_ok-form.form ++ c.in_ok-form.rest.now = search rules in
    λ e.
    let none : NoneAhead span_bytes HasShortEnds c.in_ok-form.rest.now = search rules in
    no_span c.in_ok-form.form c.args.bytes.now c.in_ok-form.rest.now form none

pub returns-in_err-count-clause-none : goal.returns-in_err-count-clause-none
returns-in_err-count-clause-none c =
    let form : c.args.bytes.now ≡ u8_bytes c.in_ok-form.form ++ c.in_ok-form.rest.now = search rules in
    let none : NoneAhead u16_bytes IsU16 c.in_ok-span.rest.now = search rules in
    λ _. no_count c.in_ok-form.form c.args.bytes.now c.in_ok-form.rest.now c.in_ok-span.rest.now c.in_ok-span.span form c.in_ok-span.ensures.some c.in_ok-span.ensures.short none

pub returns-in_err-pairs-clause-none : goal.returns-in_err-pairs-clause-none
returns-in_err-pairs-clause-none c =
    let form : c.args.bytes.now ≡ u8_bytes c.in_ok-form.form ++ c.in_ok-form.rest.now = search rules in
    let count : c.in_ok-span.rest.now ≡ u16_bytes c.in_ok-count.count ++ c.in_ok-count.rest.now = search rules in
    let few : IsU16 c.in_ok-count.count = search rules in
    λ e. no_pairs c.in_ok-form.form c.in_ok-count.count c.args.bytes.now c.in_ok-form.rest.now c.in_ok-span.rest.now c.in_ok-count.rest.now c.in_ok-span.span form c.in_ok-span.ensures.some c.in_ok-span.ensures.short count few (search rules)

pub returns-clause-some : goal.returns-clause-some
returns-clause-some c =
    let form : c.args.bytes.now ≡ u8_bytes c.in_ok-form.form ++ c.in_ok-form.rest.now = search rules in
    let count : c.in_ok-span.rest.now ≡ u16_bytes c.in_ok-count.count ++ c.in_ok-count.rest.now = search rules in
    run_stands c.in_ok-form.form c.in_ok-count.count c.args.bytes.now c.in_ok-form.rest.now c.in_ok-span.rest.now c.in_ok-count.rest.now (record { span = c.in_ok-span.span; pairs = c.in_ok-pairs.pairs }) (search rules) form c.in_ok-span.ensures.some count c.in_ok-pairs.ensures.count c.in_ok-pairs.ensures.some
