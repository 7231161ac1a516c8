use Rattle.std.proofs.Common.{◌≡◌, Ok, IsTrue, w64, rules, sym, ap, ◌∙◌}
use Rattle.std.specs.Fmt.{signed_decimal}
use Rattle.std.proofs.lemmas.Fmt.{parse-signed_decimal}
use Rattle.job_script.proofs.NumberLemmas.{signed-utf8, mag-low, fits-low}
use Rattle.job_script.proofs.number_parts.signed_number_of.Goals as goal

pub returns-in_default-clause-none : goal.returns-in_default-clause-none
returns-in_default-clause-none c z low e = c.in_default.ensures.cases.0 (signed-utf8 z c.args.word.now low e)

pub returns-in_default-parse-clause-none : goal.returns-in_default-parse-clause-none
returns-in_default-parse-clause-none c z low e =
    let read : c.parse.result ≡ Ok z = parse-signed_decimal w64 z c.in-Ok.text.now c.parse.result (fits-low z low) (mag-low z low) (c.in-Ok.ensures.cases.0 ∙ e) c.parse.ensures.value.0 in
    absurd (cc (read, c.in_default-parse.is))

pub returns-else-is_same-clause-none : goal.returns-else-is_same-clause-none
returns-else-is_same-clause-none c z low e =
    let read : c.parse.result ≡ Ok z = parse-signed_decimal w64 z c.in-Ok.text.now c.parse.result (fits-low z low) (mag-low z low) (c.in-Ok.ensures.cases.0 ∙ e) c.parse.ensures.value.0 in
    let same : z ≡ c.in-Ok-parse.amount = cc (read, c.in-Ok-parse.is) in
    let text : c.as_bytes.result.now ≡ signed_decimal c.in-Ok-parse.amount = search rules in
    let yes : IsTrue c.is_same.result = c.is_same.ensures.1 (e ∙ ap signed_decimal same ∙ sym text) in
    absurd (cc (yes, c.if-is_same.false))
