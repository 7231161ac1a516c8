use Rattle.std.proofs.Common.{◌≡◌, Ok, IsTrue, ap, ◌∙◌}
use Rattle.std.specs.Fmt.{decimal}
use Rattle.std.proofs.lemmas.Fmt.{parse-decimal}
use Rattle.job_script.proofs.NumberLemmas.{decimal-utf8}
use Rattle.job_script.proofs.number_parts.number_of.Goals as goal

pub returns-in_default-clause-none : goal.returns-in_default-clause-none
returns-in_default-clause-none c n low e = c.in_default.ensures.cases.0 (decimal-utf8 n c.args.word.now low e)

pub returns-in_default-parse-clause-none : goal.returns-in_default-parse-clause-none
returns-in_default-parse-clause-none c n low e =
    let read : c.parse.result ≡ Ok n = parse-decimal 64 n c.in-Ok.text.now c.parse.result low low (c.in-Ok.ensures.cases.0 ∙ e) c.parse.ensures.value.0 in
    absurd (cc (read, c.in_default-parse.is))

pub returns-else-is_text_of-clause-none : goal.returns-else-is_text_of-clause-none
returns-else-is_text_of-clause-none c n low e =
    let read : c.parse.result ≡ Ok n = parse-decimal 64 n c.in-Ok.text.now c.parse.result low low (c.in-Ok.ensures.cases.0 ∙ e) c.parse.ensures.value.0 in
    let same : n ≡ c.in-Ok-parse.number = cc (read, c.in-Ok-parse.is) in
    let yes : IsTrue c.is_text_of.result = c.is_text_of.ensures.1 (e ∙ ap decimal same) in
    absurd (cc (yes, c.if-is_text_of.false))
