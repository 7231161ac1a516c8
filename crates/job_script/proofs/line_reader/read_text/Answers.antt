use Rattle.std.proofs.Common.{IsTrue}
use Rattle.job_script.specs.Words.{IsSilent}
use Rattle.job_script.proofs.TextLemmas.{IsSplit, late_refused, unknown_refused}
use Rattle.job_script.proofs.line_reader.read_text.Goals as goal

pub returns-then-declared-clause-err : goal.returns-then-declared-clause-err
returns-then-declared-clause-err c =
    let loud : IsSilent c.args.text.now → ⊥ = λ silent. let yes : IsTrue c.is_silent.result = c.is_silent.ensures.1 silent in absurd (cc (yes, c.if-is_silent.false)) in
    let split : IsSplit c.args.text.now c.split_word.result.0.now c.split_word.result.1.now = record { loud = loud; first = c.split_word.ensures.first; behind = c.split_word.ensures.behind } in
    late_refused c.args.declared.now c.args.text.now c.split_word.result.0.now c.split_word.result.1.now c.in-Some.declaring split c.in-Some.ensures.some c.if-declared.true

pub returns-in_default-job_name_of-clause-err : goal.returns-in_default-job_name_of-clause-err
returns-in_default-job_name_of-clause-err c =
    let loud : IsSilent c.args.text.now → ⊥ = λ silent. let yes : IsTrue c.is_silent.result = c.is_silent.ensures.1 silent in absurd (cc (yes, c.if-is_silent.false)) in
    let split : IsSplit c.args.text.now c.split_word.result.0.now c.split_word.result.1.now = record { loud = loud; first = c.split_word.ensures.first; behind = c.split_word.ensures.behind } in
    unknown_refused c.args.declared.now c.args.text.now c.split_word.result.0.now c.split_word.result.1.now split c.in_default.ensures.none c.in_default-of.ensures.none c.in_default-job_name_of.ensures.none
