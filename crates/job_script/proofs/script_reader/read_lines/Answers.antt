use Rattle.std.proofs.Common.{◌≡◌, ◌++◌, ◌∷◌, [], length, sym, subst, rules, arith}
use Rattle.subscript_keys.proofs.KeyForms.{bytes-read}
use Rattle.job_script.specs.Scripts.{RefusesScript}
use Rattle.job_script.proofs.ScriptLimits.{script_may}
use Rattle.job_script.proofs.ScriptLemmas.{read-more, read-all, read-bad, lines-left, one-more}
use Rattle.job_script.proofs.script_reader.read_lines.Goals as goal

pub returns-in-Err-clause-err : goal.returns-in-Err-clause-err
returns-in-Err-clause-err c =
    subst (RefusesScript c.args.text.now) (sym c.error_at.ensures)
    (read-bad c.loop-rest.invariant.0 c.loop-rest.invariant.1 c.args.text.now c.loop-rest.rest.now c.loop-rest.reading.declared c.loop-rest.reading.declarations.items c.loop-rest.reading.todos.items c.loop-rest.reading.line c.split_line.result.0.now c.split_line.result.1.now c.in-Err.fault c.loop-rest.invariant.2 c.split_line.ensures.lines c.in-Err.ensures.err c.requires)

pub with-requires-clause-number : goal.with-requires-clause-number
with-requires-clause-number c =
    omega (arith, lines-left c.loop-rest.invariant.0 c.loop-rest.invariant.1 c.args.text.now c.loop-rest.rest.now c.loop-rest.reading.declared c.loop-rest.reading.declarations.items c.loop-rest.reading.todos.items c.loop-rest.reading.line c.loop-rest.invariant.2, one-more c.loop-rest.rest.now c.split_line.result.0.now c.split_line.result.1.now c.split_line.ensures.lines, c.requires)

pub loop-rest-preserved : goal.loop-rest-preserved
loop-rest-preserved c = (
  c.loop-rest.invariant.0 ++ c.split_line.result.0.now ∷ [],
  c.loop-rest.invariant.1 ++ c.in-Ok.line ∷ [],
  read-more c.loop-rest.invariant.0 c.loop-rest.invariant.1 c.args.text.now c.loop-rest.rest.now c.loop-rest.reading.declared c.loop-rest.reading.declarations.items c.loop-rest.reading.todos.items c.loop-rest.reading.line c.split_line.result.0.now c.split_line.result.1.now c.in-Ok.line c.in-Ok-with.next.declared c.in-Ok-with.next.declarations.items c.in-Ok-with.next.todos.items c.in-Ok-with.next.line c.loop-rest.invariant.2 c.split_line.ensures.lines c.in-Ok.ensures.ok c.in-Ok-with.ensures.declared c.in-Ok-with.ensures.declarations c.in-Ok-with.ensures.todos c.in-Ok-with.ensures.line,
)

pub returns-clause-ok : goal.returns-clause-ok
returns-clause-ok c =
    let none : length c.loop-rest.rest.now ≡ 0 = search rules in
    read-all c.loop-rest.invariant.0 c.loop-rest.invariant.1 c.args.text.now c.loop-rest.rest.now c.loop-rest.reading.declared c.loop-rest.reading.declarations.items c.loop-rest.reading.todos.items c.loop-rest.reading.line c.into_script.result c.loop-rest.invariant.2 none c.requires c.into_script.ensures.layout c.into_script.ensures.names c.into_script.ensures.declarations c.into_script.ensures.lines

pub returns-clause-may : goal.returns-clause-may
returns-clause-may c =
    script_may c.into_script.result c.args.text.now (bytes-read c.args.text.now (λ k. omega (arith, c.type_inv.text k))) (returns-clause-ok c)
