use Rattle.std.proofs.Common.{rules}
use Rattle.global_text.proofs.StringReads.{read-quoted, read-bad}
use Rattle.global_text.proofs.string_reader.read_quoted.Goals as goal

pub returns-in-34-clause-ok : goal.returns-in-34-clause-ok
returns-in-34-clause-ok c = read-quoted c.in_ok-string.string.items c.args.text.now c.in_ok-string.rest.now c.in-Some.after.now c.in-Some.stop.now c.in_ok-string.ensures.ok c.in_ok-string.ensures.stop (search rules) (search rules)

pub returns-in_default-stop-clause-err : goal.returns-in_default-stop-clause-err
returns-in_default-stop-clause-err c = read-bad c.args.room c.in_ok-string.string.items c.args.text.now c.in_ok-string.rest.now c.in-Some.after.now c.in-Some.stop.now c.in_ok-string.ensures.ok c.in_ok-string.ensures.stop c.in_ok-string.ensures.room (search rules) (search rules) (search rules)
