use Rattle.std.proofs.Common.{sym, ◌∙◌, inr, refl}
use Rattle.std.proofs.lemmas.Result.{on_ok_weaker}
use Rattle.std.proofs.lemmas.Bool.{iff_false}
use Rattle.global_text.specs.Printed.{quoted}
use Rattle.global_text.proofs.string_writer.put_string.Goals as goal

pub returns-clause-ok : goal.returns-clause-ok
returns-clause-ok c = on_ok_weaker c.put_quoted.result (λ put. (quoted c.args.string.now, inr (λ is. iff_false c.read.ensures.some (sym c.is_some.ensures ∙ c.if-is_some.false) is, refl), put)) c.put_quoted.ensures.ok
