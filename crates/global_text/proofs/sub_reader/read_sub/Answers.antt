use Rattle.std.proofs.Common.{List, ℕ, sym, subst, inr, arith}
use Rattle.global_text.specs.Strings.{ReadsString}
use Rattle.global_text.proofs.sub_reader.read_sub.Goals as goal

pub returns-then-longer-gt-KEY_LIMIT-clause-err : goal.returns-then-longer-gt-KEY_LIMIT-clause-err
returns-then-longer-gt-KEY_LIMIT-clause-err c = inr (
  c.sub_of-sub.result,
  c.in_ok-string.rest.now,
  (c.sub_of-sub.ensures.form, subst (λ (s : List ℕ). ReadsString s c.args.text.now c.in_ok-string.rest.now) (sym c.sub_of-sub.ensures.string) c.in_ok-string.ensures.ok),
  omega arith,
)
