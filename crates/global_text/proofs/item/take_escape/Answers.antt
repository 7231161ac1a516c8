use Rattle.std.proofs.Common.{◌∷◌, ◌+◌, ◌*◌, refl, rules}
use Rattle.global_text.proofs.Items.{backslash-taken, code-taken}
use Rattle.global_text.proofs.item.take_escape.Goals as goal

pub returns-then-first-eq92-clause-some : goal.returns-then-first-eq92-clause-some
returns-then-first-eq92-clause-some c = backslash-taken (92 ∷ c.args.text.now) c.in_ok-first.after.now (search rules)

pub returns-clause-some : goal.returns-clause-some
returns-clause-some c =
    code-taken (92 ∷ c.args.text.now) c.in_ok-second.rest.now (c.in_ok-high.high * 16 + c.in_ok-low.low) c.in_ok-high.high c.in_ok-low.low c.in_ok-first.first.now c.in_ok-second.second.now (search rules) (search rules) (search rules) (search rules) (search rules) refl
