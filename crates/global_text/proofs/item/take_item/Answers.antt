use Rattle.std.proofs.Common.{◌≡◌, ◌∷◌, List, ℕ, rules, subst, sym}
use Rattle.std.specs.Prelude.{IfNone}
use Rattle.global_text.specs.Strings.{NoItem}
use Rattle.global_text.proofs.Items.{quote-taken, plain-taken}
use Rattle.global_text.proofs.item.take_item.Goals as goal

pub returns-in-92-clause-none : goal.returns-in-92-clause-none
returns-in-92-clause-none c =
    let text : c.args.text.now ≡ 92 ∷ c.in_ok-first.after.now = search rules in
    let P : List ℕ → Type 0 = λ t. IfNone c.take_escape.result (NoItem t) in
    subst P (sym text) c.take_escape.ensures.none

pub returns-then-second-eq34-clause-some : goal.returns-then-second-eq34-clause-some
returns-then-second-eq34-clause-some c = quote-taken c.args.text.now c.in_ok-second-in-34.rest.now (search rules)

pub returns-in_default-clause-some : goal.returns-in_default-clause-some
returns-in_default-clause-some c = plain-taken c.args.text.now c.in_ok-first.after.now c.in_ok-first.first.now (search rules) (search rules) (search rules) (search rules)
