use Rattle.std.proofs.Common.{◌≡◌, drop, length, rules, ◌∙◌, sym}
use Rattle.std.proofs.lemmas.Bool.{and_parts}
use Rattle.plain_programs.proofs.KeyLemmas.{sub_stands, sub_in}
use Rattle.plain_programs.proofs.child_keys.sub_behind.Goals as goal

pub returns-in-None : goal.returns-in-None
returns-in-None c =
    let rest : c.in-Some.rest.now ≡ drop (length c.args.parent.now) c.args.key.now = search rules in
    sub_stands c.args.parent.now c.args.key.now c.requires.parent c.requires.key c.requires.below (λ s r p e. search (rules, rest))

pub returns-in-Some-2 : goal.returns-in-Some-2
returns-in-Some-2 c =
    let rest : c.in-Some.rest.now ≡ drop (length c.args.parent.now) c.args.key.now = search rules in
    let under = (and_parts _ _ c.requires.below).0 in
    let told = rw c.in-Some-2.is at c.in_ok-take_sub.ensures.some in
    (told.0, sub_in c.args.parent.now c.args.key.now c.in-Some-2.sub c.in-Some-2._after.now under (sym rest ∙ told.1))
