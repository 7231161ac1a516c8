use Rattle.std.proofs.Common.{◌≡◌, ◌∷◌, ◌++◌, rules}
use Rattle.global_text.proofs.NodeEnds.{front-of}
use Rattle.global_text.proofs.node_front.read_front.Goals as goal

pub returns-clause-ok : goal.returns-clause-ok
returns-clause-ok c =
    let whole : c.args.text.now ≡ 94 ∷ (c.in-Some-take_name.name.now ++ c.in-Some-take_name.rest.now) = search rules in
    let same : c.from_vec.result ≡ c.in-Some-take_name.name.now = search rules in
    front-of c.args.text.now c.in-Some-take_name.name.now c.from_vec.result c.in-Some-take_name.rest.now c.read_end-end.new.subs c.read_end-end.result same c.in-Some-take_name.ensures.some.0 whole c.in-Some-take_name.ensures.whole c.read_end-end.ensures.read c.read_end-end.ensures.stop
