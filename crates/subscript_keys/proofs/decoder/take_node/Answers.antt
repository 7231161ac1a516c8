use Rattle.std.proofs.Common.{refl, ◌∙◌}
use Rattle.subscript_keys.proofs.NodeReads.{node-stands, no-name, no-subs}
use Rattle.subscript_keys.proofs.decoder.take_node.Goals as goal

pub returns-in_default-clause-none : goal.returns-in_default-clause-none
returns-in_default-clause-none c =
    let none = rw c.in_default.is at c.split_name.ensures.none in
    no-name c.args.key.now none

pub returns-in_default-2-clause-none : goal.returns-in_default-2-clause-none
returns-in_default-2-clause-none c =
    let none = rw c.in_default-2.is at c.in_ok-subs.ensures.none in
    no-subs c.args.key.now c.in-Some.name.now c.in-Some.rest.now c.in-Some.ensures.some.0 c.in-Some.ensures.some.1 none

pub returns-clause-some : goal.returns-clause-some
returns-clause-some c =
    let read = rw c.in-Some-2.is at c.in_ok-subs.ensures.some in
    node-stands _ c.args.key.now c.in-Some.name.now c.in-Some.rest.now c.in-Some-2.subs (c.from_vec.ensures ∙ c.in_ok-name.ensures.items) refl c.in-Some.ensures.some.0 c.in-Some.ensures.some.1 read.0 read.1
