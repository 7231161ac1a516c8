use Rattle.std.proofs.Common.{◌≡◌, ◌++◌, rules}
use Rattle.std.proofs.lemmas.Bool.{iff_false}
use Rattle.field_bytes.specs.Fields.{list_bytes, IsShortList}
use Rattle.field_bytes.proofs.PrefixFree.{no_key}
use Rattle.field_bytes.proofs.key_fields.take_key.Goals as goal

pub returns-then-not-branch-clause-none : goal.returns-then-not-branch-clause-none
returns-then-not-branch-clause-none c =
    let stands : c.args.bytes.now ≡ list_bytes c.in_ok-part.part.now ++ c.in_ok-part.rest.now = search rules in
    let short : IsShortList c.in_ok-part.part.now = search rules in
    λ _. no_key c.args.bytes.now c.in_ok-part.part.now c.in_ok-part.rest.now stands short (iff_false c.in_ok-is_key.ensures c.if-not-branch.true)
