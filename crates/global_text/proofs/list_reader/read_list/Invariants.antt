use Rattle.std.proofs.Common.{◌≡◌, ◌∷◌, ◌++◌, length}
use Rattle.global_text.specs.Nodes.{BeforeSub, key_length}
use Rattle.global_text.proofs.list_reader.read_list.Given as goal

abbrev pub invariant-subs : goal.invariant-subs
invariant-subs l = record {
  before : BeforeSub (94 ∷ (l.name ++ 40 ∷ l.list)) l.name l.subs l.rest;
  key : l.key ≡ key_length l.name l.subs;
}

abbrev pub decreases-subs : goal.decreases-subs
decreases-subs l = length l.rest
