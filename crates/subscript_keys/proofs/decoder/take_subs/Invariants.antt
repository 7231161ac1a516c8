use Rattle.std.proofs.Common.{◌≡◌, ◌++◌, length}
use Rattle.std.specs.List.{AllByRecursion}
use Rattle.subscript_keys.specs.Key.{subs_bytes, IsSub}
use Rattle.subscript_keys.proofs.decoder.take_subs.Given as goal

abbrev pub invariant-loop-rest : goal.invariant-loop-rest
invariant-loop-rest l = record {
  read : AllByRecursion IsSub l.subs;
  all : l.bytes ≡ subs_bytes l.subs ++ l.rest;
}

abbrev pub decreases-loop-rest : goal.decreases-loop-rest
decreases-loop-rest l = length l.rest
