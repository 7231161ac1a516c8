use Rattle.std.proofs.Common.{take}
use Rattle.subscript_keys.specs.Key.{ArePlaces}
use Rattle.subscript_keys.proofs.sub_reader.split_places.Given as goal

abbrev pub invariant-loop-place : goal.invariant-loop-place
invariant-loop-place l = ArePlaces (take l.place l.bytes)
