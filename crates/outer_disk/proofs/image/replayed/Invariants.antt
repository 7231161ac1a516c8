use Rattle.std.proofs.Common.{◌≡◌, drop}
use Rattle.outer_disk.specs.Calls.{bytes_after, AreWithin}
use Rattle.outer_disk.proofs.image.replayed.Given as goal

abbrev pub invariant-loop-call : goal.invariant-loop-call
invariant-loop-call l =
    (bytes_after l.bytes.items (drop l.call-index l.calls) ≡ bytes_after l.first l.calls) × AreWithin l.bytes.items (drop l.call-index l.calls)
