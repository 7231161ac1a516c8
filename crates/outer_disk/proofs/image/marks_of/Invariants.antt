use Rattle.std.proofs.Common.{◌≡◌, ℕ, ◌<◌, false, length, drop}
use Rattle.std.specs.List.{slice_index_or}
use Rattle.outer_disk.specs.Crash.{is_unsynced, HasNoSync}
use Rattle.outer_disk.proofs.image.marks_of.Given as goal

abbrev pub invariant-loop-call : goal.invariant-loop-call
invariant-loop-call l =
    (length l.marks.items ≡ l.count)
    × ((place : ℕ) → place < l.count → is_unsynced (slice_index_or l.marks.items place false) (drop l.call-index l.calls) place ≡ is_unsynced false l.calls place)
    × HasNoSync (drop l.call-index l.calls)
