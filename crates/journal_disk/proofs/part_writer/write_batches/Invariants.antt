use Rattle.std.proofs.Common.{◌≡◌, ◌+◌, ◌*◌, ◌<◌, ◌≤◌, ◌^◌, ℕ, List, Some, is_some, length, drop}
use Rattle.std.specs.Option.{ForSome}
use Rattle.outer_disk.specs.Disk.{RoseBy}
use Rattle.plain_orders.specs.declared.entry.Entry.{Entry}
use Rattle.journal_disk.specs.Settled.{IsSettled}
use Rattle.journal_disk.specs.Staged.{ArePieces}
use Rattle.journal_disk.proofs.Appending.{AreNext, HasWritten}
use Rattle.journal_disk.proofs.part_writer.write_batches.Given as goal

abbrev pub invariant-loop-size : goal.invariant-loop-size
invariant-loop-size g l = record {
  room : l.gate + 1 + length l.rest < 2 ^ 64;
  pieces : (todo : List (List Entry)) × ArePieces todo l.rest (drop l.size-index l.staged.sizes.items);
  within : ForSome (g.D.Disk.told l.disk) (λ bytes. length bytes ≡ l.gate + 1);
  telling : is_some (g.D.Disk.told l.disk) ≡ is_some (g.D.Disk.told l.fn.disk);
  faults : (g.D.Disk.counts l.fn.disk).faults ≤ (g.D.Disk.counts l.disk).faults;
  calls : RoseBy (4 * l.size-index) (g.D.Disk.counts l.fn.disk).calls (g.D.Disk.counts l.disk).calls;
  out_of_memory : (g.D.Disk.counts l.fn.disk).out_of_memory ≤ (g.D.Disk.counts l.disk).out_of_memory;
  none : l.size-index ≡ 0 → l.disk ≡ l.fn.disk;
  written : (x : List ℕ) → g.D.Disk.told l.fn.disk ≡ Some x → (list : List Entry) (parts : List (List Entry)) → IsSettled (g.D.Disk.told l.fn.disk) (g.D.Disk.may_leave l.fn.disk) l.fn.gate list
      → AreNext list parts → ArePieces parts l.staged.bytes.items l.staged.sizes.items
      → HasWritten g.D.Disk.moment g.D.Disk.left_since g.D.Disk.may_leave g.D.Disk.told l.fn.disk l.disk list parts l.gate l.rest (drop l.size-index l.staged.sizes.items);
}
