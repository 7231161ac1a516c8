use Rattle.std.proofs.Common.{◌≡◌, ◌++◌, take}
use Rattle.plain_orders.specs.Ordered.{IsOrdered}
use Rattle.wire_tests.proofs.journals.goes_on.Given as goal

abbrev pub invariant-loop-entry : goal.invariant-loop-entry
invariant-loop-entry l = record {
  added : l.order ≡ l.fn.order ++ take l.entry-index l.entries;
  ordered : IsOrdered l.order;
}
