use Rattle.std.proofs.Common.{◌≡◌, ◌++◌, drop, take}
use Rattle.std.specs.List.{AllByRecursion}
use Rattle.subscript_keys.specs.Decimal.{BeginsWith}
use Rattle.subscript_keys.specs.Key.{HasForm}
use Rattle.global_text.specs.Nodes.{more_subs_text, HasBytes}
use Rattle.global_text.proofs.sub_printer.put_more_subs.Given as goal

abbrev pub invariant-loop-sub : goal.invariant-loop-sub
invariant-loop-sub l = record {
  all : l.to.items ++ more_subs_text (drop l.sub-index l.subs) ≡ l.initial.to.items ++ more_subs_text l.subs;
  left : AllByRecursion HasForm (drop l.sub-index l.subs);
  front : BeginsWith l.to.items l.initial.to.items;
  bytes : AllByRecursion HasBytes (take l.sub-index l.subs);
}
