-- Maps of pairs whose keys are those of nodes.
use Rattle.std.specs.Prelude.{◌≡◌, ◌↔◌, true, List}
use Rattle.std.specs.List.{AllByRecursion}
use Rattle.subscript_keys.specs.declared.node.Node.{Node}
use Rattle.subscript_keys.specs.Key.{key_of, IsKey, IsNode}
use Rattle.subscript_keys.specs.NodeOrder.{IsAtOrBelow}
use Rattle.plain_orders.specs.declared.entry.Entry.{Entry}
use Rattle.plain_orders.specs.PairMap.{Map, is_under}
use Rattle.plain_orders.specs.Fold.{fold}
use Rattle.plain_orders.specs.Ordered.{IsOrdered}

-- each key of the map is a node's
abbrev pub HasKeys : Map → Type 0
HasKeys m = AllByRecursion (λ p. IsKey p.0) m

-- the map that an ordered list makes has nodes' keys alone
abbrev pub OrderHasKeys : Type 0
OrderHasKeys = (es : List Entry) → IsOrdered es → HasKeys (fold es).pairs

-- the key of a node begins with another's exactly where it is that node or one of its descendants
abbrev pub UnderIsAtOrBelow : Type 0
UnderIsAtOrBelow = (a b : Node) → IsNode a → IsNode b → (is_under (key_of a) (key_of b) ≡ true) ↔ IsAtOrBelow a b
