-- The order of nodes: names by bytes, then the subscripts from the left, a proper prefix first.
use Rattle.std.specs.Prelude.{◌≡◌, List, ◌++◌}
use Rattle.std.specs.Ordering.{nat_cmp, int_cmp, ordering_then}
use Rattle.std.specs.Cmp.Lexicographic.{slice_cmp}
use Rattle.std.specs.declared.cmp.Ordering.{Ordering}
use Rattle.std.specs.declared.cmp.Ordering.TheVariants.{Less, Greater}
use Rattle.subscript_keys.specs.declared.sub.Sub.{Sub}
use Rattle.subscript_keys.specs.declared.sub.Sub.TheVariants.{Num, Text}
use Rattle.subscript_keys.specs.declared.node.Node.{Node}
use Rattle.subscript_keys.specs.Decimal.{scaled}

-- numbers before texts and by value, as whole numbers after multiplication by 10 to the power DIGIT_LIMIT; texts by bytes
abbrev pub sub_cmp : Sub → Sub → Ordering
sub_cmp (Num a) (Num b) = int_cmp (scaled a) (scaled b)
sub_cmp (Num a) (Text t) = Less
sub_cmp (Text s) (Num b) = Greater
sub_cmp (Text s) (Text t) = slice_cmp nat_cmp s t

-- names by bytes, then subscripts from the left; a proper prefix stands first
abbrev pub node_cmp : Node → Node → Ordering
node_cmp a b = ordering_then (slice_cmp nat_cmp a.name b.name) (slice_cmp sub_cmp a.subs b.subs)

-- a stands before b
abbrev pub IsBefore : Node → Node → Type 0
IsBefore a b = node_cmp a b ≡ Less

-- the second node is the first or one of its descendants: the same name and further subscripts
abbrev pub IsAtOrBelow : Node → Node → Type 0
IsAtOrBelow a b = (more : List Sub) × (b.name ≡ a.name) × (b.subs ≡ a.subs ++ more)
