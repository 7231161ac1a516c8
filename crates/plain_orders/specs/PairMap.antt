-- The map of pairs: key bytes and value bytes, rising by key bytes.
use Rattle.std.specs.Prelude.{◌≡◌, ℕ, Bool, ◌&&◌, not, List, [], ◌∷◌, Option, filter, nat_eq, nat_lt, length}
use Rattle.std.specs.List.{starts_with}
use Rattle.std.specs.Ordering.{nat_cmp, is_lt, is_gt}
use Rattle.std.specs.declared.cmp.Ordering.{Ordering}
use Rattle.std.specs.declared.cmp.Ordering.TheVariants.{Less}
use Rattle.std.specs.Cmp.Lexicographic.{slice_cmp}
use Rattle.subscript_keys.specs.declared.span.Span.{Span}
use Rattle.std.specs.Map.{lookup, remove_entry}
use Rattle.std.specs.BTreeMap.{insert_entry, is_at}

abbrev pub Map : Type 0
Map = List (List ℕ × List ℕ)

-- the order of keys: by bytes
abbrev pub key_cmp : List ℕ → List ℕ → Ordering
key_cmp = slice_cmp nat_cmp

-- whether a key is that of the node or of one of its descendants: the node's key is a front of it
abbrev pub is_under : List ℕ → List ℕ → Bool
is_under node key = starts_with nat_eq key node

-- whether a key is that of one of the node's descendants
abbrev pub is_below : List ℕ → List ℕ → Bool
is_below node key = is_under node key && nat_lt (length node) (length key)

-- the value at a key
abbrev pub value_at : Map → List ℕ → Option (List ℕ)
value_at m key = lookup (is_at (key_cmp key)) m

-- with this pair in place of any other at the key
abbrev pub put : Map → List ℕ → List ℕ → Map
put m key value = insert_entry key_cmp m key value

-- without the pair at the key
abbrev pub remove : Map → List ℕ → Map
remove m key = remove_entry (is_at (key_cmp key)) m

-- whether a pair is not at the node and not below it
abbrev pub is_outside : List ℕ → List ℕ × List ℕ → Bool
is_outside node p = not (is_under node p.0)

-- without the pairs at the node and below it
abbrev pub remove_under : Map → List ℕ → Map
remove_under m node = filter (is_outside node) m

-- whether a pair is at the node or below it
abbrev pub is_inside : List ℕ → List ℕ × List ℕ → Bool
is_inside node p = is_under node p.0

-- the pairs at the node and below it
abbrev pub pairs_under : Map → List ℕ → Map
pairs_under m node = filter (is_inside node) m

-- with all these pairs
abbrev pub put_all : Map → Map → Map
put_all m [] = m
put_all m (p ∷ ps) = put_all (put m p.0 p.1) ps

-- whether a pair is in a span: not before its lower end, and before its upper
abbrev pub is_in : Span → List ℕ × List ℕ → Bool
is_in span p = not (is_gt (key_cmp span.lo p.0)) && is_lt (key_cmp p.0 span.hi)

-- the pairs in a span
abbrev pub within : Map → Span → Map
within m span = filter (is_in span) m

-- a key is before the first of a map
abbrev pub IsBeforeAll : List ℕ → Map → Type 0
IsBeforeAll key [] = Unit {0}
IsBeforeAll key (p ∷ ps) = key_cmp key p.0 ≡ Less

-- the keys rise strictly
abbrev pub IsRising : Map → Type 0
IsRising [] = Unit {0}
IsRising (p ∷ ps) = IsBeforeAll p.0 ps × IsRising ps
