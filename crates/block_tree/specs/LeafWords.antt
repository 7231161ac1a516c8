-- Leaves: where each begins, and how many bytes its pairs take at most.
use Rattle.std.specs.Prelude.{◌≡◌, ℕ, ◌+◌, ◌<◌, ◌≤◌, Bool, true, false, not, List, [], ◌∷◌, ◌++◌, length, take, drop}
use Rattle.std.specs.List.{filter}
use Rattle.std.specs.Ordering.{is_gt}
use Rattle.std.specs.declared.cmp.Ordering.TheVariants.{Less}
use Rattle.std.specs.BTreeMap.{is_at}
use Rattle.subscript_keys.specs.declared.span.Span.{Span}
use Rattle.plain_orders.specs.PairMap.{Map, key_cmp, within}
use Rattle.end_words.specs.Runs.{contains}
use Rattle.block_tree.specs.declared.leaf.Leaf.{Leaf}
use Rattle.block_tree.specs.declared.room.Room.{Room}
use Rattle.block_tree.specs.declared.limits.TheConstants.{EDGE_LIMIT, LEAF_ROOM}
use Rattle.block_tree.specs.TreeWords.{end_of_keys, size}

-- where leaves begin
abbrev pub begin_of : List Leaf → List ℕ
begin_of [] = end_of_keys
begin_of (l ∷ ls) = l.lo

-- the bytes of the first
abbrev pub first_bytes : List Leaf → ℕ
first_bytes [] = 0
first_bytes (l ∷ ls) = l.bytes

-- the span of some of the leaves, from one up to one that is without
abbrev pub span_from : List Leaf → ℕ → ℕ → Span
span_from ls first last = record { lo = begin_of (drop first ls); hi = begin_of (drop last ls) }

-- one leaf in place of some, from one up to one that is without
abbrev pub united : List Leaf → ℕ → ℕ → ℕ → List Leaf
united ls first last bytes = take first ls ++ record { lo = begin_of (drop first ls); bytes = bytes } ∷ drop last ls

-- the leaf at a place cut at this key, with the same bytes for both parts
abbrev pub cut_at : List Leaf → ℕ → List ℕ → List Leaf
cut_at ls at key = take at ls ++ record { lo = begin_of (drop at ls); bytes = first_bytes (drop at ls) }
    ∷ record { lo = key; bytes = first_bytes (drop at ls) } ∷ drop (at + 1) ls

-- a leaf that ends before these bytes
pub record IsLeaf (m : Map) (l : Leaf) (hi : List ℕ) : Type 0 where
  pub full : key_cmp l.lo hi ≡ Less
  pub short : length l.lo ≤ EDGE_LIMIT
  pub counted : size (within m (record { lo = l.lo; hi = hi })) ≤ l.bytes
  pub fits : l.bytes ≤ LEAF_ROOM

-- leaves, each of which ends where the next begins
abbrev pub AreLeaves : Map → List Leaf → Type 0
AreLeaves m [] = Unit {0}
AreLeaves m (l ∷ ls) = IsLeaf m l (begin_of ls) × AreLeaves m ls

-- where leaves begin rises
abbrev pub EdgesRise : List Leaf → Type 0
EdgesRise [] = Unit {0}
EdgesRise (l ∷ ls) = (key_cmp l.lo (begin_of ls) ≡ Less) × EdgesRise ls

-- a key is in the leaf at a place
pub record IsPlace (key : List ℕ) (ls : List Leaf) (at : ℕ) : Type 0 where
  pub within : at < length ls
  pub holds : contains (span_from ls at (at + 1)) key ≡ true

-- the leaf at a place begins at the key, and no other key is in it
pub record IsAlone (key : List ℕ) (ls : List Leaf) (at : ℕ) : Type 0 where
  pub begins : begin_of (drop at ls) ≡ key
  pub ends : is_gt (key_cmp (begin_of (drop (at + 1) ls)) (key ++ 0 ∷ [])) ≡ false

-- a pair is not that of the key
abbrev pub is_other : List ℕ → List ℕ × List ℕ → Bool
is_other key p = not (is_at (key_cmp key) p.0)

-- the pairs but that of the key
abbrev pub others : Map → List ℕ → Map
others m key = filter (is_other key) m

-- a leaf that holds the key, and has room for a pair of this size at it: so many bytes are taken then
pub record IsRoom (m : Map) (key : List ℕ) (needed : ℕ) (ls : List Leaf) (room : Room) : Type 0 where
  pub place : IsPlace key ls room.at
  pub counted : size (others (within m (span_from ls room.at (room.at + 1))) key) + needed ≤ room.bytes
  pub fits : room.bytes ≤ LEAF_ROOM

-- a span is in the leaf at a place
pub record IsInLeaf (span : Span) (ls : List Leaf) (at : ℕ) : Type 0 where
  pub from : is_gt (key_cmp (begin_of (drop at ls)) span.lo) ≡ false
  pub to : is_gt (key_cmp span.hi (begin_of (drop (at + 1) ls))) ≡ false

-- the pairs of a leaf that the span is in take so many bytes less than was counted
abbrev pub AreFreed : Map → List Leaf → Span → ℕ → Type 0
AreFreed m ls span freed = (at : ℕ) → at < length ls → IsInLeaf span ls at → size (within m (span_from ls at (at + 1))) + freed ≤ first_bytes (drop at ls)

-- the pairs of the leaves, and how many bytes they take
pub record IsTree (m : Map) (ls : List Leaf) (bytes : ℕ) : Type 0 where
  pub leaves : AreLeaves m ls
  pub begins : begin_of ls ≡ []
  pub counted : bytes ≡ size m
