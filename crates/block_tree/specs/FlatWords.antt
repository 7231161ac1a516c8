-- Pairs that are cut into runs from their front.
use Rattle.std.specs.Prelude.{◌≡◌, ◌≤◌, ◌+◌, ◌++◌, ℕ, false, List, [], ◌∷◌, length, Option, Some, None}
use Rattle.std.specs.Borrow.{Bor}
use Rattle.std.specs.List.{AllByRecursion}
use Rattle.std.specs.Ordering.{is_gt}
use Rattle.subscript_keys.specs.declared.limits.TheConstants.{KEY_LIMIT, VALUE_LIMIT}
use Rattle.plain_orders.specs.PairMap.{Map, key_cmp, within}
use Rattle.block_tree.specs.TreeWords.{size, size_of}

-- a key and a value within their limits
pub record IsShort (p : List ℕ × List ℕ) : Type 0 where
  pub key : length p.0 ≤ KEY_LIMIT
  pub value : length p.1 ≤ VALUE_LIMIT

-- such pairs
abbrev pub AreShort : Map → Type 0
AreShort m = AllByRecursion IsShort m

-- how many bytes the pairs from one key up to another take
abbrev pub size_between : Map → List ℕ → List ℕ → ℕ
size_between m lo hi = size (within m (record { lo = lo; hi = hi }))

-- The last of the pairs that were walked over, with its bytes: the run that begins at a key holds at most so many bytes before it, and fits a block that ends at it.
pub record IsEdge (m rest : Map) (lo : List ℕ) (before : ℕ) (edge : List ℕ) (bytes : ℕ) : Type 0 where
  pub front : Map
  pub value : List ℕ
  pub walked : m ≡ front ++ (edge, value) ∷ rest
  pub from : is_gt (key_cmp lo edge) ≡ false
  pub its : bytes ≡ size_of (edge, value)
  pub counted : size_between m lo edge ≤ before
  pub fits : 7 + length lo + length edge + before ≤ 8192

-- Where a walk over pairs stands: at the first, or behind one.
abbrev pub StandsAt : Map → Map → List ℕ → ℕ → Option (Bor (List ℕ) × ℕ) → Type 0
StandsAt m rest lo before None = (m ≡ rest) × ((lo ≡ []) × (before ≡ 0))
StandsAt m rest lo before (Some last) = IsEdge m rest lo before last.0.now last.1
