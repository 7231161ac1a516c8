-- Numbers by keys, and rows by running numbers.
use Rattle.std.specs.Prelude.{◌≡◌, ℕ, ◌<◌, Bool, false, not, ◌&&◌, nat_eq, if◌then◌else◌, List, [], ◌∷◌, Option, Some, None}
use Rattle.std.specs.List.{AllByRecursion, filter, list_any}
use Rattle.std.specs.List.Sorted.{IsStrictlySortedBy}
use Rattle.std.specs.Map.{keys_of, lookup, remove_entry}
use Rattle.std.specs.Option.{is_some, unwrap_or}
use Rattle.std.specs.BTreeMap.{is_at}
use Rattle.std.specs.Ordering.{is_eq, nat_cmp}
use Rattle.std.specs.declared.cmp.Ordering.{Ordering}
use Rattle.plain_orders.specs.PairMap.{is_under}
use Rattle.plain_orders.specs.Conflict.{names_overlap}

-- the numbers at a key
abbrev pub numbers_at : {K : Type 0} → (K → K → Ordering) → K → List (K × List ℕ) → List ℕ
numbers_at cmp k index = unwrap_or (lookup (is_at (cmp k)) index) []

-- the numbers at a key become these, and those at other keys stay
abbrev pub PutsAt : {K : Type 0} → (K → K → Ordering) → K → List ℕ → List (K × List ℕ) → List (K × List ℕ) → Type 0
PutsAt {K} cmp k numbers old new = (q : K) → numbers_at cmp q new ≡ (if is_eq (cmp k q) then numbers else numbers_at cmp q old)

-- another number
abbrev pub is_other : ℕ → ℕ → Bool
is_other number n = not (nat_eq n number)

-- the row with a number
abbrev pub row_at : {X : Type 0} → List (ℕ × X) → ℕ → Option X
row_at rows n = lookup (is_at (nat_cmp n)) rows

-- a number has a row
abbrev pub has_row : {X : Type 0} → List (ℕ × X) → ℕ → Bool
has_row rows n = is_some (row_at rows n)

-- at each key the numbers that have a row stay
abbrev pub KeepsRows : {K X : Type 0} → (K → K → Ordering) → List (ℕ × X) → List (K × List ℕ) → List (K × List ℕ) → Type 0
KeepsRows {K} cmp rows old new = (q : K) → numbers_at cmp q new ≡ filter (has_row rows) (numbers_at cmp q old)

-- the rows with these numbers are gone
abbrev pub without_rows : {X : Type 0} → List ℕ → List (ℕ × X) → List (ℕ × X)
without_rows [] rows = rows
without_rows (n ∷ ns) rows = without_rows ns (remove_entry (is_at (nat_cmp n)) rows)

-- a number passes at a name that begins with this one
abbrev pub passes_below : List ℕ → (ℕ → Bool) → List ℕ × List ℕ → Bool
passes_below name test e = is_under name e.0 && list_any test e.1

-- a number passes at a name with which this one begins
abbrev pub passes_above : List ℕ → (ℕ → Bool) → List ℕ × List ℕ → Bool
passes_above name test e = is_under e.0 name && list_any test e.1

-- a number passes at a name that overlaps this one
abbrev pub passes_beside : List ℕ → (ℕ → Bool) → List ℕ × List ℕ → Bool
passes_beside name test e = names_overlap name e.0 && list_any test e.1

-- the numbers of the rows rise
abbrev pub AreRising : {X : Type 0} → List (ℕ × X) → Type 0
AreRising rows = IsStrictlySortedBy nat_cmp (keys_of rows)

-- all rows have numbers below this one
abbrev pub IsNumberedBelow : {X : Type 0} → ℕ → List (ℕ × X) → Type 0
IsNumberedBelow next rows = AllByRecursion (λ n. n < next) (keys_of rows)

-- the numbers of the rows that pass
abbrev pub numbers_of : {X : Type 0} → (X → Bool) → List (ℕ × X) → List ℕ
numbers_of test rows = keys_of (filter (λ e. test e.1) rows)

-- what a test says of a row that may not be there
abbrev pub row_passes : {X : Type 0} → (X → Bool) → Option X → Bool
row_passes test None = false
row_passes test (Some row) = test row

-- the row with a number passes
abbrev pub passes_at : {X : Type 0} → (X → Bool) → List (ℕ × X) → ℕ → Bool
passes_at test rows n = row_passes test (row_at rows n)
