-- The bytes of runs, and which runs have a block.
use Rattle.std.specs.Prelude.{◌≡◌, ℕ, ◌^◌, ◌<◌, ◌≤◌, List, [], ◌∷◌, ◌++◌, length}
use Rattle.std.specs.List.{AllByRecursion}
use Rattle.std.specs.Ordering.{nat_cmp}
use Rattle.std.specs.Cmp.Lexicographic.{slice_cmp}
use Rattle.std.specs.declared.cmp.Ordering.TheVariants.{Less}
use Rattle.subscript_keys.specs.declared.pair.Pair.{Pair}
use Rattle.subscript_keys.specs.declared.span.Span.{Span}
use Rattle.subscript_keys.specs.declared.run.Run.{Run}
use Rattle.subscript_keys.specs.Span.{IsIn}
use Rattle.field_bytes.specs.Fields.{u16_bytes, list_bytes, IsShortList}

-- a pair: its key, its value
unfoldable pub pair_bytes : Pair → List ℕ
pair_bytes p = list_bytes p.key ++ list_bytes p.value

-- pairs one after another
abbrev pub pairs_bytes : List Pair → List ℕ
pairs_bytes [] = []
pairs_bytes (p ∷ ps) = pair_bytes p ++ pairs_bytes ps

-- a span: where it begins, where it ends
unfoldable pub span_bytes : Span → List ℕ
span_bytes span = list_bytes span.lo ++ list_bytes span.hi

-- a run: 01, its span, the number of its pairs, its pairs
unfoldable pub block_bytes : Run → List ℕ
block_bytes run = 1 ∷ span_bytes run.span ++ (u16_bytes (length run.pairs) ++ pairs_bytes run.pairs)

-- a pair whose key and value fit behind a count of two bytes
abbrev pub HasShortLists : Pair → Type 0
HasShortLists p = IsShortList p.key × IsShortList p.value

-- a span whose ends fit so
abbrev pub HasShortEnds : Span → Type 0
HasShortEnds span = IsShortList span.lo × IsShortList span.hi

-- a run whose lists, and how many its pairs are, fit behind counts of two bytes
pub record IsShortRun (run : Run) : Type 0 where
  pub ends : HasShortEnds run.span
  pub few : length run.pairs < 2 ^ 16
  pub pairs : AllByRecursion HasShortLists run.pairs

-- one key is before another
abbrev pub IsBefore : List ℕ → List ℕ → Type 0
IsBefore a b = slice_cmp nat_cmp a b ≡ Less

-- a key is before the first of some pairs
abbrev pub IsBeforePairs : List ℕ → List Pair → Type 0
IsBeforePairs key [] = Unit {0}
IsBeforePairs key (p ∷ ps) = IsBefore key p.key

-- the keys rise strictly
abbrev pub PairsRise : List Pair → Type 0
PairsRise [] = Unit {0}
PairsRise (p ∷ ps) = IsBeforePairs p.key ps × PairsRise ps

-- a run that has a block, where it isn't too large
pub record IsBlockRun (run : Run) : Type 0 where
  pub span : IsBefore run.span.lo run.span.hi
  pub rising : PairsRise run.pairs
  pub within : AllByRecursion (λ p. IsIn run.span.lo run.span.hi p.key) run.pairs

-- bytes are the block of a run
pub record IsBlockOf (run : Run) (bytes : List ℕ) : Type 0 where
  pub has_block : IsBlockRun run
  pub written : block_bytes run ≡ bytes
  pub limit : length bytes ≤ 8192

-- bytes are the block of some run
abbrev pub IsBlock : List ℕ → Type 0
IsBlock bytes = (run : Run) × IsBlockOf run bytes
