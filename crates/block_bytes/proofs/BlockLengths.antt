-- How many bytes a run takes, and what fits behind counts of two bytes.
use Rattle.std.proofs.Common.{◌≡◌, ℕ, ◌+◌, ◌≤◌, List, [], ◌∷◌, ◌++◌, length, arith}
use Rattle.std.specs.List.{AllByRecursion}
use Rattle.std.proofs.lemmas.List.{length-append}
use Rattle.subscript_keys.specs.declared.pair.Pair.{Pair}
use Rattle.subscript_keys.specs.declared.run.Run.{Run}
use Rattle.field_bytes.specs.Fields.{u16_bytes, list_bytes}
use Rattle.field_bytes.proofs.FieldLengths as fields
use Rattle.block_bytes.specs.Blocks.{pair_bytes, pairs_bytes, span_bytes, block_bytes, HasShortLists, IsShortRun}

pub list_length : (xs : List ℕ) → length (list_bytes xs) ≡ 2 + length xs
list_length xs = fields.list_length xs

pub pair_length : (p : Pair) → length (pair_bytes p) ≡ length (list_bytes p.key) + length (list_bytes p.value)
unfolding pair_bytes
pair_length p = length-append (list_bytes p.key) (list_bytes p.value)

pub block_length : (run : Run) → length (block_bytes run) ≡ 3 + (length (list_bytes run.span.lo) + length (list_bytes run.span.hi) + length (pairs_bytes run.pairs))
unfolding block_bytes span_bytes
block_length run =
    let u = fields.u16_length (length run.pairs) in
    let a = length-append (list_bytes run.span.lo) (list_bytes run.span.hi) in
    let b = length-append (u16_bytes (length run.pairs)) (pairs_bytes run.pairs) in
    let c = length-append (list_bytes run.span.lo ++ list_bytes run.span.hi) (u16_bytes (length run.pairs) ++ pairs_bytes run.pairs) in
    omega (arith, a, b, c, u)

-- pairs that fit a block have short keys and values, and are few
pairs-short : (ps : List Pair) → length (pairs_bytes ps) ≤ 8192 → AllByRecursion HasShortLists ps
pairs-short [] h = tt
pairs-short (p ∷ ps) h =
    let whole = length-append (pair_bytes p) (pairs_bytes ps) in
    let pair = pair_length p in
    let key = list_length p.key in
    let value = list_length p.value in
    ((omega (arith, whole, pair, key, value), omega (arith, whole, pair, key, value)), pairs-short ps (omega (arith, whole)))

pairs-few : (ps : List Pair) → length ps ≤ length (pairs_bytes ps)
pairs-few [] = omega arith
pairs-few (p ∷ ps) =
    let whole = length-append (pair_bytes p) (pairs_bytes ps) in
    let pair = pair_length p in
    let key = list_length p.key in
    omega (arith, whole, pair, key, pairs-few ps)

-- a run that fits a block is short
pub short_run : (run : Run) → length (block_bytes run) ≤ 8192 → IsShortRun run
short_run run h =
    let whole = block_length run in
    let lo = list_length run.span.lo in
    let hi = list_length run.span.hi in
    let few = pairs-few run.pairs in
    record {
      ends = (omega (arith, whole, lo), omega (arith, whole, hi));
      few = omega (arith, whole, few);
      pairs = pairs-short run.pairs (omega (arith, whole));
    }
