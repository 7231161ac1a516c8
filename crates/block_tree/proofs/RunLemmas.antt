-- The run of a leaf: its pairs, in their order, within its span, and the bytes of its block.
use Rattle.std.proofs.Common.{◌≡◌, ◌≤◌, ◌<◌, ◌+◌, ℕ, zero, suc, Bool, true, false, not, cond, List, [], ◌∷◌, length, map, drop, refl, ap, arith}
use Rattle.std.specs.List.{AllByRecursion}
use Rattle.std.specs.Ordering.{is_lt, is_gt}
use Rattle.std.specs.declared.cmp.Ordering.TheVariants.{Less}
use Rattle.std.proofs.lemmas.Bool.{and_parts, and_from}
use Rattle.std.proofs.lemmas.List.{length-append}
use Rattle.subscript_keys.specs.declared.span.Span.{Span}
use Rattle.subscript_keys.specs.declared.run.Run.{Run}
use Rattle.subscript_keys.specs.Span.{IsIn}
use Rattle.plain_orders.specs.PairMap.{Map, key_cmp, is_in, within, IsBeforeAll, IsRising}
use Rattle.plain_orders.proofs.Locality.{is_in_span}
use Rattle.end_words.specs.Runs.{contains, as_entry}
use Rattle.block_bytes.specs.Blocks.{pair_bytes, pairs_bytes, block_bytes, IsBlockRun, IsBeforePairs, PairsRise}
use Rattle.block_bytes.proofs.BlockLengths.{list_length, pair_length, block_length}
use Rattle.span_index.proofs.KeyLemmas.{not_true, below_along}
use Rattle.block_tree.specs.declared.leaf.Leaf.{Leaf}
use Rattle.block_tree.specs.declared.limits.TheConstants.{EDGE_LIMIT, WHOLE_ROOM}
use Rattle.block_tree.specs.TreeWords.{as_pair, end_of_keys, all_keys, FitsOneBlock, size}
use Rattle.block_tree.specs.LeafWords.{begin_of, span_from, AreLeaves}
use Rattle.block_tree.proofs.SpanTests.{part_rises}
use Rattle.block_tree.proofs.LeafLemmas.{leaf_there}
use Rattle.block_tree.proofs.SizeLemmas.{more, part}
use Rattle.block_tree.proofs.CutLemmas.{less_from}

-- pairs of a run, and back
pub pairs_back : (m : Map) → map as_entry (map as_pair m) ≡ m
pairs_back [] = refl
pairs_back (p ∷ ps) = ap (λ xs. p ∷ xs) (pairs_back ps)

before_pairs : (key : List ℕ) (m : Map) → IsBeforeAll key m → IsBeforePairs key (map as_pair m)
before_pairs key [] b = tt
before_pairs key (p ∷ ps) b = b

pairs_rise : (m : Map) → IsRising m → PairsRise (map as_pair m)
pairs_rise [] r = tt
pairs_rise (p ∷ ps) r = (before_pairs p.0 ps r.0, pairs_rise ps r.1)

pairs_within : (span : Span) (m : Map) → AllByRecursion (λ p. IsIn span.lo span.hi p.key) (map as_pair (within m span))
pairs_within span [] = tt
pairs_within span (p ∷ ps) = go (is_in span p) refl (pairs_within span ps)
  where
    go : (b : Bool) → is_in span p ≡ b → AllByRecursion (λ p. IsIn span.lo span.hi p.key) (map as_pair (within ps span))
        → AllByRecursion (λ p. IsIn span.lo span.hi p.key) (map as_pair (cond b (p ∷ within ps span) (within ps span)))
    go true e rest = (is_in_span span p e, rest)
    go false e rest = rest

-- a span that holds a key isn't empty
pub holds_full : (span : Span) (key : List ℕ) → contains span key ≡ true → key_cmp span.lo span.hi ≡ Less
holds_full span key e =
    let t = and_parts (not (is_gt (key_cmp span.lo key))) (is_lt (key_cmp key span.hi)) e in
    less_from (key_cmp span.lo span.hi) (below_along span.lo key span.hi (not_true (is_gt (key_cmp span.lo key)) t.0) t.1)

-- the pairs of a span have a block, where it isn't too large
pub run_has_block : (span : Span) (m : Map) → key_cmp span.lo span.hi ≡ Less → IsRising m
    → IsBlockRun (record { span = span; pairs = map as_pair (within m span) })
run_has_block span m h r = record {
  span = h;
  rising = pairs_rise (within m span) (part_rises (is_in span) m r);
  within = pairs_within span m;
}

pairs_size : (m : Map) → length (pairs_bytes (map as_pair m)) ≡ size m
pairs_size [] = refl
pairs_size (p ∷ ps) =
    let all = length-append (pair_bytes (as_pair p)) (pairs_bytes (map as_pair ps)) in
    let one = pair_length (as_pair p) in
    let key = list_length p.0 in
    let value = list_length p.1 in
    omega (arith, all, one, key, value, pairs_size ps, more p ps)

-- and it takes so many bytes
pub run_size : (span : Span) (m : Map) → length (block_bytes (record { span = span; pairs = map as_pair m })) ≡ 7 + length span.lo + length span.hi + size m
run_size span m =
    let run : Run = record { span = span; pairs = map as_pair m } in
    let all = block_length run in
    let lo = list_length span.lo in
    let hi = list_length span.hi in
    omega (arith, all, lo, hi, pairs_size m)

-- all pairs fit one block where they take as many bytes as it has behind its head
pub whole_fits : (m : Map) → FitsOneBlock m → size m ≤ WHOLE_ROOM
whole_fits m h = omega (arith, h, run_size all_keys m)

pub whole_is_short : (m : Map) → size m ≤ WHOLE_ROOM → 7 + length all_keys.lo + length all_keys.hi + size (within m all_keys) ≤ 8192
whole_is_short m h = omega (arith, h, part (is_in all_keys) m)

least : (key : List ℕ) → not (is_gt (key_cmp [] key)) ≡ true
least [] = refl
least (b ∷ bs) = refl

pub whole_holds : (key : List ℕ) → key_cmp key end_of_keys ≡ Less → contains all_keys key ≡ true
whole_holds key h = and_from _ _ (least key) (ap is_lt h)

edge_short : (m : Map) (ls : List Leaf) (at : ℕ) → AreLeaves m ls → length (begin_of (drop at ls)) ≤ EDGE_LIMIT
edge_short m [] zero a = omega arith
edge_short m [] (suc at) a = omega arith
edge_short m (l ∷ ls) zero a = a.0.short
edge_short m (l ∷ ls) (suc at) a = edge_short m ls at a.1

-- the pairs of a leaf fit a block
pub leaf_is_short : (m : Map) (ls : List Leaf) (at : ℕ) → at < length ls → AreLeaves m ls
    → 7 + length (begin_of (drop at ls)) + length (begin_of (drop (at + 1) ls)) + size (within m (span_from ls at (at + 1))) ≤ 8192
leaf_is_short m ls at h a =
    let leaf = leaf_there m ls at h a in
    omega (arith, leaf.short, leaf.counted, leaf.fits, edge_short m ls (at + 1) a)
