-- Leaves whose edges rise, and what stays of them where one is cut or some are made one.
use Rattle.std.proofs.Common.{◌≡◌, ◌≤◌, ◌<◌, ◌+◌, ◌-◌, ◌^◌, min, slice_set, ℕ, zero, suc, false, List, [], ◌∷◌, ◌++◌, length, take, drop, get_or, refl, sym, ap, subst, arith, add-one}
use Rattle.std.specs.List.{insert}
use Rattle.std.specs.Ordering.{is_gt}
use Rattle.std.specs.declared.cmp.Ordering.TheVariants.{Less}
use Rattle.std.proofs.lemmas.Cmp.{nat_list_cmp_total}
use Rattle.plain_orders.specs.PairMap.{Map, key_cmp, within}
use Rattle.span_index.proofs.KeyLemmas.{not_above_itself, not_above_along}
use Rattle.block_tree.specs.declared.leaf.Leaf.{Leaf}
use Rattle.block_tree.specs.declared.limits.TheConstants.{LEAF_ROOM}
use Rattle.block_tree.specs.TreeWords.{size}
use Rattle.block_tree.specs.LeafWords.{begin_of, first_bytes, span_from, united, cut_at, IsLeaf, AreLeaves, EdgesRise}

-- leaves' edges rise
pub edges_rise : (m : Map) (ls : List Leaf) → AreLeaves m ls → EdgesRise ls
edges_rise m [] a = tt
edges_rise m (l ∷ ls) a = (a.0.full, edges_rise m ls a.1)

-- the first leaf begins before all later ones, and before the end
pub from_first : (l : Leaf) (ls : List Leaf) (last : ℕ) → last ≤ length ls → EdgesRise (l ∷ ls) → key_cmp l.lo (begin_of (drop last ls)) ≡ Less
from_first l ls zero h r = r.0
from_first l [] (suc last) h r = absurd (omega arith)
from_first l (k ∷ ls) (suc last) h r = nat_list_cmp_total.trans l.lo k.lo (begin_of (drop last ls)) r.0 (from_first k ls last (omega arith) r.1)

-- some leaves begin before they end
pub span_full : (ls : List Leaf) (first last : ℕ) → first < last → last ≤ length ls → EdgesRise ls
    → key_cmp (begin_of (drop first ls)) (begin_of (drop last ls)) ≡ Less
span_full ls first zero h k r = absurd (omega arith)
span_full [] first (suc last) h k r = absurd (omega arith)
span_full (l ∷ ls) zero (suc last) h k r = from_first l ls last (omega arith) r
span_full (l ∷ ls) (suc first) (suc last) h k r = span_full ls first last (omega arith) (omega arith) r.1

-- later leaves begin later
pub begins_by : (ls : List Leaf) (at : ℕ) → EdgesRise ls → is_gt (key_cmp (begin_of ls) (begin_of (drop at ls))) ≡ false
begins_by ls zero r = not_above_itself (begin_of ls)
begins_by [] (suc at) r = not_above_itself (begin_of [])
begins_by (l ∷ ls) (suc at) r = not_above_along l.lo (begin_of ls) (begin_of (drop at ls)) (ap is_gt r.0) (begins_by ls at r.1)

-- where the leaf at a place begins
pub begin_get : (ls : List Leaf) (at : ℕ) (d : Leaf) → at < length ls → begin_of (drop at ls) ≡ (get_or ls at d).lo
begin_get [] at d h = absurd (omega arith)
begin_get (l ∷ ls) zero d h = refl
begin_get (l ∷ ls) (suc at) d h = begin_get ls at d (omega arith)

-- the leaf at a place
pub leaf_at : (m : Map) (ls : List Leaf) (at : ℕ) → at < length ls → AreLeaves m ls
    → IsLeaf m (record { lo = begin_of (drop at ls); bytes = first_bytes (drop at ls) }) (begin_of (drop (suc at) ls))
leaf_at m [] at h a = absurd (omega arith)
leaf_at m (l ∷ ls) zero h a = a.0
leaf_at m (l ∷ ls) (suc at) h a = leaf_at m ls at (omega arith) a.1

pub leaf_there : (m : Map) (ls : List Leaf) (at : ℕ) → at < length ls → AreLeaves m ls
    → IsLeaf m (record { lo = begin_of (drop at ls); bytes = first_bytes (drop at ls) }) (begin_of (drop (at + 1) ls))
leaf_there m ls at h a = rw add-one (leaf_at m ls at h a)

-- those from a place on
pub leaves_from : (m : Map) (ls : List Leaf) (at : ℕ) → AreLeaves m ls → AreLeaves m (drop at ls)
leaves_from m ls zero a = a
leaves_from m [] (suc at) a = a
leaves_from m (l ∷ ls) (suc at) a = leaves_from m ls at a.1

-- others behind a place, which begin where those began
pub begin_kept : (ls : List Leaf) (at : ℕ) (rest : List Leaf) → begin_of rest ≡ begin_of (drop at ls) → begin_of (take at ls ++ rest) ≡ begin_of ls
begin_kept ls zero rest e = e
begin_kept [] (suc at) rest e = e
begin_kept (l ∷ ls) (suc at) rest e = refl

pub rest_changed : (m : Map) (ls : List Leaf) (at : ℕ) (rest : List Leaf) → AreLeaves m ls → begin_of rest ≡ begin_of (drop at ls) → AreLeaves m rest
    → AreLeaves m (take at ls ++ rest)
rest_changed m ls zero rest a e r = r
rest_changed m [] (suc at) rest a e r = r
rest_changed m (l ∷ ls) (suc at) rest a e r = (subst (IsLeaf m l) (sym (begin_kept ls at rest e)) a.0, rest_changed m ls at rest a.1 e r)

-- some leaves made one, where their pairs fit one
pub united_leaves : (m : Map) (ls : List Leaf) (first last bytes : ℕ) → first < last → last ≤ length ls → AreLeaves m ls
    → size (within m (span_from ls first last)) ≤ bytes → bytes ≤ LEAF_ROOM → AreLeaves m (united ls first last bytes)
united_leaves m ls first last bytes h k a counted fits =
    let leaf = leaf_at m ls first (omega arith) a in
    let one : IsLeaf m (record { lo = begin_of (drop first ls); bytes = bytes }) (begin_of (drop last ls)) = record {
      full = span_full ls first last h k (edges_rise m ls a);
      short = leaf.short;
      counted = counted;
      fits = fits;
    } in
    rest_changed m ls first (record { lo = begin_of (drop first ls); bytes = bytes } ∷ drop last ls) a refl (one, leaves_from m ls last a)

pub united_begins : (ls : List Leaf) (first last bytes : ℕ) → begin_of (united ls first last bytes) ≡ begin_of ls
united_begins ls first last bytes = begin_kept ls first (record { lo = begin_of (drop first ls); bytes = bytes } ∷ drop last ls) refl

-- so many bytes in one leaf
pub counted_leaves : (m : Map) (ls : List Leaf) (at bytes : ℕ) → at < length ls → AreLeaves m ls → size (within m (span_from ls at (at + 1))) ≤ bytes
    → bytes ≤ LEAF_ROOM → AreLeaves m (united ls at (at + 1) bytes)
counted_leaves m ls at bytes h a counted fits = united_leaves m ls at (at + 1) bytes (omega arith) (omega arith) a counted fits

pub united_length : (ls : List Leaf) (at bytes : ℕ) → at < length ls → length (united ls at (at + 1) bytes) ≡ length ls
united_length [] at bytes h = absurd (omega arith)
united_length (l ∷ ls) zero bytes h = refl
united_length (l ∷ ls) (suc at) bytes h =
    let next : suc at + 1 ≡ suc (at + 1) = omega arith in
    rw next (ap suc (united_length ls at bytes (omega arith)))

-- the bytes of a leaf that are counted anew fit it as before
pub counts_anew : (m : Map) (ls : List Leaf) (at bytes : ℕ) → at < length ls → AreLeaves m ls
    → bytes ≡ min (size (within m (span_from ls at (at + 1)))) (2 ^ 64 - 1) → AreLeaves m (united ls at (at + 1) bytes)
counts_anew m ls at bytes h a e =
    let leaf = leaf_there m ls at h a in
    counted_leaves m ls at bytes h a (omega (arith, leaf.counted, leaf.fits)) (omega (arith, leaf.counted, leaf.fits))

pub leaf_full : (m : Map) (ls : List Leaf) (at : ℕ) → at < length ls → AreLeaves m ls → key_cmp (begin_of (drop at ls)) (begin_of (drop (at + 1) ls)) ≡ Less
leaf_full m ls at h a = (leaf_there m ls at h a).full

-- what is left of a leaf whose bytes are set
pub set_one : (ls : List Leaf) (at bytes : ℕ) → at < length ls
    → slice_set ls at (record { lo = begin_of (drop at ls); bytes = bytes }) ≡ united ls at (at + 1) bytes
set_one [] at bytes h = absurd (omega arith)
set_one (l ∷ ls) zero bytes h = refl
set_one (l ∷ ls) (suc at) bytes h =
    let next : suc at + 1 ≡ suc (at + 1) = omega arith in
    rw next (ap (λ k. l ∷ k) (set_one ls at bytes (omega arith)))

pub set_kept : (ls ks : List Leaf) (at : ℕ) (x : Leaf) → at < length ls → slice_set (take (at + 1) ls ++ ks) at x ≡ take at ls ++ x ∷ ks
set_kept [] ks at x h = absurd (omega arith)
set_kept (l ∷ ls) ks zero x h = refl
set_kept (l ∷ ls) ks (suc at) x h =
    let next : suc at + 1 ≡ suc (at + 1) = omega arith in
    rw next (ap (λ xs. l ∷ xs) (set_kept ls ks at x (omega arith)))

pub get_kept : (ls ks : List Leaf) (at : ℕ) (d : Leaf) → at < length ls → get_or (take (at + 1) ls ++ ks) at d ≡ get_or ls at d
get_kept [] ks at d h = absurd (omega arith)
get_kept (l ∷ ls) ks zero d h = refl
get_kept (l ∷ ls) ks (suc at) d h =
    let next : suc at + 1 ≡ suc (at + 1) = omega arith in
    rw next (get_kept ls ks at d (omega arith))

-- a leaf put behind a place is that place's leaf cut
pub inserted_is_cut : (ls : List Leaf) (at : ℕ) (key : List ℕ) (d : Leaf) → at < length ls
    → insert ls (at + 1) (record { lo = key; bytes = (get_or ls at d).bytes }) ≡ cut_at ls at key
inserted_is_cut [] at key d h = absurd (omega arith)
inserted_is_cut (l ∷ ls) zero key d h = refl
inserted_is_cut (l ∷ ls) (suc at) key d h =
    let next : suc at + 1 ≡ suc (at + 1) = omega arith in
    rw next (ap (λ xs. l ∷ xs) (inserted_is_cut ls at key d (omega arith)))
