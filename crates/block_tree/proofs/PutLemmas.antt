-- A pair put in place of any other at its key: the pairs of a span, the leaves, and all bytes.
use Rattle.std.proofs.Common.{◌≡◌, ◌+◌, ◌-◌, ℕ, zero, suc, Bool, true, false, not, cond, ◌&&◌, List, [], ◌∷◌, ◌++◌, length, take, drop, Option, Some, None, refl, sym, ap, subst, ◌∙◌, arith}
use Rattle.std.specs.Ordering.{is_lt, is_gt, match_ordering}
use Rattle.std.specs.declared.cmp.Ordering.{Ordering}
use Rattle.std.specs.declared.cmp.Ordering.TheVariants.{Less, Equal, Greater}
use Rattle.std.proofs.lemmas.Cmp.{nat_list_cmp_total}
use Rattle.std.proofs.lemmas.Map.Lookups.{exact_bytes}
use Rattle.subscript_keys.specs.declared.span.Span.{Span}
use Rattle.plain_orders.specs.PairMap.{Map, key_cmp, put, value_at, is_in, within, IsBeforeAll, IsRising}
use Rattle.end_words.specs.Runs.{contains}
use Rattle.span_index.proofs.KeyLemmas.{is_lt-is_gt, not_above_along, not_true}
use Rattle.block_tree.specs.declared.leaf.Leaf.{Leaf}
use Rattle.block_tree.specs.declared.room.Room.{Room}
use Rattle.block_tree.specs.TreeWords.{size, size_of, old_size}
use Rattle.block_tree.specs.LeafWords.{begin_of, span_from, united, others, IsLeaf, AreLeaves, IsRoom}
use Rattle.block_tree.specs.Removals.{found_with}
use Rattle.block_tree.proofs.SpanTests.{before_part, part_rises}
use Rattle.block_tree.proofs.LeafLemmas.{leaf_there, leaves_from, edges_rise, begins_by, begin_kept}
use Rattle.block_tree.proofs.SizeLemmas.{size_put, size_others, more}
use Rattle.block_tree.proofs.CutLemmas.{before_end, holds_parts}

put_first : (key value : List ℕ) (m : Map) → IsBeforeAll key m → put m key value ≡ (key, value) ∷ m
put_first key value [] b = refl
put_first key value (p ∷ ps) b = rw b refl

module _ (key value : List ℕ) (span : Span) where
  -- the pairs of a span that holds the key
  pub within_put : (m : Map) → contains span key ≡ true → IsRising m → within (put m key value) span ≡ put (within m span) key value
  within_put [] e r = rw e refl
  within_put (p ∷ ps) e r = go (key_cmp key p.0) refl (within_put ps e r.1)
    where
      kept : (b : Bool) → key_cmp key p.0 ≡ Greater → within (put ps key value) span ≡ put (within ps span) key value
          → cond b (p ∷ within (put ps key value) span) (within (put ps key value) span) ≡ put (cond b (p ∷ within ps span) (within ps span)) key value
      kept true h ih = rw h (ap (λ xs. p ∷ xs) ih)
      kept false h ih = ih

      go : (o : Ordering) → key_cmp key p.0 ≡ o → within (put ps key value) span ≡ put (within ps span) key value
          → within (match_ordering o ((key, value) ∷ p ∷ ps) ((p.0, value) ∷ ps) (p ∷ put ps key value)) span ≡ put (within (p ∷ ps) span) key value
      go Less h ih = rw e (sym (put_first key value (within (p ∷ ps) span) (before_part (is_in span) key (p ∷ ps) r h)))
      go Equal h ih =
          let here : contains span p.0 ≡ true = ap (contains span) (sym (exact_bytes key p.0 h)) ∙ e in
          rw (here, h) refl
      go Greater h ih = kept (is_in span p) h ih

  -- and of one that doesn't
  pub apart_put : (m : Map) → contains span key ≡ false → within (put m key value) span ≡ within m span
  apart_put [] e = rw e refl
  apart_put (p ∷ ps) e = go (key_cmp key p.0) refl (apart_put ps e)
    where
      go : (o : Ordering) → key_cmp key p.0 ≡ o → within (put ps key value) span ≡ within ps span
          → within (match_ordering o ((key, value) ∷ p ∷ ps) ((p.0, value) ∷ ps) (p ∷ put ps key value)) span ≡ within (p ∷ ps) span
      go Less h ih = rw e refl
      go Equal h ih =
          let here : contains span p.0 ≡ false = ap (contains span) (sym (exact_bytes key p.0 h)) ∙ e in
          rw here refl
      go Greater h ih = ap (λ xs. cond (is_in span p) (p ∷ xs) xs) ih

no_and : (b : Bool) → (b && false) ≡ false
no_and true = refl
no_and false = refl

module _ (m : Map) (key value : List ℕ) where
  stays : (l : Leaf) (hi : List ℕ) → contains (record { lo = l.lo; hi = hi }) key ≡ false → IsLeaf m l hi → IsLeaf (put m key value) l hi
  stays l hi e a = record {
    full = a.full;
    short = a.short;
    counted = rw (apart_put key value (record { lo = l.lo; hi = hi }) m e) a.counted;
    fits = a.fits;
  }

  -- leaves that begin behind the key
  later_leaves : (ls : List Leaf) → key_cmp key (begin_of ls) ≡ Less → AreLeaves m ls → AreLeaves (put m key value) ls
  later_leaves [] h a = tt
  later_leaves (l ∷ ls) h a =
      let out : contains (record { lo = l.lo; hi = begin_of ls }) key ≡ false = ap (λ b. not b && is_lt (key_cmp key (begin_of ls))) (sym (is_lt-is_gt key l.lo) ∙ ap is_lt h) in
      (stays l (begin_of ls) out a.0, later_leaves ls (nat_list_cmp_total.trans key l.lo (begin_of ls) h a.0.full) a.1)

  -- and those that end at the key or before it
  sooner_leaves : (ls : List Leaf) (at : ℕ) (rest : List Leaf) → AreLeaves m ls → is_gt (key_cmp (begin_of (drop at ls)) key) ≡ false
      → begin_of rest ≡ begin_of (drop at ls) → AreLeaves (put m key value) rest → AreLeaves (put m key value) (take at ls ++ rest)
  sooner_leaves ls zero rest a h e r = r
  sooner_leaves [] (suc at) rest a h e r = r
  sooner_leaves (l ∷ ls) (suc at) rest a h e r =
      let by : is_gt (key_cmp (begin_of ls) key) ≡ false = not_above_along (begin_of ls) (begin_of (drop at ls)) key (begins_by ls at (edges_rise m ls a.1)) h in
      let out : contains (record { lo = l.lo; hi = begin_of ls }) key ≡ false =
      ap (λ b. not (is_gt (key_cmp l.lo key)) && b) (is_lt-is_gt key (begin_of ls) ∙ by) ∙ no_and (not (is_gt (key_cmp l.lo key))) in
      (subst (IsLeaf (put m key value) l) (sym (begin_kept ls at rest e)) (stays l (begin_of ls) out a.0), sooner_leaves ls at rest a.1 h e r)

  -- leaves stay where the pair is put into one that has room for it
  pub put_leaves : (ls : List Leaf) (room : Room) → IsRising m → AreLeaves m ls → IsRoom m key (size_of (key, value)) ls room
      → AreLeaves (put m key value) (united ls room.at (room.at + 1) room.bytes)
  put_leaves ls room r a h =
      let at = room.at in
      let leaf = leaf_there m ls at h.place.within a in
      let span : Span = span_from ls at (at + 1) in
      let counted : size (within (put m key value) span) ≡ size (others (within m span) key) + size_of (key, value) =
      ap size (within_put key value span m h.place.holds r) ∙ size_put key value (within m span) (part_rises (is_in span) m r) in
      let one : IsLeaf (put m key value) (record { lo = begin_of (drop at ls); bytes = room.bytes }) (begin_of (drop (at + 1) ls)) = record {
        full = leaf.full;
        short = leaf.short;
        counted = omega (arith, counted, h.counted);
        fits = h.fits;
      } in
      sooner_leaves ls at (record { lo = begin_of (drop at ls); bytes = room.bytes } ∷ drop (at + 1) ls) a
      (not_true (is_gt (key_cmp (begin_of (drop at ls)) key)) (holds_parts key ls at h.place).0) refl
      (one, later_leaves (drop (at + 1) ls) (before_end key ls at h.place) (leaves_from m ls (at + 1) a))

-- and the count of all bytes
pub put_count : (m : Map) (key value : List ℕ) (bytes needed count : ℕ) (old : Option (List ℕ)) → IsRising m → bytes ≡ size m
    → needed ≡ size_of (key, value) → count ≡ bytes + needed → old ≡ value_at m key → count - old_size (length key) old ≡ size (put m key value)
put_count m key value bytes needed count old r e n s o = go old o
  where
    go : (v : Option (List ℕ)) → v ≡ value_at m key → count - old_size (length key) v ≡ size (put m key value)
    go None h =
        let all = ap (λ x. size (others m key) + size (found_with key x)) h ∙ size_others key m r in
        omega (arith, all, e, n, s, size_put key value m r)
    go (Some v) h =
        let all = ap (λ x. size (others m key) + size (found_with key x)) h ∙ size_others key m r in
        omega (arith, all, e, n, s, size_put key value m r, more (key, v) [])
