-- A leaf that is cut at a key in it, and a leaf of one key's own.
use Rattle.std.proofs.Common.{◌≡◌, ◌≤◌, ◌<◌, ◌+◌, ◌⊎◌, ℕ, Bool, true, false, not, cond, ◌&&◌, List, [], ◌∷◌, ◌++◌, length, take, drop, refl, sym, ap, ◌∙◌, arith, inl, inr}
use Rattle.std.specs.Ordering.{nat_cmp, is_lt, is_gt, is_eq, ordering_then}
use Rattle.std.specs.declared.cmp.Ordering.{Ordering}
use Rattle.std.specs.declared.cmp.Ordering.TheVariants.{Less, Equal, Greater}
use Rattle.std.proofs.lemmas.Bool.{and_parts, and_from, cases_order}
use Rattle.std.proofs.lemmas.Cmp.{nat_list_cmp_total}
use Rattle.std.proofs.lemmas.Map.Lookups.{exact_bytes}
use Rattle.std.proofs.lemmas.List.{drop-drop, drop_at, length-take-le, length-append, length-drop}
use Rattle.subscript_keys.proofs.Orders.{nat_cmp-eq, nat_cmp-gt}
use Rattle.plain_orders.specs.PairMap.{Map, key_cmp, is_in, within}
use Rattle.span_index.proofs.KeyLemmas.{is_lt-is_gt, not_above_itself, not_above_along, not_true}
use Rattle.block_tree.specs.declared.leaf.Leaf.{Leaf}
use Rattle.block_tree.specs.declared.limits.TheConstants.{EDGE_LIMIT, LEAF_ROOM, PAIR_LIMIT}
use Rattle.block_tree.specs.TreeWords.{size}
use Rattle.block_tree.specs.LeafWords.{begin_of, first_bytes, span_from, cut_at, is_other, others, IsLeaf, AreLeaves, IsAlone, IsPlace, IsRoom}
use Rattle.block_tree.proofs.LeafLemmas.{leaf_there, leaves_from, rest_changed, begin_kept}
use Rattle.block_tree.proofs.SizeLemmas.{narrower, part}

pub less_from : (o : Ordering) → is_lt o ≡ true → o ≡ Less
less_from Less e = refl
less_from Equal e = absurd (cc)
less_from Greater e = absurd (cc)

-- a span that ends sooner takes no more
pub sooner : (m : Map) (lo key hi : List ℕ) → key_cmp key hi ≡ Less
    → size (within m (record { lo = lo; hi = key })) ≤ size (within m (record { lo = lo; hi = hi }))
sooner m lo key hi h = narrower _ _ wider m
  where
    wider : (p : List ℕ × List ℕ) → (not (is_gt (key_cmp lo p.0)) && is_lt (key_cmp p.0 key)) ≡ true
        → (not (is_gt (key_cmp lo p.0)) && is_lt (key_cmp p.0 hi)) ≡ true
    wider p e =
        let t = and_parts (not (is_gt (key_cmp lo p.0))) (is_lt (key_cmp p.0 key)) e in
        and_from _ _ t.0 (ap is_lt (nat_list_cmp_total.trans p.0 key hi (less_from (key_cmp p.0 key) t.1) h))

-- and one that begins later
pub later : (m : Map) (lo key hi : List ℕ) → key_cmp lo key ≡ Less
    → size (within m (record { lo = key; hi = hi })) ≤ size (within m (record { lo = lo; hi = hi }))
later m lo key hi h = narrower _ _ wider m
  where
    wider : (p : List ℕ × List ℕ) → (not (is_gt (key_cmp key p.0)) && is_lt (key_cmp p.0 hi)) ≡ true
        → (not (is_gt (key_cmp lo p.0)) && is_lt (key_cmp p.0 hi)) ≡ true
    wider p e =
        let t = and_parts (not (is_gt (key_cmp key p.0))) (is_lt (key_cmp p.0 hi)) e in
        and_from _ _ (ap not (not_above_along lo key p.0 (ap is_gt h) (not_true (is_gt (key_cmp key p.0)) t.0))) t.1

-- a leaf that is cut
pub cut_leaves : (m : Map) (ls : List Leaf) (at : ℕ) (key : List ℕ) → at < length ls → AreLeaves m ls → key_cmp (begin_of (drop at ls)) key ≡ Less
    → key_cmp key (begin_of (drop (at + 1) ls)) ≡ Less → length key ≤ EDGE_LIMIT → AreLeaves m (cut_at ls at key)
cut_leaves m ls at key h a below above short =
    let leaf = leaf_there m ls at h a in
    let lo = begin_of (drop at ls) in
    let hi = begin_of (drop (at + 1) ls) in
    let bytes = first_bytes (drop at ls) in
    let first : IsLeaf m (record { lo = lo; bytes = bytes }) key = record {
      full = below;
      short = leaf.short;
      counted = omega (arith, leaf.counted, sooner m lo key hi above);
      fits = leaf.fits;
    } in
    let second : IsLeaf m (record { lo = key; bytes = bytes }) hi = record {
      full = above;
      short = short;
      counted = omega (arith, leaf.counted, later m lo key hi below);
      fits = leaf.fits;
    } in
    rest_changed m ls at (record { lo = lo; bytes = bytes } ∷ record { lo = key; bytes = bytes } ∷ drop (at + 1) ls) a refl (first, (second, leaves_from m ls (at + 1) a))

pub cut_begins : (ls : List Leaf) (at : ℕ) (key : List ℕ) → begin_of (cut_at ls at key) ≡ begin_of ls
cut_begins ls at key = begin_kept ls at (record { lo = begin_of (drop at ls); bytes = first_bytes (drop at ls) } ∷ record { lo = key; bytes = first_bytes (drop at ls) } ∷ drop (at + 1) ls) refl

module _ (ls : List Leaf) (at : ℕ) (key : List ℕ) (h : at < length ls) where
  abbrev first : Leaf
  first = record { lo = begin_of (drop at ls); bytes = first_bytes (drop at ls) }

  abbrev second : Leaf
  second = record { lo = key; bytes = first_bytes (drop at ls) }

  from_there : drop at (cut_at ls at key) ≡ first ∷ second ∷ drop (at + 1) ls
  from_there = drop_at (take at ls) (first ∷ second ∷ drop (at + 1) ls) at (length-take-le at ls (omega arith))

  from_next : drop (at + 1) (cut_at ls at key) ≡ second ∷ drop (at + 1) ls
  from_next = sym (drop-drop 1 at (cut_at ls at key)) ∙ ap (drop 1) from_there

  from_behind : drop (at + 1 + 1) (cut_at ls at key) ≡ drop (at + 1) ls
  from_behind = sym (drop-drop 1 (at + 1) (cut_at ls at key)) ∙ ap (drop 1) from_next

  -- the cut leaf begins where it did, and ends at the key
  pub cut_first : begin_of (drop at (cut_at ls at key)) ≡ begin_of (drop at ls)
  cut_first = ap begin_of from_there

  pub cut_next : begin_of (drop (at + 1) (cut_at ls at key)) ≡ key
  cut_next = ap begin_of from_next

  pub cut_behind : begin_of (drop (at + 1 + 1) (cut_at ls at key)) ≡ begin_of (drop (at + 1) ls)
  cut_behind = ap begin_of from_behind

  pub cut_length : length (cut_at ls at key) ≡ length ls + 1
  cut_length =
      let front = length-take-le at ls (omega arith) in
      let all = length-append (take at ls) (first ∷ second ∷ drop (at + 1) ls) in
      let rest = length-drop (at + 1) ls in
      omega (arith, front, all, rest)

pub holds_parts : (key : List ℕ) (ls : List Leaf) (at : ℕ) → IsPlace key ls at
    → (not (is_gt (key_cmp (begin_of (drop at ls)) key)) ≡ true) × (is_lt (key_cmp key (begin_of (drop (at + 1) ls))) ≡ true)
holds_parts key ls at p = and_parts (not (is_gt (key_cmp (begin_of (drop at ls)) key))) (is_lt (key_cmp key (begin_of (drop (at + 1) ls)))) p.holds

-- the key is before the end of its leaf
pub before_end : (key : List ℕ) (ls : List Leaf) (at : ℕ) → IsPlace key ls at → key_cmp key (begin_of (drop (at + 1) ls)) ≡ Less
before_end key ls at p = less_from (key_cmp key (begin_of (drop (at + 1) ls))) (holds_parts key ls at p).1

-- the leaf that begins at a key holds it
pub place_begun : (key : List ℕ) (ls : List Leaf) (at : ℕ) → IsPlace key ls at → IsPlace key (cut_at ls at key) (at + 1)
place_begun key ls at p =
    let from : not (is_gt (key_cmp (begin_of (drop (at + 1) (cut_at ls at key))) key)) ≡ true = rw (cut_next ls at key p.within) (ap not (not_above_itself key)) in
    let to : is_lt (key_cmp key (begin_of (drop (at + 1 + 1) (cut_at ls at key)))) ≡ true = rw (cut_behind ls at key p.within) (holds_parts key ls at p).1 in
    record { within = omega (arith, cut_length ls at key p.within, p.within); holds = and_from _ _ from to }

-- the bytes behind a key are above it
pub behind_above : (key : List ℕ) → key_cmp key (key ++ 0 ∷ []) ≡ Less
behind_above [] = refl
behind_above (a ∷ key) = rw (nat_cmp-eq a a refl) (behind_above key)

-- the leaf that ends behind a key holds it
pub place_ended : (key : List ℕ) (ls : List Leaf) (at : ℕ) → IsPlace key ls at → IsPlace key (cut_at ls at (key ++ 0 ∷ [])) at
place_ended key ls at p =
    let from : not (is_gt (key_cmp (begin_of (drop at (cut_at ls at (key ++ 0 ∷ [])))) key)) ≡ true = rw (cut_first ls at (key ++ 0 ∷ []) p.within) (holds_parts key ls at p).0 in
    let to : is_lt (key_cmp key (begin_of (drop (at + 1) (cut_at ls at (key ++ 0 ∷ []))))) ≡ true = rw (cut_next ls at (key ++ 0 ∷ []) p.within) (ap is_lt (behind_above key)) in
    record { within = omega (arith, cut_length ls at (key ++ 0 ∷ []) p.within, p.within); holds = and_from _ _ from to }

pub alone_ended : (key : List ℕ) (ls : List Leaf) (at : ℕ) → IsPlace key ls at → begin_of (drop at ls) ≡ key → IsAlone key (cut_at ls at (key ++ 0 ∷ [])) at
alone_ended key ls at p e = record {
  begins = cut_first ls at (key ++ 0 ∷ []) p.within ∙ e;
  ends = rw (cut_next ls at (key ++ 0 ∷ []) p.within) (not_above_itself (key ++ 0 ∷ []));
}

-- no byte string stands between a key and the bytes behind it
pub only_it : (key other : List ℕ) → is_gt (key_cmp key other) ≡ false → is_lt (key_cmp other (key ++ 0 ∷ [])) ≡ true → is_eq (key_cmp key other) ≡ true
only_it [] [] h k = refl
only_it [] (b ∷ bs) h k = absurd (go (cases_order b 0) k)
  where
    none : (bs : List ℕ) → is_lt (key_cmp bs []) ≡ true → ⊥
    none [] e = cc
    none (c ∷ cs) e = cc

    go : (b ≡ 0) ⊎ (b < 0) ⊎ (0 < b) → is_lt (ordering_then (nat_cmp b 0) (key_cmp bs [])) ≡ true → ⊥
    go (inl same) k = none bs (rw (nat_cmp-eq b 0 same) at k)
    go (inr (inl less)) k = omega arith
    go (inr (inr above)) k = let r = rw (nat_cmp-gt b 0 above) at k in cc
only_it (a ∷ ks) [] h k = absurd (cc)
only_it (a ∷ ks) (b ∷ bs) h k = go (cases_order a b) h k (only_it ks bs)
  where
    go : (a ≡ b) ⊎ (a < b) ⊎ (b < a) → is_gt (ordering_then (nat_cmp a b) (key_cmp ks bs)) ≡ false
        → is_lt (ordering_then (nat_cmp b a) (key_cmp bs (ks ++ 0 ∷ []))) ≡ true
        → (is_gt (key_cmp ks bs) ≡ false → is_lt (key_cmp bs (ks ++ 0 ∷ [])) ≡ true → is_eq (key_cmp ks bs) ≡ true) → is_eq (ordering_then (nat_cmp a b) (key_cmp ks bs)) ≡ true
    go (inl same) h k ih = rw (nat_cmp-eq a b same) (ih (rw (nat_cmp-eq a b same) at h) (rw (nat_cmp-eq b a (sym same)) at k))
    go (inr (inl less)) h k ih = let r = rw (nat_cmp-gt b a less) at k in absurd (cc)
    go (inr (inr above)) h k ih = let r = rw (nat_cmp-gt a b above) at h in absurd (cc)

none_other : (key lo hi : List ℕ) (m : Map) → lo ≡ key → is_gt (key_cmp hi (key ++ 0 ∷ [])) ≡ false → others (within m (record { lo = lo; hi = hi })) key ≡ []
none_other key lo hi [] e k = refl
none_other key lo hi (p ∷ ps) e k = go (is_in (record { lo = lo; hi = hi }) p) refl (none_other key lo hi ps e k)
  where
    go : (b : Bool) → is_in (record { lo = lo; hi = hi }) p ≡ b → others (within ps (record { lo = lo; hi = hi })) key ≡ []
        → others (cond b (p ∷ within ps (record { lo = lo; hi = hi })) (within ps (record { lo = lo; hi = hi }))) key ≡ []
    go false t ih = ih
    go true t ih =
        let parts = and_parts (not (is_gt (key_cmp lo p.0))) (is_lt (key_cmp p.0 hi)) t in
        let from : is_gt (key_cmp key p.0) ≡ false = ap (λ x. is_gt (key_cmp x p.0)) (sym e) ∙ not_true (is_gt (key_cmp lo p.0)) parts.0 in
        let to : is_lt (key_cmp p.0 (key ++ 0 ∷ [])) ≡ true = before parts.1 in
        rw (only_it key p.0 from to) ih
      where
        before : is_lt (key_cmp p.0 hi) ≡ true → is_lt (key_cmp p.0 (key ++ 0 ∷ [])) ≡ true
        before below = is_lt-is_gt p.0 (key ++ 0 ∷ []) ∙ by (is_gt (key_cmp (key ++ 0 ∷ []) p.0)) refl
          where
            by : (b : Bool) → is_gt (key_cmp (key ++ 0 ∷ []) p.0) ≡ b → b ≡ true
            by true x = refl
            by false x = let up = not_above_along hi (key ++ 0 ∷ []) p.0 k x in absurd (let t = sym (is_lt-is_gt p.0 hi) ∙ below in cc)

-- so a leaf of a key's own has room for its pair
pub room_alone : (m : Map) (key : List ℕ) (needed : ℕ) (ls : List Leaf) (at : ℕ) → IsPlace key ls at → IsAlone key ls at → needed ≤ PAIR_LIMIT
    → IsRoom m key needed ls (record { at = at; bytes = needed })
room_alone m key needed ls at p a h = record {
  place = p;
  counted = rw (none_other key (begin_of (drop at ls)) (begin_of (drop (at + 1) ls)) m a.begins a.ends) (omega arith);
  fits = omega (arith, h);
}

-- a leaf that holds the key, and where so many bytes more fit
pub room_there : (m : Map) (key : List ℕ) (needed bytes : ℕ) (ls : List Leaf) (at : ℕ) → AreLeaves m ls → IsPlace key ls at
    → bytes ≡ first_bytes (drop at ls) + needed → bytes ≤ LEAF_ROOM → IsRoom m key needed ls (record { at = at; bytes = bytes })
room_there m key needed bytes ls at a p e h =
    let leaf = leaf_there m ls at p.within a in
    record {
      place = p;
      counted = omega (arith, leaf.counted, e, part (is_other key) (within m (span_from ls at (at + 1))));
      fits = h;
    }

level : (lo key : List ℕ) → not (is_gt (key_cmp lo key)) ≡ true → is_lt (key_cmp lo key) ≡ false → (o : Ordering) → key_cmp lo key ≡ o → o ≡ Equal
level lo key h k Less e = absurd (let t = ap is_lt e in cc)
level lo key h k Equal e = refl
level lo key h k Greater e = absurd (let t = ap (λ o. not (is_gt o)) e in cc)

-- a leaf that holds a key and doesn't begin before it begins at it
pub begins_there : (key : List ℕ) (ls : List Leaf) (at : ℕ) → IsPlace key ls at → is_lt (key_cmp (begin_of (drop at ls)) key) ≡ false
    → begin_of (drop at ls) ≡ key
begins_there key ls at p h =
    let lo = begin_of (drop at ls) in
    exact_bytes lo key (level lo key (holds_parts key ls at p).0 h (key_cmp lo key) refl)

-- and where it doesn't end behind the bytes behind the key, no other is in it
pub alone_there : (key : List ℕ) (ls : List Leaf) (at : ℕ) → begin_of (drop at ls) ≡ key
    → is_lt (key_cmp (key ++ 0 ∷ []) (begin_of (drop (at + 1) ls))) ≡ false → IsAlone key ls at
alone_there key ls at e h = record { begins = e; ends = sym (is_lt-is_gt (key ++ 0 ∷ []) (begin_of (drop (at + 1) ls))) ∙ h }
