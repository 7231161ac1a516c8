-- The first key after some bytes is the first descendant after them, or there is none.
use Rattle.std.proofs.Common.{◌≡◌, ◌≢◌, ℕ, ◌<◌, List, [], ◌∷◌, refl, ap, sym, subst, ◌∙◌, Bool, true, false, length, nat_eq, nat_lt, ◌&&◌, if◌then◌else◌, arith, inl, inr, Option, Some, None, is_some, Bor}
use Rattle.std.specs.Option.{option_copied}
use Rattle.std.specs.declared.cmp.Ordering.{Ordering}
use Rattle.std.specs.declared.cmp.Ordering.TheVariants.{Less, Equal, Greater}
use Rattle.std.specs.declared.ops.Bound.TheVariants.{Excluded, Unbounded}
use Rattle.std.specs.Ordering.{nat_cmp, ordering_then, is_lt}
use Rattle.std.specs.List.{AllByRecursion, list_any}
use Rattle.std.specs.List.Sorted.{IsStrictlySortedBy}
use Rattle.std.specs.Map.{keys_of}
use Rattle.std.specs.BTreeMap.Range.{entries_between}
use Rattle.std.proofs.lemmas.Bool.{eqb-true, eq-eqb, and_parts, false≢true, cases_order, lt-ltb, ltb-true}
use Rattle.subscript_keys.proofs.Orders.{nat_cmp-eq, nat_cmp-gt}
use Rattle.plain_orders.specs.PairMap.{Map, key_cmp, is_under, is_below}
use Rattle.plain_orders.specs.Answers.{is_descendant, next_key}
use Rattle.plain_programs.specs.Search.{descendant_behind}

no_less : Greater ≡ Less → ⊥
no_less e = cc

-- a comparison that finds less finds it at once or after the first part is level
less-first : (a b : Ordering) → ordering_then a b ≡ Less → (a ≢ Greater) × (a ≡ Equal → b ≡ Less)
less-first Less b e = (λ g. cc, λ g. cc)
less-first Equal b e = (λ g. cc, λ g. e)
less-first Greater b e = (λ g. absurd (no_less e), λ g. cc)

level : (x y : ℕ) → nat_cmp x y ≢ Greater → nat_cmp y x ≢ Greater → x ≡ y
level x y h k = elim (cases_order x y) [
  | inl e ↦ e
  | inr o ↦ elim o [
    | inl less ↦ absurd (k (nat_cmp-gt y x less))
    | inr more ↦ absurd (h (nat_cmp-gt x y more))
  ]
]

-- what stands between two byte strings that begin with the node's key begins with it too
between : (n b p q : List ℕ) → is_under n b ≡ true → is_under n q ≡ true → key_cmp b p ≡ Less → key_cmp p q ≡ Less → is_under n p ≡ true
between [] b p q h k l m = refl
between (x ∷ n) [] p q h k l m = absurd (false≢true h)
between (x ∷ n) (y ∷ b) p [] h k l m = absurd (false≢true k)
between (x ∷ n) (y ∷ b) [] (z ∷ q) h k l m = absurd (no_less l)
between (x ∷ n) (y ∷ b) (w ∷ p) (z ∷ q) h k l m =
    let s = and_parts (nat_eq x y) (is_under n b) h in
    let t = and_parts (nat_eq x z) (is_under n q) k in
    let u = less-first (nat_cmp y w) (key_cmp b p) l in
    let v = less-first (nat_cmp w z) (key_cmp p q) m in
    let first : x ≡ y = eqb-true x y s.0 in
    let last : x ≡ z = eqb-true x z t.0 in
    let here : y ≡ w = level y w u.0 (λ g. v.0 (ap (nat_cmp w) (sym last ∙ first) ∙ g)) in
    let rest : is_under n p ≡ true = between n b p q s.1 t.1 (u.1 (nat_cmp-eq y w here)) (v.1 (nat_cmp-eq w z (sym here ∙ sym first ∙ last))) in
    ap (λ t. t && is_under n p) (eq-eqb x w (first ∙ here)) ∙ rest

-- a byte string that begins with the node's key and stands after another that does so is longer than the node's key
longer : (n b k : List ℕ) → is_under n b ≡ true → is_under n k ≡ true → key_cmp b k ≡ Less → length n < length k
longer [] [] [] h j l = cc
longer [] (y ∷ b) [] h j l = absurd (no_less l)
longer [] b (z ∷ k) h j l = omega arith
longer (x ∷ n) [] k h j l = absurd (false≢true h)
longer (x ∷ n) (y ∷ b) [] h j l = absurd (false≢true j)
longer (x ∷ n) (y ∷ b) (z ∷ k) h j l =
    let s = and_parts (nat_eq x y) (is_under n b) h in
    let t = and_parts (nat_eq x z) (is_under n k) j in
    let same : y ≡ z = sym (eqb-true x y s.0) ∙ eqb-true x z t.0 in
    let more = longer n b k s.1 t.1 ((less-first (nat_cmp y z) (key_cmp b k) l).1 (nat_cmp-eq y z same)) in
    omega arith

-- what the first of the keys after the bytes tells of the first descendant after them
abbrev Tells : List ℕ → Option (List ℕ) → Map → Type 0
Tells n o [] = o ≡ None
Tells n o (e ∷ es) = o ≡ (if is_under n e.0 then Some e.0 else None)

no_more : (a : Bool) (x y : Option (List ℕ)) → (if a && false then x else y) ≡ y
no_more true x y = refl
no_more false x y = refl

module _ (n b : List ℕ) (under : is_under n b ≡ true) where
  -- after a key that does not begin with the node's, no key does
  none_behind : (k : List ℕ) → is_under n k ≡ false → key_cmp b k ≡ Less → (m : Map) → AllByRecursion (λ q. key_cmp k q ≡ Less) (keys_of m) → descendant_behind m n b ≡ None
  none_behind k f l [] a = refl
  none_behind k f l (p ∷ ps) a = go (is_under n p.0) refl (none_behind k f l ps a.1)
    where
      go : (t : Bool) → is_under n p.0 ≡ t → descendant_behind ps n b ≡ None → descendant_behind (p ∷ ps) n b ≡ None
      go true e more = absurd (false≢true (sym f ∙ between n b k p.0 under e l a.0))
      go false e more = rw e more

  pub searched : (m : Map) → IsStrictlySortedBy key_cmp (keys_of m) → Tells n (descendant_behind m n b) (entries_between key_cmp (Excluded b) Unbounded m)
  unfolding IsStrictlySortedBy
  searched [] s = refl
  searched (p ∷ ps) s = go (key_cmp b p.0) refl (searched ps s.1)
    where
      here : (t : Bool) → is_under n p.0 ≡ t → key_cmp b p.0 ≡ Less → (if is_below n p.0 && true then Some p.0 else descendant_behind ps n b) ≡ (if is_under n p.0 then Some p.0 else None)
      here true e l =
          let more : nat_lt (length n) (length p.0) ≡ true = lt-ltb (length n) (length p.0) (longer n b p.0 under e l) in
          rw (e, more) refl
      here false e l = rw e (none_behind p.0 e l ps s.0)

      go : (o : Ordering) → key_cmp b p.0 ≡ o → Tells n (descendant_behind ps n b) (entries_between key_cmp (Excluded b) Unbounded ps) → Tells n (descendant_behind (p ∷ ps) n b) (entries_between key_cmp (Excluded b) Unbounded (p ∷ ps))
      go Less e more = rw e (here (is_under n p.0) refl e)
      go Equal e more = rw (e, no_more (is_below n p.0) (Some p.0) (descendant_behind ps n b)) more
      go Greater e more = rw (e, no_more (is_below n p.0) (Some p.0) (descendant_behind ps n b)) more

  -- so where a search by the order finds nothing, or a key that does not begin with the node's, there is none
  pub found_none : (m r : Map) → IsStrictlySortedBy key_cmp (keys_of m) → r ≡ entries_between key_cmp (Excluded b) Unbounded m → r ≡ [] → descendant_behind m n b ≡ None
  found_none m r s is e = subst (Tells n (descendant_behind m n b)) (sym is ∙ e) (searched m s)

  pub found_apart : (m r t : Map) (k v : List ℕ) → IsStrictlySortedBy key_cmp (keys_of m) → r ≡ entries_between key_cmp (Excluded b) Unbounded m → r ≡ (k, v) ∷ t → is_under n k ≡ false → descendant_behind m n b ≡ None
  found_apart m r t k v s is e f =
      let h = subst (Tells n (descendant_behind m n b)) (sym is ∙ e) (searched m s) in
      h ∙ ap (λ u. if u then Some k else None) f

  -- else it is that key
  pub found_first : (m r t : Map) (k v : List ℕ) → IsStrictlySortedBy key_cmp (keys_of m) → r ≡ entries_between key_cmp (Excluded b) Unbounded m → r ≡ (k, v) ∷ t → is_under n k ≡ true → descendant_behind m n b ≡ Some k
  found_first m r t k v s is e f =
      let h = subst (Tells n (descendant_behind m n b)) (sym is ∙ e) (searched m s) in
      h ∙ ap (λ u. if u then Some k else None) f

-- a key begins with itself
pub under_itself : (k : List ℕ) → is_under k k ≡ true
under_itself [] = refl
under_itself (x ∷ k) = rw (eq-eqb x x refl) (under_itself k)

-- what is longer and begins with the node's key stands after it
pub below_behind : (n k : List ℕ) → is_under n k ≡ true → length n < length k → key_cmp n k ≡ Less
below_behind [] [] h l = absurd (omega arith)
below_behind [] (z ∷ k) h l = refl
below_behind (x ∷ n) [] h l = absurd (omega arith)
below_behind (x ∷ n) (z ∷ k) h l =
    let s = and_parts (nat_eq x z) (is_under n k) h in
    ap (λ o. ordering_then o (key_cmp n k)) (nat_cmp-eq x z (eqb-true x z s.0)) ∙ below_behind n k s.1 (omega arith)

-- so each descendant stands after the node
is_below-behind : (n k : List ℕ) → (is_below n k && is_lt (key_cmp n k)) ≡ is_below n k
is_below-behind n k = go (is_under n k) (nat_lt (length n) (length k)) refl refl
  where
    go : (a b : Bool) → is_under n k ≡ a → nat_lt (length n) (length k) ≡ b → (is_below n k && is_lt (key_cmp n k)) ≡ is_below n k
    go true true e f = rw (e, f) (ap is_lt (below_behind n k e (ltb-true (length n) (length k) f)))
    go true false e f = rw (e, f) refl
    go false b e f = rw e refl

-- the first descendant tells whether there is one
pub any_descendant : (m : Map) (n : List ℕ) → is_some (descendant_behind m n n) ≡ list_any (is_descendant n) m
any_descendant [] n = refl
any_descendant (p ∷ ps) n = go (is_below n p.0) refl (any_descendant ps n)
  where
    go : (t : Bool) → is_below n p.0 ≡ t → is_some (descendant_behind ps n n) ≡ list_any (is_descendant n) ps → is_some (descendant_behind (p ∷ ps) n n) ≡ list_any (is_descendant n) (p ∷ ps)
    go true e more = rw (is_below-behind n p.0, e) refl
    go false e more = rw (is_below-behind n p.0, e) more

-- and it is the one with the first subscript
pub next_key-first : (m : Map) (n : List ℕ) → next_key m n None ≡ descendant_behind m n n
next_key-first [] n = refl
next_key-first (p ∷ ps) n = go (is_below n p.0) refl (next_key-first ps n)
  where
    go : (t : Bool) → is_below n p.0 ≡ t → next_key ps n None ≡ descendant_behind ps n n → next_key (p ∷ ps) n None ≡ descendant_behind (p ∷ ps) n n
    go true e more = rw (is_below-behind n p.0, e) refl
    go false e more = rw (is_below-behind n p.0, e) more

-- what is behind a reference is there where the reference is
pub some_copied : (o : Option (Bor (List ℕ))) → is_some o ≡ is_some (option_copied o)
some_copied None = refl
some_copied (Some b) = refl
