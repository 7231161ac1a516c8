-- Two maps that agree on a node's value agree on it after the same items were put back.
use Rattle.std.proofs.Common.{◌≡◌, ℕ, Bool, true, false, cond, List, [], ◌∷◌, Option, Some, None, refl, sym, ◌∙◌, ap, subst, if◌then◌else◌, nat_eq}
use Rattle.std.specs.Ordering.{is_eq}
use Rattle.std.specs.declared.cmp.Ordering.TheVariants.{Equal}
use Rattle.std.specs.BTreeMap.{is_at}
use Rattle.std.proofs.lemmas.Map.Lookups.{exact_bytes}
use Rattle.subscript_keys.proofs.Ties.{itself}
use Rattle.plain_orders.specs.PairMap.{Map, key_cmp, put, remove, put_all, value_at, IsBeforeAll, IsRising}
use Rattle.plain_orders.specs.Fold.{Undo, OldValue, OldPairs, Transaction, value_back, undone, all_undone, session_undone}
use Rattle.plain_orders.proofs.RisingLemmas.{before_behind, undone_rises, all_undone_rises}
use Rattle.plain_orders.proofs.Values.{its_key, equal_from, put_value}

module _ (key : List ℕ) where
  abbrev test : List ℕ → Bool
  test = is_at (key_cmp key)

  -- a key before all of a map has no value in it
  pub none_before : (m : Map) → IsRising m → IsBeforeAll key m → value_at m key ≡ None
  none_before [] r b = refl
  none_before (p ∷ ps) r b = ap (λ o. cond (is_eq o) (Some p.1) (value_at ps key)) b ∙ none_before ps r.1 (before_behind key p.0 ps b r.0)

  -- after a pair was removed
  pub removed_value : (m : Map) (k : List ℕ) → IsRising m → value_at (remove m k) key ≡ cond (is_at (key_cmp key) k) None (value_at m key)
  removed_value [] k r = elim (test k) as (λ b. value_at [] key ≡ cond b None (value_at [] key)) [ true ↦ refl | false ↦ refl ]
  removed_value (p ∷ ps) k r = go (removed_value ps k r.1) (is_at (key_cmp k) p.0) refl
    where
      first : (c : Bool) → test p.0 ≡ c → value_at ps key ≡ cond c None (cond c (Some p.1) (value_at ps key))
      first true x = none_before ps r.1 (subst (λ q. IsBeforeAll q ps) (sym (its_key key p.0 x)) r.0)
      first false x = refl

      go : value_at (remove ps k) key ≡ cond (test k) None (value_at ps key) → (b : Bool) → is_at (key_cmp k) p.0 ≡ b → value_at (cond b ps (p ∷ remove ps k)) key ≡ cond (test k) None (value_at (p ∷ ps) key)
      go more true e =
          let same : k ≡ p.0 = exact_bytes k p.0 (equal_from (key_cmp k p.0) e) in
          subst (λ q. value_at ps key ≡ cond (test q) None (cond (test p.0) (Some p.1) (value_at ps key))) (sym same) (first (test p.0) refl)
      go more false e = by (test p.0) refl (test k) refl
        where
          apart : test p.0 ≡ true → test k ≡ true → ⊥
          apart x y =
              let same : k ≡ p.0 = sym (its_key key k y) ∙ its_key key p.0 x in
              let self : key_cmp k p.0 ≡ Equal = ap (key_cmp k) (sym same) ∙ itself k in
              let found : is_at (key_cmp k) p.0 ≡ true = ap is_eq self in
              cc (found, e)

          by : (a : Bool) → test p.0 ≡ a → (b : Bool) → test k ≡ b → cond a (Some p.1) (value_at (remove ps k) key) ≡ cond b None (cond a (Some p.1) (value_at ps key))
          by true x true y = absurd (apart x y)
          by true x false y = refl
          by false x b y = more ∙ ap (λ c. cond c None (value_at ps key)) y

  back_agree : (m n : Map) (k : List ℕ) (old : Option (List ℕ)) → IsRising m → IsRising n → value_at m key ≡ value_at n key → value_at (value_back m k old) key ≡ value_at (value_back n k old) key
  back_agree m n k None r q e = removed_value m k r ∙ ap (cond (test k) None) e ∙ sym (removed_value n k q)
  back_agree m n k (Some v) r q e = put_value key m k v ∙ ap (cond (test k) (Some v)) e ∙ sym (put_value key n k v)

  put_all_agree : (m n ps : Map) → value_at m key ≡ value_at n key → value_at (put_all m ps) key ≡ value_at (put_all n ps) key
  put_all_agree m n [] e = e
  put_all_agree m n (p ∷ ps) e =
      put_all_agree (put m p.0 p.1) (put n p.0 p.1) ps (put_value key m p.0 p.1 ∙ ap (cond (test p.0) (Some p.1)) e ∙ sym (put_value key n p.0 p.1))

  -- one item
  pub undone_agree : (m n : Map) (u : Undo) → IsRising m → IsRising n → value_at m key ≡ value_at n key → value_at (undone m u) key ≡ value_at (undone n u) key
  undone_agree m n (OldValue k old) r q e = back_agree m n k old r q e
  undone_agree m n (OldPairs k pairs) r q e = put_all_agree m n pairs e

  -- several
  pub all_undone_agree : (m n : Map) (us : List Undo) → IsRising m → IsRising n → value_at m key ≡ value_at n key → value_at (all_undone m us) key ≡ value_at (all_undone n us) key
  all_undone_agree m n [] r q e = e
  all_undone_agree m n (u ∷ us) r q e = all_undone_agree (undone m u) (undone n u) us (undone_rises m u r) (undone_rises n u q) (undone_agree m n u r q e)

  -- all transactions of a session
  pub session_agree : (session : ℕ) (ts : List Transaction) (m n : Map) → IsRising m → IsRising n → value_at m key ≡ value_at n key → value_at (session_undone session ts m) key ≡ value_at (session_undone session ts n) key
  session_agree session [] m n r q e = e
  session_agree session (t ∷ ts) m n r q e = go (nat_eq t.session session) (session_agree session ts)
    where
      go : (b : Bool) → ((x y : Map) → IsRising x → IsRising y → value_at x key ≡ value_at y key → value_at (session_undone session ts x) key ≡ value_at (session_undone session ts y) key)
          → value_at (session_undone session ts (if b then all_undone m t.undo else m)) key ≡ value_at (session_undone session ts (if b then all_undone n t.undo else n)) key
      go true more = more (all_undone m t.undo) (all_undone n t.undo) (all_undone_rises m t.undo r) (all_undone_rises n t.undo q) (all_undone_agree m n t.undo r q e)
      go false more = more m n r q e
