-- The value of a node over the pairs of a span that holds its key, with operations laid over, is that over the whole map.
use Rattle.std.proofs.Common.{◌≡◌, ℕ, Bool, true, false, not, cond, ◌&&◌, List, [], ◌∷◌, Some, None, ℤ, refl, sym, ◌∙◌, ap, subst}
use Rattle.std.specs.Ordering.{is_lt, is_gt, is_eq, match_ordering}
use Rattle.std.specs.declared.cmp.Ordering.{Ordering}
use Rattle.std.specs.declared.cmp.Ordering.TheVariants.{Less, Equal, Greater}
use Rattle.std.specs.BTreeMap.{is_at}
use Rattle.std.proofs.lemmas.Map.Lookups.{exact_bytes}
use Rattle.std.proofs.lemmas.Map.Entries.{lookup-filter-keys}
use Rattle.subscript_keys.specs.declared.span.Span.{Span}
use Rattle.subscript_keys.specs.Span.{IsIn}
use Rattle.subscript_keys.proofs.Ties.{itself}
use Rattle.plain_orders.specs.declared.op.Op.{Op}
use Rattle.plain_orders.specs.declared.op.Op.TheVariants.{Set, Kill, Add}
use Rattle.plain_orders.specs.declared.sum.Sum.{Sum}
use Rattle.plain_orders.specs.declared.sum.Sum.TheVariants.{Nothing, Whole, NotWhole, Range}
use Rattle.plain_orders.specs.Numbers.{integer_text}
use Rattle.plain_orders.specs.Own.{ops_after}
use Rattle.plain_orders.specs.PairMap.{Map, key_cmp, put, is_under, within, remove_under, value_at}
use Rattle.plain_orders.specs.Fold.{op_after, sum_with, with_sum}
use Rattle.plain_orders.proofs.Locality.{in_span}

pub equal_from : (r : Ordering) → is_eq r ≡ true → r ≡ Equal
equal_from Less e = absurd (cc)
equal_from Equal e = refl
equal_from Greater e = absurd (cc)

module _ (key : List ℕ) where
  abbrev test : List ℕ → Bool
  test = is_at (key_cmp key)

  -- the key that passes its test is it
  pub its_key : (k : List ℕ) → test k ≡ true → key ≡ k
  its_key k e = exact_bytes key k (equal_from (key_cmp key k) e)

  -- after a pair was put
  pub put_value : (m : Map) (k v : List ℕ) → value_at (put m k v) key ≡ cond (is_at (key_cmp key) k) (Some v) (value_at m key)
  put_value [] k v = refl
  put_value (p ∷ ps) k v = go (put_value ps k v) (key_cmp k p.0) refl
    where
      go : value_at (put ps k v) key ≡ cond (test k) (Some v) (value_at ps key) → (r : Ordering) → key_cmp k p.0 ≡ r
          → value_at (match_ordering r ((k, v) ∷ p ∷ ps) ((p.0, v) ∷ ps) (p ∷ put ps k v)) key ≡ cond (test k) (Some v) (value_at (p ∷ ps) key)
      go ih Less e = refl
      go ih Equal e = subst (λ q. cond (test q) (Some v) (value_at ps key) ≡ cond (test k) (Some v) (cond (test q) (Some p.1) (value_at ps key))) (exact_bytes k p.0 e)
          (elim (test k) as (λ b. cond b (Some v) (value_at ps key) ≡ cond b (Some v) (cond b (Some p.1) (value_at ps key))) [ true ↦ refl | false ↦ refl ])
      go ih Greater e = by (test p.0) refl (test k) refl
        where
          apart : test p.0 ≡ true → test k ≡ true → ⊥
          apart x y = let same : k ≡ p.0 = sym (its_key k y) ∙ its_key p.0 x in let self : key_cmp k p.0 ≡ Equal = ap (key_cmp k) (sym same) ∙ itself k in cc (self, e)

          by : (a : Bool) → test p.0 ≡ a → (b : Bool) → test k ≡ b → cond a (Some p.1) (value_at (put ps k v) key) ≡ cond b (Some v) (cond a (Some p.1) (value_at ps key))
          by true x true y = absurd (apart x y)
          by true x false y = refl
          by false x b y = ih ∙ ap (λ c. cond c (Some v) (value_at ps key)) y

  -- after a node and its descendants were removed
  pub killed_value : (m : Map) (node : List ℕ) → value_at (remove_under m node) key ≡ cond (not (is_under node key)) (value_at m key) None
  killed_value m node = lookup-filter-keys test (λ k. not (is_under node k)) (not (is_under node key)) (λ k e. ap (λ q. not (is_under node q)) (sym (its_key k e))) m

  -- over the pairs of a span that holds the key
  pub within_value : (m : Map) (s : Span) → IsIn s.lo s.hi key → value_at (within m s) key ≡ value_at m key
  within_value m s inside =
      lookup-filter-keys test (λ k. not (is_gt (key_cmp s.lo k)) && is_lt (key_cmp k s.hi)) true
      (λ k e. ap (λ q. not (is_gt (key_cmp s.lo q)) && is_lt (key_cmp q s.hi)) (sym (its_key k e)) ∙ in_span s (key, []) inside) m

  sum_value : (m : Map) (k : List ℕ) (x : Sum) → value_at (with_sum m k x) key ≡ cond (test k) (value_at (with_sum m k x) key) (value_at m key)
  sum_value m k Nothing = elim (test k) as (λ b. value_at m key ≡ cond b (value_at m key) (value_at m key)) [ true ↦ refl | false ↦ refl ]
  sum_value m k (Whole n) = put_value m k (integer_text n) ∙ go (test k) ∙ ap (λ o. cond (test k) o (value_at m key)) (sym (put_value m k (integer_text n)))
    where
      go : (b : Bool) → cond b (Some (integer_text n)) (value_at m key) ≡ cond b (cond b (Some (integer_text n)) (value_at m key)) (value_at m key)
      go true = refl
      go false = refl
  sum_value m k NotWhole = elim (test k) as (λ b. value_at m key ≡ cond b (value_at m key) (value_at m key)) [ true ↦ refl | false ↦ refl ]
  sum_value m k Range = elim (test k) as (λ b. value_at m key ≡ cond b (value_at m key) (value_at m key)) [ true ↦ refl | false ↦ refl ]

  sum_agree : (m n : Map) (k : List ℕ) (x : Sum) → value_at m key ≡ value_at n key → value_at (with_sum m k x) key ≡ value_at (with_sum n k x) key
  sum_agree m n k Nothing e = e
  sum_agree m n k (Whole z) e = put_value m k (integer_text z) ∙ ap (cond (test k) (Some (integer_text z))) e ∙ sym (put_value n k (integer_text z))
  sum_agree m n k NotWhole e = e
  sum_agree m n k Range e = e

  add_agree : (m n : Map) (k : List ℕ) (amount : ℤ) → value_at m key ≡ value_at n key → value_at (with_sum m k (sum_with (value_at m k) amount)) key ≡ value_at (with_sum n k (sum_with (value_at n k) amount)) key
  add_agree m n k amount e = go (test k) refl
    where
      go : (b : Bool) → test k ≡ b → value_at (with_sum m k (sum_with (value_at m k) amount)) key ≡ value_at (with_sum n k (sum_with (value_at n k) amount)) key
      go true same =
          let here : value_at m k ≡ value_at n k = subst (λ q. value_at m q ≡ value_at n q) (its_key k same) e in
          ap (λ o. value_at (with_sum m k (sum_with o amount)) key) here ∙ sum_agree m n k (sum_with (value_at n k) amount) e
      go false other =
          sum_value m k (sum_with (value_at m k) amount) ∙ ap (λ b. cond b (value_at (with_sum m k (sum_with (value_at m k) amount)) key) (value_at m key)) other
          ∙ e ∙ sym (sum_value n k (sum_with (value_at n k) amount) ∙ ap (λ b. cond b (value_at (with_sum n k (sum_with (value_at n k) amount)) key) (value_at n key)) other)

  -- two maps that agree on it agree on it after an operation
  pub op_agree : (m n : Map) (op : Op) → value_at m key ≡ value_at n key → value_at (op_after m op) key ≡ value_at (op_after n op) key
  op_agree m n (Set k v) e = put_value m k v ∙ ap (cond (test k) (Some v)) e ∙ sym (put_value n k v)
  op_agree m n (Kill k) e = killed_value m k ∙ ap (λ o. cond (not (is_under k key)) o None) e ∙ sym (killed_value n k)
  op_agree m n (Add k amount) e = add_agree m n k amount e

  -- and after several
  pub ops_agree : (m n : Map) (ops : List Op) → value_at m key ≡ value_at n key → value_at (ops_after m ops) key ≡ value_at (ops_after n ops) key
  ops_agree m n [] e = e
  ops_agree m n (o ∷ ops) e = ops_agree (op_after m o) (op_after n o) ops (op_agree m n o e)

  -- so a run of the pairs of a span answers for the whole map, with own operations laid over
  pub run_value : (m : Map) (s : Span) (ops : List Op) → IsIn s.lo s.hi key → value_at (ops_after (within m s) ops) key ≡ value_at (ops_after m ops) key
  run_value m s ops inside = ops_agree (within m s) m ops (within_value m s inside)
