-- Numbers by keys.
use Rattle.std.proofs.Common.{◌≡◌, ℕ, Bool, not, eqb, cond, List, [], ◌∷◌, map, length, Option, Some, None, Result, Ok, Err, refl, ◌∙◌, ap, arith, slice_get}
use Rattle.std.specs.List.{filter}
use Rattle.std.specs.List.Sorted.{IsStrictlySortedBy}
use Rattle.std.specs.Cmp.{IsTotalOrder, eq_by_cmp_equiv}
use Rattle.std.specs.Map.{keys_of, lookup}
use Rattle.std.specs.Option.{option_map, unwrap_or}
use Rattle.std.specs.Result.{OnOk, OnErr, IfOk}
use Rattle.std.specs.BTreeMap.{is_at}
use Rattle.std.specs.declared.cmp.Ordering.{Ordering}
use Rattle.std.proofs.lemmas.Bool.{ne_eqb}
use Rattle.std.proofs.lemmas.Map.Made.{lookup-map_values}
use Rattle.std.proofs.lemmas.Map.Keys.{IsDistinct-from_sorted}
use Rattle.std.proofs.lemmas.Map.Entries.{lookup-filter-values, option_filter}
use Rattle.lock_index.specs.IndexWords.{numbers_at}

pub on_ok : {A E : Type 0} (r : Result A E) (P : Type 0) → P → OnOk r P
on_ok (Ok x) P p = p
on_ok (Err e) P p = tt

pub on_err : {A E : Type 0} (r : Result A E) (P : Type 0) → P → OnErr r P
on_err (Ok x) P p = tt
on_err (Err e) P p = p

-- a key has a number
abbrev pub is_some_number : (K : Type 0) → K × List ℕ → Bool
is_some_number K e = not (eqb (length e.1) 0)

full_or_empty : (test : ℕ → Bool) (o : Option (List ℕ)) → unwrap_or (option_filter (λ (ns : List ℕ). not (eqb (length ns) 0)) (option_map (filter test) o)) [] ≡ filter test (unwrap_or o [])
full_or_empty test None = refl
full_or_empty test (Some ns) = go (filter test ns)
  where
    go : (ms : List ℕ) → unwrap_or (cond (not (eqb (length ms) 0)) (Some ms) None) [] ≡ ms
    go [] = refl
    go (m ∷ ms) = rw (ne_eqb (length (m ∷ ms)) 0 (λ h. absurd (omega arith))) refl

-- each key keeps the numbers that pass, and a key without any goes
pub kept_at : {K : Type 0} {cmp : K → K → Ordering} (o : IsTotalOrder cmp) (test : ℕ → Bool) (q : K) (old between new : List (K × List ℕ)) → between ≡ map (λ (e : K × List ℕ). (e.0, filter test e.1)) old → new ≡ filter (is_some_number K) between → IsStrictlySortedBy cmp (keys_of between) → numbers_at cmp q new ≡ filter test (numbers_at cmp q old)
kept_at {K} {cmp} o test q old between new kept full s =
    ap (λ (es : List (K × List ℕ)). numbers_at cmp q es) full
    ∙ ap (λ (r : Option (List ℕ)). unwrap_or r []) (lookup-filter-values (eq_by_cmp_equiv o) (λ (ns : List ℕ). not (eqb (length ns) 0)) q between (IsDistinct-from_sorted cmp (keys_of between) s))
    ∙ ap (λ (es : List (K × List ℕ)). unwrap_or (option_filter (λ (ns : List ℕ). not (eqb (length ns) 0)) (lookup (is_at (cmp q)) es)) []) kept
    ∙ ap (λ (r : Option (List ℕ)). unwrap_or (option_filter (λ (ns : List ℕ). not (eqb (length ns) 0)) r) []) (lookup-map_values (filter test) (is_at (cmp q)) old)
    ∙ full_or_empty test (lookup (is_at (cmp q)) old)

-- a list with no first has none
pub first_none : {X : Type 0} (xs : List X) → slice_get xs 0 ≡ None → xs ≡ []
first_none [] e = refl
first_none (x ∷ xs) e = cc

-- and one with a first begins with it
pub first_some : {X : Type 0} (xs : List X) (x : X) → slice_get xs 0 ≡ Some x → (rest : List X) × (xs ≡ x ∷ rest)
first_some [] x e = cc
first_some (y ∷ ys) x e = (ys, ap (λ (z : _). z ∷ ys) (first_is y x e))
  where
    first_is : {X : Type 0} (y x : X) → Some y ≡ Some x → y ≡ x
    first_is y x e = cc

-- the same answer
pub ok_same : {A E : Type 0} (r : Result A E) (x y : A) → x ≡ y → IfOk r (λ (z : A). z ≡ x) → IfOk r (λ (z : A). z ≡ y)
ok_same (Ok z) x y e h = h ∙ e
ok_same (Err z) x y e h = tt
