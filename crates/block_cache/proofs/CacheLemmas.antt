-- Runs by distinct numbers: the first that passes a test, found and removed by its number.
use Rattle.std.proofs.Common.{◌≡◌, ℕ, zero, suc, ◌+◌, ◌-◌, ◌<◌, Bool, true, false, not, cond, nat_eq, List, [], ◌∷◌, filter, length, slice_get, take, Option, Some, None, refl, ap, subst, ◌∙◌, arith}
use Rattle.std.specs.List.{find, AllByRecursion, IsDistinct}
use Rattle.std.specs.Option.{option_map}
use Rattle.std.specs.Map.{keys_of, values_of, lookup, lookup_entry, remove_entry}
use Rattle.std.proofs.lemmas.Bool.Decides.{nat_tests}
use Rattle.subscript_keys.specs.declared.run.Run.{Run}
use Rattle.lru.specs.LruCache.{LruCache, displaced, promoted, put_entries}
use Rattle.block_cache.specs.CacheWords.{without_first, in_front}
use Rattle.block_cache.specs.Numbering.{run_of, number_of, IsNumberedBelow}

pub same_number : (n : ℕ) → nat_eq n n ≡ true
same_number n = grind (arith, nat_tests)

pub other_number : (m n : ℕ) → nat_eq m n ≡ false → nat_eq n m ≡ false
other_number m n h = grind (arith, nat_tests)

not_self : (m n : ℕ) → n < m → nat_eq m n ≡ false
not_self m n h = grind (arith, nat_tests)

-- a number that all are below isn't there
pub lookup_entry-next : (next : ℕ) (es : List (ℕ × Run)) → IsNumberedBelow next es → lookup_entry (nat_eq next) es ≡ None
lookup_entry-next next [] b = refl
lookup_entry-next next (e ∷ es) b = rw (not_self next e.0 b.0) (lookup_entry-next next es b.1)

pub below-remove_entry : (test : ℕ → Bool) (n : ℕ) (es : List (ℕ × Run)) → IsNumberedBelow n es → IsNumberedBelow n (remove_entry test es)
below-remove_entry test n [] b = b
below-remove_entry test n (e ∷ es) b = elim (test e.0) as (λ v. IsNumberedBelow n (cond v es (e ∷ remove_entry test es))) [ true ↦ b.1 | false ↦ (b.0, below-remove_entry test n es b.1) ]

pub below-lookup_entry : (test : ℕ → Bool) (n : ℕ) (es : List (ℕ × Run)) (e : ℕ × Run) → IsNumberedBelow n es → lookup_entry test es ≡ Some e → e.0 < n
below-lookup_entry test n [] e b h = cc
below-lookup_entry test n (f ∷ es) e b h = (elim (test f.0) as (λ v. cond v (Some f) (lookup_entry test es) ≡ Some e → e.0 < n) [
  | true ↦ λ s. let same : f ≡ e = cc in subst (λ g. g.0 < n) same b.0
  | false ↦ λ s. below-lookup_entry test n es e b.1 s
]) h

pub below-take : (k n : ℕ) (es : List (ℕ × Run)) → IsNumberedBelow n es → IsNumberedBelow n (take k es)
below-take zero n es b = tt
below-take (suc k) n [] b = tt
below-take (suc k) n (e ∷ es) b = (b.0, below-take k n es b.1)

-- below a number, and so below the next
pub below-more : (n : ℕ) (es : List (ℕ × Run)) → IsNumberedBelow n es → IsNumberedBelow (n + 1) es
below-more n [] b = tt
below-more n (e ∷ es) b = (omega (arith, b.0), below-more n es b.1)

shorter : (test : ℕ → Bool) (es : List (ℕ × Run)) (e : ℕ × Run) → lookup_entry test es ≡ Some e → length (remove_entry test es) < length es
shorter test [] e h = cc
shorter test (f ∷ es) e h = (elim (test f.0) as (λ v. cond v (Some f) (lookup_entry test es) ≡ Some e → length (cond v es (f ∷ remove_entry test es)) < length (f ∷ es)) [
  | true ↦ λ s. omega arith
  | false ↦ λ s. omega (arith, shorter test es e s)
]) h

module _ (t : Run → Bool) where
  abbrev pub passes : ℕ × Run → Bool
  passes e = t e.1

  pub find-values : (es : List (ℕ × Run)) → find t (values_of es) ≡ option_map run_of (find passes es)
  find-values [] = refl
  find-values (e ∷ es) = elim (t e.1) as (λ b. cond b (Some e.1) (find t (values_of es)) ≡ option_map run_of (cond b (Some e) (find passes es))) [ true ↦ refl | false ↦ find-values es ]

  apart : (k : ℕ) (es : List (ℕ × Run)) (e : ℕ × Run) → AllByRecursion (λ n. nat_eq k n ≡ false) (keys_of es) → find passes es ≡ Some e → nat_eq k e.0 ≡ false
  apart k [] e all h = cc
  apart k (f ∷ es) e all h = (elim (t f.1) as (λ b. cond b (Some f) (find passes es) ≡ Some e → nat_eq k e.0 ≡ false) [
    | true ↦ λ s. let same : f ≡ e = cc in subst (λ g. nat_eq k g.0 ≡ false) same all.0
    | false ↦ λ s. apart k es e all.1 s
  ]) h

  itself : (f e : ℕ × Run) → f ≡ e → nat_eq e.0 f.0 ≡ true
  itself f e same = subst (λ g. nat_eq g.0 f.0 ≡ true) same (same_number f.0)

  -- the first that passes is the one with its number
  pub found-lookup_entry : (es : List (ℕ × Run)) (e : ℕ × Run) → IsDistinct nat_eq (keys_of es) → find passes es ≡ Some e → lookup_entry (nat_eq e.0) es ≡ Some e
  unfolding IsDistinct
  found-lookup_entry [] e d h = cc
  found-lookup_entry (f ∷ es) e d h = (elim (t f.1) as (λ b. cond b (Some f) (find passes es) ≡ Some e → cond (nat_eq e.0 f.0) (Some f) (lookup_entry (nat_eq e.0) es) ≡ Some e) [
    | true ↦ λ s. let same : f ≡ e = cc in rw (itself f e same) s
    | false ↦ λ s. rw (other_number f.0 e.0 (apart f.0 es e d.0 s)) (found-lookup_entry es e d.1 s)
  ]) h

  -- without it
  pub found-remove_entry : (es : List (ℕ × Run)) (e : ℕ × Run) → IsDistinct nat_eq (keys_of es) → find passes es ≡ Some e → values_of (remove_entry (nat_eq e.0) es) ≡ without_first t (values_of es)
  unfolding IsDistinct
  found-remove_entry [] e d h = cc
  found-remove_entry (f ∷ es) e d h = (elim (t f.1) as (λ b. cond b (Some f) (find passes es) ≡ Some e → values_of (cond (nat_eq e.0 f.0) es (f ∷ remove_entry (nat_eq e.0) es)) ≡ cond b (values_of es) (f.1 ∷ without_first t (values_of es))) [
    | true ↦ λ s. let same : f ≡ e = cc in rw (itself f e same) refl
    | false ↦ λ s. rw (other_number f.0 e.0 (apart f.0 es e d.0 s)) (ap (λ rs. f.1 ∷ rs) (found-remove_entry es e d.1 s))
  ]) h

  -- one that passes the test isn't kept by the opposite one
  pub filter-without_first : (rs : List Run) → filter (λ r. not (t r)) (without_first t rs) ≡ filter (λ r. not (t r)) rs
  filter-without_first [] = refl
  filter-without_first (r ∷ rs) = (elim (t r) as (λ b. t r ≡ b → filter (λ r. not (t r)) (cond b rs (r ∷ without_first t rs)) ≡ cond (not b) (r ∷ filter (λ r. not (t r)) rs) (filter (λ r. not (t r)) rs)) [
    | true ↦ λ p. refl
    | false ↦ λ p. rw p (ap (λ ys. r ∷ ys) (filter-without_first rs))
  ]) refl

  -- where none passes, the opposite test keeps all
  pub filter-found_none : (rs : List Run) → find t rs ≡ None → filter (λ r. not (t r)) rs ≡ rs
  filter-found_none [] h = refl
  filter-found_none (r ∷ rs) h = (elim (t r) as (λ b. cond b (Some r) (find t rs) ≡ None → cond (not b) (r ∷ filter (λ r. not (t r)) rs) (filter (λ r. not (t r)) rs) ≡ r ∷ rs) [
    | true ↦ λ s. cc
    | false ↦ λ s. ap (λ ys. r ∷ ys) (filter-found_none rs s)
  ]) h

  passes-find : (r : Run) (rs : List Run) → find t rs ≡ Some r → t r ≡ true
  passes-find r [] h = cc
  passes-find r (f ∷ rs) h = (elim (t f) as (λ b. t f ≡ b → cond b (Some f) (find t rs) ≡ Some r → t r ≡ true) [
    | true ↦ λ p s. let same : f ≡ r = cc in subst (λ g. t g ≡ true) same p
    | false ↦ λ p s. passes-find r rs s
  ]) refl h

  front-first : (rs : List Run) (o : Option Run) → find t rs ≡ o → find t (in_front t o rs) ≡ o
  front-first rs None h = h
  front-first rs (Some r) h = rw (passes-find r rs h) refl

  -- the first that passes is the first one, in front too
  pub find-in_front : (rs : List Run) → find t (in_front t (find t rs) rs) ≡ find t rs
  find-in_front rs = front-first rs (find t rs) refl

  module _ (es : List (ℕ × Run)) (e : ℕ × Run) (distinct : IsDistinct nat_eq (keys_of es)) (found : find passes es ≡ Some e) where
    -- the use of a number is the use of its run
    pub values-promoted : values_of (promoted (nat_eq e.0) es) ≡ in_front t (find t (values_of es)) (values_of es)
    values-promoted = rw (found-lookup_entry es e distinct found, find-values es, found) (ap (λ rs. e.1 ∷ rs) (found-remove_entry es e distinct found))

    pub below-promoted : (n : ℕ) → IsNumberedBelow n es → IsNumberedBelow n (promoted (nat_eq e.0) es)
    below-promoted n b = rw (found-lookup_entry es e distinct found) (below-lookup_entry (nat_eq e.0) n es e b (found-lookup_entry es e distinct found), below-remove_entry (nat_eq e.0) n es b)

    -- one that passes goes, and the others stay
    pub filter-remove_entry : filter (λ r. not (t r)) (values_of (remove_entry (nat_eq e.0) es)) ≡ filter (λ r. not (t r)) (values_of es)
    filter-remove_entry = ap (filter (λ r. not (t r))) (found-remove_entry es e distinct found) ∙ filter-without_first (values_of es)

    pub length-remove_entry : length (remove_entry (nat_eq e.0) es) < length es
    length-remove_entry = shorter (nat_eq e.0) es e (found-lookup_entry es e distinct found)

  -- no number was found, and so no run
  pub find_none : (es : List (ℕ × Run)) → find passes es ≡ None → find t (values_of es) ≡ None
  find_none es h = find-values es ∙ ap (option_map run_of) h

-- a number was found
pub found_number : (o : Option (ℕ × Run)) (n : ℕ) → Some n ≡ option_map number_of o → (e : ℕ × Run) × (o ≡ Some e) × (e.0 ≡ n)
found_number None n h = cc
found_number (Some e) n h = (e, refl, cc)

-- none was found
pub found_no_number : (o : Option (ℕ × Run)) → None ≡ option_map number_of o → o ≡ None
found_no_number None h = refl
found_no_number (Some e) h = cc

-- after a run with the next number
pub put_entries-next : (c : LruCache ℕ Run) (next : ℕ) (run : Run) → IsNumberedBelow next c.entries → put_entries nat_eq c next run ≡ (next, run) ∷ take (c.cap - 1) c.entries
put_entries-next c next run b = rw (lookup_entry-next next c.entries b) refl

lookup-next : (next : ℕ) (es : List (ℕ × Run)) → IsNumberedBelow next es → lookup (nat_eq next) es ≡ None
lookup-next next [] b = refl
lookup-next next (e ∷ es) b = rw (not_self next e.0 b.0) (lookup-next next es b.1)

-- what a run with the next number pushes out
pub displaced-next : (c : LruCache ℕ Run) (next : ℕ) (run : Run) → IsNumberedBelow next c.entries → c.cap ≡ 256 → displaced nat_eq c next run ≡ slice_get c.entries 255
displaced-next c next run b e = rw (lookup-next next c.entries b, e) refl
