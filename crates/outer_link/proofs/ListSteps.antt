-- Lists of which one element, or each, is another.
use Rattle.std.proofs.Common.{◌≡◌, ℕ, ◌<◌, zero, suc, Some, None, List, [], ◌∷◌, length, set, refl, ap, ◌∙◌, sym, subst, length-set, get_or-set_same}
use Rattle.std.specs.Prelude.{slice_get, All, map}
use Rattle.std.proofs.lemmas.Option.{slice_get_read, slice_get_within, get_or_from_slice_get, slice_get-map}
use Rattle.std.proofs.lemmas.List.{map-set, set-get_or}
use Rattle.std.proofs.lemmas.List.Elements.{All-head, All-tail, All-get_or}
use Rattle.outer_link.specs.Changed.{changed}
use Rattle.outer_link.proofs.ChangedLemmas.{changed_at, changed_none}

-- what stands at i behind a write there
pub got_same : {A : Type 0} → (xs : List A) (i : ℕ) (y : A) → i < length xs → slice_get (set xs i y) i ≡ Some y
got_same xs i y within =
    slice_get_read (set xs i y) (length xs) i y (sym (length-set xs i y)) within (sym (get_or-set_same xs i y y within))

-- what stands elsewhere
pub got_other : {A : Type 0} → (xs : List A) (i j : ℕ) (y : A) → (j ≡ i → ⊥) → slice_get (set xs i y) j ≡ slice_get xs j
got_other [] i j y apart = refl
got_other (x ∷ xs) zero zero y apart = absurd (apart refl)
got_other (x ∷ xs) zero (suc j) y apart = refl
got_other (x ∷ xs) (suc i) zero y apart = refl
got_other (x ∷ xs) (suc i) (suc j) y apart = got_other xs i j y (λ e. apart (ap suc e))

-- two functions that agree on each element
pub map_as : {A B : Type 0} → (f g : A → B) (P : A → Type 0) (xs : List A) → ((x : A) → P x → f x ≡ g x) → All P xs → map f xs ≡ map g xs
map_as f g P [] same all = refl
map_as f g P (x ∷ xs) same all = rw (same x (All-head P x xs all), map_as f g P xs same (All-tail P x xs all)) refl

-- a write below a function of each element
pub map_changed : {A B : Type 0} → (g : A → B) (f : B → B) (n : ℕ) (xs : List A) (x y : A) → slice_get xs n ≡ Some x → g y ≡ f (g x) → map g (set xs n y) ≡ changed f n (map g xs)
map_changed g f n xs x y at is =
    let there : slice_get (map g xs) n ≡ Some (g x) = rw (slice_get-map g xs n, at) refl in
    map-set g xs n y ∙ ap (λ v. set (map g xs) n v) is ∙ sym (changed_at f n (map g xs) (g x) there)

-- a change that leaves the element
pub changed_same : {A : Type 0} → (f : A → A) (n : ℕ) (xs : List A) (x : A) → slice_get xs n ≡ Some x → f x ≡ x → changed f n xs ≡ xs
changed_same f n xs x at is =
    changed_at f n xs x at ∙ ap (λ v. set xs n v) is ∙ ap (λ v. set xs n v) (sym (get_or_from_slice_get xs n x x at)) ∙ set-get_or xs n x

-- the same, where it leaves whatever stands there
pub changed_nothing : {A : Type 0} → (f : A → A) (n : ℕ) (xs : List A) → ((x : A) → slice_get xs n ≡ Some x → f x ≡ x) → changed f n xs ≡ xs
changed_nothing f n xs leaves =
    elim (slice_get xs n) as (λ o. slice_get xs n ≡ o → changed f n xs ≡ xs) [
      | None ↦ λ e. changed_none f n xs e
      | Some x ↦ λ e. changed_same f n xs x e (leaves x e)
    ] refl

-- a change keeps the length
pub length_changed : {A : Type 0} → (f : A → A) (n : ℕ) (xs : List A) → length (changed f n xs) ≡ length xs
length_changed f n xs =
    elim (slice_get xs n) as (λ o. slice_get xs n ≡ o → length (changed f n xs) ≡ length xs) [
      | None ↦ λ e. ap length (changed_none f n xs e)
      | Some x ↦ λ e. ap length (changed_at f n xs x e) ∙ length-set xs n (f x)
    ] refl

-- what is true of each is true of the one at n
pub all_at : {A : Type 0} → (P : A → Type 0) (xs : List A) (n : ℕ) (x : A) → slice_get xs n ≡ Some x → All P xs → P x
all_at P xs n x at all =
    subst P (get_or_from_slice_get xs n x x at) (All-get_or P xs n x (slice_get_within xs n x at) all)
