-- A list of which one element is changed.
use Rattle.std.proofs.Common.{◌≡◌, ℕ, ◌<◌, Some, None, List, length, get_or, refl}
use Rattle.std.specs.Prelude.{slice_get, slice_set}
use Rattle.std.proofs.lemmas.Option.{slice_get_read}
use Rattle.outer_link.specs.Changed.{changed}

-- where there is an element, it is changed
pub changed_at : {A : Type 0} → (f : A → A) (n : ℕ) (xs : List A) (x : A) → slice_get xs n ≡ Some x → changed f n xs ≡ slice_set xs n (f x)
unfolding changed
changed_at f n xs x e = rw e refl

-- the same, for an element that was read
pub changed_read : {A : Type 0} → (f : A → A) (n : ℕ) (xs : List A) (x : A) → n < length xs → x ≡ get_or xs n x → changed f n xs ≡ slice_set xs n (f x)
changed_read f n xs x within is = changed_at f n xs x (slice_get_read xs (length xs) n x refl within is)

-- where there is none, the list stays
pub changed_none : {A : Type 0} → (f : A → A) (n : ℕ) (xs : List A) → slice_get xs n ≡ None → changed f n xs ≡ xs
unfolding changed
changed_none f n xs e = rw e refl
