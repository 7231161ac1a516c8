-- A list of which one element is another.
use Rattle.std.specs.Prelude.{ℕ, List, slice_get, slice_set}
use Rattle.std.specs.Option.{option_map_or}

-- the list whose element at n, where one is there, is changed
unfoldable pub changed : {A : Type 0} → (A → A) → ℕ → List A → List A
changed f n xs = option_map_or (λ x. slice_set xs n (f x)) (slice_get xs n) xs
