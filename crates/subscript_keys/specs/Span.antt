-- Spans of keys, from a key to one that is no longer in it.
use Rattle.std.specs.Prelude.{◌≡◌, ◌≢◌, ℕ, List, [], ◌∷◌, ◌++◌}
use Rattle.std.specs.Ordering.{nat_cmp}
use Rattle.std.specs.Cmp.Lexicographic.{slice_cmp}
use Rattle.std.specs.declared.cmp.Ordering.TheVariants.{Less, Greater}

-- a key of the span: not below lo, and below hi
pub record IsIn (lo hi key : List ℕ) : Type 0 where
  pub from : slice_cmp nat_cmp lo key ≢ Greater
  pub to : slice_cmp nat_cmp key hi ≡ Less

-- where the span of a node and its descendants begins: at the node's key
abbrev pub span_lo : List ℕ → List ℕ
span_lo key = key

-- and where it ends: at the key followed by FF
abbrev pub span_hi : List ℕ → List ℕ
span_hi key = key ++ 0xFF ∷ []

-- some byte string is in both spans
abbrev pub Meet : List ℕ → List ℕ → List ℕ → List ℕ → Type 0
Meet lo hi lo' hi' = (key : List ℕ) × IsIn lo hi key × IsIn lo' hi' key
