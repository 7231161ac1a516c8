-- What callers see of a window.
use Rattle.std.specs.Prelude.{ℕ, List}

-- how many messages the other end acknowledged, the bodies sent after those, and how many were taken
pub record WindowState : Type 0 where
  pub acked : ℕ
  pub waiting : List (List ℕ)
  pub taken : ℕ
