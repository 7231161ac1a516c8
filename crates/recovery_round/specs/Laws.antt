-- A round of which sessions are done or closed, one after another.
use Rattle.std.specs.Prelude.{◌≡◌, ◌↔◌, ℕ, Bool, true, ◌&&◌, not, List, [], ◌∷◌}
use Rattle.std.specs.List.{list_any}
use Rattle.recovery_round.specs.RoundWords.{Round, is_session, awaits, without, is_over}

-- each of these is done or closed
abbrev pub after_all : Round → List ℕ → Round
after_all r [] = r
after_all r (session ∷ more) = after_all (without r session) more

-- a session is among these
abbrev pub is_named : ℕ → List ℕ → Bool
is_named session named = list_any (is_session session) named

-- no session counts for another, and none counts twice
pub record CountsEach (r : Round) (named : List ℕ) : Type 0 where
  -- awaited are those that were awaited and aren't named
  pub awaited : (session : ℕ) → awaits (after_all r named) session ≡ (awaits r session && not (is_named session named))
  -- it is over exactly where each that was awaited is named
  pub over : is_over (after_all r named) ≡ true ↔ ((session : ℕ) → awaits r session ≡ true → is_named session named ≡ true)
  -- when it is due stays
  pub due : (after_all r named).due ≡ r.due
