-- Laws of the table of locks: what each call keeps.
use Rattle.std.specs.Prelude.{◌≡◌, ◌+◌, ◌==◌, ◌⊎◌, ℕ, false, List, [], ◌∷◌, ◌++◌}
use Rattle.std.specs.List.{filter, list_any}
use Rattle.plain_orders.specs.declared.mode.Mode.{Mode}
use Rattle.lock_table.specs.declared.rows.Hold.{Hold}
use Rattle.lock_table.specs.declared.rows.Request.{Request}
use Rattle.lock_table.specs.declared.rows.Who.{Who}
use Rattle.lock_table.specs.LockWords.{Locks, asked, passed, raised, lowered, is_hold_elsewhere, freed, without_request, without_grant, without_session, is_barred, claimed}
use Rattle.lock_table.specs.Counts.{is_same_lane, held_count, request_count}

-- no two holds of different holders conflict
abbrev pub AreApart : List Hold → Type 0
AreApart [] = Unit {0}
AreApart (h ∷ hs) = (list_any (is_barred h.who h.name h.mode) hs ≡ false) × AreApart hs

-- each call keeps the holds apart; a claim does where no hold bars it
pub record KeepsApart (l : Locks) : Type 0 where
  pub ask : (r : Request) (at : ℕ) → AreApart (asked l r at).locks.holds
  pub free : (who : Who) (name : List ℕ) (mode : Mode) (at : ℕ) → AreApart (freed l who name mode at).locks.holds
  pub cancel : (session ticket at : ℕ) → AreApart (without_request l session ticket at).locks.holds
  pub give_back : (r : Request) (at : ℕ) → AreApart (without_grant l r at).locks.holds
  pub drop_session : (session at : ℕ) → AreApart (without_session l session at).locks.holds
  pub claim : (who : Who) (name : List ℕ) (mode : Mode) (count at : ℕ) → list_any (is_barred who name mode) l.holds ≡ false → AreApart (claimed l who name mode count at).holds

-- a list is two others, one shuffled into the other, each in its order
abbrev pub AreShuffled : List Request → List Request → List Request → Type 0
AreShuffled [] left grants = (left ≡ []) × (grants ≡ [])
AreShuffled (r ∷ rs) left grants =
    ((rest : List Request) × (left ≡ r ∷ rest) × AreShuffled rs rest grants) ⊎ ((rest : List Request) × (grants ≡ r ∷ rest) × AreShuffled rs left rest)

-- a pass grants some of the requests and leaves the others, all in their order; each count rises by its grants alone, and the tickets that were granted stay
pub record PassesOn (l : Locks) (at : ℕ) : Type 0 where
  pub requests : AreShuffled l.requests (passed l at).locks.requests (passed l at).grants
  pub counts : (who : Who) (name : List ℕ) (mode : Mode) → held_count who name mode (passed l at).locks.holds ≡ held_count who name mode l.holds + request_count who name mode (passed l at).grants
  pub granted : (passed l at).locks.granted ≡ l.granted ++ (passed l at).grants

-- what raises or lowers one count, or gives up a session, leaves the counts of other holders, names and modes
pub record KeepsOthers (holds : List Hold) : Type 0 where
  pub raise : (who : Who) (name : List ℕ) (mode : Mode) (more at : ℕ) (w : Who) (n : List ℕ) (m : Mode) → is_same_lane w n m who name mode ≡ false → held_count w n m (raised who name mode more at holds) ≡ held_count w n m holds
  pub lower : (who : Who) (name : List ℕ) (mode : Mode) (w : Who) (n : List ℕ) (m : Mode) → is_same_lane w n m who name mode ≡ false → held_count w n m (lowered who name mode holds) ≡ held_count w n m holds
  pub drop_session : (session : ℕ) (w : Who) (n : List ℕ) (m : Mode) → (w.session == session) ≡ false → held_count w n m (filter (is_hold_elsewhere session) holds) ≡ held_count w n m holds
