-- What the calls of a disk do to its bytes, and what a crash may do between two syncs.
use Rattle.std.specs.Prelude.{◌≡◌, ◌⊎◌, ℕ, ◌+◌, ◌-◌, ◌^◌, ◌≤◌, min, max, List, ◌++◌, length, take, drop, Option, None, Some, IfSome, ⊤}

-- the bytes with this part written over those at the place, and past the end
abbrev pub written : List ℕ → ℕ → List ℕ → List ℕ
written bytes at part = take at bytes ++ (part ++ drop (at + length part) bytes)

-- after a write of n bytes that a crash cuts short: any bytes in the range and past the old end, the same elsewhere
pub record Torn (at n : ℕ) (old new : List ℕ) : Type 0 where
  pub before : take at new ≡ take at old
  pub after : drop (at + n) new ≡ drop (at + n) old
  pub no_shorter : length old ≤ length new
  pub no_longer : length new ≤ max (length old) (at + n)

-- after a cut: some of what stood behind the place is gone, from the end
pub record Cut (to : ℕ) (old new : List ℕ) : Type 0 where
  pub no_shorter : min to (length old) ≤ length new
  pub front : take (length new) old ≡ new

-- each new outcome of a crash is an old outcome after a step
abbrev pub Follows : (List ℕ → List ℕ → Type 0) → (List ℕ → Type 0) → (List ℕ → Type 0) → Type 0
Follows step old new = (c : List ℕ) → new c → (d : List ℕ) × old d × step d c

-- each new outcome of a crash is an old one
abbrev pub LeavesNoMore : (List ℕ → Type 0) → (List ℕ → Type 0) → Type 0
LeavesNoMore old new = (c : List ℕ) → new c → old c

-- a crash leaves these bytes and nothing else
abbrev pub Only : List ℕ → (List ℕ → Type 0) → Type 0
Only bytes outcomes = (c : List ℕ) → outcomes c → c ≡ bytes

-- where a disk tells, a crash leaves what a read gives
abbrev pub IsSynced : Option (List ℕ) → (List ℕ → Type 0) → Type 0
IsSynced told outcomes = IfSome told (λ bytes. Only bytes outcomes)

-- both have a value, and the values are so related, or neither has
abbrev pub Matched : {T : Type 0} → (T → T → Type 0) → Option T → Option T → Type 0
Matched step None None = ⊤
Matched step (Some old) (Some new) = step old new
Matched step None (Some new) = ⊥
Matched step (Some old) None = ⊥

-- time goes on: a crash since t might have left what it might have left before, or what it may leave now
pub record Elapses (before now : ℕ) (past since : ℕ → List ℕ → Type 0) (may_leave : List ℕ → Type 0) : Type 0 where
  pub later : before ≤ now
  pub nothing_else : (t : ℕ) (c : List ℕ) → t ≤ before → since t c → past t c ⊎ may_leave c
  pub keeps : (t : ℕ) (c : List ℕ) → t ≤ before → past t c → since t c

-- a crash at any moment since old leaves bytes that have P
pub record LeavesOnly {D : Type 0} (moment : D → ℕ) (left_since : D → ℕ → List ℕ → Type 0) (old new : D) (P : List ℕ → Type 0) : Type 0 where
  pub later : moment old ≤ moment new
  pub each : (c : List ℕ) → left_since new (moment old) c → P c
  -- for a run that began earlier
  pub before : (t : ℕ) (c : List ℕ) → t ≤ moment old → left_since new t c → left_since old t c ⊎ P c

-- a count rose by so many, where one that stands at the greatest u64 stays there
abbrev pub RoseBy : ℕ → ℕ → ℕ → Type 0
RoseBy more before now = (min (before + more) (2 ^ 64 - 1) ≤ now) × (now ≤ before + more)
