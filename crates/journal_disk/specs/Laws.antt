-- Laws of what bytes stand for.
use Rattle.std.specs.Prelude.{◌≡◌, ℕ, List}
use Rattle.plain_orders.specs.declared.entry.Entry.{Entry}
use Rattle.journal_disk.specs.Stands.{Stands, AreLow, HasBadGate}

-- bytes stand for at most one list
abbrev pub OneList : Type 0
OneList = (bytes : List ℕ) (es fs : List Entry) → Stands bytes es → Stands bytes fs → es ≡ fs

-- bytes with a bad gate stand for no list, but maybe for one with an Epoch above START_EPOCH_LIMIT
abbrev pub BadGateNoList : Type 0
BadGateNoList = (bytes : List ℕ) (place : ℕ) (list : List Entry) → HasBadGate bytes place → Stands bytes list → AreLow list → ⊥

-- the first bad gate is at one place
abbrev pub OneBadGate : Type 0
OneBadGate = (bytes : List ℕ) (p q : ℕ) → HasBadGate bytes p → HasBadGate bytes q → p ≡ q
