-- Messages from an application server that were taken, or are missing.
use Rattle.std.proofs.Common.{◌≡◌, ◌≢◌, ℕ, List, [], ◌∷◌, ◌==◌, if◌then◌else◌, map, refl, sym, ◌∙◌, arith, true, pos}
use Rattle.plain_orders.specs.declared.op.Op.TheVariants.{Kill}
use Rattle.plain_orders.specs.declared.mode.Mode.TheVariants.{Shared}
use Rattle.ecp_messages.specs.declared.up.Up.{Up}
use Rattle.ecp_messages.specs.declared.up.Up.TheVariants.{Hello, Recover, Update, Add, Fetch, Ask, Unlock, Cancel, Commit, Rollback, Sync, Done, Claim, Bare}
use Rattle.ecp_messages.specs.Ups.{up_row}
use Rattle.ecp_messages.specs.Taking.{IsUnknown, NoMessage}
use Rattle.ecp_messages.proofs.Tables.{IsTable, no-message}
use Rattle.ecp_messages.proofs.FieldKinds.{Kind, kind_of}
use Rattle.ecp_messages.proofs.FieldKinds.Kind.{OfVersion, OfU8, OfU16, OfU32, OfU64, OfI64, OfCount, OfHeld, OfWanted, OfKey, OfSought, OfChange}
use Rattle.ecp_messages.proofs.Taken.{NoFields, missing}

-- the kinds of the fields behind a message's kind
abbrev pub up_kinds : ℕ → List Kind
up_kinds k =
    if k == 0x01 then OfVersion ∷ OfU8 ∷ OfU32 ∷ [] else
    (if k == 0x02 then OfU8 ∷ OfU64 ∷ OfU32 ∷ OfU64 ∷ OfU32 ∷ [] else
    (if k == 0x03 then OfU64 ∷ OfU16 ∷ OfU32 ∷ OfChange ∷ [] else
    (if k == 0x04 then OfU64 ∷ OfU16 ∷ OfKey ∷ OfI64 ∷ [] else
    (if k == 0x05 then OfSought ∷ [] else
    (if k == 0x06 then OfU32 ∷ OfU16 ∷ OfHeld ∷ OfKey ∷ [] else
    (if k == 0x07 then OfU16 ∷ OfHeld ∷ OfKey ∷ [] else
    (if k == 0x08 then OfU32 ∷ [] else
    (if k == 0x09 then OfU64 ∷ OfU16 ∷ OfU32 ∷ OfWanted ∷ [] else
    (if k == 0x0A then OfU64 ∷ OfU16 ∷ OfU32 ∷ [] else
    (if k == 0x0B then OfU32 ∷ [] else
    (if k == 0x0D then OfU16 ∷ OfHeld ∷ OfCount ∷ OfU64 ∷ OfKey ∷ [] else [])))))))))))

up-kinds : (m : Up) → map kind_of (up_row m).fields ≡ up_kinds (up_row m).kind
up-kinds (Hello app dial) = refl
up-kinds (Recover app session epoch taken dial) = refl
up-kinds (Update w job txn op) = refl
up-kinds (Add w job key amount) = refl
up-kinds (Fetch key) = refl
up-kinds (Ask ticket job mode key) = refl
up-kinds (Unlock job mode key) = refl
up-kinds (Cancel ticket) = refl
up-kinds (Commit w job txn wanted) = refl
up-kinds (Rollback w job txn) = refl
up-kinds (Sync ticket) = refl
up-kinds Done = refl
up-kinds (Claim job mode count at key) = refl
up-kinds Bare = refl

-- of one kind and the same fields there is one message
up-same : (m n : Up) → (up_row m).kind ≡ (up_row n).kind → (up_row m).fields ≡ (up_row n).fields → m ≡ n
up-same (Hello a b) (Hello a' b') k e = cc
up-same (Recover a b c d f) (Recover a' b' c' d' f') k e = cc
up-same (Update a b c d) (Update a' b' c' d') k e = cc
up-same (Add a b c d) (Add a' b' c' d') k e = cc
up-same (Fetch a) (Fetch a') k e = cc
up-same (Ask a b c d) (Ask a' b' c' d') k e = cc
up-same (Unlock a b c) (Unlock a' b' c') k e = cc
up-same (Cancel a) (Cancel a') k e = cc
up-same (Commit a b c d) (Commit a' b' c' d') k e = cc
up-same (Rollback a b c) (Rollback a' b' c') k e = cc
up-same (Sync a) (Sync a') k e = cc
up-same Done Done k e = refl
up-same (Claim a b c d f) (Claim a' b' c' d' f') k e = cc
up-same Bare Bare k e = refl
up-same _ _ k e = absurd (omega arith)

pub up-table : IsTable up_row up_kinds
up-table = record { kinds_are = up-kinds; one = up-same }

-- where fields of these kinds are missing, the message is
pub no_up : (kind : ℕ) (bytes : List ℕ) → NoFields (up_kinds kind) bytes → NoMessage up_row kind bytes
no_up kind bytes none = no-message up_row up_kinds up-table kind bytes none

-- the kinds of the table are these
pub unknown_kind : (k : ℕ) → k ≢ 0x01 → k ≢ 0x02 → k ≢ 0x03 → k ≢ 0x04 → k ≢ 0x05 → k ≢ 0x06 → k ≢ 0x07 → k ≢ 0x08 → k ≢ 0x09 → k ≢ 0x0A → k ≢ 0x0B → k ≢ 0x0C → k ≢ 0x0D → k ≢ 0x7F → IsUnknown up_row k
unknown_kind k a b c d e f g h i j l m n o (Hello app dial) x = a (sym x)
unknown_kind k a b c d e f g h i j l m n o (Recover app session epoch taken dial) x = b (sym x)
unknown_kind k a b c d e f g h i j l m n o (Update w job txn op) x = c (sym x)
unknown_kind k a b c d e f g h i j l m n o (Add w job key amount) x = d (sym x)
unknown_kind k a b c d e f g h i j l m n o (Fetch key) x = e (sym x)
unknown_kind k a b c d e f g h i j l m n o (Ask ticket job mode key) x = f (sym x)
unknown_kind k a b c d e f g h i j l m n o (Unlock job mode key) x = g (sym x)
unknown_kind k a b c d e f g h i j l m n o (Cancel ticket) x = h (sym x)
unknown_kind k a b c d e f g h i j l m n o (Commit w job txn wanted) x = i (sym x)
unknown_kind k a b c d e f g h i j l m n o (Rollback w job txn) x = j (sym x)
unknown_kind k a b c d e f g h i j l m n o (Sync ticket) x = l (sym x)
unknown_kind k a b c d e f g h i j l m n o Done x = m (sym x)
unknown_kind k a b c d e f g h i j l m n o (Claim job mode count at key) x = n (sym x)
unknown_kind k a b c d e f g h i j l m n o Bare x = o (sym x)

-- a message of each kind
abbrev sample : ℕ → Up
sample k =
    if k == 0x01 then Hello 0 0 else
    (if k == 0x02 then Recover 0 0 0 0 0 else
    (if k == 0x03 then Update 0 0 0 (Kill []) else
    (if k == 0x04 then Add 0 0 [] (pos 0) else
    (if k == 0x05 then Fetch [] else
    (if k == 0x06 then Ask 0 0 Shared [] else
    (if k == 0x07 then Unlock 0 Shared [] else
    (if k == 0x08 then Cancel 0 else
    (if k == 0x09 then Commit 0 0 0 true else
    (if k == 0x0A then Rollback 0 0 0 else
    (if k == 0x0B then Sync 0 else
    (if k == 0x0C then Done else
    (if k == 0x0D then Claim 0 Shared 0 0 [] else Bare))))))))))))

pub known-kind : (k kind : ℕ) → (up_row (sample k)).kind ≡ k → kind ≡ k → IsUnknown up_row kind → ⊥
known-kind k kind e f u = u (sample k) (e ∙ sym f)

-- what shows that a message is missing
pub ruleset no_message = (no_up, missing)
