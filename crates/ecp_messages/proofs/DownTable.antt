-- The table of the messages from a data server.
use Rattle.std.proofs.Common.{◌≡◌, ◌≢◌, ℕ, List, [], ◌∷◌, ◌==◌, if◌then◌else◌, map, refl, sym, ◌∙◌, arith, pos}
use Rattle.ecp_messages.specs.declared.about.About.TheVariants.{Counted}
use Rattle.ecp_messages.specs.declared.down.Down.{Down}
use Rattle.ecp_messages.specs.declared.down.Down.TheVariants.{Welcome, Reset, Block, Drop, Ack, Grant, Answer, Normal, Bare}
use Rattle.ecp_messages.specs.declared.front.Front.{Front}
use Rattle.ecp_messages.specs.Downs.{down_row}
use Rattle.ecp_messages.specs.Taking.{IsUnknown, NoMessage}
use Rattle.ecp_messages.proofs.Tables.{IsTable, no-message}
use Rattle.ecp_messages.proofs.FieldKinds.{Kind, kind_of}
use Rattle.ecp_messages.proofs.FieldKinds.Kind.{OfU16, OfU32, OfU64, OfI64, OfTold, OfFront, OfPart}
use Rattle.ecp_messages.proofs.Taken.{NoFields, missing}

-- the kinds of the fields behind a message's kind
abbrev pub down_kinds : ℕ → List Kind
down_kinds k =
    if k == 0x81 then OfU64 ∷ OfU32 ∷ OfU64 ∷ OfFront ∷ OfU64 ∷ [] else
    (if k == 0x82 then OfU64 ∷ OfU64 ∷ [] else
    (if k == 0x83 then OfFront ∷ OfPart ∷ [] else
    (if k == 0x84 then OfFront ∷ OfPart ∷ OfPart ∷ [] else
    (if k == 0x85 then OfFront ∷ [] else
    (if k == 0x86 then OfFront ∷ OfU32 ∷ OfU64 ∷ [] else
    (if k == 0x87 then OfFront ∷ OfTold ∷ OfU16 ∷ OfU64 ∷ OfU64 ∷ OfI64 ∷ [] else
    (if k == 0x88 then OfFront ∷ [] else [])))))))

down-kinds : (m : Down) → map kind_of (down_row m).fields ≡ down_kinds (down_row m).kind
down-kinds (Welcome session epoch kept front taken) = refl
down-kinds (Reset session at) = refl
down-kinds (Block front block) = refl
down-kinds (Drop front lo hi) = refl
down-kinds (Ack front) = refl
down-kinds (Grant front ticket at) = refl
down-kinds (Answer front about job number at sum) = refl
down-kinds (Normal front) = refl
down-kinds Bare = refl

-- of one kind and the same fields there is one message
down-same : (m n : Down) → (down_row m).kind ≡ (down_row n).kind → (down_row m).fields ≡ (down_row n).fields → m ≡ n
down-same (Welcome a b c d f) (Welcome a' b' c' d' f') k e = cc
down-same (Reset a b) (Reset a' b') k e = cc
down-same (Block a b) (Block a' b') k e = cc
down-same (Drop a b c) (Drop a' b' c') k e = cc
down-same (Ack a) (Ack a') k e = cc
down-same (Grant a b c) (Grant a' b' c') k e = cc
down-same (Answer a b c d f g) (Answer a' b' c' d' f' g') k e = cc
down-same (Normal a) (Normal a') k e = cc
down-same Bare Bare k e = refl
down-same _ _ k e = absurd (omega arith)

pub down-table : IsTable down_row down_kinds
down-table = record { kinds_are = down-kinds; one = down-same }

-- where fields of these kinds are missing, the message is
pub no_down : (kind : ℕ) (bytes : List ℕ) → NoFields (down_kinds kind) bytes → NoMessage down_row kind bytes
no_down kind bytes none = no-message down_row down_kinds down-table kind bytes none

-- the kinds of the table are these
pub unknown_kind : (k : ℕ) → k ≢ 0x81 → k ≢ 0x82 → k ≢ 0x83 → k ≢ 0x84 → k ≢ 0x85 → k ≢ 0x86 → k ≢ 0x87 → k ≢ 0x88 → k ≢ 0x7F → IsUnknown down_row k
unknown_kind k a b c d e f g h i (Welcome x0 x1 x2 x3 x4) x = a (sym x)
unknown_kind k a b c d e f g h i (Reset x0 x1) x = b (sym x)
unknown_kind k a b c d e f g h i (Block x0 x1) x = c (sym x)
unknown_kind k a b c d e f g h i (Drop x0 x1 x2) x = d (sym x)
unknown_kind k a b c d e f g h i (Ack x0) x = e (sym x)
unknown_kind k a b c d e f g h i (Grant x0 x1 x2) x = f (sym x)
unknown_kind k a b c d e f g h i (Answer x0 x1 x2 x3 x4 x5) x = g (sym x)
unknown_kind k a b c d e f g h i (Normal x0) x = h (sym x)
unknown_kind k a b c d e f g h i Bare x = i (sym x)

-- a message of each kind
abbrev start : Front
start = record { n = 0; w = 0; s = 0 }

abbrev sample : ℕ → Down
sample k =
    if k == 0x81 then Welcome 0 0 0 start 0 else
    (if k == 0x82 then Reset 0 0 else
    (if k == 0x83 then Block start [] else
    (if k == 0x84 then Drop start [] [] else
    (if k == 0x85 then Ack start else
    (if k == 0x86 then Grant start 0 0 else
    (if k == 0x87 then Answer start Counted 0 0 0 (pos 0) else
    (if k == 0x88 then Normal start else Bare)))))))

pub known-kind : (k kind : ℕ) → (down_row (sample k)).kind ≡ k → kind ≡ k → IsUnknown down_row kind → ⊥
known-kind k kind e f u = u (sample k) (e ∙ sym f)

-- what shows that a message is missing
pub ruleset no_message = (no_down, missing)
