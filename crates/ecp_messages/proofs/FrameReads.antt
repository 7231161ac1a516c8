-- What the parts of a body that were read tell of the whole, for frames of either table.
use Rattle.std.proofs.Common.{◌≡◌, ℕ, ◌<◌, List, ◌++◌, length, refl, sym, ap, subst, ◌∙◌, arith, append_assoc, length-append}
use Rattle.std.specs.Prelude.{slice_index}
use Rattle.field_bytes.specs.Fields.{IsU64, NoneAhead, IsPrefixFree}
use Rattle.ecp_messages.specs.Rows.{KindRow, head_bytes, frame_bytes, fields_bytes, HasSeq, IsFrame}
use Rattle.ecp_messages.specs.Taking.{IsAhead, NoMessage, IsUnknown, HasUnknownKind}
use Rattle.ecp_messages.specs.Readings.{HasBadField}
use Rattle.ecp_messages.proofs.FieldKinds.{Kind}
use Rattle.ecp_messages.proofs.Frames.{one-head, length-head, kind-at, room-for-head}
use Rattle.ecp_messages.proofs.Tables.{IsTable, one-message}
use Rattle.ecp_messages.proofs.Readings.{AreRead}

-- frames of a table: their bytes, and when they are well-formed
pub record AreFrames {M F : Type 0} (row : M → KindRow) (kinds : ℕ → List Kind) (seq ack : F → ℕ) (message : F → M) : Type 0 where
  pub table : IsTable row kinds
  pub one : (f g : F) → seq f ≡ seq g → ack f ≡ ack g → message f ≡ message g → f ≡ g

abbrev pub bytes_of : {M F : Type 0} → (M → KindRow) → (F → ℕ) → (F → ℕ) → (F → M) → F → List ℕ
bytes_of row seq ack message f = frame_bytes (seq f) (ack f) (row (message f))

abbrev pub Formed : {M F : Type 0} → (M → KindRow) → (F → ℕ) → (F → ℕ) → (F → M) → F → Type 0
Formed row seq ack message f = IsFrame (seq f) (ack f) (row (message f))

-- a well-formed frame that begins bytes, as head and message
record Parts {M : Type 0} (row : M → KindRow) (seq ack seq' ack' kind : ℕ) (bytes : List ℕ) (message : M) (rest : List ℕ) : Type 0 where
  same_seq : seq ≡ seq'
  same_ack : ack ≡ ack'
  ahead : IsAhead row kind bytes message rest

parts : {M : Type 0} (row : M → KindRow) (seq ack kind : ℕ) (body bytes : List ℕ) → IsU64 seq → IsU64 ack → body ≡ head_bytes seq ack kind ++ bytes → (seq' ack' : ℕ) (message : M) (rest : List ℕ) → IsFrame seq' ack' (row message) → body ≡ frame_bytes seq' ack' (row message) ++ rest → Parts row seq ack seq' ack' kind bytes message rest
parts row seq ack kind body bytes p q e seq' ack' message rest g k =
    let h = one-head seq ack kind seq' ack' (row message).kind bytes (fields_bytes (row message).fields ++ rest) p q g.seq_fits g.ack_fits (sym e ∙ k ∙ append_assoc (head_bytes seq' ack' (row message).kind) (fields_bytes (row message).fields) rest) in
    record {
      same_seq = h.same_seq;
      same_ack = h.same_ack;
      ahead = record { kind_is = sym h.same_kind; fields = record { within = g.fields; stand = h.same_rest }; sum = g.sum };
    }

-- fewer than 17 bytes
pub short-body : {M F : Type 0} (row : M → KindRow) (seq ack : F → ℕ) (message : F → M) (body : List ℕ) → length body < 17 → HasBadField (bytes_of row seq ack message) (Formed row seq ack message) (HasUnknownKind row body) body
short-body row seq ack message body short = record {
  none = λ f rest g e. absurd (omega (arith, ap length e, length-head (seq f) (ack f) (row (message f)).kind, length-append (head_bytes (seq f) (ack f) (row (message f)).kind) (fields_bytes (row (message f)).fields), length-append (bytes_of row seq ack message f) rest));
  known = λ u. absurd (omega (arith, u.room));
}

-- a kind of the table
is-known : {M : Type 0} (row : M → KindRow) (seq ack kind : ℕ) (body bytes : List ℕ) → body ≡ head_bytes seq ack kind ++ bytes → (IsUnknown row kind → ⊥) → HasUnknownKind row body → ⊥
is-known row seq ack kind body bytes e known u = known (subst (IsUnknown row) (ap (λ b. slice_index b 16) e ∙ kind-at seq ack kind bytes) u.unknown)

-- no message stands behind the head
pub no-frame : {M F : Type 0} (row : M → KindRow) (frame_seq frame_ack : F → ℕ) (message : F → M) (seq ack kind : ℕ) (body bytes : List ℕ) → IsU64 seq → IsU64 ack → body ≡ head_bytes seq ack kind ++ bytes → (IsUnknown row kind → ⊥) → NoMessage row kind bytes → HasBadField (bytes_of row frame_seq frame_ack message) (Formed row frame_seq frame_ack message) (HasUnknownKind row body) body
no-frame row frame_seq frame_ack message seq ack kind body bytes p q e known none = record {
  none = λ f rest g k. none.none (message f) rest (parts row seq ack kind body bytes p q e (frame_seq f) (frame_ack f) (message f) rest g k).ahead;
  known = is-known row seq ack kind body bytes e known;
}

-- an unknown kind
pub unknown-head : {M : Type 0} (row : M → KindRow) (seq ack kind : ℕ) (body bytes : List ℕ) → body ≡ head_bytes seq ack kind ++ bytes → IsUnknown row kind → HasUnknownKind row body
unknown-head row seq ack kind body bytes e u = record {
  room = room-for-head seq ack kind bytes body e;
  unknown = subst (IsUnknown row) (sym (ap (λ b. slice_index b 16) e ∙ kind-at seq ack kind bytes)) u;
}

-- a number that the message may not have
pub wrong-seq : {M F : Type 0} (row : M → KindRow) (kinds : ℕ → List Kind) (frame_seq frame_ack : F → ℕ) (message : F → M) → IsTable row kinds → (seq ack kind : ℕ) (body bytes : List ℕ) (m : M) (rest : List ℕ) → IsU64 seq → IsU64 ack → body ≡ head_bytes seq ack kind ++ bytes → IsAhead row kind bytes m rest → (HasSeq (row m).numbered seq → ⊥) → HasBadField (bytes_of row frame_seq frame_ack message) (Formed row frame_seq frame_ack message) (HasUnknownKind row body) body
wrong-seq {M} row kinds frame_seq frame_ack message t seq ack kind body bytes m rest p q e a other = record {
  none = λ f more g k.
      let o = parts row seq ack kind body bytes p q e (frame_seq f) (frame_ack f) (message f) more g k in
      let one = one-message row kinds t kind bytes m (message f) rest more a o.ahead in
      other (subst (λ (x : M). HasSeq (row x).numbered seq) (sym one.0) (subst (λ (n : ℕ). HasSeq (row (message f)).numbered n) (sym o.same_seq) g.numbered));
  known = is-known row seq ack kind body bytes e (λ u. u m a.kind_is);
}

-- a frame stands there
pub frame-stands : {M : Type 0} (row : M → KindRow) (seq ack kind : ℕ) (body bytes : List ℕ) (m : M) (rest : List ℕ) → body ≡ head_bytes seq ack kind ++ bytes → IsAhead row kind bytes m rest → body ≡ frame_bytes seq ack (row m) ++ rest
frame-stands row seq ack kind body bytes m rest e a =
    e ∙ ap (λ b. head_bytes seq ack kind ++ b) a.fields.stand ∙ sym (append_assoc (head_bytes seq ack kind) (fields_bytes (row m).fields) rest) ∙ ap (λ k. (head_bytes seq ack k ++ fields_bytes (row m).fields) ++ rest) (sym a.kind_is)

pub is-frame : {M : Type 0} (row : M → KindRow) (seq ack kind : ℕ) (bytes : List ℕ) (m : M) (rest : List ℕ) → IsU64 seq → IsU64 ack → IsAhead row kind bytes m rest → HasSeq (row m).numbered seq → IsFrame seq ack (row m)
is-frame row seq ack kind bytes m rest p q a h = record { seq_fits = p; ack_fits = q; numbered = h; fields = a.fields.within; sum = a.sum }

-- bytes that begin with a frame do so in one way
pub frames-free : {M F : Type 0} (row : M → KindRow) (kinds : ℕ → List Kind) (seq ack : F → ℕ) (message : F → M) → AreFrames row kinds seq ack message → IsPrefixFree (bytes_of row seq ack message) (Formed row seq ack message)
frames-free row kinds seq ack message a f g r s p q e =
    let kind = (row (message f)).kind in
    let bytes = fields_bytes (row (message f)).fields ++ r in
    let stands : bytes_of row seq ack message f ++ r ≡ head_bytes (seq f) (ack f) kind ++ bytes = append_assoc (head_bytes (seq f) (ack f) kind) (fields_bytes (row (message f)).fields) r in
    let o = parts row (seq f) (ack f) kind (bytes_of row seq ack message f ++ r) bytes p.seq_fits p.ack_fits stands (seq g) (ack g) (message g) s q e in
    let first : IsAhead row kind bytes (message f) r = record { kind_is = refl; fields = record { within = p.fields; stand = refl }; sum = p.sum } in
    let one = one-message row kinds a.table kind bytes (message f) (message g) r s first o.ahead in
    (a.one f g o.same_seq o.same_ack one.0, one.1)

-- where the kind is unknown no frame begins the body
frames-apart : {M F : Type 0} (row : M → KindRow) (seq ack : F → ℕ) (message : F → M) (body : List ℕ) → HasUnknownKind row body → NoneAhead (bytes_of row seq ack message) (Formed row seq ack message) body
frames-apart row seq ack message body u f rest g e =
    let kind = (row (message f)).kind in
    let bytes = fields_bytes (row (message f)).fields ++ rest in
    let stands : body ≡ head_bytes (seq f) (ack f) kind ++ bytes = e ∙ append_assoc (head_bytes (seq f) (ack f) kind) (fields_bytes (row (message f)).fields) rest in
    u.unknown (message f) (sym (ap (λ b. slice_index b 16) stands ∙ kind-at (seq f) (ack f) kind bytes))

pub frames-are_read : {M F : Type 0} (row : M → KindRow) (kinds : ℕ → List Kind) (seq ack : F → ℕ) (message : F → M) → AreFrames row kinds seq ack message → (body : List ℕ) → AreRead (bytes_of row seq ack message) (Formed row seq ack message) (HasUnknownKind row body) body
frames-are_read row kinds seq ack message a body = record {
  free = frames-free row kinds seq ack message a;
  apart = frames-apart row seq ack message body;
}
