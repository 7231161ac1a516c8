-- The 17 bytes in front of the fields of a frame.
use Rattle.std.proofs.Common.{◌≡◌, ℕ, ◌+◌, ◌^◌, ◌<◌, ◌≤◌, List, [], ◌∷◌, ◌++◌, length, Bool, true, false, refl, sym, ap, subst, ◌∙◌, arith, append_assoc, length-append, get_or, take, drop, lit<}
use Rattle.std.specs.Int.{w64, from_be_bytes}
use Rattle.std.proofs.lemmas.List.{get_or-take, get_or-append-add}
use Rattle.std.specs.Prelude.{slice_index, ◌↔◌, ◌==◌, IsTrue}
use Rattle.field_bytes.specs.Fields.{u8_bytes, u64_bytes, IsU8, IsU64, NoneAhead}
use Rattle.field_bytes.proofs.NumberFields.{AreBytes, u64_stands}
use Rattle.field_bytes.proofs.PrefixFree.{u64_prefix_free}
use Rattle.ecp_messages.specs.Rows.{head_bytes, HasSeq}

-- two heads of the same bytes are one
pub record SameHead (seq ack kind seq' ack' kind' : ℕ) (rest rest' : List ℕ) : Type 0 where
  pub same_seq : seq ≡ seq'
  pub same_ack : ack ≡ ack'
  pub same_kind : kind ≡ kind'
  pub same_rest : rest ≡ rest'

pub one-head : (seq ack kind seq' ack' kind' : ℕ) (rest rest' : List ℕ) → IsU64 seq → IsU64 ack → IsU64 seq' → IsU64 ack' → head_bytes seq ack kind ++ rest ≡ head_bytes seq' ack' kind' ++ rest' → SameHead seq ack kind seq' ack' kind' rest rest'
unfolding head_bytes
one-head seq ack kind seq' ack' kind' rest rest' p q p' q' e =
    let whole : u64_bytes seq ++ (u64_bytes ack ++ (kind ∷ rest)) ≡ u64_bytes seq' ++ (u64_bytes ack' ++ (kind' ∷ rest')) = sym (simp append_assoc) ∙ e ∙ simp append_assoc in
    let t = u64_prefix_free seq seq' (u64_bytes ack ++ (kind ∷ rest)) (u64_bytes ack' ++ (kind' ∷ rest')) p p' whole in
    let u = u64_prefix_free ack ack' (kind ∷ rest) (kind' ∷ rest') q q' t.1 in
    record { same_seq = t.0; same_ack = u.0; same_kind = (cc (u.1)); same_rest = (cc (u.1)) }

-- a head has 17 bytes, and the 17th is the kind
pub length-head : (seq ack kind : ℕ) → length (head_bytes seq ack kind) ≡ 17
unfolding head_bytes u64_bytes
length-head seq ack kind = refl

pub kind-at : (seq ack kind : ℕ) (rest : List ℕ) → slice_index (head_bytes seq ack kind ++ rest) 16 ≡ kind
unfolding head_bytes u64_bytes
kind-at seq ack kind rest = refl

pub room-for-head : (seq ack kind : ℕ) (rest body : List ℕ) → body ≡ head_bytes seq ack kind ++ rest → 17 ≤ length body
room-for-head seq ack kind rest body e = omega (arith, length-head seq ack kind, ap length e, length-append (head_bytes seq ack kind) rest)

pub head-stands : (seq ack kind : ℕ) (body after_seq after_ack rest : List ℕ) → body ≡ u64_bytes seq ++ after_seq → after_seq ≡ u64_bytes ack ++ after_ack → after_ack ≡ u8_bytes kind ++ rest → body ≡ head_bytes seq ack kind ++ rest
unfolding head_bytes
head-stands seq ack kind body after_seq after_ack rest e f g = rw (e, f, g) (sym (simp append_assoc))

-- what follows a number in bytes
record Follows (bytes rest : List ℕ) : Type 0 where
  all : AreBytes rest
  count : length bytes ≡ 8 + length rest

length-u64 : (n : ℕ) → length (u64_bytes n) ≡ 8
unfolding u64_bytes
length-u64 n = refl

follows : (n : ℕ) (bytes rest : List ℕ) → AreBytes bytes → bytes ≡ u64_bytes n ++ rest → Follows bytes rest
follows n bytes rest all e = record {
  all = λ i. rw (← get_or-append-add (u64_bytes n) rest i 0, ← e) (all (length (u64_bytes n) + i));
  count = omega (arith, length-u64 n, ap length e, length-append (u64_bytes n) rest);
}

-- eight bytes are a number
pub number-ahead : (bytes : List ℕ) → AreBytes bytes → 8 ≤ length bytes → NoneAhead u64_bytes IsU64 bytes → ⊥
number-ahead bytes all long none =
    let front = take 8 bytes in
    let stands = u64_stands bytes front (drop 8 bytes) (from_be_bytes w64 front) all long refl refl refl in
    let byte : (i : ℕ) → i < 8 → get_or front i 0 < 256 = λ i lt. rw (get_or-take 8 bytes i 0 lt) (all i) in
    let below : from_be_bytes w64 front < 2 ^ 64 = omega (arith, byte 0 (lit< tt), byte 1 (lit< tt), byte 2 (lit< tt), byte 3 (lit< tt), byte 4 (lit< tt), byte 5 (lit< tt), byte 6 (lit< tt), byte 7 (lit< tt)) in
    none (from_be_bytes w64 front) (drop 8 bytes) below stands

pub ack-ahead : (seq : ℕ) (body rest : List ℕ) → AreBytes body → 17 ≤ length body → body ≡ u64_bytes seq ++ rest → NoneAhead u64_bytes IsU64 rest → ⊥
ack-ahead seq body rest all long e none =
    let f = follows seq body rest all e in
    number-ahead rest f.all (omega (arith, f.count)) none

pub kind-ahead : (seq ack : ℕ) (body rest after : List ℕ) → AreBytes body → 17 ≤ length body → body ≡ u64_bytes seq ++ rest → rest ≡ u64_bytes ack ++ after → NoneAhead u8_bytes IsU8 after → ⊥
kind-ahead seq ack body rest after all long e k none =
    let f = follows seq body rest all e in
    let g = follows ack rest after f.all k in
    some after g.all (omega (arith, f.count, g.count)) none
  where
    some : (bytes : List ℕ) → AreBytes bytes → 1 ≤ length bytes → NoneAhead u8_bytes IsU8 bytes → ⊥
    some [] all long none = absurd (omega arith)
    some (b ∷ bs) all long none = none b bs (all 0) refl

-- whether a number is as the table says
pub seq-holds : (r n m : Bool) (seq : ℕ) → (IsTrue r ↔ HasSeq n seq) → r ≡ true → n ≡ m → HasSeq m seq
seq-holds r n m seq decides e same = subst (λ (x : Bool). HasSeq x seq) same (decides.0 e)

pub seq-fails : (r n m : Bool) (seq : ℕ) → (IsTrue r ↔ HasSeq n seq) → r ≡ false → n ≡ m → HasSeq m seq → ⊥
seq-fails r n m seq decides e same h =
    let yes : r ≡ true = decides.1 (subst (λ (x : Bool). HasSeq x seq) (sym same) h) in
    absurd (cc)

-- bytes are left
pub some-left : (r : Bool) (rest : List ℕ) → r ≡ (length rest == 0) → r ≡ false → rest ≡ [] → ⊥
some-left r rest e f g =
    let yes : r ≡ true = e ∙ ap (λ (x : List ℕ). length x == 0) g in
    absurd (cc)
