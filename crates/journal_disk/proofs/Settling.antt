-- What a journal's bytes stand for while its end is repaired.
use Rattle.std.proofs.Common.{◌≡◌, inl, inr, ℕ, ◌+◌, ◌-◌, ◌<◌, ◌≤◌, List, [], ◌∷◌, ◌++◌, length, take, Option, None, Some, Result, Ok, Err, OnOk, refl, sym, ◌∙◌, ap, subst, arith, append_assoc}
use Rattle.std.specs.Option.{ForSome}
use Rattle.std.proofs.lemmas.List.{length-append, take_at}
use Rattle.std.proofs.Math.Seq.{take-append-add}
use Rattle.plain_orders.specs.declared.entry.Entry.{Entry}
use Rattle.outer_disk.specs.Disk.{Cut, Only}
use Rattle.journal_disk.specs.Batches.{Batch, batch_bytes, bytes_of, entries_of}
use Rattle.journal_disk.specs.Stands.{Stands, StandsAs}
use Rattle.journal_disk.specs.Reading.{HasGate, IsRead}
use Rattle.journal_disk.specs.Settled.{IsResting, IsSettled, EachStands}
use Rattle.journal_disk.proofs.Staging.{batch_length}
use Rattle.journal_disk.proofs.OneList.{one_list}

pub gate_stands : (bytes : List ℕ) (list : List Entry) (gate : ℕ) → HasGate bytes list gate → Stands bytes list
gate_stands bytes list gate has = inr (record { batches = has.batches; whole = has.whole; rest = has.rest; file = has.file; same = has.same })

pub read_stands : (bytes : List ℕ) (list : List Entry) (gate : ℕ) → IsRead bytes list gate → Stands bytes list
read_stands bytes list gate (inl short) = inl (short.0, short.1)
read_stands bytes list gate (inr has) = gate_stands bytes list gate has

pub resting_stands : (bytes : List ℕ) (gate : ℕ) (list : List Entry) → IsResting bytes gate list → Stands bytes list
resting_stands bytes gate list at = inr (record { batches = at.batches; whole = at.whole; rest = []; file = at.file; same = at.same })

pub settled_stands : (told : Option (List ℕ)) (may_leave : List ℕ → Type 0) (gate : ℕ) (list : List Entry) → IsSettled told may_leave gate list → EachStands told may_leave list
settled_stands told may_leave gate list settled = λ bytes e.
    let at = settled bytes e in
    let stands = resting_stands bytes gate list at.0 in
    (stands, λ c left. subst (λ (bs : List ℕ). Stands bs list) (sym (at.1 c left)) stands)

short_batches : (bs : List Batch) (r : List ℕ) → length (bytes_of bs ++ 0 ∷ r) ≤ 1 → (entries_of bs ≡ []) × (length (bytes_of bs) ≡ 0)
short_batches [] r short = (refl, refl)
short_batches (b ∷ bs) r short =
    absurd (omega (arith, length-append (b.gate ∷ (batch_bytes b.entries ++ bytes_of bs)) (0 ∷ r), length-append (batch_bytes b.entries) (bytes_of bs), batch_length b.entries))

-- at most one byte was read as the empty list
pub short_read : (bytes : List ℕ) (list : List Entry) (gate : ℕ) → IsRead bytes list gate → length bytes ≤ 1 → (list ≡ []) × (gate ≡ 0)
short_read bytes list gate (inl short) le = (short.1, short.2)
short_read bytes list gate (inr has) le =
    let none = short_batches has.batches has.rest (omega (arith, le, ap length has.file)) in
    (sym has.same ∙ none.0, has.place ∙ none.1)

pub long_read : (bytes : List ℕ) (list : List Entry) (gate : ℕ) → IsRead bytes list gate → 1 < length bytes → HasGate bytes list gate
long_read bytes list gate (inl short) lt = absurd (omega (arith, short.0))
long_read bytes list gate (inr has) lt = has

pub gate_within : (bytes : List ℕ) (list : List Entry) (gate : ℕ) → HasGate bytes list gate → gate + 1 ≤ length bytes
gate_within bytes list gate has = omega (arith, has.place, ap length has.file, length-append (bytes_of has.batches) (0 ∷ has.rest))

closed_split : (bytes : List ℕ) (list : List Entry) (gate : ℕ) (has : HasGate bytes list gate) → bytes ≡ (bytes_of has.batches ++ 0 ∷ []) ++ has.rest
closed_split bytes list gate has = has.file ∙ sym (append_assoc (bytes_of has.batches) (0 ∷ []) has.rest)

closed_length : (bytes : List ℕ) (list : List Entry) (gate : ℕ) (has : HasGate bytes list gate) → length (bytes_of has.batches ++ 0 ∷ []) ≡ gate + 1
closed_length bytes list gate has = omega (arith, has.place, length-append (bytes_of has.batches) (0 ∷ []))

-- any cut behind the closed gate keeps what the bytes stand for
pub cut_stands : (bytes c : List ℕ) (list : List Entry) (gate : ℕ) → HasGate bytes list gate → Cut (gate + 1) bytes c → Stands c list
cut_stands bytes c list gate has cut =
    let front = bytes_of has.batches ++ 0 ∷ [] in
    let n = length c - (gate + 1) in
    let long : length c ≡ length front + n = omega (arith, cut.no_shorter, gate_within bytes list gate has, closed_length bytes list gate has) in
    inr (record {
      batches = has.batches;
      whole = has.whole;
      rest = take n has.rest;
      file = sym cut.front ∙ ap (λ (bs : List ℕ). take (length c) bs) (closed_split bytes list gate has) ∙ ap (λ (k : ℕ). take k (front ++ has.rest)) long
          ∙ take-append-add front has.rest n ∙ append_assoc (bytes_of has.batches) (0 ∷ []) (take n has.rest);
      same = has.same;
    })

pub cut_rests : (bytes : List ℕ) (list : List Entry) (gate : ℕ) → HasGate bytes list gate → IsResting (take (gate + 1) bytes) gate list
cut_rests bytes list gate has = record {
  batches = has.batches;
  whole = has.whole;
  file = ap (λ (bs : List ℕ). take (gate + 1) bs) (closed_split bytes list gate has) ∙ take_at (bytes_of has.batches ++ 0 ∷ []) has.rest (gate + 1) (closed_length bytes list gate has);
  place = has.place;
  same = has.same;
}

pub first_rests : (list : List Entry) (gate : ℕ) → list ≡ [] → gate ≡ 0 → IsResting (0 ∷ []) gate list
first_rests list gate e f = record { batches = []; whole = tt; file = refl; place = f; same = sym e }

pub short_stands : (c : List ℕ) (list : List Entry) → length c ≤ 1 → list ≡ [] → Stands c list
short_stands c list le e = inl (le, e)

-- what was read is all that the bytes stand for
pub read_as : (old c : List ℕ) (list : List Entry) → Stands old list → Stands c list → StandsAs old c
read_as old c list was now other stood = subst (Stands c) (one_list old list other was stood) now

pub same_as : (old c : List ℕ) → c ≡ old → StandsAs old c
same_as old c e list stood = subst (λ (bs : List ℕ). Stands bs list) (sym e) stood

pub on_ok : {T E : Type 0} → (r : Result T E) (A B : Type 0) → (A → B) → OnOk r A → OnOk r B
on_ok (Ok x) A B f a = f a
on_ok (Err e) A B f a = a

-- a disk with at most one byte that got a closed gate rests
pub put_settled : (o p : Option (List ℕ)) (may_leave : List ℕ → Type 0) (gate : ℕ) (list : List Entry) → (o ≡ None → p ≡ None)
    → ForSome o (λ b. (p ≡ Some (0 ∷ [])) × Only (0 ∷ []) may_leave) → ForSome o (λ b. length b ≤ 1) → ForSome o (λ b. IsRead b list gate) → IsSettled p may_leave gate list
put_settled None p may_leave gate list silent done short read = λ y f.
    let none = silent refl in absurd cc
put_settled (Some b) p may_leave gate list silent done short read = λ y f.
    let was = done b refl in
    let none = short_read b list gate (read b refl) (short b refl) in
    let e : 0 ∷ [] ≡ y = cc in
    (subst (λ (bs : List ℕ). IsResting bs gate list) e (first_rests list gate none.0 none.1), subst (λ (bs : List ℕ). Only bs may_leave) e was.1)

-- and so one that was cut behind its closed gate
pub cut_settled : (o p : Option (List ℕ)) (may_leave : List ℕ → Type 0) (gate : ℕ) (list : List Entry) → (o ≡ None → p ≡ None)
    → ForSome o (λ b. (p ≡ Some (take (gate + 1) b)) × Only (take (gate + 1) b) may_leave) → ForSome o (λ b. 1 < length b) → ForSome o (λ b. IsRead b list gate) → IsSettled p may_leave gate list
cut_settled None p may_leave gate list silent done long read = λ y f.
    let none = silent refl in absurd cc
cut_settled (Some b) p may_leave gate list silent done long read = λ y f.
    let was = done b refl in
    let has = long_read b list gate (read b refl) (long b refl) in
    let e : take (gate + 1) b ≡ y = cc in
    (subst (λ (bs : List ℕ). IsResting bs gate list) e (cut_rests b list gate has), subst (λ (bs : List ℕ). Only bs may_leave) e was.1)
