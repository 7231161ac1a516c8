-- Bytes stand for one list, or have one first bad gate, and not both.
use Rattle.std.proofs.Common.{◌≡◌, ◌≢◌, inl, inr, ℕ, ◌≤◌, List, [], ◌∷◌, ◌++◌, length, refl, sym, ◌∙◌, ap, subst, arith, append_assoc}
use Rattle.std.proofs.lemmas.List.{append-nil, length-append}
use Rattle.plain_orders.specs.declared.entry.Entry.{Entry}
use Rattle.field_bytes.specs.Fields.{u32_bytes}
use Rattle.field_bytes.proofs.PrefixFree.{u32_prefix_free, one-front}
use Rattle.journal_disk.specs.Batches.{Batch, records, body_length, batch_bytes, bytes_of, entries_of, IsBatch, AreBatches}
use Rattle.journal_disk.specs.Stands.{Stands, AreLow, HasBadGate}
use Rattle.journal_disk.proofs.RecordRows.{one_records}
use Rattle.journal_disk.proofs.Staging.{batch_length}

-- a batch is read in one way
pub one_batch : (before early es fs : List Entry) (r s : List ℕ) → IsBatch before es → IsBatch early fs → batch_bytes es ++ r ≡ batch_bytes fs ++ s → (es ≡ fs) × (r ≡ s)
one_batch before early es fs r s p q e =
    let short = p.fits.short in
    let tight = q.fits.short in
    let whole : u32_bytes (body_length es) ++ ((1 ∷ records es) ++ r) ≡ u32_bytes (body_length fs) ++ ((1 ∷ records fs) ++ s) =
    sym (append_assoc (u32_bytes (body_length es)) (1 ∷ records es) r) ∙ e ∙ append_assoc (u32_bytes (body_length fs)) (1 ∷ records fs) s in
    let lengths = u32_prefix_free (body_length es) (body_length fs) ((1 ∷ records es) ++ r) ((1 ∷ records fs) ++ s) (omega arith) (omega arith) whole in
    let bodies = one-front (1 ∷ records es) (1 ∷ records fs) r s (omega (arith, lengths.0)) lengths.1 in
    (one_records es fs p.have_records q.have_records (cc bodies.0), bodies.1)

bytes_cons : (b : Batch) (batches : List Batch) (rest : List ℕ) → bytes_of (b ∷ batches) ++ rest ≡ b.gate ∷ (batch_bytes b.entries ++ (bytes_of batches ++ rest))
bytes_cons b batches rest = append_assoc (b.gate ∷ batch_bytes b.entries) (bytes_of batches) rest

-- batches up to a closed gate are read in one way
one_batches : (before early : List Entry) (bs cs : List Batch) (r s : List ℕ) → AreBatches before bs → AreBatches early cs → bytes_of bs ++ 0 ∷ r ≡ bytes_of cs ++ 0 ∷ s → entries_of bs ≡ entries_of cs
one_batches before early [] [] r s p q e = refl
one_batches before early [] (c ∷ cs) r s p q e =
    let here = e ∙ bytes_cons c cs (0 ∷ s) in
    absurd (q.0 (cc here))
one_batches before early (b ∷ bs) [] r s p q e =
    let here = sym e ∙ bytes_cons b bs (0 ∷ r) in
    absurd (p.0 (cc here))
one_batches before early (b ∷ bs) (c ∷ cs) r s p q e =
    let here : b.gate ∷ (batch_bytes b.entries ++ (bytes_of bs ++ 0 ∷ r)) ≡ c.gate ∷ (batch_bytes c.entries ++ (bytes_of cs ++ 0 ∷ s)) = sym (bytes_cons b bs (0 ∷ r)) ∙ e ∙ bytes_cons c cs (0 ∷ s) in
    let same = one_batch before early b.entries c.entries (bytes_of bs ++ 0 ∷ r) (bytes_of cs ++ 0 ∷ s) p.1 q.1 (cc here) in
    let rest = one_batches (before ++ b.entries) (early ++ c.entries) bs cs r s p.2 q.2 same.1 in
    cc (same.0, rest)

-- one byte has no batch
short_batches : (bs : List Batch) (r : List ℕ) → length (bytes_of bs ++ 0 ∷ r) ≤ 1 → entries_of bs ≡ []
short_batches [] r short = refl
short_batches (b ∷ bs) r short =
    absurd (omega (arith, ap length (bytes_cons b bs (0 ∷ r)), length-append (batch_bytes b.entries) (bytes_of bs ++ 0 ∷ r), batch_length b.entries))

pub one_list : (bytes : List ℕ) (es fs : List Entry) → Stands bytes es → Stands bytes fs → es ≡ fs
one_list bytes es fs (inl p) (inl q) = p.1 ∙ sym q.1
one_list bytes es fs (inl p) (inr q) = p.1 ∙ sym (short_batches q.batches q.rest (omega (arith, p.0, ap length q.file))) ∙ q.same
one_list bytes es fs (inr p) (inl q) = sym p.same ∙ short_batches p.batches p.rest (omega (arith, q.0, ap length p.file)) ∙ sym q.1
one_list bytes es fs (inr p) (inr q) =
    sym p.same ∙ one_batches [] [] p.batches q.batches p.rest q.rest p.whole q.whole (sym p.file ∙ q.file) ∙ q.same

-- batches up to a bad gate begin with all batches that are read of the same bytes
record Begins (batches : List Batch) (gate : ℕ) (rest : List ℕ) (cs : List Batch) (next : ℕ) (more : List ℕ) : Type 0 where
  left : List Batch
  before : List Entry
  whole : AreBatches before left
  bytes : next ∷ more ≡ bytes_of left ++ gate ∷ rest
  no_longer : length (bytes_of cs) ≤ length (bytes_of batches)

tail_some : (cs : List Batch) (next : ℕ) (more : List ℕ) → (n : ℕ) × (m : List ℕ) × (bytes_of cs ++ next ∷ more ≡ n ∷ m)
tail_some [] next more = (next, more, refl)
tail_some (c ∷ cs) next more = (c.gate, batch_bytes c.entries ++ (bytes_of cs ++ next ∷ more), bytes_cons c cs (next ∷ more))

begins : (before : List Entry) (bs cs : List Batch) (gate next : ℕ) (rest more : List ℕ) → AreBatches before bs → AreBatches before cs → AreLow (entries_of cs)
    → ((es : List Entry) (n : ℕ) (m : List ℕ) → IsBatch (before ++ entries_of bs) es → AreLow es → rest ≢ batch_bytes es ++ n ∷ m)
    → bytes_of bs ++ gate ∷ rest ≡ bytes_of cs ++ next ∷ more → Begins bs gate rest cs next more
begins before bs [] gate next rest more p q low bad e = record { left = bs; before = before; whole = p; bytes = sym e; no_longer = omega arith }
begins before [] (c ∷ cs) gate next rest more p q low bad e =
    let here : gate ∷ rest ≡ c.gate ∷ (batch_bytes c.entries ++ (bytes_of cs ++ next ∷ more)) = e ∙ bytes_cons c cs (next ∷ more) in
    let tail = tail_some cs next more in
    let split : rest ≡ batch_bytes c.entries ++ tail.0 ∷ tail.1 = rw (← tail.2) (cc here) in
    absurd (bad c.entries tail.0 tail.1 (subst (λ (fs : List Entry). IsBatch fs c.entries) (sym (append-nil before)) q.1) (front c.entries (entries_of cs) low) split)
  where
    front : (xs ys : List Entry) → AreLow (xs ++ ys) → AreLow xs
    front [] ys all = tt
    front (x ∷ xs) ys all = (all.0, front xs ys all.1)
begins before (b ∷ bs) (c ∷ cs) gate next rest more p q low bad e =
    let here : b.gate ∷ (batch_bytes b.entries ++ (bytes_of bs ++ gate ∷ rest)) ≡ c.gate ∷ (batch_bytes c.entries ++ (bytes_of cs ++ next ∷ more)) =
    sym (bytes_cons b bs (gate ∷ rest)) ∙ e ∙ bytes_cons c cs (next ∷ more) in
    let same = one_batch before before b.entries c.entries (bytes_of bs ++ gate ∷ rest) (bytes_of cs ++ next ∷ more) p.1 q.1 (cc here) in
    let on = begins (before ++ b.entries) bs cs gate next rest more p.2 (subst (λ (es : List Entry). AreBatches (before ++ es) cs) (sym same.0) q.2)
    (back c.entries (entries_of cs) low)
    (λ es n m batch. bad es n m (subst (λ (fs : List Entry). IsBatch fs es) (append_assoc before b.entries (entries_of bs)) batch)) same.1 in
    record {
      left = on.left;
      before = on.before;
      whole = on.whole;
      bytes = on.bytes;
      no_longer = omega (arith, on.no_longer, ap (λ (es : List Entry). length (batch_bytes es)) same.0, length-append (c.gate ∷ batch_bytes c.entries) (bytes_of cs), length-append (b.gate ∷ batch_bytes b.entries) (bytes_of bs));
    }
  where
    back : (xs ys : List Entry) → AreLow (xs ++ ys) → AreLow ys
    back [] ys all = all
    back (x ∷ xs) ys all = back xs ys all.1

-- bytes with a bad gate stand for no list that may be started with
pub bad_no_list : (bytes : List ℕ) (place : ℕ) (list : List Entry) → HasBadGate bytes place → Stands bytes list → AreLow list → ⊥
bad_no_list bytes place list bad (inl short) low = omega (arith, bad.long, short.0)
bad_no_list bytes place list bad (inr has) low =
    let on = begins [] bad.batches has.batches bad.gate 0 bad.rest has.rest bad.whole has.whole (subst AreLow (sym has.same) low) bad.bad (sym bad.file ∙ has.file) in
    open_first on.left on.before on.whole on.bytes
  where
    open_first : (left : List Batch) (before : List Entry) → AreBatches before left → 0 ∷ has.rest ≡ bytes_of left ++ bad.gate ∷ bad.rest → ⊥
    open_first [] before whole e = bad.is_open (cc e)
    open_first (b ∷ left) before whole e =
        let here = e ∙ bytes_cons b left (bad.gate ∷ bad.rest) in
        whole.0 (cc here)

-- the first bad gate is at one place
pub one_place : (bytes : List ℕ) (p q : ℕ) → HasBadGate bytes p → HasBadGate bytes q → p ≡ q
one_place bytes p q a b =
    let to = begins [] a.batches b.batches a.gate b.gate a.rest b.rest a.whole b.whole b.low a.bad (sym a.file ∙ b.file) in
    let from = begins [] b.batches a.batches b.gate a.gate b.rest a.rest b.whole a.whole a.low b.bad (sym b.file ∙ a.file) in
    omega (arith, a.here, b.here, to.no_longer, from.no_longer)
