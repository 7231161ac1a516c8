-- Each part has its batches.
use Rattle.std.proofs.Common.{◌≡◌, ◌⊎◌, inl, inr, ℕ, zero, suc, ◌<◌, ◌≤◌, List, [], ◌∷◌, ◌++◌, length, All, refl, sym, ◌∙◌, ap, subst, arith, append_assoc}
use Rattle.std.specs.List.{AllByRecursion}
use Rattle.std.proofs.lemmas.Bool.{cases_lt}
use Rattle.std.proofs.lemmas.List.{append-nil, length-append}
use Rattle.plain_orders.specs.declared.op.Op.{Op}
use Rattle.plain_orders.specs.declared.op.Op.TheVariants.{Set, Kill, Add}
use Rattle.plain_orders.specs.declared.entry.Entry.{Entry}
use Rattle.plain_orders.specs.declared.entry.Entry.TheVariants.{Epoch, Opened, Closed, Update, Commit, Rollback}
use Rattle.plain_orders.specs.Ordered.{OrderedFrom, IsOrdered}
use Rattle.field_bytes.specs.Fields.{u8_bytes, u64_bytes, op_bytes}
use Rattle.field_bytes.proofs.FieldLengths.{u32_length, u64_length}
use Rattle.journal_records.specs.Records.{item_bytes, entry_bytes, IsRecordOp, HasRecordOp}
use Rattle.journal_records.proofs.OrderedRecords.{may_record}
use Rattle.journal_disk.specs.Batches.{body_length, FitsBatch}
use Rattle.journal_disk.specs.Parts.{joined, IsFull, AreFilled, IsSplit, IsInBatches}
use Rattle.journal_disk.proofs.Sizes.{item_length, set_size, kill_size, add_size}
use Rattle.journal_disk.proofs.Filling.{body_push}

op_small : (txn : ℕ) (op : Op) → IsRecordOp txn op → length (op_bytes op) < 200000
op_small txn (Set key value) p = let k = p.0.1 in let v = p.1 in omega (arith, set_size (Set key value) key value refl)
op_small txn (Kill key) p = let k = p.1 in omega (arith, kill_size (Kill key) key refl)
op_small txn (Add key amount) p = let k = p.0.1 in omega (arith, add_size (Add key amount) key amount refl)

entry_small : (e : Entry) → HasRecordOp e → length (entry_bytes e) < 16777216
entry_small (Epoch number) p = omega (arith, u32_length number)
entry_small (Opened session app) p = omega (arith, length-append (u64_bytes session) (u8_bytes app), u64_length session)
entry_small (Closed session) p = omega (arith, u64_length session)
entry_small (Update session w job txn op) p = omega (arith, length-append (item_bytes session w job txn) (op_bytes op), item_length session w job txn, op_small txn op p)
entry_small (Commit session w job txn) p = omega (arith, item_length session w job txn)
entry_small (Rollback session w job txn) p = omega (arith, item_length session w job txn)

back : (before es fs : List Entry) → OrderedFrom before (es ++ fs) → OrderedFrom (before ++ es) fs
back before [] fs o = subst (λ (xs : List Entry). OrderedFrom xs fs) (sym (append-nil before)) o
back before (e ∷ es) fs o = subst (λ (xs : List Entry). OrderedFrom xs fs) (append_assoc before (e ∷ []) es) (back (before ++ e ∷ []) es fs o.1)

ops_from : (before es : List Entry) → OrderedFrom before es → AllByRecursion HasRecordOp es
ops_from before [] o = tt
ops_from before (e ∷ es) o = (may_record before e o.0, ops_from (before ++ e ∷ []) es o.1)

-- what goes on as an ordered list can be written
pub part_ops : (list part : List Entry) → IsOrdered (list ++ part) → AllByRecursion HasRecordOp part
part_ops list part o = ops_from list part (back [] list part o)

pub all_by_index : (es : List Entry) → AllByRecursion HasRecordOp es → All HasRecordOp es
all_by_index [] all = λ k d lt. absurd (omega arith)
all_by_index (e ∷ es) all = go (all_by_index es all.1)
  where
    go : All HasRecordOp es → All HasRecordOp (e ∷ es)
    go rest zero d lt = all.0
    go rest (suc k) d lt = rest k d (omega arith)

-- batches that begin with these entries
record Splits (front rest : List Entry) : Type 0 where
  parts : List (List Entry)
  whole : joined parts ≡ front ++ rest
  filled : AreFilled parts

one_fits : (e : Entry) → HasRecordOp e → FitsBatch (e ∷ [])
one_fits e p = record { some = omega arith; short = omega (arith, entry_small e p, body_push [] e) }

split_from : (rest front : List Entry) → FitsBatch front → AllByRecursion HasRecordOp rest → Splits front rest
split_from [] front fits ops = record { parts = front ∷ []; whole = refl; filled = (fits, tt, tt) }
split_from (e ∷ rest) front fits ops =
    go (split_from rest (e ∷ []) (one_fits e ops.0) ops.1) (λ more. split_from rest (front ++ e ∷ []) more ops.1) (cases_lt 16777216 (body_length (front ++ e ∷ [])))
  where
    go : Splits (e ∷ []) rest → (FitsBatch (front ++ e ∷ []) → Splits (front ++ e ∷ []) rest) → (16777216 < body_length (front ++ e ∷ [])) ⊎ (body_length (front ++ e ∷ []) ≤ 16777216) → Splits front (e ∷ rest)
    go tail goes_on (inl full) =
        record {
          parts = front ∷ tail.parts;
          whole = ap (λ (es : List Entry). front ++ es) tail.whole;
          filled = (fits, subst (IsFull front) (sym tail.whole) full, tail.filled);
        }
    go tail goes_on (inr room) =
        let more : FitsBatch (front ++ e ∷ []) = record { some = omega (arith, length-append front (e ∷ [])); short = room } in
        let on = goes_on more in
        record { parts = on.parts; whole = on.whole ∙ append_assoc front (e ∷ []) rest; filled = on.filled }

pub has_split : (part : List Entry) → AllByRecursion HasRecordOp part → (parts : List (List Entry)) × IsSplit part parts
has_split [] ops = ([], record { whole = refl; filled = tt })
has_split (e ∷ part) ops =
    let all = split_from part (e ∷ []) (one_fits e ops.0) ops.1 in
    (all.parts, record { whole = all.whole; filled = all.filled })

-- and so it has a number of them
pub has_batches : (part : List Entry) → AllByRecursion HasRecordOp part → (n : ℕ) × IsInBatches part n
has_batches part ops = let split = has_split part ops in (length split.0, (split.0, split.1, refl))

-- an empty part has no batch
pub no_parts : (parts : List (List Entry)) → AreFilled parts → joined parts ≡ [] → parts ≡ []
no_parts [] filled e = refl
no_parts (p ∷ parts) filled e = let fits = filled.0.some in absurd (omega (arith, ap length e, length-append p (joined parts)))
