-- One update more.
use Rattle.std.proofs.Common.{◌≡◌, ℕ, ◌+◌, List, [], ◌∷◌, ◌++◌, length, Option, false, refl, sym, ap, ◌∙◌, subst, append_assoc, append-nil, arith}
use Rattle.plain_orders.specs.declared.entry.Entry.{Entry}
use Rattle.plain_orders.specs.declared.entry.Entry.TheVariants.{Update}
use Rattle.plain_orders.specs.declared.op.Op.TheVariants.{Set}
use Rattle.plain_orders.specs.Ordered.{IsOrdered, SetMay}
use Rattle.journal_disk.specs.Settled.{JournalState, IsSettled, MayAppend}
use Rattle.plain_orders.proofs.EntryLemmas.{count-push, live-push}
use Rattle.plain_orders.proofs.OrderLemmas.{ordered-push}
use Rattle.journal_bench.specs.Written.{IsReady, IsUpdate, IsWritten, SESSION}

written_push : (list : List Entry) (w : ℕ) (key value : List ℕ) → IsWritten list w → SetMay key value → IsWritten (list ++ Update SESSION (w + 1) 0 0 (Set key value) ∷ []) (w + 1)
written_push list w key value is may = record {
  ordered = ordered-push list (Update SESSION (w + 1) 0 0 (Set key value)) is.ordered (record { is_live = is.lives; is_next = omega (arith, is.counts); within = may });
  lives = live-push list (Update SESSION (w + 1) 0 0 (Set key value)) SESSION ∙ is.lives;
  counts = count-push list (Update SESSION (w + 1) 0 0 (Set key value)) SESSION ∙ omega (arith, is.counts);
}

-- any list that was written, with these entries behind it
pub part_more : (from n : ℕ) (part more : List Entry) (e : Entry) → ((list : List Entry) → IsWritten list from → IsWritten (list ++ part) (from + n)) → IsUpdate (from + n + 1) e → more ≡ part ++ e ∷ []
    → (list : List Entry) → IsWritten list from → IsWritten (list ++ more) (from + (n + 1))
part_more from n part more e so (key, value, is, may) grown list written =
    subst (λ (xs : List Entry). IsWritten xs (from + (n + 1))) (append_assoc list part (e ∷ []) ∙ ap (λ xs. list ++ xs) (sym grown))
    (subst (λ (x : Entry). IsWritten ((list ++ part) ++ x ∷ []) (from + (n + 1))) (sym is)
    (subst (λ m. IsWritten ((list ++ part) ++ Update SESSION (from + n + 1) 0 0 (Set key value) ∷ []) m) (omega arith) (written_push (list ++ part) (from + n) key value (so list written) may)))

pub part_none : (from : ℕ) (list : List Entry) → IsWritten list from → IsWritten (list ++ []) (from + 0)
part_none from list written = subst (λ (xs : List Entry). IsWritten xs (from + 0)) (sym (append-nil list)) (subst (IsWritten list) (omega arith) written)

-- no entries
none_of : (entries : List Entry) → length entries ≡ 0 → entries ≡ []
none_of [] e = refl
none_of (x ∷ entries) e = absurd (omega arith)

-- the opening may be appended to a fresh journal
pub may_open : (told : Option (List ℕ)) (may_leave : List ℕ → Type 0) (gate : ℕ) (entries part : List Entry) → length entries ≡ 0 → IsSettled told may_leave gate entries → IsWritten part 0 → MayAppend told may_leave gate entries part
may_open told may_leave gate entries part none settled written = (settled, subst (λ (xs : List Entry). IsOrdered (xs ++ part)) (sym (none_of entries none)) written.ordered)

-- and then the journal is ready
pub ready_open : (told : Option (List ℕ)) (may_leave : List ℕ → Type 0) (journal : JournalState) (entries part : List Entry) → length entries ≡ 0 → journal.needs_start ≡ false → IsSettled told may_leave journal.gate (entries ++ part) → IsWritten part 0
    → IsReady told may_leave journal 0
ready_open told may_leave journal entries part none started settled written = record {
  started = started;
  list = entries ++ part;
  settled = settled;
  written = subst (λ (xs : List Entry). IsWritten (xs ++ part) 0) (sym (none_of entries none)) written;
}

-- a part more keeps the journal ready
pub ready_more : (told new_told : Option (List ℕ)) (may_leave new_may_leave : List ℕ → Type 0) (before after : JournalState) (from size : ℕ) (part shown : List Entry) → IsReady told may_leave before from → shown ≡ part
    → ((list : List Entry) → IsWritten list from → IsWritten (list ++ part) (from + size)) → after.needs_start ≡ false
    → ((list : List Entry) → MayAppend told may_leave before.gate list shown → IsSettled new_told new_may_leave after.gate (list ++ shown)) → IsReady new_told new_may_leave after (from + size)
ready_more told new_told may_leave new_may_leave before after from size part shown r same writes started appends =
    let written : IsWritten (r.list ++ shown) (from + size) = subst (λ (xs : List Entry). IsWritten (r.list ++ xs) (from + size)) (sym same) (writes r.list r.written) in
    record { started = started; list = r.list ++ shown; settled = appends r.list (r.settled, written.ordered); written = written }
