-- Records in a row are read in one way.
use Rattle.std.proofs.Common.{◌≡◌, ℕ, ◌<◌, List, [], ◌∷◌, ◌++◌, length, refl, sym, ◌∙◌, ap, subst, arith, append_assoc}
use Rattle.std.proofs.lemmas.List.{append-nil, length-append}
use Rattle.std.specs.List.{AllByRecursion}
use Rattle.plain_orders.specs.declared.entry.Entry.{Entry}
use Rattle.plain_orders.specs.declared.entry.Entry.TheVariants.{Epoch, Opened, Closed, Update, Commit, Rollback}
use Rattle.plain_orders.specs.Ordered.{IsOrdered}
use Rattle.plain_orders.proofs.OrderLemmas.{ordered-front}
use Rattle.journal_records.specs.Records.{entry_bytes, IsRecord}
use Rattle.journal_records.proofs.OneRecord.{entry_prefix_free}
use Rattle.journal_disk.specs.Batches.{records}
use Rattle.journal_disk.specs.Stands.{IsLow, AreLow}
use Rattle.journal_disk.specs.Reading.{NoRecordMay, NoRecordsMay}

-- a record has a byte
pub entry_some : (e : Entry) → 0 < length (entry_bytes e)
entry_some (Epoch number) = omega arith
entry_some (Opened session app) = omega arith
entry_some (Closed session) = omega arith
entry_some (Update session w job txn op) = omega arith
entry_some (Commit session w job txn) = omega arith
entry_some (Rollback session w job txn) = omega arith

pub records_some : (es : List Entry) → 0 < length es → 0 < length (records es)
records_some [] some = absurd (omega arith)
records_some (e ∷ es) some = omega (arith, length-append (entry_bytes e) (records es), entry_some e)

-- entries whose records go on behind some records
pub record GoesOn (read es : List Entry) (rest : List ℕ) : Type 0 where
  pub more : List Entry
  pub all : es ≡ read ++ more
  pub left : rest ≡ records more
  pub have_records : AllByRecursion IsRecord more

pub goes_on : (read es : List Entry) (rest : List ℕ) → AllByRecursion IsRecord read → AllByRecursion IsRecord es → records read ++ rest ≡ records es → GoesOn read es rest
goes_on [] es rest all may e = record { more = es; all = refl; left = e; have_records = may }
goes_on (x ∷ xs) [] rest all may e =
    absurd (omega (arith, ap length e, length-append (entry_bytes x ++ records xs) rest, length-append (entry_bytes x) (records xs), entry_some x))
goes_on (x ∷ xs) (y ∷ ys) rest all may e =
    let same = entry_prefix_free x y (records xs ++ rest) (records ys) all.0 may.0 (sym (append_assoc (entry_bytes x) (records xs) rest) ∙ e) in
    let on = goes_on xs ys rest all.1 may.1 same.1 in
    record { more = on.more; all = cc (same.0, on.all); left = on.left; have_records = on.have_records }

-- records with the same bytes are of the same entries
pub one_records : (es fs : List Entry) → AllByRecursion IsRecord es → AllByRecursion IsRecord fs → records es ≡ records fs → es ≡ fs
one_records es fs all may e =
    let on = goes_on es fs [] all may (append-nil (records es) ∙ e) in
    none on.more (sym on.left) on.all
  where
    none : (more : List Entry) → records more ≡ [] → fs ≡ es ++ more → es ≡ fs
    none [] left is = sym (is ∙ append-nil es)
    none (m ∷ more) left is = absurd (omega (arith, ap length left, records_some (m ∷ more)))

-- the records so far, and the bytes that are left
pub record AreReading (before now : List Entry) (bytes rest : List ℕ) : Type 0 where
  pub read : List Entry
  pub have_records : AllByRecursion IsRecord read
  pub low : AreLow read
  pub split : bytes ≡ records read ++ rest
  pub added : now ≡ before ++ read
  pub ordered : IsOrdered now

pub reading_stops : (before now : List Entry) (bytes rest : List ℕ) → AreReading before now bytes rest → 0 < length rest → NoRecordMay now rest → NoRecordsMay before bytes
reading_stops before now bytes rest was some none es all ordered low e =
    let on = goes_on was.read es rest was.have_records all (sym was.split ∙ e) in
    stop on.more on.all on.left on.have_records
  where
    low_at : (read more : List Entry) (m : Entry) → AreLow (read ++ m ∷ more) → IsLow m
    low_at [] more m all = all.0
    low_at (x ∷ xs) more m all = low_at xs more m all.1

    stop : (more : List Entry) → es ≡ was.read ++ more → rest ≡ records more → AllByRecursion IsRecord more → ⊥
    stop [] is left may = omega (arith, ap length left)
    stop (m ∷ more) is left may =
        let whole : before ++ es ≡ (now ++ m ∷ []) ++ more =
        ap (λ fs. before ++ fs) is ∙ sym (append_assoc before was.read (m ∷ more)) ∙ ap (λ fs. fs ++ m ∷ more) (sym was.added) ∙ sym (append_assoc now (m ∷ []) more) in
        none m (records more) may.0 (ordered-front (now ++ m ∷ []) more (subst IsOrdered whole ordered), low_at was.read more m (subst AreLow is low)) left
