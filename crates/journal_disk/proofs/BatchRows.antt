-- Batches in a row, as they are read.
use Rattle.std.proofs.Common.{◌≡◌, ◌≢◌, ℕ, ◌+◌, ◌-◌, ◌<◌, List, [], ◌∷◌, ◌++◌, length, take, drop, get_or, refl, sym, ◌∙◌, ap, subst, arith, append_assoc}
use Rattle.std.proofs.lemmas.List.{append-nil, length-append, length-drop, take_all}
use Rattle.std.proofs.lemmas.Grind.{flat_map-append}
use Rattle.plain_orders.specs.declared.entry.Entry.{Entry}
use Rattle.plain_orders.specs.Ordered.{IsOrdered}
use Rattle.field_bytes.specs.Fields.{u32_bytes}
use Rattle.field_bytes.proofs.PrefixFree.{u32_prefix_free, one-front}
use Rattle.journal_disk.specs.Batches.{Batch, records, body_length, batch_bytes, bytes_of, entries_of, IsBatch, AreBatches}
use Rattle.journal_disk.specs.Stands.{IsLow, AreLow, HasBadGate}
use Rattle.journal_disk.specs.Reading.{NoRecordsMay, TakesBody, NoBodyAhead, TakesBatch, NoBatchAhead}
use Rattle.journal_disk.proofs.Filling.{All_append}
use Rattle.journal_disk.proofs.RecordRows.{records_some}

batch_split : (es : List Entry) (rest : List ℕ) → batch_bytes es ++ rest ≡ u32_bytes (body_length es) ++ ((1 ∷ records es) ++ rest)
batch_split es rest = append_assoc (u32_bytes (body_length es)) (1 ∷ records es) rest

pub no_body_no_batch : (before : List Entry) (bytes : List ℕ) → NoBodyAhead bytes → NoBatchAhead before bytes
no_body_no_batch before bytes none es next more batch low e =
    none (records es) next more (records_some es batch.fits.some) batch.fits.short (e ∙ batch_split es (next ∷ more))

pub other_records_no_batch : (before : List Entry) (bytes body rest : List ℕ) → TakesBody bytes body rest → NoRecordsMay before body → NoBatchAhead before bytes
other_records_no_batch before bytes body rest took none es next more batch low e =
    let short = batch.fits.short in
    let lengths = u32_prefix_free (1 + length body) (body_length es) ((1 ∷ body) ++ rest) ((1 ∷ records es) ++ next ∷ more) (omega (arith, took.short)) (omega arith) (sym took.split ∙ e ∙ batch_split es (next ∷ more)) in
    let bodies = one-front (1 ∷ body) (1 ∷ records es) rest (next ∷ more) (omega (arith, lengths.0)) lengths.1 in
    none es batch.have_records batch.ordered low (cc bodies.0)

pub AreBatches_push : (before : List Entry) (batches : List Batch) (gate : ℕ) (es : List Entry) → AreBatches before batches → gate ≢ 0 → IsBatch (before ++ entries_of batches) es
    → AreBatches before (batches ++ record { gate = gate; entries = es } ∷ [])
AreBatches_push before [] gate es whole is_open batch = (is_open, subst (λ (fs : List Entry). IsBatch fs es) (append-nil before) batch, tt)
AreBatches_push before (b ∷ batches) gate es whole is_open batch = (
  whole.0,
  whole.1,
  AreBatches_push (before ++ b.entries) batches gate es whole.2 is_open (subst (λ (fs : List Entry). IsBatch fs es) (sym (append_assoc before b.entries (entries_of batches))) batch),
)

pub bytes_of_push : (batches : List Batch) (gate : ℕ) (es : List Entry) → bytes_of (batches ++ record { gate = gate; entries = es } ∷ []) ≡ bytes_of batches ++ gate ∷ batch_bytes es
bytes_of_push batches gate es =
    flat_map-append (λ (b : Batch). b.gate ∷ batch_bytes b.entries) batches (record { gate = gate; entries = es } ∷ [])
    ∙ ap (λ bs. bytes_of batches ++ bs) (append-nil (gate ∷ batch_bytes es))

pub entries_of_push : (batches : List Batch) (gate : ℕ) (es : List Entry) → entries_of (batches ++ record { gate = gate; entries = es } ∷ []) ≡ entries_of batches ++ es
entries_of_push batches gate es =
    flat_map-append (λ (b : Batch). b.entries) batches (record { gate = gate; entries = es } ∷ []) ∙ ap (λ fs. entries_of batches ++ fs) (append-nil es)

-- the batches so far, and what is left, which begins with a gate
pub record AreReadingBatches (bytes : List ℕ) (list : List Entry) (rest : List ℕ) : Type 0 where
  pub batches : List Batch
  pub whole : AreBatches [] batches
  pub low : AreLow list
  pub split : bytes ≡ bytes_of batches ++ rest
  pub same : entries_of batches ≡ list
  pub some : 0 < length rest
  pub ordered : IsOrdered list
  pub long : 1 < length bytes

first_rest : (rest : List ℕ) → 0 < length rest → rest ≡ get_or rest 0 0 ∷ drop 1 rest
first_rest [] some = absurd (omega arith)
first_rest (x ∷ xs) some = refl

-- a slice from its second byte on
behind_gate : (rest behind : List ℕ) → behind ≡ take (length rest - 1) (drop 1 rest) → behind ≡ drop 1 rest
behind_gate rest behind e = e ∙ take_all (length rest - 1) (drop 1 rest) (omega (arith, length-drop 1 rest))

pub batches_next : (bytes : List ℕ) (list now : List Entry) (rest behind after : List ℕ) → AreReadingBatches bytes list rest → get_or rest 0 0 ≢ 0 → behind ≡ take (length rest - 1) (drop 1 rest) → TakesBatch list now behind after
    → AreReadingBatches bytes now after
batches_next bytes list now rest behind after was is_open e took =
    let gate = get_or rest 0 0 in
    let here : rest ≡ gate ∷ (batch_bytes took.entries ++ after) = first_rest rest was.some ∙ ap (λ bs. gate ∷ bs) (sym (behind_gate rest behind e) ∙ took.split) in
    record {
      batches = was.batches ++ record { gate = gate; entries = took.entries } ∷ [];
      whole = AreBatches_push [] was.batches gate took.entries was.whole is_open (subst (λ (fs : List Entry). IsBatch fs took.entries) (sym was.same) took.batch);
      low = subst AreLow (sym took.added) (All_append IsLow list took.entries was.low took.low);
      split = was.split ∙ ap (λ bs. bytes_of was.batches ++ bs) here ∙ sym (append_assoc (bytes_of was.batches) (gate ∷ batch_bytes took.entries) after)
          ∙ ap (λ bs. bs ++ after) (sym (bytes_of_push was.batches gate took.entries));
      same = entries_of_push was.batches gate took.entries ∙ ap (λ fs. fs ++ took.entries) was.same ∙ sym took.added;
      some = took.gate;
      ordered = subst IsOrdered (sym took.added) took.batch.ordered;
      long = was.long;
    }

pub batches_stop : (bytes : List ℕ) (list : List Entry) (rest behind : List ℕ) (place : ℕ) → AreReadingBatches bytes list rest → get_or rest 0 0 ≢ 0 → behind ≡ take (length rest - 1) (drop 1 rest) → NoBatchAhead list behind
    → place ≡ length bytes - length rest → HasBadGate bytes place
batches_stop bytes list rest behind place was is_open e none f = record {
  long = was.long;
  batches = was.batches;
  whole = was.whole;
  low = subst AreLow (sym was.same) was.low;
  gate = get_or rest 0 0;
  rest = behind;
  file = was.split ∙ ap (λ bs. bytes_of was.batches ++ bs) (first_rest rest was.some ∙ ap (λ bs. get_or rest 0 0 ∷ bs) (sym (behind_gate rest behind e)));
  here = omega (arith, f, ap length was.split, length-append (bytes_of was.batches) rest);
  is_open = is_open;
  bad = λ es next more batch low. none es next more (subst (λ (fs : List Entry). IsBatch fs es) was.same batch) low;
}
