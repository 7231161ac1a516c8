-- Batches of a part, put one after the other.
use Rattle.std.proofs.Common.{◌≡◌, ℕ, ◌+◌, List, [], ◌∷◌, ◌++◌, length, map, refl, sym, ◌∙◌, ap, subst, arith, append_assoc}
use Rattle.std.proofs.lemmas.List.{append-nil, length-append, map-append}
use Rattle.std.proofs.lemmas.Grind.{flat_map-append}
use Rattle.std.specs.List.{flat_map, AllByRecursion}
use Rattle.journal_records.specs.Records.{IsRecord}
use Rattle.plain_orders.specs.declared.entry.Entry.{Entry}
use Rattle.field_bytes.specs.Fields.{u32_bytes}
use Rattle.field_bytes.proofs.FieldLengths.{u32_length}
use Rattle.journal_disk.specs.Batches.{records, body_length, batch_bytes, FitsBatch}
use Rattle.journal_disk.specs.Parts.{joined, IsFull}
use Rattle.journal_disk.specs.Staged.{piece, ArePieces, IsStaged}
use Rattle.journal_disk.proofs.Filling.{AreFilledTo, filled_push, filled_all, All_append}

pub batch_length : (p : List Entry) → length (batch_bytes p) ≡ body_length p + 4
batch_length p = omega (arith, length-append (u32_bytes (body_length p)) (1 ∷ records p), u32_length (body_length p))

pub piece_length : (p : List Entry) → length (piece p) ≡ body_length p + 5
piece_length p = omega (arith, length-append (batch_bytes p) (0 ∷ []), batch_length p)

-- batches so far, and the entries that are left
pub record IsStaging (part rest : List Entry) (bytes sizes : List ℕ) : Type 0 where
  pub parts : List (List Entry)
  pub whole : joined parts ++ rest ≡ part
  pub filled : AreFilledTo parts rest
  pub pieces : ArePieces parts bytes sizes
  pub have_records : AllByRecursion IsRecord (joined parts)

pub staging_none : (part : List Entry) → IsStaging part part [] []
staging_none part = record { parts = []; whole = refl; filled = tt; pieces = record { bytes_are = refl; sizes_are = refl }; have_records = tt }

pub staging_push : (part rest p after : List Entry) (bytes sizes more_bytes more_sizes : List ℕ) (body : ℕ) → IsStaging part rest bytes sizes → rest ≡ p ++ after
    → FitsBatch p → AllByRecursion IsRecord p → IsFull p after → body ≡ body_length p → more_bytes ≡ bytes ++ piece p → more_sizes ≡ sizes ++ (body + 5) ∷ [] → IsStaging part after more_bytes more_sizes
staging_push part rest p after bytes sizes more_bytes more_sizes body was e fits recs full long f g = record {
  parts = was.parts ++ p ∷ [];
  whole = ap (λ es. es ++ after) (flat_map-append (λ (x : List Entry). x) was.parts (p ∷ []))
      ∙ append_assoc (joined was.parts) (joined (p ∷ [])) after
      ∙ ap (λ (es : List Entry). joined was.parts ++ (es ++ after)) (append-nil p)
      ∙ ap (λ es. joined was.parts ++ es) (sym e) ∙ was.whole;
  filled = filled_push was.parts p after (subst (AreFilledTo was.parts) e was.filled) fits full;
  pieces = record {
    bytes_are = f ∙ ap (λ bs. bs ++ piece p) was.pieces.bytes_are
        ∙ ap (λ (bs : List ℕ). flat_map piece was.parts ++ bs) (sym (append-nil (piece p))) ∙ sym (flat_map-append piece was.parts (p ∷ []));
    sizes_are = g ∙ ap (λ ns. ns ++ (body + 5) ∷ []) was.pieces.sizes_are
        ∙ ap (λ (n : ℕ). map (λ (x : List Entry). length (piece x)) was.parts ++ n ∷ []) size
        ∙ sym (map-append (λ (x : List Entry). length (piece x)) was.parts (p ∷ []));
  };
  have_records = subst (AllByRecursion IsRecord) (sym (flat_map-append (λ (x : List Entry). x) was.parts (p ∷ [])))
      (All_append IsRecord (joined was.parts) (joined (p ∷ [])) was.have_records (subst (AllByRecursion IsRecord) (sym (append-nil p)) recs));
}
  where
    size : body + 5 ≡ length (piece p)
    size = omega (arith, piece_length p)

pub staging_all : (part rest : List Entry) (bytes sizes : List ℕ) → IsStaging part rest bytes sizes → rest ≡ [] → IsStaged part bytes sizes
staging_all part rest bytes sizes was e = record {
  parts = was.parts;
  split = record {
    whole = sym (append-nil (joined was.parts)) ∙ ap (λ es. joined was.parts ++ es) (sym e) ∙ was.whole;
    filled = filled_all was.parts (subst (AreFilledTo was.parts) e was.filled);
  };
  have_records = subst (AllByRecursion IsRecord) (sym (append-nil (joined was.parts)) ∙ ap (λ es. joined was.parts ++ es) (sym e) ∙ was.whole) was.have_records;
  pieces = was.pieces;
}
