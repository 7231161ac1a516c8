-- What stands behind a gate, and how it is no batch.
use Rattle.std.proofs.Common.{◌≡◌, ◌≢◌, ℕ, ◌+◌, ◌<◌, ◌≤◌, List, ◌∷◌, ◌++◌, length, sym, ◌∙◌, ap, arith}
use Rattle.std.proofs.lemmas.List.{length-append}
use Rattle.field_bytes.specs.Fields.{u32_bytes, IsU32}
use Rattle.field_bytes.proofs.PrefixFree.{u32_prefix_free, one-front}
use Rattle.journal_disk.specs.Reading.{NoBodyAhead}

-- the length and what follows it are known
body_here : (bytes rest body tail : List ℕ) (n : ℕ) → IsU32 n → bytes ≡ u32_bytes n ++ rest → 1 + length body ≤ 16777216
    → bytes ≡ u32_bytes (1 + length body) ++ ((1 ∷ body) ++ tail) → (n ≡ 1 + length body) × (rest ≡ (1 ∷ body) ++ tail)
body_here bytes rest body tail n is e short f = u32_prefix_free n (1 + length body) rest ((1 ∷ body) ++ tail) is (omega arith) (sym e ∙ f)

-- the length is none that a batch may have, or not so many bytes and a gate follow it
pub no_body_so_long : (bytes rest : List ℕ) (n : ℕ) → IsU32 n → bytes ≡ u32_bytes n ++ rest → (2 ≤ n → n ≤ 16777216 → n < length rest → ⊥) → NoBodyAhead bytes
no_body_so_long bytes rest n is e wrong body next more some short f =
    let here = body_here bytes rest body (next ∷ more) n is e short f in
    wrong (omega (arith, here.0)) (omega (arith, here.0)) (omega (arith, here.0, ap length here.1, length-append (1 ∷ body) (next ∷ more)))

-- the body has another version
pub no_version : (bytes rest front after records : List ℕ) (n version : ℕ) → IsU32 n → bytes ≡ u32_bytes n ++ rest → rest ≡ front ++ after → length front ≡ n → front ≡ version ∷ records → version ≢ 1 → NoBodyAhead bytes
no_version bytes rest front after records n version is e f long g other body next more some short h =
    let here = body_here bytes rest body (next ∷ more) n is e short h in
    let same = one-front front (1 ∷ body) after (next ∷ more) (omega (arith, long, here.0)) (sym f ∙ here.1) in
    other (cc (g, same.0))
