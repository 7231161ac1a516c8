-- Bytes put piece by piece.
use Rattle.std.proofs.Common.{◌≡◌, ℕ, ◌+◌, List, take, drop, Option, subst, sym}
use Rattle.std.proofs.Math.Seq.{take-add}
use Rattle.std.specs.Io.KnownBytes.{Appends}
use Rattle.std.proofs.KnownBytes.{Appends-trans}

-- some bytes more of those after the first ones
pub Appends-more : (old mid new : Option (List ℕ)) (bytes rest : List ℕ) (done count : ℕ) → Appends old mid (take done bytes) → rest ≡ drop done bytes → Appends mid new (take count rest)
    → Appends old new (take (done + count) bytes)
Appends-more old mid new bytes rest done count first is more =
    subst (Appends old new) (sym (take-add done count bytes))
    (Appends-trans old mid new (take done bytes) (take count (drop done bytes)) first (subst (λ xs. Appends mid new (take count xs)) is more))
