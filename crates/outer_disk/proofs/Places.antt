-- The places of a set of disks.
use Rattle.std.proofs.Common.{◌≡◌, ℕ, zero, suc, ◌+◌, ◌-◌, ◌≤◌, List, [], ◌∷◌, ◌++◌, get_or, set, Option, None, Some, Result, Ok, Err, refl, sym, ap, ◌∙◌, arith, append_assoc}
use Rattle.std.specs.Prelude.{replicate, OnErr}
use Rattle.std.proofs.lemmas.List.{set-get_or}
use Rattle.outer_disk.specs.DiskSet.{AllStay, place_of}

-- a disk that a call gave back unchanged leaves each place as it was
pub put_back : {T E D : Type 0} (r : Result T E) (was disks : List (Option D)) (place : ℕ) (old new : D) → disks ≡ was → get_or disks place None ≡ Some old → OnErr r (new ≡ old)
    → OnErr r (AllStay (place_of was) (place_of (set disks place (Some new))))
put_back (Ok x) was disks place old new same there kept = kept
put_back (Err e) was disks place old new same there kept =
    λ q. ap (λ v. get_or (set disks place v) q None) (ap (λ d. Some d) kept ∙ sym there) ∙ ap (λ l. get_or l q None) (set-get_or disks place None ∙ same)

replicate_more : {X : Type 0} (n : ℕ) (x : X) → replicate (suc n) x ≡ replicate n x ++ x ∷ []
replicate_more zero x = refl
replicate_more (suc n) x = ap (λ xs. x ∷ xs) (replicate_more n x)

-- one more at the end
pub filled_more : {X : Type 0} (first so_far now : List X) (x : X) (n place : ℕ) → n ≤ place → so_far ≡ first ++ replicate (place - n) x → now ≡ so_far ++ x ∷ []
    → now ≡ first ++ replicate (place + 1 - n) x
filled_more first so_far now x n place le e f =
    let more : suc (place - n) ≡ place + 1 - n = omega arith in
    f ∙ ap (λ xs. xs ++ x ∷ []) e ∙ append_assoc first (replicate (place - n) x) (x ∷ []) ∙ ap (λ xs. first ++ xs) (sym (replicate_more (place - n) x)) ∙ ap (λ m. first ++ replicate m x) more
