-- What one call more does to what a crash may leave, and to what one might have left.
use Rattle.std.proofs.Common.{◌≡◌, inl, inr, ⊎_elim, ℕ, ◌<◌, ◌≤◌, List, [], ◌∷◌, ◌++◌, length, take, refl, sym, subst, arith, length-append}
use Rattle.std.proofs.lemmas.List.{take-append-le}
use Rattle.std.proofs.lemmas.Bool.{cases_lt}
use Rattle.std.proofs.Math.Seq.{take-length}
use Rattle.outer_disk.specs.Disk.{Torn, Cut, Follows, Elapses}
use Rattle.outer_disk.specs.Calls.{after, bytes_after, LeavesAfter, LeavesFrom, MayLeave, LeftSince}
use Rattle.outer_disk.specs.declared.disk_call.DiskCall.{DiskCall}

-- one call more is the last step
pub leaves_last : (bytes : List ℕ) (old : List ℕ → Type 0) (calls : List DiskCall) (call : DiskCall) (c : List ℕ)
    → LeavesFrom bytes old (calls ++ call ∷ []) c → LeavesAfter (bytes_after bytes calls) (LeavesFrom bytes old calls) call c
leaves_last bytes old [] call c left = left
leaves_last bytes old (first ∷ calls) call c left = leaves_last (after bytes first) (LeavesAfter bytes old first) calls call c left

-- one call more is one moment more
pub elapses_push : (first : List ℕ) (calls : List DiskCall) (call : DiskCall)
    → Elapses (length calls) (length (calls ++ call ∷ [])) (LeftSince first calls) (LeftSince first (calls ++ call ∷ [])) (MayLeave first (calls ++ call ∷ []))
elapses_push first calls call = record {
  later = omega (arith, length-append calls (call ∷ []));
  nothing_else = λ t c le (k, from, to, left). ⊎_elim
      (λ behind. inr (whole c k behind to left))
      (λ before. inl (k, from, before, subst (λ (cs : List DiskCall). MayLeave first cs c) (take-append-le k calls (call ∷ []) before) left))
      (cases_lt (length calls) k);
  keeps = λ t c le (k, from, to, left). (k, from, omega (arith, length-append calls (call ∷ [])), subst (λ (cs : List DiskCall). MayLeave first cs c) (sym (take-append-le k calls (call ∷ []) to)) left);
}
  where
    whole : (c : List ℕ) (k : ℕ) → length calls < k → k ≤ length (calls ++ call ∷ []) → MayLeave first (take k (calls ++ call ∷ [])) c → MayLeave first (calls ++ call ∷ []) c
    whole c k behind to left =
        let all : k ≡ length (calls ++ call ∷ []) = omega (arith, length-append calls (call ∷ [])) in
        subst (λ (cs : List DiskCall). MayLeave first cs c) (take-length (calls ++ call ∷ [])) (subst (λ n. MayLeave first (take n (calls ++ call ∷ [])) c) all left)

-- a write that did nothing may have left what might be left before
pub follows_torn : (at n : ℕ) (old : List ℕ → Type 0) → Follows (Torn at n) old old
follows_torn at n old c left = (c, left, record { before = refl; after = refl; no_shorter = omega arith; no_longer = omega arith })

-- and so a cut
pub follows_cut : (to : ℕ) (old : List ℕ → Type 0) → Follows (Cut to) old old
follows_cut to old c left = (c, left, record { no_shorter = omega arith; front = take-length c })
