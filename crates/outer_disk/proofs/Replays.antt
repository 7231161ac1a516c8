-- The bytes of a disk in memory as its calls leave them.
use Rattle.std.proofs.Common.{◌≡◌, ℕ, List, [], ◌∷◌, ◌++◌, length, refl, sym, ◌∙◌, subst, ap}
use Rattle.outer_disk.specs.Disk.{Elapses}
use Rattle.outer_disk.specs.Calls.{after, bytes_after, IsWithin, AreWithin, LeavesAfter, MayLeave, LeftSince}
use Rattle.outer_disk.specs.MemDisk.{DiskState, held, MayLeaveOf, moment_of, LeftSinceOf, first_of, IsReplay}
use Rattle.outer_disk.proofs.Moments.{leaves_last, elapses_push}
use Rattle.outer_disk.proofs.Images.{leaves_held}
use Rattle.outer_disk.specs.declared.disk_call.DiskCall.{DiskCall}
use Rattle.outer_disk.specs.declared.disk_call.DiskCall.TheVariants.{Sync}

pub bytes_after-push : (bytes : List ℕ) (calls : List DiskCall) (call : DiskCall) → bytes_after bytes (calls ++ call ∷ []) ≡ after (bytes_after bytes calls) call
bytes_after-push bytes [] call = refl
bytes_after-push bytes (first ∷ calls) call = bytes_after-push (after bytes first) calls call

AreWithin-push : (bytes : List ℕ) (calls : List DiskCall) (call : DiskCall) → AreWithin bytes calls → IsWithin (bytes_after bytes calls) call → AreWithin bytes (calls ++ call ∷ [])
AreWithin-push bytes [] call fit last = (last, tt)
AreWithin-push bytes (first ∷ calls) call fit last = (fit.0, AreWithin-push (after bytes first) calls call fit.1 last)

first_of-push : (calls : List DiskCall) (call : DiskCall) (kept bytes : List ℕ) → first_of (calls ++ call ∷ []) kept bytes ≡ kept
first_of-push [] call kept bytes = refl
first_of-push (first ∷ calls) call kept bytes = refl

-- one call more
pub replay_push : (calls all : List DiskCall) (call : DiskCall) (kept bytes first now : List ℕ) → IsReplay calls kept bytes → IsWithin bytes call
    → all ≡ calls ++ call ∷ [] → first ≡ first_of calls kept bytes → now ≡ after bytes call → IsReplay all first now
replay_push calls all call kept bytes first now was fit e f g =
    let begin : first_of all first now ≡ first = ap (λ (cs : List DiskCall). first_of cs first now) e ∙ first_of-push calls call first now in
    let within : AreWithin first calls = subst (λ b. AreWithin b calls) (sym f) was.within in
    let same : bytes ≡ bytes_after first calls = was.same ∙ ap (λ b. bytes_after b calls) (sym f) in
    record {
      same = g ∙ ap (λ b. after b call) same ∙ sym (bytes_after-push first calls call) ∙ ap (λ (cs : List DiskCall). bytes_after first cs) (sym e) ∙ ap (λ b. bytes_after b all) (sym begin);
      within = subst (λ b. AreWithin b all) (sym begin) (subst (λ (cs : List DiskCall). AreWithin first cs) (sym e) (AreWithin-push first calls call within (subst (λ b. IsWithin b call) same fit)));
    }

-- a disk after one call more
abbrev pub Took : DiskState → DiskCall → DiskState → Type 0
Took old call new = (new.first ≡ old.first) × (new.calls ≡ old.calls ++ call ∷ [])

-- what a read gives after one call more
pub took_held : (old new : DiskState) (call : DiskCall) → Took old call new → held new ≡ after (held old) call
took_held old new call (e, f) =
    ap (λ b. bytes_after b new.calls) e ∙ ap (λ (cs : List DiskCall). bytes_after old.first cs) f ∙ bytes_after-push old.first old.calls call

-- what a crash may leave after one call more
pub took_leaves : (old new : DiskState) (call : DiskCall) (c : List ℕ) → Took old call new → MayLeaveOf new c → LeavesAfter (held old) (MayLeaveOf old) call c
took_leaves old new call c (e, f) left =
    leaves_last old.first (λ d. d ≡ old.first) old.calls call c
    (subst (λ (cs : List DiskCall). MayLeave old.first cs c) f (subst (λ b. MayLeave b new.calls c) e left))

-- and what one might have left
pub took_elapses : (old new : DiskState) (call : DiskCall) → Took old call new → Elapses (moment_of old) (moment_of new) (LeftSinceOf old) (LeftSinceOf new) (MayLeaveOf new)
took_elapses old new call (e, f) =
    subst (λ b. Elapses (length old.calls) (length new.calls) (LeftSince old.first old.calls) (LeftSince b new.calls) (MayLeave b new.calls)) (sym e)
    (subst (λ (cs : List DiskCall). Elapses (length old.calls) (length cs) (LeftSince old.first old.calls) (LeftSince old.first cs) (MayLeave old.first cs)) (sym f)
    (elapses_push old.first old.calls call))

-- after a sync a crash leaves what a read gives
pub synced_leaves : (old new : DiskState) (c : List ℕ) → Took old Sync new → MayLeaveOf new c → c ≡ held new
synced_leaves old new c took left = took_leaves old new Sync c took left ∙ sym (took_held old new Sync took)

-- which it might have left before
pub synced_follows : (old new : DiskState) (c : List ℕ) → AreWithin old.first old.calls → Took old Sync new → MayLeaveOf new c → MayLeaveOf old c
synced_follows old new c fit took left = subst (MayLeaveOf old) (sym (took_leaves old new Sync c took left)) (leaves_held old.first old.calls fit)
