-- Which image a pick leaves, and that the calls allow it.
use Rattle.std.proofs.Common.{◌≡◌, ◌⊎◌, inl, inr, ⊎_elim, ℕ, zero, suc, ◌-◌, ◌<◌, Bool, true, false, List, [], ◌∷◌, get_or, length, take, drop, Some, refl, sym, ap, ◌∙◌, subst, arith, length-drop}
use Rattle.std.specs.Prelude.{◌||◌, if◌then◌else◌, slice_get, slice_index}
use Rattle.std.proofs.Math.Seq.{take-length}
use Rattle.std.proofs.lemmas.Bool.{cases_lt, or_cases}
use Rattle.std.proofs.lemmas.Bool.Decides.{nat_tests}
use Rattle.std.proofs.lemmas.List.{get_or_past}
use Rattle.outer_disk.specs.Calls.{after, bytes_after, AreWithin, LeavesAfter, LeavesFrom, MayLeave}
use Rattle.outer_disk.specs.Crash.{synced_after, is_in, is_unsynced, marked_below, image_byte, number, byte_by, IsPicked, HasNoSync}
use Rattle.outer_disk.proofs.Images.{InRange, Marked, leaves_image, one_image}
use Rattle.outer_disk.specs.declared.disk_call.DiskCall.{DiskCall}
use Rattle.outer_disk.specs.declared.disk_call.DiskCall.TheVariants.{Write, Cut as CutTo, Sync}

-- the first of calls that are within are within
pub within_take : (n : ℕ) (bytes : List ℕ) (calls : List DiskCall) → AreWithin bytes calls → AreWithin bytes (take n calls)
within_take zero bytes calls fit = tt
within_take (suc n) bytes [] fit = tt
within_take (suc n) bytes (call ∷ calls) fit = (fit.0, within_take n (after bytes call) calls fit.1)

-- with no sync the bytes of the last one stay
synced_none : (synced bytes : List ℕ) (calls : List DiskCall) → HasNoSync calls → synced_after synced bytes calls ≡ synced
synced_none synced bytes [] none = refl
synced_none synced bytes (Write at part ∷ calls) none = synced_none synced (after bytes (Write at part)) calls none.1
synced_none synced bytes (CutTo to ∷ calls) none = synced_none synced (after bytes (CutTo to)) calls none.1
synced_none synced bytes (Sync ∷ calls) none = absurd (none.0 refl)

-- after the last sync they are those that stood there
synced_some : (synced bytes : List ℕ) (calls : List DiskCall) (n : ℕ) → HasNoSync (drop (suc n) calls) → slice_get calls n ≡ Some Sync
    → synced_after synced bytes calls ≡ bytes_after bytes (take (suc n) calls)
synced_some synced bytes [] n none is = cc
synced_some synced bytes (Write at part ∷ calls) zero none is = cc
synced_some synced bytes (CutTo to ∷ calls) zero none is = cc
synced_some synced bytes (Sync ∷ calls) zero none is = synced_none bytes bytes calls none
synced_some synced bytes (Write at part ∷ calls) (suc n) none is = synced_some synced (after bytes (Write at part)) calls n none is
synced_some synced bytes (CutTo to ∷ calls) (suc n) none is = synced_some synced (after bytes (CutTo to)) calls n none is
synced_some synced bytes (Sync ∷ calls) (suc n) none is = synced_some bytes bytes calls n none is

-- the bytes of the last sync, by its place
pub synced_at : (first : List ℕ) (calls : List DiskCall) (n : ℕ) → HasNoSync (drop n calls) → (0 < n → slice_get calls (n - 1) ≡ Some Sync)
    → bytes_after first (take n calls) ≡ synced_after first first calls
synced_at first calls zero none is = sym (synced_none first first calls none)
synced_at first calls (suc n) none is =
    let less : suc n - 1 ≡ n = omega arith in
    sym (synced_some first first calls n none (subst (λ m. slice_get calls m ≡ Some Sync) less (is (omega arith))))

-- what was written before the last sync counts no more
unsynced_some : (was : Bool) (calls : List DiskCall) (n place : ℕ) → slice_get calls n ≡ Some Sync
    → is_unsynced was calls place ≡ is_unsynced false (drop (suc n) calls) place
unsynced_some was [] n place is = cc
unsynced_some was (Write at part ∷ calls) zero place is = cc
unsynced_some was (CutTo to ∷ calls) zero place is = cc
unsynced_some was (Sync ∷ calls) zero place is = refl
unsynced_some was (Write at part ∷ calls) (suc n) place is = unsynced_some (was || is_in at (length part) place) calls n place is
unsynced_some was (CutTo to ∷ calls) (suc n) place is = unsynced_some was calls n place is
unsynced_some was (Sync ∷ calls) (suc n) place is = unsynced_some false calls n place is

pub unsynced_at : (calls : List DiskCall) (n place : ℕ) → (0 < n → slice_get calls (n - 1) ≡ Some Sync)
    → is_unsynced false (drop n calls) place ≡ is_unsynced false calls place
unsynced_at calls zero place is = refl
unsynced_at calls (suc n) place is =
    let less : suc n - 1 ≡ n = omega arith in
    sym (unsynced_some false calls n place (subst (λ m. slice_get calls m ≡ Some Sync) less (is (omega arith))))

-- some crash leaves the bytes of the last sync
synced_left : (synced bytes : List ℕ) (old : List ℕ → Type 0) (calls : List DiskCall) → old synced → LeavesFrom bytes old calls (synced_after synced bytes calls)
synced_left synced bytes old [] here = here
synced_left synced bytes old (Write at part ∷ calls) here =
    synced_left synced (after bytes (Write at part)) (LeavesAfter bytes old (Write at part)) calls
    (synced, here, record { before = refl; after = refl; no_shorter = omega arith; no_longer = omega arith })
synced_left synced bytes old (CutTo to ∷ calls) here =
    synced_left synced (after bytes (CutTo to)) (LeavesAfter bytes old (CutTo to)) calls
    (synced, here, record { no_shorter = omega arith; front = take-length synced })
synced_left synced bytes old (Sync ∷ calls) here = synced_left bytes bytes (LeavesAfter bytes old Sync) calls refl

pub leaves_synced : (first : List ℕ) (calls : List DiskCall) → MayLeave first calls (synced_after first first calls)
leaves_synced first calls = synced_left first first (λ d. d ≡ first) calls refl

in_range : (at n place : ℕ) → is_in at n place ≡ true → InRange at n place
in_range at n place is = (grind (arith, nat_tests), grind (arith, nat_tests))

-- a place that was written since the last sync has a mark
marked_by : (was : Bool) (mark : ℕ → Type 0) (calls : List DiskCall) (place : ℕ) → (was ≡ true → mark place) → is_unsynced was calls place ≡ true → Marked mark calls place
marked_by was mark [] place old is = old is
marked_by was mark (Write at part ∷ calls) place old is =
    marked_by (was || is_in at (length part) place) (λ q. mark q ⊎ InRange at (length part) q) calls place
    (λ either. ⊎_elim (λ before. inl (old before)) (λ here. inr (in_range at (length part) place here)) (or_cases was (is_in at (length part) place) either))
    is
marked_by was mark (CutTo to ∷ calls) place old is = marked_by was mark calls place old is
marked_by was mark (Sync ∷ calls) place old is = marked_by false (λ q. ⊥) calls place (λ h. cc) is

unmarked : {X : Type 0} (b : Bool) (x y : X) → (b ≡ true → ⊥) → (if b then x else y) ≡ y
unmarked true x y free = absurd (free refl)
unmarked false x y free = refl

-- some crash leaves the image of a pick
pub leaves_picked : (first synced image : List ℕ) (calls : List DiskCall) (pick : ℕ) → AreWithin first calls
    → IsPicked pick (λ place. is_unsynced false calls place) (bytes_after first calls) synced image → MayLeave first calls image
leaves_picked first synced image calls pick fit is =
    leaves_image first (λ d. d ≡ first) (λ q. ⊥) calls image fit (one_image first) (record { long = is.long; each = each })
  where
    each : (p : ℕ) → (Marked (λ q. ⊥) calls p → ⊥) → get_or image p 0 ≡ get_or (bytes_after first calls) p 0
    each p free = ⊎_elim
        (λ lt. is.each p lt ∙ unmarked (is_unsynced false calls p) _ _ (λ yes. free (marked_by false (λ q. ⊥) calls p (λ h. cc) yes)))
        (λ past. get_or_past image p 0 (omega (arith, is.long)) ∙ sym (get_or_past (bytes_after first calls) p 0 past))
        (cases_lt p (length (bytes_after first calls)))

below_same : (f g : ℕ → Bool) (n : ℕ) → ((p : ℕ) → p < n → f p ≡ g p) → marked_below f n ≡ marked_below g n
below_same f g zero same = refl
below_same f g (suc n) same =
    ap (λ b. if b then suc (marked_below f n) else marked_below f n) (same n (omega arith))
    ∙ ap (λ m. if g n then suc m else m) (below_same f g n (λ p lt. same p (omega arith)))

-- the rule asks only for marks within the bytes
pub picked_same : (pick : ℕ) (f g : ℕ → Bool) (bytes synced image : List ℕ) → ((p : ℕ) → p < length bytes → f p ≡ g p)
    → IsPicked pick f bytes synced image → IsPicked pick g bytes synced image
picked_same pick f g bytes synced image same is = record { long = is.long; each = λ p lt. is.each p lt ∙ byte_same p lt }
  where
    byte_same : (p : ℕ) → p < length bytes → image_byte pick f bytes synced p ≡ image_byte pick g bytes synced p
    byte_same p lt =
        ap (λ b. if b then byte_by (number pick (suc (marked_below f p))) (slice_index bytes p) (slice_index synced p) else slice_index bytes p) (same p lt)
        ∙ ap (λ m. if g p then byte_by (number pick (suc m)) (slice_index bytes p) (slice_index synced p) else slice_index bytes p) (below_same f g p (λ q below. same q (omega arith)))

-- the image of a picked disk, as code finds it: by the calls up to the last sync, and marks for those after it
pub image_is : (pick : ℕ) (first bytes synced image : List ℕ) (calls : List DiskCall) (n : ℕ) (marked : ℕ → Bool) → 1 < pick → bytes ≡ bytes_after first calls
    → HasNoSync (drop n calls) → (0 < n → slice_get calls (n - 1) ≡ Some Sync) → synced ≡ bytes_after first (take n calls)
    → ((p : ℕ) → p < length bytes → marked p ≡ is_unsynced false (drop n calls) p)
    → IsPicked pick marked bytes synced image → IsPicked pick (λ place. is_unsynced false calls place) (bytes_after first calls) (synced_after first first calls) image
image_is pick first bytes synced image calls n marked above same none sync e marks is =
    let all : IsPicked pick (λ place. is_unsynced false calls place) bytes synced image =
    picked_same pick marked (λ place. is_unsynced false calls place) bytes synced image (λ p lt. marks p lt ∙ unsynced_at calls n p sync) is in
    let these : IsPicked pick (λ place. is_unsynced false calls place) (bytes_after first calls) synced image =
    subst (λ b. IsPicked pick (λ place. is_unsynced false calls place) b synced image) same all in
    subst (λ s. IsPicked pick (λ place. is_unsynced false calls place) (bytes_after first calls) s image) (e ∙ synced_at first calls n none sync) these

-- the calls from a place on
pub from_place : (calls : List DiskCall) (n : ℕ) → take (length calls - n) (drop n calls) ≡ drop n calls
from_place calls n = subst (λ m. take m (drop n calls) ≡ drop n calls) (length-drop n calls) (take-length (drop n calls))
