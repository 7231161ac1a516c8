-- The image that a crash of a disk in memory leaves, by a number that picks it.
use Rattle.std.specs.Prelude.{◌≡◌, ◌≢◌, ℕ, zero, suc, ◌+◌, ◌*◌, ◌/◌, ◌%◌, ◌^◌, ◌<◌, ◌==◌, nat_le, nat_lt, Bool, false, ◌&&◌, ◌||◌, if◌then◌else◌, List, [], ◌∷◌, length, slice_index}
use Rattle.outer_disk.specs.Calls.{after, bytes_after}
use Rattle.outer_disk.specs.declared.disk_call.DiskCall.{DiskCall}
use Rattle.outer_disk.specs.declared.disk_call.DiskCall.TheVariants.{Write, Cut as CutTo, Sync}

-- the bytes of the last sync after calls, by those of the last sync before them and those that stood there
abbrev pub synced_after : List ℕ → List ℕ → List DiskCall → List ℕ
synced_after synced bytes [] = synced
synced_after synced bytes (Write at part ∷ calls) = synced_after synced (after bytes (Write at part)) calls
synced_after synced bytes (CutTo to ∷ calls) = synced_after synced (after bytes (CutTo to)) calls
synced_after synced bytes (Sync ∷ calls) = synced_after bytes bytes calls

-- a place is in a range of n bytes
abbrev pub is_in : ℕ → ℕ → ℕ → Bool
is_in at n place = nat_le at place && nat_lt place (at + n)

-- whether a place was written since the last sync after calls, by whether it was before them
abbrev pub is_unsynced : Bool → List DiskCall → ℕ → Bool
is_unsynced was [] place = was
is_unsynced was (Write at part ∷ calls) place = is_unsynced (was || is_in at (length part) place) calls place
is_unsynced was (CutTo to ∷ calls) place = is_unsynced was calls place
is_unsynced was (Sync ∷ calls) place = is_unsynced false calls place

-- the number that follows a number
abbrev pub next_number : ℕ → ℕ
next_number x = (x * 6364136223846793005 + 1442695040888963407) % 2 ^ 64

-- the n-th number of a pick, which is the 0-th
abbrev pub number : ℕ → ℕ → ℕ
number pick zero = pick
number pick (suc n) = next_number (number pick n)

-- the byte that a number gives, of the one that was written and that of the last sync
abbrev pub byte_by : ℕ → ℕ → ℕ → ℕ
byte_by x written synced =
    if x / 2 ^ 62 == 0 then written else (if x / 2 ^ 62 == 1 then synced else x / 2 ^ 40 % 256)

-- how many places below n are marked
abbrev pub marked_below : (ℕ → Bool) → ℕ → ℕ
marked_below marked zero = 0
marked_below marked (suc n) = if marked n then suc (marked_below marked n) else marked_below marked n

-- the byte of the image at a place: the next number decides of each marked place in turn, and other bytes stay
abbrev pub image_byte : ℕ → (ℕ → Bool) → List ℕ → List ℕ → ℕ → ℕ
image_byte pick marked bytes synced place =
    if marked place then byte_by (number pick (suc (marked_below marked place))) (slice_index bytes place) (slice_index synced place)
    else slice_index bytes place

-- an image as long as the bytes, each byte by that rule
pub record IsPicked (pick : ℕ) (marked : ℕ → Bool) (bytes synced image : List ℕ) : Type 0 where
  pub long : length image ≡ length bytes
  pub each : (place : ℕ) → place < length bytes → slice_index image place ≡ image_byte pick marked bytes synced place

-- none of the calls is a sync
abbrev pub HasNoSync : List DiskCall → Type 0
HasNoSync [] = Unit {0}
HasNoSync (call ∷ calls) = (call ≢ Sync) × HasNoSync calls

-- the image of a pick: at 0 the bytes of the last sync, at 1 those that stood there, and else by the rule
pub record IsImage (pick : ℕ) (first : List ℕ) (calls : List DiskCall) (image : List ℕ) : Type 0 where
  pub none : pick ≡ 0 → image ≡ synced_after first first calls
  pub one : pick ≡ 1 → image ≡ bytes_after first calls
  pub more : 1 < pick → IsPicked pick (λ place. is_unsynced false calls place) (bytes_after first calls) (synced_after first first calls) image
