-- Calls on one stream, in any order, against all its bytes together.
use Rattle.std.specs.Prelude.{ℕ, zero, suc, ◌≡◌, List, [], ◌∷◌, ◌++◌, length, Option, Some, None}
use Rattle.std.specs.Option.{option_map_or}
use Rattle.ecp_frames.specs.Stream.{first_frame, behind_first, fault_in, fed}

-- a piece is fed, or a frame is looked for
pub data Call : Type 0 where
  Feeds : (piece : List ℕ) → Call
  Looks : Call

-- the bytes held, and the frames given so far
pub record Read : Type 0 where
  pub held : List ℕ
  pub given : List (List ℕ)

abbrev pub give : Read → Option (List ℕ) → List ℕ → Read
give r None left = r
give r (Some frame) left = record { held = left; given = r.given ++ frame ∷ [] }

abbrev pub call : Read → Call → Read
call r (Feeds piece) = record r { held = fed r.held piece }
call r Looks = give r (first_frame r.held) (behind_first r.held)

abbrev pub read_on : Read → List Call → Read
read_on r [] = r
read_on r (c ∷ calls) = read_on (call r c) calls

-- what stands after these calls on a new stream
abbrev pub read : List Call → Read
read calls = read_on (record { held = []; given = [] }) calls

-- all the bytes that were fed
abbrev pub all_fed : List Call → List ℕ
all_fed [] = []
all_fed (Feeds piece ∷ calls) = piece ++ all_fed calls
all_fed (Looks ∷ calls) = all_fed calls

-- the whole frames among so many from the front
abbrev pub frames_within : ℕ → List ℕ → List (List ℕ)
frames_within zero bytes = []
frames_within (suc n) bytes = option_map_or (λ frame. frame ∷ frames_within n (behind_first bytes)) (first_frame bytes) []

-- the whole frames at the front, up to a refused length or a frame that isn't all there
abbrev pub frames_in : List ℕ → List (List ℕ)
frames_in bytes = frames_within (length bytes) bytes

-- frames and refusal are those of all the bytes together
pub record SameAsWhole (calls : List Call) : Type 0 where
  pub frames : (read calls).given ++ frames_in (read calls).held ≡ frames_in (all_fed calls)
  pub fault : fault_in (read calls).held ≡ fault_in (all_fed calls)
