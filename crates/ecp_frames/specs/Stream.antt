-- Frames at the front of a stream of bytes.
use Rattle.std.specs.Prelude.{ℕ, zero, suc, ◌+◌, ◌≡◌, List, ◌++◌, length, take, drop, ◌==◌, nat_lt, nat_le, ◌&&◌, if◌then◌else◌, Option, Some, None, is_some, is_none, option_and_then}
use Rattle.std.specs.Option.{option_map, option_map_or}
use Rattle.std.specs.Int.{w32, from_be_bytes}
use Rattle.ecp_frames.specs.declared.frame_error.FrameError.{FrameError}
use Rattle.ecp_frames.specs.declared.frame_error.FrameError.TheVariants.{TooLong, Empty}
use Rattle.ecp_frames.specs.declared.lengths.TheConstants.{MAX_LENGTH}

-- the length that stands first, where all of it is there
abbrev pub length_ahead : List ℕ → Option ℕ
length_ahead bytes = if nat_lt (length bytes) 4 then None else Some (from_be_bytes w32 (take 4 bytes))

-- why a length is refused
abbrev pub refusal : ℕ → Option FrameError
refusal n = if n == 0 then Some Empty else (if nat_lt MAX_LENGTH n then Some (TooLong n) else None)

-- the length of the first frame, where it is allowed and all of the frame is there
abbrev pub whole_ahead : List ℕ → Option ℕ
whole_ahead bytes = option_and_then (λ n. if is_none (refusal n) && nat_le (4 + n) (length bytes) then Some n else None) (length_ahead bytes)

-- the body of the first frame
abbrev pub first_frame : List ℕ → Option (List ℕ)
first_frame bytes = option_map (λ n. take n (drop 4 bytes)) (whole_ahead bytes)

-- what follows the first frame, or all where no whole frame is there
abbrev pub behind_first : List ℕ → List ℕ
behind_first bytes = option_map_or (λ n. drop (4 + n) bytes) (whole_ahead bytes) bytes

-- the first of two that is there
abbrev pub first_of_two : Option FrameError → Option FrameError → Option FrameError
first_of_two None later = later
first_of_two (Some fault) later = Some fault

-- the first refused length among so many frames from the front
abbrev pub fault_within : ℕ → List ℕ → Option FrameError
fault_within zero bytes = None
fault_within (suc frames) bytes = option_and_then (λ n. first_of_two (refusal n) (fault_within frames (drop (4 + n) bytes))) (length_ahead bytes)

-- the first refused length
abbrev pub fault_in : List ℕ → Option FrameError
fault_in bytes = fault_within (length bytes) bytes

-- what is held once a piece was fed: after a refused length nothing is taken
abbrev pub fed : List ℕ → List ℕ → List ℕ
fed bytes piece = if is_some (fault_in bytes) then bytes else bytes ++ piece

-- all lengths before place n are allowed, and a frame begins there, whatever comes
abbrev pub IsBoundary : List ℕ → ℕ → Type 0
IsBoundary bytes n = (more : List ℕ) → fault_in (bytes ++ more) ≡ fault_in (drop n (bytes ++ more))
