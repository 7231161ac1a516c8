-- What reading a body answers.
use Rattle.std.specs.Prelude.{◌≡◌, ◌≢◌, List, [], ℕ, ◌++◌, Result, Ok, Err}
use Rattle.field_bytes.specs.Fields.{NoneAhead}
use Rattle.ecp_messages.specs.declared.message_error.MessageError.{MessageError}
use Rattle.ecp_messages.specs.declared.message_error.MessageError.TheVariants.{BadKind, BadField, LeftOver, Memory}

-- a frame of these and at least one byte more are the body
pub record HasMore {A : Type 0} (bytes_of : A → List ℕ) (May : A → Type 0) (body : List ℕ) : Type 0 where
  pub frame : A
  pub rest : List ℕ
  pub formed : May frame
  pub more : rest ≢ []
  pub whole : body ≡ bytes_of frame ++ rest

-- no frame of these begins the body, and its kind isn't unknown
pub record HasBadField {A : Type 0} (bytes_of : A → List ℕ) (May : A → Type 0) (Unknown : Type 0) (body : List ℕ) : Type 0 where
  pub none : NoneAhead bytes_of May body
  pub known : Unknown → ⊥

-- the answer is right of the body, unless memory ran out
abbrev pub DecodesTo : {A : Type 0} → (A → List ℕ) → (A → Type 0) → Type 0 → List ℕ → Result A MessageError → Type 0
DecodesTo bytes_of May Unknown body (Ok frame) = May frame × (bytes_of frame ≡ body)
DecodesTo bytes_of May Unknown body (Err LeftOver) = HasMore bytes_of May body
DecodesTo bytes_of May Unknown body (Err BadKind) = Unknown
DecodesTo bytes_of May Unknown body (Err BadField) = HasBadField bytes_of May Unknown body
DecodesTo bytes_of May Unknown body (Err (Memory error)) = Unit {0}
