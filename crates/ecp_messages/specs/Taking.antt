-- Messages at the front of bytes, behind their kind.
use Rattle.std.specs.Prelude.{◌≡◌, ◌≢◌, ℕ, ◌≤◌, List, ◌++◌, length, slice_index, IsTrue}
use Rattle.std.specs.List.{AllByRecursion}
use Rattle.ecp_messages.specs.Rows.{Field, KindRow, fields_bytes, IsField}

-- fields within their ranges, and what follows them
pub record AreAhead (fields : List Field) (bytes rest : List ℕ) : Type 0 where
  pub within : AllByRecursion IsField fields
  pub stand : bytes ≡ fields_bytes fields ++ rest

-- a message of a table and that kind, whose fields are ahead
pub record IsAhead {M : Type 0} (row : M → KindRow) (kind : ℕ) (bytes : List ℕ) (message : M) (rest : List ℕ) : Type 0 where
  pub kind_is : (row message).kind ≡ kind
  pub fields : AreAhead (row message).fields bytes rest
  pub sum : IsTrue (row message).sum_kept

-- no message of that kind has its fields ahead
pub record NoMessage {M : Type 0} (row : M → KindRow) (kind : ℕ) (bytes : List ℕ) : Type 0 where
  pub none : (message : M) (rest : List ℕ) → IsAhead row kind bytes message rest → ⊥

-- no message of a table has that kind
abbrev pub IsUnknown : {M : Type 0} → (M → KindRow) → ℕ → Type 0
IsUnknown {M} row kind = (message : M) → (row message).kind ≢ kind

-- the 17th byte is no kind of the table
pub record HasUnknownKind {M : Type 0} (row : M → KindRow) (body : List ℕ) : Type 0 where
  pub room : 17 ≤ length body
  pub unknown : IsUnknown row (slice_index body 16)
