-- What a source and a sink told in one call: each before and after it.
use Rattle.std.specs.Prelude.{◌≡◌, ℕ, List, [], Option, Some, IfSome, ◌⊎◌}
use Rattle.std.specs.Io.KnownBytes.{Appends}
use Rattle.outer_io.specs.Causes.{Rose}
use Rattle.outer_io.specs.Took.{TookFront}

-- a source: the bytes that it had left, where it tells, and its count of faults
pub record SourceTold : Type 0 where
  pub left_before : Option (List ℕ)
  pub left_after : Option (List ℕ)
  pub faults_before : ℕ
  pub faults_after : ℕ

-- a sink: the bytes that it held, where it tells, its count of faults, and its count of pieces of which it took nothing
pub record SinkTold : Type 0 where
  pub held_before : Option (List ℕ)
  pub held_after : Option (List ℕ)
  pub faults_before : ℕ
  pub faults_after : ℕ
  pub refusals_before : ℕ
  pub refusals_after : ℕ

-- what a source told, by what it has left and its count: `source_told S.left S.faults src.old src.new`
abbrev pub source_told : {S : Type 0} → (S → Option (List ℕ)) → (S → ℕ) → S → S → SourceTold
source_told left faults old new = record {
  left_before = left old;
  left_after = left new;
  faults_before = faults old;
  faults_after = faults new;
}

-- what a sink told, by what it holds and its counts: `sink_told K.held K.faults K.refusals out.old out.new`
abbrev pub sink_told : {K : Type 0} → (K → Option (List ℕ)) → (K → ℕ) → (K → ℕ) → K → K → SinkTold
sink_told held faults refusals old new = record {
  held_before = held old;
  held_after = held new;
  faults_before = faults old;
  faults_after = faults new;
  refusals_before = refusals old;
  refusals_after = refusals new;
}

-- nothing is left of what the source had
abbrev pub IsReadToEnd : SourceTold → Type 0
IsReadToEnd s = IfSome s.left_before (λ _. s.left_after ≡ Some [])

-- the source failed in this call
abbrev pub SourceFailed : SourceTold → Type 0
SourceFailed s = Rose s.faults_before s.faults_after

-- in this call the sink failed, or took nothing of a piece that isn't empty
abbrev pub SinkStopped : SinkTold → Type 0
SinkStopped s = Rose s.faults_before s.faults_after ⊎ Rose s.refusals_before s.refusals_after

-- the sink holds what it held, followed by the piece or some of it from its front
abbrev pub HoldsFrontOf : SinkTold → List ℕ → Type 0
HoldsFrontOf s piece = TookFront s.held_before s.held_after piece

-- the whole piece was put, or the sink stopped and holds some of it from its front
abbrev pub WasPut : SinkTold → List ℕ → Type 0
WasPut s piece = Appends s.held_before s.held_after piece ⊎ (SinkStopped s × HoldsFrontOf s piece)
