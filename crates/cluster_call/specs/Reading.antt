-- What the reader of a source goes by.
use Rattle.std.specs.Prelude.{◌<◌, length, IfSome}
use Rattle.outer_io.specs.Told.{SourceTold, SourceFailed}
use Rattle.cluster_call.specs.declared.source_text.TextError.{TextError}
use Rattle.cluster_call.specs.declared.source_text.TextError.TheVariants.{Memory, Fault, TooLarge}
use Rattle.cluster_call.specs.declared.limits.TheConstants.{TEXT_LIMIT}

-- a fault is the source's, and one that gives too much had more bytes than a script may have
abbrev pub StopsReading : SourceTold → TextError → Type 0
StopsReading source Memory = Unit {0}
StopsReading source Fault = SourceFailed source
StopsReading source TooLarge = IfSome source.left_before (λ text. TEXT_LIMIT < length text)
