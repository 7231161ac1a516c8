-- Which error a stopped device call becomes.
use Rattle.std.specs.Prelude.{alloc_error}
use Rattle.outer_io.specs.declared.stops.Stop.{Stop}
use Rattle.outer_io.specs.declared.stops.Stop.TheVariants.{Failed, Memory as WantsMemory}
use Rattle.journal_disk.specs.declared.journal_error.JournalError.{JournalError}
use Rattle.journal_disk.specs.declared.journal_error.JournalError.TheVariants.{Disk, Memory}

-- a failure is the disk's, and else it was out of memory
abbrev pub error_of : Stop → JournalError
error_of Failed = Disk
error_of WantsMemory = Memory alloc_error
