use Rattle.std.proofs.Common.{length}
use Rattle.std.specs.Prelude.{⊤}
use Rattle.outer_disk.proofs.Moments.{follows_torn}
use Rattle.outer_disk.proofs.file_disk.FileDiskDisk.write_at.Goals as goal

pub returns-clause-crash : goal.returns-clause-crash
returns-clause-crash g c = follows_torn c.args.at (length c.args.part.now) (λ d. ⊤)
