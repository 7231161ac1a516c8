use Rattle.std.specs.Prelude.{⊤}
use Rattle.outer_disk.proofs.Moments.{follows_cut}
use Rattle.outer_disk.proofs.file_disk.FileDiskDisk.cut.Goals as goal

pub returns-clause-crash : goal.returns-clause-crash
returns-clause-crash g c = follows_cut c.args.to (λ d. ⊤)
