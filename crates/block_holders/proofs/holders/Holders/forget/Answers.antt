use Rattle.std.proofs.Common.{sym}
use Rattle.block_holders.specs.HolderWords.{is_noted_elsewhere}
use Rattle.block_holders.proofs.NoteLemmas.{filter-noted}
use Rattle.block_holders.proofs.holders.Holders.forget.Goals as goal

pub returns : goal.returns
returns c = rw (c.drop_owner.ensures, ← c.self.view_is) (sym (filter-noted (is_noted_elsewhere c.args.session) c.self.inside.notes))
