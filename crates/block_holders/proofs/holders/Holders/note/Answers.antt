use Rattle.std.proofs.Common.{sym, ap, ◌∙◌}
use Rattle.block_holders.specs.HolderWords.{with_noted}
use Rattle.block_holders.proofs.NoteLemmas.{there-noted, put-noted}
use Rattle.block_holders.proofs.holders.Holders.note.Goals as goal

pub returns-then-is_there-clause-ok : goal.returns-then-is_there-clause-ok
returns-then-is_there-clause-ok c =
    sym c.self.view_is ∙ there-noted c.args.session c.args.span c.self.inside.notes c.if-is_there.ensures ∙ ap (with_noted c.args.session c.args.span) c.self.view_is

pub returns-clause-ok : goal.returns-clause-ok
returns-clause-ok c =
    rw c.in_ok-put.ensures.ok (put-noted c.args.session c.args.span c.self.inside.notes c.if-is_there.ensures ∙ ap (with_noted c.args.session c.args.span) c.self.view_is)
