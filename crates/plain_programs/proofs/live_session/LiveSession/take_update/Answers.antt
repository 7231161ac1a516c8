use Rattle.std.proofs.Common.{◌∙◌, refl, sym}
use Rattle.plain_programs.proofs.SessionLemmas.{indexed-one, indexed-alone}
use Rattle.plain_programs.proofs.live_session.LiveSession.take_update.Goals as goal
use Rattle.plain_programs.proofs.live_session.LiveSession.take_update.Goals.{then-is_of_one+in_ok-insert, else-is_of_one}

pub returns-clause-ok : goal.returns-clause-ok
returns-clause-ok c = elim c.if-is_of_one.branch [
  | then-is_of_one+in_ok-insert w ↦ rw w.self-is (λ es s h next.
      indexed-one es s c.args.w c.args.name c.args.self.now _ c.args.op.now (sym c.is_of_one.ensures ∙ w.if-is_of_one.true) h next refl refl w.in_ok-insert.ensures.updates.0)
  | else-is_of_one w ↦ rw w.self-is (λ es s h next.
      indexed-alone es s c.args.w c.args.name c.args.self.now _ c.args.op.now (sym c.is_of_one.ensures ∙ w.if-is_of_one.false) h next refl refl refl)
]
