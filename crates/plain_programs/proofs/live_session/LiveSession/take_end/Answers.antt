use Rattle.std.proofs.Common.{refl}
use Rattle.plain_programs.proofs.SessionLemmas.{indexed-commit, indexed-rollback}
use Rattle.plain_programs.proofs.live_session.LiveSession.take_end.Goals as goal

pub returns-clause-commit : goal.returns-clause-commit
returns-clause-commit c = λ es s h next. indexed-commit es s c.args.w c.args.name c.args.self.now _ h next refl refl c.remove.ensures.updates.0

pub returns-clause-rollback : goal.returns-clause-rollback
returns-clause-rollback c = λ es s h next. indexed-rollback es s c.args.w c.args.name c.args.self.now _ h next refl refl c.remove.ensures.updates.0
