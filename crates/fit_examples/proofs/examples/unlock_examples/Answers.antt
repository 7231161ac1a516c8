use Rattle.std.proofs.Common.{[], refl, rules}
use Rattle.std.specs.Prelude.{false}
use Rattle.plain_orders.specs.declared.mode.Mode.TheVariants.{Exclusive}
use Rattle.script_fits.specs.Locking.{no_past}
use Rattle.fit_examples.specs.Groups.{two, at_x, met}
use Rattle.fit_examples.specs.Trails.{locked, kept, kept_within}
use Rattle.app_job.specs.declared.answer.Answer.TheVariants.{Done as DoneAnswer}
use Rattle.fit_examples.proofs.FirstMoments.{unlock_does, unlock_holds, unlock_up}
use Rattle.fit_examples.proofs.Hearing.{heard_at, not_heard}
use Rattle.app_job.specs.declared.command.Command.TheVariants.{Unlock}
use Rattle.fit_examples.proofs.examples.unlock_examples.Goals as goal

pub returns : goal.returns
returns c = (
  ((_, _, refl, (refl, (tt, tt)), (refl, refl), refl, refl, refl), (refl, (refl, tt)), (_, (_, _, refl, refl), heard_at kept 0 refl)),
  search rules,
  search rules,
  search rules,
  search rules,
  search rules,
  search rules,
  λ f. absurd (cc (unlock_does two 0 5 at_x Exclusive false no_past _ _ DoneAnswer [] f.0)),
  search rules,
  search rules,
  search rules,
  search rules,
  search rules,
  search rules,
  ((_, _, refl, (tt, tt), (refl, refl), refl, refl, refl), (refl, tt), (_, (_, _, refl, refl), heard_at kept_within 0 refl)),
  search rules,
  λ f. absurd (cc (unlock_holds two 0 5 at_x Exclusive false no_past _ _ DoneAnswer [] f.0)),
  search rules,
  ((_, _, refl, (tt, tt), (refl, refl), refl, refl, refl), (refl, tt), (_, (_, _, refl, refl), heard_at kept_within 0 refl)),
  search rules,
  ((_, _, refl, (refl, (tt, tt)), (refl, refl), refl, refl, refl), (refl, (refl, tt)), (_, (_, _, refl, refl), heard_at kept_within 0 refl)),
  search rules,
  ((_, _, refl, (tt, tt), (refl, refl), refl, refl, refl), (refl, tt), (_, (_, _, refl, refl), heard_at met 0 refl)),
  search rules,
  search rules,
  ((_, _, refl, (tt, tt), (refl, refl), refl, refl, refl), (refl, tt), (_, (_, _, refl, refl), heard_at kept 0 refl)),
  ((_, _, refl, (tt, tt), (refl, refl), refl, refl, refl), (refl, tt), (_, (_, _, refl, refl), heard_at locked 0 refl)),
  λ f. absurd (cc (unlock_up two 0 5 at_x Exclusive false no_past _ _ DoneAnswer [] f.0).1),
  λ f. absurd (cc (unlock_up two 0 5 at_x Exclusive false no_past _ _ DoneAnswer [] f.0).0),
  λ f. not_heard 0 0 (Unlock at_x Exclusive false) _ _ refl refl f.2,
)
