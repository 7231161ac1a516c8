use Rattle.std.proofs.Common.{refl, rules}
use Rattle.std.proofs.lemmas.Fn.{filter_same}
use Rattle.recovery_round.specs.RoundWords.{is_another}
use Rattle.recovery_round.proofs.recovery_round.RecoveryRound.done.Goals as goal

pub returns : goal.returns
returns c =
    let kept = filter_same _ (is_another c.args.session) _ (λ x b f k. search rules) _ _ c.retain.ensures.filtered in
    rw (kept, ← c.self.view_is) refl
