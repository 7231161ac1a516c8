use Rattle.std.proofs.Common.{◌≡◌, true, sym, ap, ◌∙◌, length}
use Rattle.std.specs.Prelude.{◌==◌}
use Rattle.std.proofs.lemmas.Bool.{false≢true}
use Rattle.global_text.proofs.RoomLaws.{no-other}
use Rattle.global_text.proofs.room.may_be_number.Goals as goal

pub returns-then-not-is_empty : goal.returns-then-not-is_empty
returns-then-not-is_empty c = (
  λ t. absurd (false≢true t),
  λ may.
      let none = no-other c.args.string.now c.split_number.result.0.now c.split_number.result.1.now c.split_number.ensures.whole c.split_number.ensures.rest may.0 in
      let empty : (length c.split_number.result.1.now == 0) ≡ true = ap (λ r. length r == 0) none in
      absurd (false≢true (sym c.if-not-is_empty.true ∙ c.is_empty.ensures ∙ empty)),
)
