use Rattle.std.proofs.Common.{arith}
use Rattle.std.proofs.lemmas.Bool.{false≢true, leb-true, le-leb}
use Rattle.global_text.proofs.KeyLengths.{text-length}
use Rattle.global_text.proofs.RoomLaws.{escaped-longer}
use Rattle.global_text.proofs.room.has_text_room.Goals as goal

pub returns-then-string-gt-KEY_LIMIT : goal.returns-then-string-gt-KEY_LIMIT
returns-then-string-gt-KEY_LIMIT c =
    (λ t. absurd (false≢true t), λ h. absurd (omega (arith, h, text-length c.args.string.now, escaped-longer c.args.string.now)))

pub returns : goal.returns
returns c = (
  λ t. omega (arith, leb-true c.text_length.result c.saturating_sub.result t, text-length c.args.string.now),
  λ h. le-leb c.text_length.result c.saturating_sub.result (omega (arith, h)),
)
