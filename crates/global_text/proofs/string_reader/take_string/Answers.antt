use Rattle.std.proofs.Common.{List, ℕ, subst, inr}
use Rattle.global_text.specs.Rooms.{HasRoom}
use Rattle.std.proofs.lemmas.Bool.{iff_false}
use Rattle.global_text.proofs.string_reader.take_string.Goals as goal

pub returns-then-not-has_room-clause-err : goal.returns-then-not-has_room-clause-err
returns-then-not-has_room-clause-err c = (c.in_ok-string.string.items, c.in_ok-string.rest.now, inr c.in_ok-string.ensures.ok, subst (λ (s : List ℕ). HasRoom c.args.room s → ⊥) c.as_slice.ensures.value (iff_false c.has_room.ensures c.if-not-has_room.true))
