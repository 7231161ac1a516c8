use Rattle.std.proofs.Common.{◌≡◌, ◌∷◌, [], ◌++◌, inr, arith, rules, length-append}
use Rattle.global_text.proofs.StringReads.{begins-push}
use Rattle.global_text.proofs.RoomLaws.{room_short}
use Rattle.global_text.proofs.string_reader.take_items.Goals as goal

pub returns-then-len-limit-clause-err : goal.returns-then-len-limit-clause-err
returns-then-len-limit-clause-err c =
    let taken = rw c.in-Some.is at c.take_item.ensures.some in
    let string = c.loop-byte.string.items ++ c.in-Some.byte ∷ [] in (
      string,
      c.in-Some.after.now,
      inr (begins-push c.loop-byte.string.items (34 ∷ c.args.text.now) c.loop-byte.rest.now c.in-Some.after.now c.in-Some.byte c.loop-byte.invariant taken),
      λ h. omega (arith, room_short c.args.room string h, length-append c.loop-byte.string.items (c.in-Some.byte ∷ [])),
    )

pub loop-byte-preserved : goal.loop-byte-preserved
loop-byte-preserved c =
    let taken = rw c.in-Some.is at c.take_item.ensures.some in
    let pushed : c.push.new.self.items ≡ c.loop-byte.string.items ++ c.in-Some.byte ∷ [] = search rules in
    rw pushed (begins-push c.loop-byte.string.items (34 ∷ c.args.text.now) c.loop-byte.rest.now c.in-Some.after.now c.in-Some.byte c.loop-byte.invariant taken)
