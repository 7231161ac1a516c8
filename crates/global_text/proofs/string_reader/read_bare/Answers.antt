use Rattle.std.proofs.Common.{inl}
use Rattle.std.proofs.lemmas.Bool.{iff_false}
use Rattle.global_text.proofs.StringReads.{no-string}
use Rattle.global_text.proofs.string_reader.read_bare.Goals as goal

pub returns-then-not-is_number-clause-err : goal.returns-then-not-is_number-clause-err
returns-then-not-is_number-clause-err c = no-string c.args.room c.args.text.now c.split_number.result.0.now c.split_number.result.1.now c.requires c.split_number.ensures.whole c.split_number.ensures.bytes c.split_number.ensures.rest (iff_false c.is_number.ensures c.if-not-is_number.true)

pub returns-then-not-has_room-clause-err : goal.returns-then-not-has_room-clause-err
returns-then-not-has_room-clause-err c = (c.split_number.result.0.now, c.split_number.result.1.now, inl (c.is_number.ensures.0 c.if-not-is_number.false, c.split_number.ensures.whole, c.split_number.ensures.rest), iff_false c.has_room.ensures c.if-not-has_room.true)
