use Rattle.global_text.specs.declared.room.Room.TheVariants.{Sub as SubRoom}
use Rattle.global_text.proofs.RoomLaws.{room_short}
use Rattle.global_text.proofs.sub_reader.read_sub_string.Goals as goal

pub returns-in-Ok-clause-limit : goal.returns-in-Ok-clause-limit
returns-in-Ok-clause-limit c = room_short (SubRoom c.args.key) c.in-Ok.read.0.items c.in-Ok.ensures.room
