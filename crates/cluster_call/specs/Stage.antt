-- What the lines that are built today can't show: a disk, a net, a command that waits.
use Rattle.std.specs.Prelude.{◌≡◌, List, [], ◌∷◌, length}
use Rattle.std.specs.List.{flat_map}
use Rattle.plain_orders.specs.declared.act.Act.{Act}
use Rattle.plain_orders.specs.declared.act.Act.TheVariants.{Opened, Lose}
use Rattle.plain_orders.specs.declared.causes.Loss.{Loss}
use Rattle.plain_orders.specs.declared.entry.Entry.{Entry}
use Rattle.script_fits.specs.declared.output.Output.{Output}
use Rattle.script_fits.specs.Pieces.{answers_in}

-- the entries that a data server found as it opened
abbrev pub found_of : Act → List Entry
found_of (Opened server entries) = entries
found_of act = []

-- how an application server lost a session, or found no way to a data server
abbrev pub loss_of : Act → List Loss
loss_of (Lose app d loss) = loss ∷ []
loss_of act = []

-- nothing comes from outside yet
pub record IsUndisturbed (out : Output) : Type 0 where
  -- each data server begins with an empty list
  pub fresh : flat_map found_of out.trail ≡ []
  -- no session is lost, and no connection fails
  pub kept : flat_map loss_of out.trail ≡ []
  -- each line of the transcript is an answer: no command waits, and no data server halts
  pub answered : length (answers_in out.pieces.items) ≡ length out.pieces.items
