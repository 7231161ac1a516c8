use Rattle.items_server.proofs.ItemsEnter.{items_enter}
use Rattle.items_server.proofs.laws.each_item_enters_in_its_turn.Goals as goal

pub returns : goal.returns
returns c = items_enter
