use Rattle.clr_text.proofs.KeysInOrder.{keys_stand_in_order}
use Rattle.clr_text.proofs.laws.keys_stand_in_order.Goals as goal

pub returns : goal.returns
returns c = keys_stand_in_order
