use Rattle.clr_order.proofs.Isolation.{sound_orders_isolate}
use Rattle.clr_order.proofs.laws.sound_orders_isolate.Goals as goal

pub returns : goal.returns
returns c = sound_orders_isolate
