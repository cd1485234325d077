use Rattle.clr_net.specs.Fence.{fence_of}
use Rattle.clr_order.proofs.SoundOrders.{no_fault_from_sound, sound_from_no_fault}
use Rattle.clr_order.proofs.laws.sound_orders_are_accepted.Goals as goal

pub returns : goal.returns
returns c = λ g work points tasks. (sound_from_no_fault (fence_of g work points) points tasks, no_fault_from_sound (fence_of g work points) points tasks)
