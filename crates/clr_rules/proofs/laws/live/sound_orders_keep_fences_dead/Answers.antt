use Rattle.clr_rules.proofs.live.DeadFences.{dead_fence}
use Rattle.clr_rules.proofs.laws.live.sound_orders_keep_fences_dead.Goals as goal

pub returns : goal.returns
returns c = λ g net states work points tasks sound. dead_fence g net states work points tasks sound
