use Rattle.std.proofs.Common.{sym, refl}
use Rattle.std.proofs.lemmas.Bool.{false≢true}
use Rattle.clr_order.proofs.SoundOrders.{sound_from_no_fault, no_fault_from_sound}
use Rattle.clr_order.proofs.isolating.check_isolating.Goals as goal

pub returns-in-Some-clause-sound : goal.returns-in-Some-clause-sound
returns-in-Some-clause-sound c =
    (λ e. absurd (false≢true e), λ s. let none = no_fault_from_sound _ _ _ s in absurd (cc (none, c.in-Some.ensures)))

pub returns-in-None-clause-sound : goal.returns-in-None-clause-sound
returns-in-None-clause-sound c = (λ _. sound_from_no_fault _ _ _ (sym c.in-None.ensures), λ _. refl)
