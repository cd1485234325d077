-- A grant keeps a good register good.
use Rattle.std.proofs.Common.{◌≡◌, true, [], ◌∷◌, Some, refl}
use Rattle.clr_rules.proofs.Common.{of_round, outlook_of, of_round_is}
use Rattle.clr_rules.specs.Prelude.{PutRecord, Granted, Id, is_ordered, all_done, steps_in, steps_of, Grant, StepsLeft}
use Rattle.clr_rules.proofs.good.Keeping.{KeepsGood, commands_keep}
use Rattle.clr_rules.proofs.edits.Passing.{not_refused_true, role_begun}
use Rattle.clr_rules.proofs.good.PlaceFacts.{to_granted}
use Rattle.clr_rules.proofs.lists.OpenPhases.{open_where}
use Rattle.clr_rules.proofs.keeps.OneRecord.{found_edits, in_phase_of, record_alone}

pub grants_keep : (c : Id) → KeepsGood (Grant c)
grants_keep c = commands_keep (Grant c) (λ R by at good passed.
    let (r, found, fits, rest) = role_begun R c is_ordered passed in
    let done : all_done (of_round (steps_of R.steps c) 1) ≡ true = rw (of_round_is R.steps c 1) (not_refused_true (all_done (steps_in R.steps c 1)) StepsLeft (search rest)) in
    found_edits R c r (λ r. PutRecord (record r { phase = Granted; last = at }) ∷ []) found
    (record_alone R c r (record r { phase = Granted; last = at }) good found (open_where is_ordered refl r.phase fits) refl refl
    (to_granted R.net r.phase r.work (outlook_of R c) (Some (record r { phase = Granted; last = at }))
    fits done (in_phase_of R c r good found))))
