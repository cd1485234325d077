-- A transfer keeps a good register good.
use Rattle.std.proofs.Common.{ℕ, Bool, List, [], ◌∷◌, Some, refl}
use Rattle.clr_rules.proofs.Common.{outlook_of}
use Rattle.clr_rules.specs.Prelude.{PutRecord, Id, Transfer}
use Rattle.clr_rules.specs.Records.{is_transferable}
use Rattle.clr_rules.proofs.good.Keeping.{KeepsGood, commands_keep}
use Rattle.clr_rules.proofs.edits.Passing.{phase_fits, record_there}
use Rattle.clr_rules.proofs.good.PlaceFacts.{phase_beside}
use Rattle.clr_rules.proofs.lists.OpenPhases.{open_where}
use Rattle.clr_rules.proofs.keeps.OneRecord.{found_edits, in_phase_of, record_alone}

pub transfers_keep : (c : Id) (to : List ℕ) (emergency : Bool) → KeepsGood (Transfer c to emergency)
transfers_keep c to emergency = commands_keep (Transfer c to emergency) (λ R by at good passed.
    let (r, found) = record_there R c (search passed) in
    let unclosed = open_where is_transferable refl r.phase (phase_fits R c r is_transferable found (search passed)) in
    found_edits R c r (λ r. PutRecord (record r { holder = to; last = at }) ∷ []) found
    (record_alone R c r (record r { holder = to; last = at }) good found unclosed refl refl
    (phase_beside R.net r.phase r.work (outlook_of R c) (Some (record r { holder = to; last = at })) (λ p. (outlook_of R c).hand p) (in_phase_of R c r good found))))
