-- There is a way back, by the phase of the record.
use Rattle.std.proofs.Common.{◌≡◌, ◌≤◌, ◌+◌, ◌*◌, true, false, not, length, Some, refl, sym, ◌∙◌, ap, subst, arith, ◌⊎◌}
use Rattle.clr_rules.specs.Checks.{is_field}
use Rattle.clr_rules.specs.Prelude.{Phase, Requested, Ordered, Granted, Released, Restoring, Switching, Closed, Record, Id, Register, record_of, is_granted, is_restoring, is_done, StepRow, steps_in, steps_of}
use Rattle.clr_rules.specs.Records.{is_cancellable, is_closed, is_released}
use Rattle.clr_rules.specs.Staffed.{has_some_role}
use Rattle.clr_rules.specs.Steps.{some_active}
use Rattle.clr_rules.specs.WayBack.{enough_turns, way_back}
use Rattle.clr_rules.specs.laws.WayBack.{ClosesAlone, ThereIsAWayBack}
use Rattle.clr_rules.proofs.lists.RoundSteps.{record_id}
use Rattle.clr_rules.proofs.way_back.Cancelling.{not_granted_go_out}
use Rattle.clr_rules.proofs.way_back.InWork.{GoodAndStaffed}
use Rattle.clr_rules.proofs.way_back.Granted.{granted_out, not_more}
use Rattle.clr_rules.proofs.way_back.Restoring.{left_count}
use Rattle.clr_rules.proofs.way_back.Releasing.{released_out}
use Rattle.clr_rules.proofs.way_back.Running.{restoring_go_out}
use Rattle.clr_rules.proofs.way_back.Staying.{WayOut, closes_alone, is_out, enough, wider}

left_fit : (R : Register) (c : Id) → left_count R c ≤ length (steps_in R.steps c 2)
left_fit R c = not_more (λ (row : StepRow). not (is_done row.step.state)) (steps_in R.steps c 2)

-- by the phase, in turns that are enough
way_out : (R : Register) → GoodAndStaffed R → (r : Record) → record_of R.records r.id ≡ Some r
    → (has_some_role R.staff is_field ≡ true) ⊎ (some_active (steps_of R.steps r.id) ≡ false) → WayOut (enough_turns R r.id) R r.id
way_out R both r found who = by r.phase refl
  where
    not_granted : is_cancellable r.phase ≡ true → WayOut (enough_turns R r.id) R r.id
    not_granted fits = wider 1283 (enough_turns R r.id) (omega arith) R r.id (not_granted_go_out released_out R both r found fits who)

    by : (phase : Phase) → r.phase ≡ phase → WayOut (enough_turns R r.id) R r.id
    by Requested is = not_granted (ap is_cancellable is)
    by Ordered is = not_granted (ap is_cancellable is)
    by Switching is = not_granted (ap is_cancellable is)
    by Granted is = wider (1282 + length R.holds) (enough_turns R r.id) (omega arith) R r.id (granted_out R both r found (ap is_granted is))
    by Released is = wider 1281 (enough_turns R r.id) (omega arith) R r.id (released_out R both r found (ap is_released is))
    by Restoring is = wider (5 * left_count R r.id) (enough_turns R r.id) (let fits = left_fit R r.id in omega arith) R r.id
        (restoring_go_out R both r found (ap is_restoring is))
    by Closed is = is_out (enough_turns R r.id) R r.id r found (ap is_closed is)

pub there_is_a_way_back : ThereIsAWayBack
there_is_a_way_back R good staffed c r found who =
    let own : r.id ≡ c = record_id R.records c r found in
    let both : GoodAndStaffed R = record { good = good; staffed = staffed } in
    let out = way_out R both r (ap (record_of R.records) own ∙ found)
    (subst (λ (d : Id). (has_some_role R.staff is_field ≡ true) ⊎ (some_active (steps_of R.steps d) ≡ false)) (sym own) who) in
    subst (λ (d : Id). ClosesAlone R d (way_back R d)) own (closes_alone R r.id (way_back R r.id) (enough (enough_turns R r.id) R r.id out))
