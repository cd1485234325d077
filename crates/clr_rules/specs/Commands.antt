-- THE RULES OF THE COMMANDS: what each is checked for, in this order, and what it changes
-- where no check refuses it. The checks are stated one by one in Checks, the parts of a change in
-- Changes.
use Rattle.std.specs.Prelude.{ℕ, Bool, if◌then◌else◌, ◌+◌, List, [], ◌∷◌, map, Option, None, Some}
use Rattle.std.specs.Prelude.{◌++◌}
use Rattle.clr_staff.specs.declared.employee.Role.{Role}
use Rattle.clr_rules.specs.Prelude.{Instructed, Repeated, Edit, SetHand, PutHold, TakeHold}
use Rattle.clr_rules.specs.Prelude.{PutRecord, PutStep, Kind, Tested, Ground, Crew, Id, Phase}
use Rattle.clr_rules.specs.Prelude.{Requested, Ordered, Granted, Released, Restoring, Switching}
use Rattle.clr_rules.specs.Prelude.{Refusal, StepRow, Register, is_running, is_granted}
use Rattle.clr_rules.specs.Prelude.{is_restoring, is_ordered, is_active, is_waiting, hold_of}
use Rattle.clr_rules.specs.Prelude.{places_of}
use Rattle.clr_rules.specs.Changes.{added_edits, cancelled_phase, done_edits, new_jumper}
use Rattle.clr_rules.specs.Changes.{new_record, new_steps, put_steps, step_moved, undone_edits}
use Rattle.clr_rules.specs.Changes.{with_record, with_step}
use Rattle.clr_rules.specs.Checks.{bad_transfer, crew_is_off, crew_is_on, crews_on, crews_on_work}
use Rattle.clr_rules.specs.Checks.{earlier_moment, any_ground, has_ground, hold_hinders, in_hand}
use Rattle.clr_rules.specs.Checks.{is_charge, is_charge_or_operator, is_field, is_operator}
use Rattle.clr_rules.specs.Checks.{may_not_transfer, no_step, not_a_waiting_close, not_attested}
use Rattle.clr_rules.specs.Checks.{no_ground, not_holder, not_tested, at_work, out_of_turn}
use Rattle.clr_rules.specs.Checks.{outside_fence, repeat_differs, step_given_out, steps_left}
use Rattle.clr_rules.specs.Checks.{too_many_clearances, unknown_caller, unknown_clearance}
use Rattle.clr_rules.specs.Checks.{unknown_section, unsound_order, wrong_phase, wrong_reporter}
use Rattle.clr_rules.specs.Checks.{wrong_restoring, wrong_role, wrong_state, wrong_switching}
use Rattle.clr_rules.specs.Checks.{crosses_fence, network_full, point_exists, same_ends}
use Rattle.clr_rules.specs.Records.{is_cancellable, is_released, is_requested, is_transferable}
use Rattle.clr_rules.specs.Steps.{is_repeated}
use Rattle.clr_order.specs.declared.action.Action.TheVariants as actions
use Rattle.clr_rules.specs.declared.command.Kind.TheVariants as kinds

-- what is known of the register beside its rows: the greatest number of the clearance's requester,
-- or of the caller, the sections of the clearance's fence, or of the fence that the order would
-- make, and the least clearance whose fence a jumper would cross
pub record Known : Type 0 where
  pub greatest : ℕ
  pub fence : List (List ℕ)
  pub crossed : Option Id

-- HOW COMMANDS BEGIN: who asks, of which clearance, when, and in which phase; then come the
-- command's own checks

abbrev pub by_role : Register → List ℕ → ℕ → Id → (Role → Bool) → (Phase → Bool)
    → List (Option Refusal) → List (Option Refusal)
by_role R by at c roles phases own =
    unknown_caller R by ∷ wrong_role R by roles ∷ unknown_clearance R c ∷ earlier_moment R c at
    ∷ wrong_phase R c phases ∷ own

-- by a system operator
abbrev pub by_operator : Register → List ℕ → ℕ → Id → (Phase → Bool) → List (Option Refusal)
    → List (Option Refusal)
by_operator R by at c phases own = by_role R by at c is_operator phases own

-- by an employee in the field
abbrev pub by_field : Register → List ℕ → ℕ → Id → (Phase → Bool) → List (Option Refusal)
    → List (Option Refusal)
by_field R by at c phases own = by_role R by at c is_field phases own

-- by the holder of the clearance
abbrev pub by_holder : Register → List ℕ → ℕ → Id → (Role → Bool) → (Phase → Bool)
    → List (Option Refusal) → List (Option Refusal)
by_holder R by at c roles phases own =
    unknown_caller R by ∷ wrong_role R by roles ∷ unknown_clearance R c ∷ not_holder R c by
    ∷ earlier_moment R c at ∷ wrong_phase R c phases ∷ own

-- THE CHECKS OF EACH COMMAND, in their order
abbrev pub checks : Known → Register → List ℕ → ℕ → Kind → List (Option Refusal)
checks k R by at (kinds.Request section) =
    unknown_caller R by ∷ wrong_role R by is_charge ∷ unknown_section R section
    ∷ too_many_clearances k.greatest ∷ []
checks k R by at (kinds.Order c points tasks) =
    by_operator R by at c is_requested (unsound_order R k.fence points tasks ∷ [])
checks k R by at (kinds.Instruct c n) =
    by_operator R by at c is_running
    (no_step R c n ∷ out_of_turn R c n ∷ wrong_state R c n is_waiting ∷ in_hand R c n
    ∷ hold_hinders R c n ∷ [])
checks k R by at (kinds.Repeat c n text) =
    by_field R by at c is_running
    (no_step R c n ∷ wrong_state R c n is_active ∷ repeat_differs R c n text ∷ [])
checks k R by at (kinds.Report c n done) =
    by_field R by at c is_running
    (no_step R c n ∷ wrong_state R c n is_repeated ∷ wrong_reporter R c n by ∷ [])
checks k R by at (kinds.Grant c) = by_operator R by at c is_ordered (steps_left R c ∷ [])
checks k R by at (kinds.Test c section dead) =
    by_holder R by at c is_charge is_granted (outside_fence k.fence section ∷ [])
checks k R by at (kinds.Ground c section) =
    by_holder R by at c is_charge is_granted
    (outside_fence k.fence section ∷ not_tested R c section ∷ has_ground R c section ∷ [])
checks k R by at (kinds.Unground c section) =
    by_holder R by at c is_charge is_granted
    (outside_fence k.fence section ∷ no_ground R c section ∷ crews_on_work R c section ∷ [])
checks k R by at (kinds.SignOn c crew) =
    by_holder R by at c is_charge is_granted
    (at_work R c (not_tested R c) ∷ at_work R c (no_ground R c) ∷ crew_is_on R c crew ∷ [])
checks k R by at (kinds.SignOff c crew) =
    by_holder R by at c is_charge is_granted (crew_is_off R c crew ∷ [])
checks k R by at (kinds.Transfer c to emergency) =
    unknown_caller R by ∷ unknown_clearance R c ∷ may_not_transfer R c by emergency
    ∷ earlier_moment R c at ∷ wrong_phase R c is_transferable ∷ bad_transfer R c to ∷ []
checks k R by at (kinds.Release c notified clear) =
    by_holder R by at c is_charge is_granted
    (crews_on R c ∷ any_ground R c ∷ not_attested notified clear ∷ [])
checks k R by at (kinds.Cancel c) =
    by_holder R by at c is_charge_or_operator is_cancellable (step_given_out R c ∷ [])
checks k R by at (kinds.Restore c tasks) =
    by_operator R by at c is_released (wrong_restoring R c tasks ∷ [])
checks k R by at (kinds.Amend c n) =
    by_operator R by at c is_restoring (no_step R c n ∷ not_a_waiting_close R c n ∷ [])
checks k R by at (kinds.Switch tasks) =
    unknown_caller R by ∷ wrong_role R by is_operator ∷ too_many_clearances k.greatest
    ∷ wrong_switching R tasks ∷ []
checks k R by at (kinds.Show c) = unknown_caller R by ∷ unknown_clearance R c ∷ []
checks k R by at (kinds.Jumper point from to lockable remote) =
    unknown_caller R by ∷ wrong_role R by is_operator ∷ unknown_section R from
    ∷ point_exists R point ∷ crosses_fence k.crossed ∷ network_full R to ∷ same_ends from to ∷ []

-- THE EDITS OF EACH COMMAND that no check refuses
abbrev pub edits_of : ℕ → Register → List ℕ → ℕ → Kind → List Edit
edits_of greatest R by at (kinds.Request section) =
    PutRecord (new_record greatest by at (Some section) Requested) ∷ []
edits_of greatest R by at (kinds.Order c points tasks) =
    with_record R c (λ r. PutRecord (record r { phase = Ordered; last = at })
    ∷ put_steps (new_steps c 1 1 tasks))
edits_of greatest R by at (kinds.Instruct c n) = with_step R c n (λ r row.
    SetHand row.step.point (Some c) ∷ PutRecord (record r { last = at })
    ∷ PutStep (step_moved Instructed row.step.reader row) ∷ [])
edits_of greatest R by at (kinds.Repeat c n text) = with_step R c n (λ r row.
    PutRecord (record r { last = at }) ∷ PutStep (step_moved Repeated (Some by) row) ∷ [])
edits_of greatest R by at (kinds.Report c n done) =
    with_step R c n (λ r row. if done then done_edits R at r row else undone_edits at r row)
edits_of greatest R by at (kinds.Grant c) =
    with_record R c (λ r. PutRecord (record r { phase = Granted; last = at }) ∷ [])
edits_of greatest R by at (kinds.Test c section dead) = with_record R c (λ r.
    (if dead then PutHold (hold_of c Tested section) else TakeHold (hold_of c Tested section))
    ∷ PutRecord (record r { last = at }) ∷ [])
edits_of greatest R by at (kinds.Ground c section) =
    with_record R c (λ r. PutHold (hold_of c Ground section) ∷ PutRecord (record r { last = at })
    ∷ [])
edits_of greatest R by at (kinds.Unground c section) = with_record R c (λ r.
    TakeHold (hold_of c Ground section) ∷ TakeHold (hold_of c Tested section)
    ∷ PutRecord (record r { last = at }) ∷ [])
edits_of greatest R by at (kinds.SignOn c crew) =
    with_record R c (λ r. PutHold (hold_of c Crew crew) ∷ PutRecord (record r { last = at }) ∷ [])
edits_of greatest R by at (kinds.SignOff c crew) =
    with_record R c (λ r. TakeHold (hold_of c Crew crew) ∷ PutRecord (record r { last = at }) ∷ [])
edits_of greatest R by at (kinds.Transfer c to emergency) =
    with_record R c (λ r. PutRecord (record r { holder = to; last = at }) ∷ [])
edits_of greatest R by at (kinds.Release c notified clear) = with_record R c (λ r.
    map (λ place. TakeHold (hold_of c Tested place)) (places_of R.holds c Tested)
    ++ PutRecord (record r { phase = Released; last = at }) ∷ [])
edits_of greatest R by at (kinds.Cancel c) =
    with_record R c (λ r. PutRecord (record r { phase = cancelled_phase R r; last = at }) ∷ [])
edits_of greatest R by at (kinds.Restore c tasks) =
    with_record R c (λ r. PutRecord (record r { phase = Restoring; last = at })
    ∷ put_steps (new_steps c 2 1 tasks))
edits_of greatest R by at (kinds.Amend c n) = with_step R c n (λ r row.
    PutRecord (record r { last = at })
    ∷ PutStep (record row { step = record (StepRow.step row) { action = actions.Leave } }) ∷ [])
edits_of greatest R by at (kinds.Switch tasks) =
    PutRecord (new_record greatest by at None Switching)
    ∷ put_steps (new_steps (record { requester = by; number = greatest + 1 }) 1 1 tasks)
edits_of greatest R by at (kinds.Show c) = []
edits_of greatest R by at (kinds.Jumper point from to lockable remote) =
    added_edits R (new_jumper point from to lockable remote)
