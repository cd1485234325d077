-- THE CHECKS of the commands: each is a question to whole lists, or to the greatest number and the
-- fence that were read of them, and names its refusal where it applies. A check that reads a record
-- or a step says nothing where there is none: an earlier check of the same command has refused
-- that.
use Rattle.std.specs.Prelude.{ℕ, Bool, true, false, not, ◌&&◌, ◌||◌, ◌==◌, nat_lt, if◌then◌else◌}
use Rattle.std.specs.Prelude.{List, length, find, Option, None, Some, is_some, bytes_eq}
use Rattle.clr_rules.specs.Prelude.{Grid, point_names, section_names, same_name, has_name, StaffRow}
use Rattle.clr_rules.specs.Prelude.{Task, task, StepState, Hold, Tested, Ground, Crew, Phase}
use Rattle.clr_rules.specs.Prelude.{Refusal, StepRow, Id, same_id, Register, hand_of, record_of}
use Rattle.clr_rules.specs.Prelude.{all_done, is_waiting, points_of, present_steps, step_at}
use Rattle.clr_rules.specs.Prelude.{steps_in, steps_of, has_hold, has_some_hold}
use Rattle.clr_staff.specs.Staff.{is_named}
use Rattle.clr_staff.specs.declared.employee.Role.{Role}
use Rattle.clr_staff.specs.declared.employee.Role.TheVariants.{Operator, Field, Charge}
use Rattle.clr_order.specs.Isolating.{isolating_fault}
use Rattle.clr_order.specs.Restoring.{restoring_fault}
use Rattle.clr_order.specs.Switching.{switching_fault}
use Rattle.clr_order.specs.Texts.{step_text}
use Rattle.clr_rules.specs.Fences.{rows_of_fence}
use Rattle.clr_rules.specs.Holds.{held_among, hindering_hold}
use Rattle.clr_rules.specs.Refusals.{order_refusal}
use Rattle.clr_rules.specs.Steps.{is_close, is_in_turn, some_active}
use Rattle.clr_rules.specs.declared.refusal.Refusal.TheVariants.{UnknownCaller, WrongRole}
use Rattle.clr_rules.specs.declared.refusal.Refusal.TheVariants.{UnknownSection, TooManyClearances}
use Rattle.clr_rules.specs.declared.refusal.Refusal.TheVariants.{UnknownClearance, NotHolder}
use Rattle.clr_rules.specs.declared.refusal.Refusal.TheVariants.{Earlier, WrongPhase, NoStep}
use Rattle.clr_rules.specs.declared.refusal.Refusal.TheVariants.{OutOfTurn, StepState as WrongState}
use Rattle.clr_rules.specs.declared.refusal.Refusal.TheVariants.{InHand, Held, RepeatDiffers}
use Rattle.clr_rules.specs.declared.refusal.Refusal.TheVariants.{WrongReporter, StepsLeft}
use Rattle.clr_rules.specs.declared.refusal.Refusal.TheVariants.{OutsideFence, NotTested, Grounded}
use Rattle.clr_rules.specs.declared.refusal.Refusal.TheVariants.{NotGrounded, CrewsOn, CrewState}
use Rattle.clr_rules.specs.declared.refusal.Refusal.TheVariants.{BadTransfer, NotAttested}
use Rattle.clr_rules.specs.declared.refusal.Refusal.TheVariants.{PointExists, CrossesFence}
use Rattle.clr_rules.specs.declared.refusal.Refusal.TheVariants.{NetworkFull, SameEnds}

-- a refusal where a test says so
abbrev pub refuse : Bool → Refusal → Option Refusal
refuse applies refusal = if applies then Some refusal else None

-- a check of what was found; of what was not found it says nothing
abbrev pub where_some : {X : Type 0} → Option X → (X → Option Refusal) → Option Refusal
where_some None check = None
where_some (Some x) check = check x

-- THE CALLER

abbrev pub employee : List StaffRow → List ℕ → Option StaffRow
employee staff name = find (λ row. same_name name row.name) staff

abbrev pub is_operator : Role → Bool
is_operator Operator = true
is_operator Field = false
is_operator Charge = false

abbrev pub is_field : Role → Bool
is_field Field = true
is_field Operator = false
is_field Charge = false

abbrev pub is_charge : Role → Bool
is_charge Charge = true
is_charge Operator = false
is_charge Field = false

abbrev pub is_charge_or_operator : Role → Bool
is_charge_or_operator role = is_charge role || is_operator role

-- whether an employee was found, whose role fits
abbrev pub has_role : (Role → Bool) → Option StaffRow → Bool
has_role fits None = false
has_role fits (Some row) = fits row.role

abbrev pub unknown_caller : Register → List ℕ → Option Refusal
unknown_caller R by = refuse (not (is_some (employee R.staff by))) UnknownCaller

-- one employee is in charge of a clearance, and the system operator is in charge of the lines.
-- 1910.269(m)(2)(i)
abbrev pub wrong_role : Register → List ℕ → (Role → Bool) → Option Refusal
wrong_role R by fits =
    where_some (employee R.staff by) (λ row. refuse (not (fits row.role)) WrongRole)

-- THE RECORD

abbrev pub unknown_section : Register → List ℕ → Option Refusal
unknown_section R section =
    refuse (not (has_name (section_names (Grid.sections R.net)) section)) UnknownSection

-- the caller's greatest number is the last that there is
abbrev pub too_many_clearances : ℕ → Option Refusal
too_many_clearances greatest = refuse (greatest == 9999) TooManyClearances

abbrev pub unknown_clearance : Register → Id → Option Refusal
unknown_clearance R c = refuse (not (is_some (record_of R.records c))) UnknownClearance

-- only the present employee in charge may use a clearance or release it. 1910.269(m)(3)(x), (xi)
abbrev pub not_holder : Register → Id → List ℕ → Option Refusal
not_holder R c by =
    where_some (record_of R.records c) (λ r. refuse (not (same_name by r.holder)) NotHolder)

-- whether a caller is the supervisor of an employee; who is not of the staff has none
abbrev pub is_supervisor : Option StaffRow → List ℕ → Bool
is_supervisor None by = false
is_supervisor (Some row) by = is_named by row.supervisor

-- a clearance is handed on by the employee in charge, or by that employee's supervisor in an
-- emergency. 1910.269(m)(3)(ix)
abbrev pub may_not_transfer : Register → Id → List ℕ → Bool → Option Refusal
may_not_transfer R c by emergency = where_some (record_of R.records c)
    (λ r. refuse
    (not (same_name by r.holder
    || (emergency && is_supervisor (employee R.staff r.holder) by))) NotHolder)

abbrev pub earlier_moment : Register → Id → ℕ → Option Refusal
earlier_moment R c at = where_some (record_of R.records c) (λ r. refuse (nat_lt at r.last) Earlier)

abbrev pub wrong_phase : Register → Id → (Phase → Bool) → Option Refusal
wrong_phase R c fits =
    where_some (record_of R.records c) (λ r. refuse (not (fits r.phase)) WrongPhase)

-- ORDERS

-- all means of supply are opened, made inoperable where their design permits it, and tagged.
-- 1910.269(m)(3)(ii), (iii)
abbrev pub unsound_order : Register → List (List ℕ) → List (List ℕ) → List Task → Option Refusal
unsound_order R fence points tasks =
    order_refusal (isolating_fault (rows_of_fence R.net fence) points tasks)

-- the steps at each point that a clearance holds open undo its holds there, and no step is
-- elsewhere; the first wrong point is named, in the order of their first appearance in its first
-- round. 1910.269(m)(3)(xii), (xiii)
abbrev pub wrong_restoring : Register → Id → List Task → Option Refusal
wrong_restoring R c tasks =
    order_refusal (restoring_fault (held_among R.holds c (points_of (steps_in R.steps c 1))) tasks)

abbrev pub wrong_switching : Register → List Task → Option Refusal
wrong_switching R tasks = order_refusal (switching_fault (point_names (Grid.points R.net)) tasks)

-- STEPS

abbrev pub no_step : Register → Id → ℕ → Option Refusal
no_step R c n = refuse (not (is_some (step_at (present_steps R.steps c) n))) NoStep

-- the steps are followed in their order. 1910.269(m)(2)(i)
abbrev pub out_of_turn : Register → Id → ℕ → Option Refusal
out_of_turn R c n = refuse (not (is_in_turn (present_steps R.steps c) n)) OutOfTurn

-- a check of the step of this number in the present round
abbrev pub at_step : Register → Id → ℕ → (StepRow → Option Refusal) → Option Refusal
at_step R c n check = where_some (step_at (present_steps R.steps c) n) check

abbrev pub wrong_state : Register → Id → ℕ → (StepState → Bool) → Option Refusal
wrong_state R c n fits = at_step R c n (λ row. refuse (not (fits row.step.state)) WrongState)

-- the clearance that has a point in hand, if it is another
abbrev pub other_hand : Id → Option Id → Option Refusal
other_hand c None = None
other_hand c (Some by) = refuse (not (same_id c by)) (InHand by)

abbrev pub in_hand : Register → Id → ℕ → Option Refusal
in_hand R c n = at_step R c n (λ row. other_hand c (hand_of R.states row.step.point))

abbrev pub held_by : Option Hold → Option Refusal
held_by None = None
held_by (Some h) = Some (Held h.id h.kind)

-- nothing is closed while a hold is at the point, but for the own HeldOpen. 1910.269(m)(3)(v),
-- (xiii)
abbrev pub hold_hinders : Register → Id → ℕ → Option Refusal
hold_hinders R c n =
    at_step R c n (λ row. if is_close row.step.action
    then held_by (hindering_hold R.holds c row.step.point) else None)

abbrev pub repeat_differs : Register → Id → ℕ → List ℕ → Option Refusal
repeat_differs R c n text =
    at_step R c n (λ row. refuse (not (bytes_eq (step_text (task row.step)) text)) RepeatDiffers)

abbrev pub wrong_reporter : Register → Id → ℕ → List ℕ → Option Refusal
wrong_reporter R c n by =
    at_step R c n (λ row. refuse (not (is_named by row.step.reader)) WrongReporter)

-- every step of the isolating order is Done. 1910.269(m)(3)(vi)
abbrev pub steps_left : Register → Id → Option Refusal
steps_left R c = refuse (not (all_done (steps_in R.steps c 1))) StepsLeft

-- a step that is given out and not reported
abbrev pub step_given_out : Register → Id → Option Refusal
step_given_out R c = refuse (some_active (steps_of R.steps c)) WrongState

-- a Close that waits
abbrev pub not_a_waiting_close : Register → Id → ℕ → Option Refusal
not_a_waiting_close R c n =
    at_step R c n
    (λ row. refuse (not (is_waiting row.step.state && is_close row.step.action)) WrongState)

-- WORK

abbrev pub outside_fence : List (List ℕ) → List ℕ → Option Refusal
outside_fence fence section = refuse (not (has_name fence section)) OutsideFence

-- the lines are tested, then grounded. 1910.269(m)(3)(vi), (vii), (n)(5); that it is the
-- clearance's own test is the project's own rule
abbrev pub not_tested : Register → Id → List ℕ → Option Refusal
not_tested R c section = refuse (not (has_hold R.holds c Tested section)) NotTested

abbrev pub has_ground : Register → Id → List ℕ → Option Refusal
has_ground R c section = refuse (has_hold R.holds c Ground section) Grounded

-- the clearance's grounds are off before it is released. 1910.269(m)(3)(x), (xi)
abbrev pub any_ground : Register → Id → Option Refusal
any_ground R c = refuse (has_some_hold R.holds c Ground) Grounded

abbrev pub no_ground : Register → Id → List ℕ → Option Refusal
no_ground R c section = refuse (not (has_hold R.holds c Ground section)) NotGrounded

-- a check of the work section; a granted record has one
abbrev pub at_work : Register → Id → (List ℕ → Option Refusal) → Option Refusal
at_work R c check = where_some (record_of R.records c) (λ r. where_some r.work check)

-- all crews are off before the clearance is released. 1910.269(m)(3)(x), (xi)
abbrev pub crews_on : Register → Id → Option Refusal
crews_on R c = refuse (has_some_hold R.holds c Crew) CrewsOn

-- and before the ground of the work section is taken
abbrev pub crews_on_work : Register → Id → List ℕ → Option Refusal
crews_on_work R c section =
    at_work R c (λ work. refuse (same_name work section && has_some_hold R.holds c Crew) CrewsOn)

abbrev pub crew_is_on : Register → Id → List ℕ → Option Refusal
crew_is_on R c crew = refuse (has_hold R.holds c Crew crew) CrewState

abbrev pub crew_is_off : Register → Id → List ℕ → Option Refusal
crew_is_off R c crew = refuse (not (has_hold R.holds c Crew crew)) CrewState

abbrev pub is_in_charge : Option StaffRow → Bool
is_in_charge found = has_role is_charge found

abbrev pub bad_transfer : Register → Id → List ℕ → Option Refusal
bad_transfer R c to = where_some (record_of R.records c)
    (λ r. refuse (not (is_in_charge (employee R.staff to)) || same_name to r.holder) BadTransfer)

-- all employees are notified, and are clear. 1910.269(m)(3)(x), (xi)
abbrev pub not_attested : Bool → Bool → Option Refusal
not_attested notified clear = refuse (not (notified && clear)) NotAttested

-- THE NETWORK

abbrev pub point_exists : Register → List ℕ → Option Refusal
point_exists R point = refuse (has_name (point_names (Grid.points R.net)) point) PointExists

-- no means of supply comes into a fence behind the back of its clearance. 1910.269(m)(3)(ii)
abbrev pub crosses_fence : Option Id → Option Refusal
crosses_fence None = None
crosses_fence (Some by) = Some (CrossesFence by)

-- whether there is room for a point, and for a section where the network does not have it
abbrev pub has_room : Grid → List ℕ → Bool
has_room g to = nat_lt (length g.points) 10000
    && (has_name (section_names g.sections) to || nat_lt (length g.sections) 5000)

abbrev pub network_full : Register → List ℕ → Option Refusal
network_full R to = refuse (not (has_room R.net to)) NetworkFull

abbrev pub same_ends : List ℕ → List ℕ → Option Refusal
same_ends from to = refuse (same_name from to) SameEnds
