-- WHETHER A REGISTER IS STAFFED, AS A TEST: of each of its lists what IsStaffed asks of it.
use Rattle.std.specs.Prelude.{ℕ, Bool, not, ◌&&◌, ◌||◌, ◌==◌, List}
use Rattle.clr_rules.specs.Prelude.{list_all, list_any, Register, all_done, is_active, is_restoring}
use Rattle.clr_rules.specs.Prelude.{is_point_kind, is_some_step, points_of, steps_of, has_hold}
use Rattle.clr_rules.specs.Checks.{employee, has_role, is_field, is_operator}
use Rattle.clr_rules.specs.GoodByPhase.{of_round}
use Rattle.clr_rules.specs.Records.{is_closed, is_released}
use Rattle.clr_rules.specs.Staffed.{fits_holder, has_some_role}
use Rattle.clr_rules.specs.declared.hold.Hold.{Hold}
use Rattle.clr_rules.specs.declared.hold_kind.HoldKind.TheVariants.{HeldOpen}
use Rattle.clr_rules.specs.declared.record.Record.{Record}
use Rattle.clr_rules.specs.declared.step_row.StepRow.{StepRow}

-- the holder of an open record is in the staff, in the role that the record wants
abbrev pub holder_fits : Register → Record → Bool
holder_fits R r =
    is_closed r.phase || has_role (fits_holder r.work) (employee R.staff r.holder)

abbrev pub holders_fit : Register → Bool
holders_fit R = list_all (holder_fits R) R.records

-- a step that is given out is of the first round or the second
abbrev pub round_fits : StepRow → Bool
round_fits row = not (is_active row.step.state) || ((row.round == 1) || (row.round == 2))

-- a Restoring record has a step left
abbrev pub has_step_left : Register → Record → Bool
has_step_left R r =
    not (is_restoring r.phase) || not (all_done (of_round (steps_of R.steps r.id) 2))

-- where there is a step the staff has an operator
abbrev pub steps_staffed : Register → Bool
steps_staffed R = (not (is_some_step R.steps) || has_some_role R.staff is_operator)
    && (list_all round_fits R.steps && list_all (has_step_left R) R.records)

-- a Released record holds some point open
abbrev pub holds_some_point : Register → Record → Bool
holds_some_point R r = not (is_released r.phase)
    || list_any (has_hold R.holds r.id HeldOpen) (points_of (of_round (steps_of R.steps r.id) 1))

-- whether one of these holds is at a point
abbrev pub some_at_point : List Hold → Bool
some_at_point holds = list_any (λ h. is_point_kind h.kind) holds

-- where something is held at a point the staff has a field employee
abbrev pub holds_staffed : Register → Bool
holds_staffed R = (not (some_at_point R.holds) || has_some_role R.staff is_field)
    && list_all (holds_some_point R) R.records

abbrev pub lists_staffed : Register → Bool
lists_staffed R = holders_fit R && (steps_staffed R && holds_staffed R)
