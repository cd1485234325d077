-- THE LIST OF HOLDS FITS: each hold has a record, whose phase and steps are such that it may be
-- there, and a hold at a point is at an open one; and each record has the holds that its phase
-- and its steps want.
use Rattle.std.specs.Prelude.{ℕ, Bool, true, false, not, ◌&&◌, ◌||◌, List, Option, None, Some}
use Rattle.clr_rules.specs.Prelude.{list_all, Grid, has_name, Position, actions_at, Action, Id}
use Rattle.clr_rules.specs.Prelude.{Register, position_of, record_of, is_granted, is_done}
use Rattle.clr_rules.specs.Prelude.{points_of, steps_of, tasks_of, is_point_kind, has_hold}
use Rattle.clr_net.specs.declared.point.Position.TheVariants.{Opened, Closed as Shut}
use Rattle.clr_order.specs.Needed.{undoes}
use Rattle.clr_rules.specs.Fences.{work_fence}
use Rattle.clr_rules.specs.Good.{put_by, steps_left_of, works_on}
use Rattle.clr_rules.specs.GoodByPhase.{of_round}
use Rattle.clr_order.specs.declared.action.Action.TheVariants as actions
use Rattle.clr_rules.specs.declared.hold.Hold.{Hold}
use Rattle.clr_rules.specs.declared.hold_kind.HoldKind.{HoldKind}
use Rattle.clr_rules.specs.declared.phase.Phase.{Phase}
use Rattle.clr_rules.specs.declared.record.Record.{Record}
use Rattle.clr_rules.specs.declared.step_row.StepRow.{StepRow}
use Rattle.clr_rules.specs.declared.hold_kind.HoldKind.TheVariants.{HeldOpen, Block, Control, Tag}
use Rattle.clr_rules.specs.declared.hold_kind.HoldKind.TheVariants.{Tested, Ground, Crew}
use Rattle.clr_rules.specs.declared.phase.Phase.TheVariants.{Requested, Ordered, Granted, Released}
use Rattle.clr_rules.specs.declared.phase.Phase.TheVariants.{Restoring, Switching, Closed}

abbrev pub is_opened : Option Position → Bool
is_opened None = false
is_opened (Some Opened) = true
is_opened (Some Shut) = false

-- whether a hold at a point may be there, by its clearance's phase and steps
abbrev pub point_hold_suits : List Hold → Id → List StepRow → Phase → HoldKind → List ℕ → Bool
point_hold_suits holds c steps Ordered kind p = put_by (of_round steps 1) kind p
point_hold_suits holds c steps Granted kind p = put_by (of_round steps 1) kind p
point_hold_suits holds c steps Released kind p = put_by (of_round steps 1) kind p
point_hold_suits holds c steps Restoring kind p = has_hold holds c HeldOpen p
    && has_name (points_of (of_round steps 1)) p
point_hold_suits holds c steps Requested kind p = false
point_hold_suits holds c steps Switching kind p = false
point_hold_suits holds c steps Closed kind p = false

-- whether a test, a ground or a crew may be there: tests and grounds within the fence, crews
-- where the work section bears the clearance's own ground
abbrev pub work_hold_suits : Grid → List Hold → Id → List StepRow → Option (List ℕ) → HoldKind
    → List ℕ → Bool
work_hold_suits g holds c steps work Tested s =
    has_name (work_fence g work (points_of (of_round steps 1))) s
work_hold_suits g holds c steps work Ground s =
    has_name (work_fence g work (points_of (of_round steps 1))) s
work_hold_suits g holds c steps work Crew crew = works_on holds c Ground work
work_hold_suits g holds c steps work HeldOpen p = false
work_hold_suits g holds c steps work Block p = false
work_hold_suits g holds c steps work Control p = false
work_hold_suits g holds c steps work Tag p = false

-- by whether it is at a point
abbrev pub kind_suits : Register → Phase → Option (List ℕ) → Hold → Bool → Bool
kind_suits R phase work h true = is_opened (position_of R.states h.place)
    && point_hold_suits R.holds h.id (steps_of R.steps h.id) phase h.kind h.place
kind_suits R phase work h false = is_granted phase
    && work_hold_suits R.net R.holds h.id (steps_of R.steps h.id) work h.kind h.place

abbrev pub recorded_hold_fits : Register → Hold → Option Record → Bool
recorded_hold_fits R h None = false
recorded_hold_fits R h (Some r) = kind_suits R r.phase r.work h (is_point_kind h.kind)

abbrev pub hold_fits : Register → Hold → Bool
hold_fits R h = recorded_hold_fits R h (record_of R.records h.id)

-- whether what an action puts at its point is there
abbrev pub put_stands : List Hold → Id → Action → List ℕ → Bool
put_stands holds c actions.Open p = has_hold holds c HeldOpen p
put_stands holds c actions.Block p = has_hold holds c Block p
put_stands holds c actions.Control p = has_hold holds c Control p
put_stands holds c actions.Tag p = has_hold holds c Tag p
put_stands holds c actions.Untag p = true
put_stands holds c actions.Uncontrol p = true
put_stands holds c actions.Unblock p = true
put_stands holds c actions.Close p = true
put_stands holds c actions.Leave p = true

-- whether all that the Done steps put is there
abbrev pub all_put_stands : List Hold → Id → List StepRow → Bool
all_put_stands holds c rows = list_all (λ row. not (is_done row.step.state)
    || put_stands holds c row.step.action row.step.point) rows

-- whether what is left of the second round undoes what is held at a point
abbrev pub is_undone_at : List Hold → Id → List StepRow → List ℕ → Bool
is_undone_at holds c second p =
    undoes (has_hold holds c Tag p) (has_hold holds c Control p) (has_hold holds c Block p)
    (has_hold holds c HeldOpen p) (actions_at (tasks_of (steps_left_of second)) p)

-- whether a record has the holds that its phase and steps want
abbrev pub holds_suit : List Hold → Id → Phase → List StepRow → Bool
holds_suit holds c Ordered steps = all_put_stands holds c (of_round steps 1)
holds_suit holds c Granted steps = all_put_stands holds c (of_round steps 1)
holds_suit holds c Released steps = all_put_stands holds c (of_round steps 1)
holds_suit holds c Restoring steps = list_all (is_undone_at holds c (of_round steps 2))
    (points_of steps)
holds_suit holds c Requested steps = true
holds_suit holds c Switching steps = true
holds_suit holds c Closed steps = true

abbrev pub record_holds_fit : Register → Record → Bool
record_holds_fit R r = holds_suit R.holds r.id r.phase (steps_of R.steps r.id)

abbrev pub holds_fit : Register → Bool
holds_fit R = list_all (hold_fits R) R.holds && list_all (record_holds_fit R) R.records
