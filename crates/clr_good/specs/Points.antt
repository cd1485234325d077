-- THE LIST OF POINTS FITS: each point of the network has a state, no other name has one, and a
-- point is in a hand only where the clearance has a step there that is given out.
use Rattle.std.specs.Prelude.{ℕ, Bool, true, ◌&&◌, List, map, Option, None, Some}
use Rattle.clr_rules.specs.Prelude.{list_all, Grid, point_names, same_name, Id, Register, state_key}
use Rattle.clr_rules.specs.Prelude.{steps_of}
use Rattle.std.specs.Cmp.Lexicographic.{pointwise}
use Rattle.clr_rules.specs.GoodByPhase.{active_at}
use Rattle.clr_rules.specs.declared.point_state.PointState.{PointState}
use Rattle.clr_rules.specs.declared.step_row.StepRow.{StepRow}

-- two lists of names are the same
abbrev pub same_names : List (List ℕ) → List (List ℕ) → Bool
same_names = pointwise same_name

-- whether whoever has a point in hand has a step there that is given out
abbrev pub hand_fits : List StepRow → List ℕ → Option Id → Bool
hand_fits steps p None = true
hand_fits steps p (Some c) = active_at (steps_of steps c) p

abbrev pub state_fits : List StepRow → PointState → Bool
state_fits steps state = hand_fits steps state.point state.hand

abbrev pub points_fit : Register → Bool
points_fit R = same_names (map state_key R.states) (point_names (Grid.points R.net))
    && list_all (state_fits R.steps) R.states
