-- The states of switching points: their positions, and whose order is at work on them.
use Rattle.std.specs.Prelude.{ℕ, Bool, false, List, Option, Some, None, option_map}
use Rattle.clr_net.specs.Prelude.{name_cmp}
use Rattle.clr_shelf.specs.Rows.{row_of, with_row}
use Rattle.clr_rules.specs.Id.{Id, same_id}
use Rattle.clr_rules.specs.declared.point_state.PointState.{PointState}
use Rattle.clr_net.specs.declared.point.Position.{Position}

abbrev pub state_key : PointState → List ℕ
state_key state = state.point

abbrev pub state_of : List PointState → List ℕ → Option PointState
state_of states p = row_of name_cmp state_key p states

abbrev pub position_of : List PointState → List ℕ → Option Position
position_of states p = option_map (λ state. state.position) (state_of states p)

abbrev pub hand_in : Option PointState → Option Id
hand_in None = None
hand_in (Some state) = state.hand

-- the clearance that has a point in hand: one of its steps there was given out, and is not reported
-- yet
abbrev pub hand_of : List PointState → List ℕ → Option Id
hand_of states p = hand_in (state_of states p)

abbrev pub is_hand : Id → Option Id → Bool
is_hand c None = false
is_hand c (Some d) = same_id c d

-- whether a clearance has a point in hand
abbrev pub has_in_hand : List PointState → Id → List ℕ → Bool
has_in_hand states c p = is_hand c (hand_of states p)

-- not reached without a state: each point of a step has one
abbrev pub changed_state : Option PointState → (PointState → PointState) → List PointState
    → List PointState
changed_state None change states = states
changed_state (Some state) change states = with_row name_cmp state_key (change state) states

-- the states with that of one point changed
abbrev pub change_state : List PointState → List ℕ → (PointState → PointState) → List PointState
change_state states p change = changed_state (state_of states p) change states
