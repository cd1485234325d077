-- GOOD REGISTERS: what holds in every register that commands have made from an opening one. Nine
-- parts, each in its own words, of a register with a network, a staff and lists in order; and four
-- parts besides, which are needed to keep these. GoodByPhase says the same phase by phase. Where
-- network and staff are asked for a name, it is of an open record: what is Closed binds nothing.
use Rattle.std.specs.Prelude.{◌≡◌, ℕ, Bool, true, false, not, ◌&&◌, ◌||◌, IsTrue, List, [], length}
use Rattle.std.specs.Prelude.{map, filter, All, Contains, Option, None, Some, is_some}
use Rattle.std.specs.List.{list_any, range_with_len}
use Rattle.clr_rules.specs.Prelude.{Grid, IsNetwork, point_names, section_names, name_cmp}
use Rattle.clr_rules.specs.Prelude.{same_name, has_name, PointRow, Opened, actions_at, Action}
use Rattle.clr_rules.specs.Prelude.{in_key_order, Hold, HoldKind, HeldOpen, Block, Control, Tag}
use Rattle.clr_rules.specs.Prelude.{Tested, Ground, Crew, Record, StepRow, Id, id_cmp, Register}
use Rattle.clr_rules.specs.Prelude.{has_in_hand, position_of, state_key, record_key, record_of}
use Rattle.clr_rules.specs.Prelude.{is_running, is_standing, is_granted, is_restoring, step_key}
use Rattle.clr_rules.specs.Prelude.{step_key_cmp, all_done, is_active, is_done, is_some_step}
use Rattle.clr_rules.specs.Prelude.{is_waiting, points_of, present_round, steps_in, steps_of}
use Rattle.clr_rules.specs.Prelude.{tasks_of, hold_cmp, is_point_kind, has_hold, held_at, hold_key}
use Rattle.clr_rules.specs.Prelude.{first_of_each}
use Rattle.clr_staff.specs.Staff.{IsStaff}
use Rattle.clr_order.specs.Action.{is_switching}
use Rattle.clr_order.specs.Isolating.{IsSoundOrder}
use Rattle.clr_order.specs.Needed.{Undoes}
use Rattle.clr_rules.specs.Checks.{employee, has_role, is_operator}
use Rattle.clr_rules.specs.Fences.{clearance_fence}
use Rattle.clr_rules.specs.Live.{is_live}
use Rattle.clr_rules.specs.Records.{is_closed, is_in_switching, is_open, is_requested}
use Rattle.clr_rules.specs.Records.{is_switch_order, numbers_of}
use Rattle.clr_rules.specs.Register.{unplaced_net}
use Rattle.clr_rules.specs.Steps.{is_close, is_in_turn}
use Rattle.clr_order.specs.declared.action.Action.TheVariants as actions

-- HELD POINTS ARE OPEN: a point with a HeldOpen, Block, Control or Tag is open, and the last three
-- come only beside a HeldOpen of the same clearance
pub record HeldPointsAreOpen (R : Register) : Type 0 where
  pub open_there : (c : Id) (kind : HoldKind) (p : List ℕ) → is_point_kind kind ≡ true
      → has_hold R.holds c kind p ≡ true
      → position_of R.states p ≡ Some Opened
  pub beside_held_open : (c : Id) (kind : HoldKind) (p : List ℕ) → is_point_kind kind ≡ true
      → has_hold R.holds c kind p ≡ true
      → has_hold R.holds c HeldOpen p ≡ true

-- whether a clearance has a step at a point that is given out and not reported
unfoldable pub is_active_at : List StepRow → Id → List ℕ → Bool
is_active_at steps c p =
    list_any (λ row. is_active row.step.state && same_name p row.step.point) (steps_of steps c)

-- whether such a step is a Close
unfoldable pub is_closing_at : List StepRow → Id → List ℕ → Bool
is_closing_at steps c p =
    list_any (λ row. (is_active row.step.state && is_close row.step.action)
    && same_name p row.step.point) (steps_of steps c)

-- HAND MATCHES STEP: a clearance has a point in hand exactly where a step of its order there is
-- given out and not reported; and while that step is a Close, nothing is at the point but the
-- clearance's own HeldOpen
pub record HandMatchesStep (R : Register) : Type 0 where
  pub hand : (c : Id) (p : List ℕ) → has_in_hand R.states c p ≡ is_active_at R.steps c p
  pub closing : (c : Id) (p : List ℕ) → is_closing_at R.steps c p ≡ true
      → (d : Id) (kind : HoldKind) → is_point_kind kind ≡ true → has_hold R.holds d kind p ≡ true
      → (d ≡ c) × (kind ≡ HeldOpen)

-- there is a work section, and the order isolates it
abbrev pub IsSoundFor : Grid → Option (List ℕ) → List StepRow → Type 0
IsSoundFor g None rows = ⊥
IsSoundFor g (Some work) rows = IsSoundOrder g work (first_of_each (points_of rows)) (tasks_of rows)

-- STANDING ORDERS ARE SOUND: from its acceptance on until all is restored, the first round of an
-- order isolates its work section. 1910.269(m)(3)(ii), (iii)
abbrev pub StandingOrdersAreSound : Register → Type 0
StandingOrdersAreSound R =
    (c : Id) (r : Record) → record_of R.records c ≡ Some r → is_standing r.phase ≡ true
    → IsSoundFor R.net r.work (steps_in R.steps c 1)

-- what a clearance needs at a point before work begins
pub record IsFullyHeld (holds : List Hold) (c : Id) (point : PointRow) : Type 0 where
  pub held_open : has_hold holds c HeldOpen point.name ≡ true
  pub tagged : has_hold holds c Tag point.name ≡ true
  pub blocked : point.lockable ≡ true → has_hold holds c Block point.name ≡ true
  pub controlled : point.remote ≡ true → has_hold holds c Control point.name ≡ true

-- A GRANTED POINT IS FULLY HELD: a granted clearance has all steps of its order Done, and holds
-- each of its points open, tagged, blocked where it can be locked, and controlled where it is
-- controlled from afar
pub record GrantedPointsAreHeld (R : Register) : Type 0 where
  pub done : (c : Id) (r : Record) → record_of R.records c ≡ Some r → is_granted r.phase ≡ true
      → all_done (steps_in R.steps c 1) ≡ true
  pub held : (c : Id) (r : Record) → record_of R.records c ≡ Some r → is_granted r.phase ≡ true
      → (point : PointRow) → Contains (Grid.points R.net) point
      → has_name (points_of (steps_in R.steps c 1)) point.name ≡ true
      → IsFullyHeld R.holds c point

-- GRANTED FENCES ARE DEAD: no section in the fence of a granted clearance is live
abbrev pub GrantedFencesAreDead : Register → Type 0
GrantedFencesAreDead R =
    (c : Id) (r : Record) → record_of R.records c ≡ Some r → is_granted r.phase ≡ true
    → (s : List ℕ) → has_name (clearance_fence R c) s ≡ true → is_live R.net R.states s ≡ false

-- whether the work section of a record bears a hold of the clearance
abbrev pub works_on : List Hold → Id → HoldKind → Option (List ℕ) → Bool
works_on holds c kind None = false
works_on holds c kind (Some work) = has_hold holds c kind work

-- WORK HOLDS BELONG TO GRANTED RECORDS: tests, grounds and crews; tests and grounds are at
-- sections of the clearance's fence, and where a crew is on, the clearance's own ground is at
-- its work section
pub record WorkHoldsBelong (R : Register) : Type 0 where
  pub granted : (c : Id) (kind : HoldKind) (place : List ℕ) → is_point_kind kind ≡ false
      → has_hold R.holds c kind place ≡ true
      → (r : Record) × (record_of R.records c ≡ Some r) × (is_granted r.phase ≡ true)
  pub tested_inside : (c : Id) (place : List ℕ) → has_hold R.holds c Tested place ≡ true
      → has_name (clearance_fence R c) place ≡ true
  pub grounded_inside : (c : Id) (place : List ℕ) → has_hold R.holds c Ground place ≡ true
      → has_name (clearance_fence R c) place ≡ true
  pub crews_grounded : (c : Id) (crew : List ℕ) (r : Record) → has_hold R.holds c Crew crew ≡ true
      → record_of R.records c ≡ Some r
      → works_on R.holds c Ground r.work ≡ true

-- whether a clearance has a record
abbrev pub has_record : List Record → Id → Bool
has_record records c = is_some (record_of records c)

-- whether the work section of a record, if there is one, is among these
abbrev pub is_known_work : List (List ℕ) → Option (List ℕ) → Bool
is_known_work sections None = true
is_known_work sections (Some work) = has_name sections work

-- NUMBERS HAVE NO GAPS: a requester's clearances are numbered 1, 2, 3 and so on; each clearance in
-- a step, a hold or a hand has a record; the work section of an open record is in the network
pub record NumbersHaveNoGaps (R : Register) : Type 0 where
  pub numbered : (requester : List ℕ)
      → numbers_of R.records requester ≡ range_with_len 1 (length (numbers_of R.records requester))
  pub steps_recorded : All (λ row. IsTrue (has_record R.records row.id)) R.steps
  pub holds_recorded : All (λ h. IsTrue (has_record R.records h.id)) R.holds
  pub hands_recorded : (c : Id) (p : List ℕ) → has_in_hand R.states c p ≡ true
      → has_record R.records c ≡ true
  pub work_known : (c : Id) (r : Record) → record_of R.records c ≡ Some r
      → is_open r.phase ≡ true
      → is_known_work (section_names (Grid.sections R.net)) r.work ≡ true

-- STEPS GO IN TURN: a step that does not wait has only Done steps before it in its round; steps
-- that are given out and not reported are in the present round of an Ordered, Restoring or
-- Switching record; a Requested record has no steps, only a Restoring or Closed one a second round,
-- and a Switching one only Open and Close
pub record StepsGoInTurn (R : Register) : Type 0 where
  pub in_turn : All (λ row. is_waiting row.step.state ≡ false
      → is_in_turn (steps_in R.steps row.id row.round) row.ordinal ≡ true) R.steps
  pub active_running : (c : Id) (r : Record) → record_of R.records c ≡ Some r
      → All (λ row. is_active row.step.state ≡ true
      → (is_running r.phase ≡ true)
      × (row.round ≡ present_round R.steps c)) (steps_of R.steps c)
  pub none_requested : (c : Id) (r : Record) → record_of R.records c ≡ Some r
      → is_requested r.phase ≡ true → steps_of R.steps c ≡ []
  pub second_round : (c : Id) (r : Record) → record_of R.records c ≡ Some r
      → is_some_step (steps_in R.steps c 2) ≡ true
      → (is_restoring r.phase || is_closed r.phase) ≡ true
  pub only_switching : (c : Id) (r : Record) → record_of R.records c ≡ Some r
      → is_in_switching r.phase ≡ true
      → All (λ row. is_switching row.step.action ≡ true) (steps_of R.steps c)

-- the hold at its point that an action puts
abbrev pub puts : Action → HoldKind → Bool
puts actions.Open HeldOpen = true
puts actions.Block Block = true
puts actions.Control Control = true
puts actions.Tag Tag = true
puts action kind = false

-- whether the Done steps put a hold of this kind at a point
abbrev pub put_by : List StepRow → HoldKind → List ℕ → Bool
put_by rows kind p =
    list_any (λ row. (is_done row.step.state && puts row.step.action kind)
    && same_name p row.step.point) rows

-- the steps that are not Done
abbrev pub steps_left_of : List StepRow → List StepRow
steps_left_of rows = filter (λ row. not (is_done row.step.state)) rows

-- what the second round has still to do at a point
abbrev pub still_to_do : List StepRow → Id → List ℕ → List Action
still_to_do steps c p = actions_at (tasks_of (steps_left_of (steps_in steps c 2))) p

-- HOLDS ARE WHAT THE DONE STEPS PUT: holds at points belong to Ordered, Granted, Released and
-- Restoring records, and are at points of their first round; in the first three phases they are
-- exactly what the Done steps of that round put; in Restoring the steps that are left in the second
-- round undo what is held at each held point, and are at no other point
pub record HoldsAreWhatDoneStepsPut (R : Register) : Type 0 where
  pub standing : (c : Id) (kind : HoldKind) (p : List ℕ) → is_point_kind kind ≡ true
      → has_hold R.holds c kind p ≡ true
      → (r : Record) × (record_of R.records c ≡ Some r) × (is_standing r.phase ≡ true)
  pub at_points : (c : Id) (kind : HoldKind) (p : List ℕ) → is_point_kind kind ≡ true
      → has_hold R.holds c kind p ≡ true
      → has_name (points_of (steps_in R.steps c 1)) p ≡ true
  pub as_put : (c : Id) (r : Record) → record_of R.records c ≡ Some r → is_standing r.phase ≡ true
      → is_restoring r.phase ≡ false
      → (kind : HoldKind) (p : List ℕ) → is_point_kind kind ≡ true
      → has_hold R.holds c kind p ≡ put_by (steps_in R.steps c 1) kind p
  pub undone : (c : Id) (r : Record) → record_of R.records c ≡ Some r → is_restoring r.phase ≡ true
      → (p : List ℕ) → has_hold R.holds c HeldOpen p ≡ true
      → Undoes (held_at R.holds c p) (still_to_do R.steps c p)
  pub nowhere_else : (c : Id) (r : Record) → record_of R.records c ≡ Some r
      → is_restoring r.phase ≡ true
      → All (λ row. has_hold R.holds c HeldOpen row.step.point
      ≡ true) (steps_left_of (steps_in R.steps c 2))

-- RESTORING RECORDS HAVE A SECOND ROUND
abbrev pub RestoringHaveSecondRound : Register → Type 0
RestoringHaveSecondRound R =
    (c : Id) (r : Record) → record_of R.records c ≡ Some r → is_restoring r.phase ≡ true
    → is_some_step (steps_in R.steps c 2) ≡ true

-- whether a name is that of an operator
abbrev pub is_operators : Register → List ℕ → Bool
is_operators R name = has_role is_operator (employee R.staff name)

-- ONLY SWITCH ORDERS SWITCH: a Switching record has no work section
abbrev pub OnlySwitchOrdersSwitch : Register → Type 0
OnlySwitchOrdersSwitch R =
    (c : Id) (r : Record) → record_of R.records c ≡ Some r → is_in_switching r.phase ≡ true
    → is_switch_order r ≡ true

-- SWITCH ORDERS ARE OPERATORS': an open record has no work section exactly where its requester is
-- an operator; a record without one is Switching or Closed, and only such a one is Switching
pub record SwitchOrdersAreOperators (R : Register) : Type 0 where
  pub without_work : (c : Id) (r : Record) → record_of R.records c ≡ Some r
      → is_open r.phase ≡ true
      → is_switch_order r ≡ is_operators R c.requester
  pub phases : (c : Id) (r : Record) → record_of R.records c ≡ Some r → is_switch_order r ≡ true
      → (is_in_switching r.phase || is_closed r.phase) ≡ true
  pub switching : OnlySwitchOrdersSwitch R

-- THE NETWORK HAS NO POSITIONS: each row of a point is Opened, since the point's position is in
-- its state
abbrev pub NetworkIsUnplaced : Register → Type 0
NetworkIsUnplaced R = unplaced_net R.net ≡ R.net

-- the steps are at points of a network
abbrev pub AreAtPoints : Grid → List StepRow → Type 0
AreAtPoints g rows = All (λ row. IsTrue (has_name (point_names (Grid.points g)) row.step.point)) rows

-- POINTS ARE THOSE OF THE NETWORK: each point has a state, no other name has one, and each step of
-- an open record is at a point
pub record PointsAreKnown (R : Register) : Type 0 where
  pub states : map state_key R.states ≡ point_names (Grid.points R.net)
  pub steps : (c : Id) (r : Record) → record_of R.records c ≡ Some r → is_open r.phase ≡ true
      → AreAtPoints R.net (steps_of R.steps c)

-- LISTS ARE IN KEY ORDER, one row a key
pub record ListsAreInOrder (R : Register) : Type 0 where
  pub states : in_key_order name_cmp state_key R.states ≡ true
  pub records : in_key_order id_cmp record_key R.records ≡ true
  pub steps : in_key_order step_key_cmp step_key R.steps ≡ true
  pub holds : in_key_order hold_cmp hold_key R.holds ≡ true

-- GOOD AS SAID: the register has a network and a staff, its lists are in order, and
pub record IsGoodAsSaid (R : Register) : Type 0 where
  pub network : IsNetwork R.net
  pub staff : IsStaff R.staff
  pub in_order : ListsAreInOrder R
  pub held_points_are_open : HeldPointsAreOpen R
  pub hand_matches_step : HandMatchesStep R
  pub standing_orders_are_sound : StandingOrdersAreSound R
  pub granted_points_are_held : GrantedPointsAreHeld R
  pub granted_fences_are_dead : GrantedFencesAreDead R
  pub work_holds_belong : WorkHoldsBelong R
  pub numbers_have_no_gaps : NumbersHaveNoGaps R
  pub steps_go_in_turn : StepsGoInTurn R
  pub holds_are_put : HoldsAreWhatDoneStepsPut R

-- what a register has besides, by which each command keeps it good
pub record IsGoodBesides (R : Register) : Type 0 where
  pub restoring_rounds : RestoringHaveSecondRound R
  pub switch_orders : SwitchOrdersAreOperators R
  pub placed : NetworkIsUnplaced R
  pub points_known : PointsAreKnown R

-- GOOD: as said, and what is needed besides to stay so
pub record IsGood (R : Register) : Type 0 where
  pub said : IsGoodAsSaid R
  pub besides : IsGoodBesides R

-- GOOD THROUGHOUT: good, and what is asked of open records holds of closed ones too. Commands alone
-- keep this as well; no other law needs it
pub record IsGoodThroughout (R : Register) : Type 0 where
  pub good : IsGood R
  pub work_known : All
      (λ r. IsTrue (is_known_work (section_names (Grid.sections R.net)) r.work)) R.records
  pub steps_known : AreAtPoints R.net R.steps
  pub without_work : (c : Id) (r : Record) → record_of R.records c ≡ Some r
      → is_switch_order r ≡ is_operators R c.requester
