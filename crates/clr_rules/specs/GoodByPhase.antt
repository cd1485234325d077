-- GOOD REGISTERS, PHASE BY PHASE: what the register has of one clearance, and how that must look in
-- the clearance's phase. It says the same as IsGood, and a command that is about one clearance need
-- only be shown to keep that clearance in its place.
use Rattle.std.specs.Prelude.{◌≡◌, ℕ, Bool, true, false, ◌&&◌, ◌||◌, ◌==◌, if◌then◌else◌}
use Rattle.std.specs.Prelude.{List, [], ◌∷◌, length, filter, All, Option, None, Some}
use Rattle.std.specs.List.{list_all, list_any, range_with_len}
use Rattle.clr_rules.specs.Prelude.{Grid, IsNetwork, section_names, same_name, has_name, Opened}
use Rattle.clr_rules.specs.Prelude.{actions_at, HoldKind, HeldOpen, Block, Control, Tag, Tested}
use Rattle.clr_rules.specs.Prelude.{Ground, Crew, Phase, Requested, Ordered, Granted, Released}
use Rattle.clr_rules.specs.Prelude.{Restoring, Switching, Closed, Record, StepRow, Id, Register}
use Rattle.clr_rules.specs.Prelude.{has_in_hand, position_of, record_of, all_done, is_active}
use Rattle.clr_rules.specs.Prelude.{is_done, is_some_step, is_waiting, points_of, steps_of}
use Rattle.clr_rules.specs.Prelude.{tasks_of, is_point_kind, has_hold, first_of_each}
use Rattle.clr_staff.specs.Staff.{IsStaff}
use Rattle.clr_order.specs.Action.{is_switching}
use Rattle.clr_order.specs.Isolating.{IsSoundOrder}
use Rattle.clr_order.specs.Needed.{undoes}
use Rattle.clr_rules.specs.Fences.{work_fence}
use Rattle.clr_rules.specs.Good.{ListsAreInOrder, NetworkIsUnplaced, PointsAreKnown, is_closing_at}
use Rattle.clr_rules.specs.Good.{is_known_work, is_operators, steps_left_of, put_by}
use Rattle.clr_rules.specs.Records.{is_open, is_switch_order, numbers_of}
use Rattle.clr_rules.specs.Steps.{some_active}

-- WHAT THE REGISTER HAS OF ONE CLEARANCE: its record, its steps in all rounds, whether it has a
-- hold of a kind at a place, and whether it has a point in hand
pub record Outlook : Type 0 where
  pub clearance : Option Record
  pub steps : List StepRow
  pub has : HoldKind → List ℕ → Bool
  pub hand : List ℕ → Bool

abbrev pub outlook_of : Register → Id → Outlook
outlook_of R c =
    record {
      clearance = record_of R.records c;
      steps = steps_of R.steps c;
      has = has_hold R.holds c;
      hand = has_in_hand R.states c;
    }

-- the steps of a round
unfoldable pub of_round : List StepRow → ℕ → List StepRow
of_round steps round = filter (λ row. row.round == round) steps

-- the present round: the second where there is one, otherwise the first; 0 without steps
abbrev pub present_of : List StepRow → ℕ
present_of steps =
    if is_some_step (of_round steps 2) then 2 else if is_some_step (of_round steps 1) then 1 else 0

-- whether a step at a point is given out and not reported
abbrev pub active_at : List StepRow → List ℕ → Bool
active_at steps p = list_any (λ row. is_active row.step.state && same_name p row.step.point) steps

abbrev pub all_waiting : List StepRow → Bool
all_waiting rows = list_all (λ row. is_waiting row.step.state) rows

-- the steps of a round go in turn: after each that is not Done all wait
abbrev pub go_in_turn : List StepRow → Bool
go_in_turn [] = true
go_in_turn (row ∷ rest) = (is_done row.step.state || all_waiting rest) && go_in_turn rest

-- the steps that are given out and not reported are all in one round
abbrev pub ActiveInRound : List StepRow → ℕ → Type 0
ActiveInRound steps round = All (λ row. is_active row.step.state ≡ true → row.round ≡ round) steps

-- the first round isolates the work section
abbrev pub Isolates : Grid → List ℕ → Outlook → Type 0
Isolates g work v =
    IsSoundOrder g work (first_of_each (points_of (of_round v.steps 1)))
    (tasks_of (of_round v.steps 1))

-- there is no hold anywhere
abbrev pub HoldsNothing : Outlook → Type 0
HoldsNothing v = (kind : HoldKind) (place : List ℕ) → v.has kind place ≡ false

-- no test, ground or crew
abbrev pub HasNoWork : Outlook → Type 0
HasNoWork v =
    (kind : HoldKind) (place : List ℕ) → is_point_kind kind ≡ false → v.has kind place ≡ false

-- the holds at points are exactly those that the Done steps of the first round put
abbrev pub HoldsAsPut : Outlook → Type 0
HoldsAsPut v =
    (kind : HoldKind) (p : List ℕ) → is_point_kind kind ≡ true
    → v.has kind p ≡ put_by (of_round v.steps 1) kind p

-- NOTHING YET: nobody has asked for it, or nothing is ordered
pub record IsBare (v : Outlook) : Type 0 where
  pub no_step : v.steps ≡ []
  pub no_hold : HoldsNothing v

-- ORDERED: the first round, which is the only one, isolates the work section; step by step it is
-- given out, and holds are put
pub record InOrdered (g : Grid) (work : List ℕ) (v : Outlook) : Type 0 where
  pub isolates : Isolates g work v
  pub one_round : of_round v.steps 2 ≡ []
  pub given_out : ActiveInRound v.steps 1
  pub as_put : HoldsAsPut v
  pub no_work : HasNoWork v

-- the sections of the fence that the first round cuts out around the work section
abbrev pub inner_fence : Grid → List ℕ → Outlook → List (List ℕ)
inner_fence g work v = work_fence g (Some work) (points_of (of_round v.steps 1))

-- GRANTED: all steps are Done; tests and grounds are inside the fence, and where a crew is on,
-- the own ground at the work section
pub record InGranted (g : Grid) (work : List ℕ) (v : Outlook) : Type 0 where
  pub isolates : Isolates g work v
  pub one_round : of_round v.steps 2 ≡ []
  pub done : all_done (of_round v.steps 1) ≡ true
  pub none_active : some_active v.steps ≡ false
  pub as_put : HoldsAsPut v
  pub tested_inside : (place : List ℕ) → v.has Tested place ≡ true
      → has_name (inner_fence g work v) place ≡ true
  pub grounded_inside : (place : List ℕ) → v.has Ground place ≡ true
      → has_name (inner_fence g work v) place ≡ true
  pub crews_grounded : (crew : List ℕ) → v.has Crew crew ≡ true → v.has Ground work ≡ true

-- RELEASED: all work is off, and the points are held as they were put
pub record InReleased (g : Grid) (work : List ℕ) (v : Outlook) : Type 0 where
  pub isolates : Isolates g work v
  pub one_round : of_round v.steps 2 ≡ []
  pub none_active : some_active v.steps ≡ false
  pub as_put : HoldsAsPut v
  pub no_work : HasNoWork v

-- RESTORING: a second round takes off what is held, point by point; what is left of it undoes what
-- is still held, and does no more
pub record InRestoring (g : Grid) (work : List ℕ) (v : Outlook) : Type 0 where
  pub isolates : Isolates g work v
  pub second_round : is_some_step (of_round v.steps 2) ≡ true
  pub given_out : ActiveInRound v.steps 2
  pub at_points : (p : List ℕ) → v.has HeldOpen p ≡ true
      → has_name (points_of (of_round v.steps 1)) p ≡ true
  pub beside_held_open : (kind : HoldKind) (p : List ℕ) → is_point_kind kind ≡ true
      → v.has kind p ≡ true → v.has HeldOpen p ≡ true
  pub undone : (p : List ℕ)
      → undoes (v.has Tag p) (v.has Control p) (v.has Block p) (v.has HeldOpen p)
      (actions_at (tasks_of (steps_left_of (of_round v.steps 2))) p) ≡ true
  pub no_work : HasNoWork v

-- SWITCHING: points are opened and closed in one round, and none is held
pub record InSwitching (v : Outlook) : Type 0 where
  pub only_switching : All (λ row. is_switching row.step.action ≡ true) v.steps
  pub one_round : of_round v.steps 2 ≡ []
  pub given_out : ActiveInRound v.steps (present_of v.steps)
  pub no_hold : HoldsNothing v

-- CLOSED: nothing is given out, and nothing held
pub record InClosed (v : Outlook) : Type 0 where
  pub none_active : some_active v.steps ≡ false
  pub no_hold : HoldsNothing v

-- by phase and work section; only a switch order has none, and it is Switching or Closed
abbrev pub InPhase : Grid → Phase → Option (List ℕ) → Outlook → Type 0
InPhase g Requested (Some work) v = IsBare v
InPhase g Ordered (Some work) v = InOrdered g work v
InPhase g Granted (Some work) v = InGranted g work v
InPhase g Released (Some work) v = InReleased g work v
InPhase g Restoring (Some work) v = InRestoring g work v
InPhase g Switching None v = InSwitching v
InPhase g Closed work v = InClosed v
InPhase g phase work v = ⊥

abbrev pub InPlaceAs : Grid → Option Record → Outlook → Type 0
InPlaceAs g None v = IsBare v
InPlaceAs g (Some r) v = InPhase g r.phase r.work v

-- A CLEARANCE IS IN ITS PLACE: its steps go in turn, it has those points in hand where a step is
-- given out, and all is as its phase wants it
pub record IsInPlace (g : Grid) (v : Outlook) : Type 0 where
  pub in_turn : (round : ℕ) → go_in_turn (of_round v.steps round) ≡ true
  pub hands : (p : List ℕ) → v.hand p ≡ active_at v.steps p
  pub phase : InPlaceAs g v.clearance v

-- GOOD, PHASE BY PHASE: each clearance is in its place, and the rest is about several clearances,
-- or none
pub record IsGoodByPhase (R : Register) : Type 0 where
  pub network : IsNetwork R.net
  pub staff : IsStaff R.staff
  pub in_place : (c : Id) → IsInPlace R.net (outlook_of R c)
  -- switch orders are those of operators, while they are open
  pub operators : (c : Id) (r : Record) → record_of R.records c ≡ Some r
      → is_open r.phase ≡ true
      → is_switch_order r ≡ is_operators R c.requester
  -- what is held is open
  pub held_open : (c : Id) (kind : HoldKind) (p : List ℕ) → is_point_kind kind ≡ true
      → has_hold R.holds c kind p ≡ true
      → position_of R.states p ≡ Some Opened
  -- where a Close is given out, nothing is held but by the clearance's own HeldOpen
  pub closing_free : (c : Id) (p : List ℕ) → is_closing_at R.steps c p ≡ true
      → (d : Id) (kind : HoldKind) → is_point_kind kind ≡ true → has_hold R.holds d kind p ≡ true
      → (d ≡ c) × (kind ≡ HeldOpen)
  -- a requester's clearances are numbered without gaps, and the work sections of open ones known
  pub numbered : (requester : List ℕ)
      → numbers_of R.records requester ≡ range_with_len 1 (length (numbers_of R.records requester))
  pub work_known : (c : Id) (r : Record) → record_of R.records c ≡ Some r
      → is_open r.phase ≡ true
      → is_known_work (section_names (Grid.sections R.net)) r.work ≡ true
  pub placed : NetworkIsUnplaced R
  pub points_known : PointsAreKnown R
  pub in_order : ListsAreInOrder R
