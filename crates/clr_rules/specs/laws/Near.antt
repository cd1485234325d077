-- The near part in words, as laws: which rows of the register a command looks at, and that it looks
-- at no others.
use Rattle.std.specs.Prelude.{◌≡◌, ◌↔◌, ◌⊎◌, ◌≤◌, ℕ, Bool, true, false, IsTrue, List, [], filter}
use Rattle.std.specs.Prelude.{All, Contains, None, Some}
use Rattle.clr_rules.specs.Prelude.{in_fence, Grid, IsNetwork, section_names, PointRow, SectionRow}
use Rattle.clr_rules.specs.Prelude.{has_name, Task, task_points, Command, Kind, Hold, Crew}
use Rattle.clr_rules.specs.Prelude.{PointState, Record, StepRow, Id, Register, greatest_number}
use Rattle.clr_rules.specs.Prelude.{record_of, is_standing, points_of, steps_in, is_point_kind}
use Rattle.clr_rules.specs.Prelude.{holds_of, Request, Order, Switch, Jumper}
use Rattle.clr_rules.specs.Command.{named_clearance}
use Rattle.clr_rules.specs.Good.{IsGoodAsSaid, ListsAreInOrder}
use Rattle.clr_rules.specs.Fences.{clearance_fence, crossed_by, touching_names}
use Rattle.clr_rules.specs.laws.Marks.{HasEndIn, StandsAmong}
use Rattle.clr_rules.specs.Near.{Near, near_of, near_part}
use Rattle.clr_rules.specs.Records.{is_fenced}

-- ---- the words

-- a section of the network in the fence of a work section, cut at these points
pub record IsWithin (g : Grid) (work : List ℕ) (cut : List (List ℕ)) (s : List ℕ) : Type 0 where
  pub known : Contains (section_names g.sections) s
  pub inside : IsTrue (in_fence g work cut s)

-- IN THE FENCE OF A CLEARANCE: its record is in a phase that has a fence, and has a work section;
-- its fence is cut at the points of the first round
pub record InFence (R : Register) (c : Id) (s : List ℕ) : Type 0 where
  pub r : Record
  pub work : List ℕ
  pub read : record_of R.records c ≡ Some r
  pub fenced : IsTrue (is_fenced r.phase)
  pub works : r.work ≡ Some work
  pub within : IsWithin R.net work (points_of (steps_in R.steps c 1)) s

-- IN THE FENCE THAT AN ORDER WOULD MAKE: it is cut at the points of the order
pub record InOrderFence (R : Register) (c : Id) (points : List (List ℕ)) (s : List ℕ) : Type 0 where
  pub r : Record
  pub work : List ℕ
  pub read : record_of R.records c ≡ Some r
  pub works : r.work ≡ Some work
  pub within : IsWithin R.net work points s

-- a point of a step of the clearance
pub record IsStepPoint (R : Register) (c : Id) (p : List ℕ) : Type 0 where
  pub row : StepRow
  pub there : Contains R.steps row
  pub own : c ≡ row.id
  pub named : row.step.point ≡ p

-- a point of a step of a switch order: its record has no work section
pub record IsSwitchPoint (R : Register) (c : Id) (p : List ℕ) : Type 0 where
  pub r : Record
  pub read : record_of R.records c ≡ Some r
  pub no_work : r.work ≡ None
  pub at_step : IsStepPoint R c p

-- a point that touches the fence, or one of the switch order
abbrev pub IsNearPoint : Register → Id → (List ℕ → Type 0) → List ℕ → Type 0
IsNearPoint R c Inside p = HasEndIn R.net Inside p ⊎ IsSwitchPoint R c p

-- a hold at such a point, at a section of the fence, or of a crew of the clearance
abbrev pub IsNearHold : (List ℕ → Type 0) → (List ℕ → Type 0) → Id → Hold → Type 0
IsNearHold AtPoint Inside c h = StandsAmong AtPoint Inside h ⊎ ((h.kind ≡ Crew) × (c ≡ h.id))

abbrev pub is_order : Kind → Bool
is_order (Order c points tasks) = true
is_order kind = false

-- ---- a command that names a clearance

-- of each list the near part has exactly these rows of the register: the staff; the sections of the
-- fence; the points; their states; the clearance's record and its steps; the holds. Beside them
-- come the names of the fence and the greatest number of the clearance's requester
pub record HasNearRows (R : Register) (c : Id) (Inside AtPoint : List ℕ
    → Type 0) (near : Near) : Type 0 where
  pub staff : Register.staff near.rows ≡ R.staff
  pub sections : (row : SectionRow)
      → Contains (Grid.sections (Register.net near.rows)) row
      ↔ (Contains (Grid.sections R.net) row × Inside row.name)
  pub points : (p : PointRow)
      → Contains (Grid.points (Register.net near.rows)) p
      ↔ (Contains (Grid.points R.net) p × AtPoint p.name)
  pub states : (state : PointState)
      → Contains (Register.states near.rows) state ↔ (Contains R.states state × AtPoint state.point)
  pub records : (r : Record)
      → Contains (Register.records near.rows) r ↔ (Contains R.records r × (c ≡ r.id))
  pub steps : (row : StepRow)
      → Contains (Register.steps near.rows) row ↔ (Contains R.steps row × (c ≡ row.id))
  pub holds : (h : Hold)
      → Contains (Register.holds near.rows) h ↔ (Contains R.holds h × IsNearHold AtPoint Inside c h)
  pub fence : (s : List ℕ) → Contains near.known.fence s ↔ Inside s
  pub greatest : near.known.greatest ≡ greatest_number R.records c.requester
  pub none_crossed : near.known.crossed ≡ None

-- a command that names a clearance looks at its fence
abbrev pub NamedLooksAtItsFence : Type 0
NamedLooksAtItsFence =
    (R : Register) (q : Command) (c : Id) → named_clearance q.kind ≡ Some c
    → is_order q.kind ≡ false
    → HasNearRows R c (InFence R c) (IsNearPoint R c (InFence R c)) (near_of R q)

-- an order looks at the fence that it would make
abbrev pub OrderLooksAtFenceToBe : Type 0
OrderLooksAtFenceToBe =
    (R : Register) (by : List ℕ) (at : ℕ) (c : Id) (points : List (List ℕ)) (tasks : List Task)
    → HasNearRows R c (InOrderFence R c points) (IsNearPoint R c (InOrderFence R c points))
    (near_of R (record { caller = by; moment = at; kind = Order c points tasks }))

-- a command that names a switch order has no fence to look at, but the points of its steps
abbrev pub SwitchOrderHasItsPoints : Type 0
SwitchOrderHasItsPoints =
    (R : Register) (q : Command) (c : Id) (r : Record) → named_clearance q.kind ≡ Some c
    → record_of R.records c ≡ Some r → r.work ≡ None
    → HasNearRows R c (λ s. ⊥) (IsStepPoint R c) (near_of R q)

-- ---- a command that names none

-- a request looks at the row of its section, and at no other row; and at the greatest number of the
-- caller
pub record HasAskedRow (R : Register) (by : List ℕ) (section : List ℕ) (near : Near) : Type 0 where
  pub staff : Register.staff near.rows ≡ R.staff
  pub sections : (row : SectionRow)
      → Contains (Grid.sections (Register.net near.rows)) row
      ↔ (Contains (Grid.sections R.net) row × (section ≡ row.name))
  pub no_point : Grid.points (Register.net near.rows) ≡ []
  pub no_state : Register.states near.rows ≡ []
  pub no_record : Register.records near.rows ≡ []
  pub no_step : Register.steps near.rows ≡ []
  pub no_hold : Register.holds near.rows ≡ []
  pub no_fence : near.known.fence ≡ []
  pub greatest : near.known.greatest ≡ greatest_number R.records by
  pub none_crossed : near.known.crossed ≡ None

abbrev pub RequestLooksAtItsSection : Type 0
RequestLooksAtItsSection = (R : Register) (by : List ℕ) (at : ℕ) (section : List ℕ)
    → HasAskedRow R by section
    (near_of R (record { caller = by; moment = at; kind = Request section }))

-- a switch order that is made looks at the points of its steps, and at what is there
pub record HasSwitchRows (R : Register) (by : List ℕ) (points : List (List ℕ))
    (near : Near) : Type 0 where
  pub staff : Register.staff near.rows ≡ R.staff
  pub no_section : Grid.sections (Register.net near.rows) ≡ []
  pub points_there : (p : PointRow)
      → Contains (Grid.points (Register.net near.rows)) p
      ↔ (Contains (Grid.points R.net) p × Contains points p.name)
  pub states : (state : PointState)
      → Contains (Register.states near.rows) state
      ↔ (Contains R.states state × Contains points state.point)
  pub no_record : Register.records near.rows ≡ []
  pub no_step : Register.steps near.rows ≡ []
  pub holds : (h : Hold)
      → Contains (Register.holds near.rows) h
      ↔ (Contains R.holds h × (IsTrue (is_point_kind h.kind) × Contains points h.place))
  pub no_fence : near.known.fence ≡ []
  pub greatest : near.known.greatest ≡ greatest_number R.records by
  pub none_crossed : near.known.crossed ≡ None

abbrev pub SwitchLooksAtItsPoints : Type 0
SwitchLooksAtItsPoints = (R : Register) (by : List ℕ) (at : ℕ) (tasks : List Task)
    → HasSwitchRows R by (task_points tasks)
    (near_of R (record { caller = by; moment = at; kind = Switch tasks }))

-- a jumper looks at the network, at all records and at the steps of all first rounds, and at no
-- other row; the least clearance whose fence it would cross is that of these rows
pub record HasNetworkRows (R : Register) (by : List ℕ) (from to : List ℕ)
    (near : Near) : Type 0 where
  pub staff : Register.staff near.rows ≡ R.staff
  pub net : Register.net near.rows ≡ R.net
  pub no_state : Register.states near.rows ≡ []
  pub records : Register.records near.rows ≡ R.records
  pub steps : (row : StepRow)
      → Contains (Register.steps near.rows) row ↔ (Contains R.steps row × (row.round ≡ 1))
  pub no_hold : Register.holds near.rows ≡ []
  pub no_fence : near.known.fence ≡ []
  pub greatest : near.known.greatest ≡ greatest_number R.records by
  pub crossed : near.known.crossed ≡ crossed_by near.rows from to

abbrev pub JumperLooksAtTheNetwork : Type 0
JumperLooksAtTheNetwork =
    (R : Register) (by : List ℕ) (at : ℕ) (point from to : List ℕ) (lockable remote : Bool)
    → HasNetworkRows R by from to
    (near_of R (record {
      caller = by;
      moment = at;
      kind = Jumper point from to lockable remote;
    }))

-- ---- what the words rest on

-- a point of a network has one row, so a row is near exactly where it has an end in the fence
-- itself
abbrev pub PointsHaveOneRow : Type 0
PointsHaveOneRow =
    (g : Grid) → IsNetwork g → (p q : PointRow) → Contains g.points p → Contains g.points q
    → p.name ≡ q.name → p ≡ q

-- the greatest number is that of a record of the requester, or 0, and no record of the requester
-- has a greater one
abbrev pub GreatestIsGreatest : Type 0
GreatestIsGreatest = (records : List Record) (requester : List ℕ)
    → All (λ r. requester ≡ r.id.requester
    → r.id.number ≤ greatest_number records requester) records
    × ((greatest_number records requester ≡ 0)
    ⊎ ((r : Record) × Contains records r × (requester ≡ r.id.requester)
    × (r.id.number ≡ greatest_number records requester)))

-- a list that has some rows of another, as they are there
abbrev pub IsPartOf : {X : Type 0} → List X → List X → Type 0
IsPartOf {X} part whole = (test : X → Bool) × (part ≡ filter test whole)

-- NO ROW MORE: each list of the near part has rows of the register's list, as they are there
pub record HasNoOtherRows (R near : Register) : Type 0 where
  pub staff : near.staff ≡ R.staff
  pub sections : IsPartOf (Grid.sections near.net) (Grid.sections R.net)
  pub points : IsPartOf (Grid.points near.net) (Grid.points R.net)
  pub states : IsPartOf near.states R.states
  pub records : IsPartOf near.records R.records
  pub steps : IsPartOf near.steps R.steps
  pub holds : IsPartOf near.holds R.holds

abbrev pub NearHasNoOtherRows : Type 0
NearHasNoOtherRows = (R : Register) (q : Command) → HasNoOtherRows R (near_part R q)

abbrev pub NearIsInOrder : Type 0
NearIsInOrder = (R : Register) (q : Command) → ListsAreInOrder R → ListsAreInOrder (near_part R q)

-- ---- in a good register

-- all holds of a clearance are near a command that names it: those at points are at points of
-- its order, which touch its fence, and tests and grounds at sections of its fence
abbrev pub OwnHoldsAreNear : Type 0
OwnHoldsAreNear =
    (R : Register) (q : Command) (c : Id) → IsGoodAsSaid R → named_clearance q.kind ≡ Some c
    → is_order q.kind ≡ false
    → holds_of (Register.holds (near_part R q)) c ≡ holds_of R.holds c

-- the points of the first round of an order in force touch its fence
abbrev pub OrderPointsTouchTheFence : Type 0
OrderPointsTouchTheFence =
    (R : Register) (c : Id) → IsGoodAsSaid R → (r : Record) → record_of R.records c ≡ Some r
    → is_standing r.phase ≡ true
    → (p : List ℕ) → has_name (points_of (steps_in R.steps c 1)) p ≡ true
    → has_name (touching_names R.net (has_name (clearance_fence R c))) p ≡ true
