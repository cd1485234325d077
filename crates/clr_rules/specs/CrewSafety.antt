-- A CREW WORKS SAFELY, whoever commands: what holds while it is on, and at each place of a run.
use Rattle.std.specs.Prelude.{◌≡◌, ℕ, true, false, List, ◌∷◌, ◌++◌, Contains, Some}
use Rattle.clr_rules.specs.Fences.{clearance_fence}
use Rattle.clr_rules.specs.Good.{IsFullyHeld, IsGood}
use Rattle.clr_rules.specs.Live.{IsLive}
use Rattle.clr_rules.specs.Prelude.{Grid, has_name, PointRow, Opened, Command, Tag, Ground, Crew}
use Rattle.clr_rules.specs.Prelude.{Record, Id, Register, position_of, record_of, is_granted}
use Rattle.clr_rules.specs.Prelude.{points_of, steps_in, has_hold}
use Rattle.clr_rules.specs.Run.{after, after_all}
use Rattle.clr_rules.specs.laws.Tags.{IsUntag}

-- a point of an order is one of the network's, and is open; the clearance holds it open, tagged,
-- blocked where it can be locked, and controlled where it is controlled from afar
pub record IsSafePoint (R : Register) (c : Id) (p : List ℕ) : Type 0 where
  pub point : PointRow
  pub in_network : Contains (Grid.points R.net) point
  pub named : point.name ≡ p
  pub is_open : position_of R.states p ≡ Some Opened
  pub held : IsFullyHeld R.holds c point

-- A CREW IS SAFE: its clearance is Granted; the work section is in the fence, and grounded for it;
-- no source feeds a section of the fence; and each point of the order is open and held
pub record IsSafeWork (R : Register) (c : Id) : Type 0 where
  pub clearance : Record
  pub work : List ℕ
  pub recorded : record_of R.records c ≡ Some clearance
  pub granted : is_granted clearance.phase ≡ true
  pub worked_on : clearance.work ≡ Some work
  pub inside : has_name (clearance_fence R c) work ≡ true
  pub grounded : has_hold R.holds c Ground work ≡ true
  pub dead : (s : List ℕ) → has_name (clearance_fence R c) s ≡ true → IsLive R.net R.states s → ⊥
  pub points : (p : List ℕ) → has_name (points_of (steps_in R.steps c 1)) p ≡ true
      → IsSafePoint R c p

-- CREWS ARE SAFE in a register: each crew that is on is, and no source feeds a ground
pub record CrewsAreSafe (R : Register) : Type 0 where
  pub crews : (c : Id) (crew : List ℕ) → has_hold R.holds c Crew crew ≡ true → IsSafeWork R c
  pub grounds : (c : Id) (s : List ℕ) → has_hold R.holds c Ground s ≡ true
      → IsLive R.net R.states s → ⊥

-- TAGS STAY over a command, but for those that their own clearance's Untag takes while it is
-- Restoring
abbrev pub TagsStay : Register → Command → Type 0
TagsStay R q =
    (c : Id) (p : List ℕ) → has_hold R.holds c Tag p ≡ true
    → has_hold (Register.holds (after R q)) c Tag p ≡ false → IsUntag R c p q

-- AT EACH PLACE OF A RUN from R to S crews are safe, before and after each command, a closing too;
-- and over each command tags stay
pub record AreSafeThroughout (R : Register) (commands : List Command) (S : Register)
    : Type 0 where
  pub each_place : (earlier later : List Command) → commands ≡ earlier ++ later
      → CrewsAreSafe (after_all R earlier)
  pub left : CrewsAreSafe S
  pub tags : (earlier : List Command) (q : Command) (later : List Command)
      → commands ≡ earlier ++ q ∷ later → TagsStay (after_all R earlier) q

-- CREWS WORK SAFELY in a run from a good register
abbrev pub CrewsWorkSafely : Register → List Command → Register → Type 0
CrewsWorkSafely R commands S = IsGood R → AreSafeThroughout R commands S
