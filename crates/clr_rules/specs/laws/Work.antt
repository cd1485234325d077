-- What work on a line rests on, as laws of good registers: it is dead, it is grounded, and the
-- points around it are held.
use Rattle.std.specs.Prelude.{◌≡◌, ℕ, true, false, List, Contains, Some}
use Rattle.clr_rules.specs.Prelude.{Grid, has_name, PointRow, Opened, Command, Ground, Record, Reply}
use Rattle.clr_rules.specs.Prelude.{Id, Register, position_of, record_of, is_granted, points_of}
use Rattle.clr_rules.specs.Prelude.{steps_in, has_hold}
use Rattle.clr_rules.specs.CrewSafety.{CrewsAreSafe, CrewsWorkSafely}
use Rattle.clr_rules.specs.Fences.{clearance_fence}
use Rattle.clr_rules.specs.Good.{IsFullyHeld, IsGood, IsGoodAsSaid}
use Rattle.clr_rules.specs.Live.{IsLive, is_live}
use Rattle.clr_rules.specs.Run.{after}
use Rattle.clr_rules.specs.RunHeadline.{IsRun}

-- while a clearance is granted, no section of its fence is live
abbrev pub GrantedFencesStayDead : Type 0
GrantedFencesStayDead =
    (R : Register) → IsGoodAsSaid R → (c : Id) (r : Record) → record_of R.records c ≡ Some r
    → is_granted r.phase ≡ true
    → (s : List ℕ) → has_name (clearance_fence R c) s ≡ true → is_live R.net R.states s ≡ false

-- and its work section is one of these
abbrev pub GrantedWorkIsDead : Type 0
GrantedWorkIsDead =
    (R : Register) → IsGoodAsSaid R → (c : Id) (r : Record) → record_of R.records c ≡ Some r
    → is_granted r.phase ≡ true
    → (work : List ℕ) → r.work ≡ Some work
    → (has_name (clearance_fence R c) work ≡ true) × (is_live R.net R.states work ≡ false)

-- no section that bears a ground is live
abbrev pub GroundedSectionsAreDead : Type 0
GroundedSectionsAreDead =
    (R : Register) → IsGoodAsSaid R → (c : Id) (s : List ℕ) → has_hold R.holds c Ground s ≡ true
    → is_live R.net R.states s ≡ false

-- NO COMMAND FEEDS A GROUND: after each command, a report of a closing too, no section that bears a
-- ground is live
abbrev pub ClosingsFeedNoGround : Type 0
ClosingsFeedNoGround =
    (R : Register) (q : Command) → IsGood R → (c : Id) (s : List ℕ)
    → has_hold (Register.holds (after R q)) c Ground s ≡ true
    → is_live (Register.net (after R q)) (Register.states (after R q)) s ≡ false

-- in other words: closed points lead from no source to a ground
abbrev pub NoSourceFeedsGrounds : Type 0
NoSourceFeedsGrounds =
    (R : Register) → IsGoodAsSaid R → (c : Id) (s : List ℕ) → has_hold R.holds c Ground s ≡ true
    → IsLive R.net R.states s → ⊥

-- a point that was opened for a granted clearance is open, held open and tagged, blocked where it
-- can be locked, and controlled where it is controlled from afar
abbrev pub GrantedPointsBearAllHolds : Type 0
GrantedPointsBearAllHolds =
    (R : Register) → IsGoodAsSaid R → (c : Id) (r : Record) → record_of R.records c ≡ Some r
    → is_granted r.phase ≡ true
    → (point : PointRow) → Contains (Grid.points R.net) point
    → has_name (points_of (steps_in R.steps c 1)) point.name ≡ true
    → (position_of R.states point.name ≡ Some Opened) × IsFullyHeld R.holds c point

-- IN A GOOD REGISTER crews are safe
abbrev pub GoodRegistersAreSafe : Type 0
GoodRegistersAreSafe = (R : Register) → IsGoodAsSaid R → CrewsAreSafe R

-- IN EVERY RUN crews work safely
abbrev pub CrewsWorkSafelyInRuns : Type 0
CrewsWorkSafelyInRuns =
    (R : Register) (commands : List Command) (told : List Reply) (S : Register)
    → IsRun R commands told S
    → CrewsWorkSafely R commands S
