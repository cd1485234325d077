-- What a register has of a clearance, and that its commands look at this and at what is near, as
-- laws.
use Rattle.std.specs.Prelude.{◌≡◌, ℕ, Bool, true, false, List, Some}
use Rattle.clr_rules.specs.Agreement.{Agree}
use Rattle.clr_rules.specs.Commands.{Known, checks, edits_of}
use Rattle.clr_rules.specs.Answer.{answer, answer_with, known_of}
use Rattle.clr_rules.specs.Prelude.{Edit, Command, Kind, Id, Register, record_of, steps_of}
use Rattle.clr_rules.specs.Prelude.{holds_of, after_edits, Instruct}
use Rattle.clr_rules.specs.Command.{named_clearance}
use Rattle.clr_rules.specs.Good.{IsGoodAsSaid, ListsAreInOrder, OnlySwitchOrdersSwitch}
use Rattle.clr_rules.specs.Near.{near_part}
use Rattle.clr_rules.specs.laws.Near.{is_order}

-- two registers have the same staff, and the same of a clearance: its record, its steps and its
-- holds
pub record SameOwn (c : Id) (R S : Register) : Type 0 where
  pub staff : R.staff ≡ S.staff
  pub own_record : record_of R.records c ≡ record_of S.records c
  pub own_steps : steps_of R.steps c ≡ steps_of S.steps c
  pub own_holds : holds_of R.holds c ≡ holds_of S.holds c

abbrev pub is_instruct : Kind → Bool
is_instruct (Instruct c n) = true
is_instruct kind = false

-- registers that agree near a clearance have the same of it
abbrev pub AgreeingRegistersHaveTheSame : Type 0
AgreeingRegistersHaveTheSame =
    (c : Id) (inside : List ℕ → Bool) (R S : Register) → Agree c inside R S → SameOwn c R S

-- the near part of a command that names a clearance has the same of it as the whole register
abbrev pub NearHasTheOwn : Type 0
NearHasTheOwn =
    (R : Register) (q : Command) (c : Id) → IsGoodAsSaid R → named_clearance q.kind ≡ Some c
    → is_order q.kind ≡ false
    → SameOwn c R (near_part R q)

-- the checks of a command that names a clearance look at nothing else of the rows, but for those of
-- an order, and of a point where a step is given out
abbrev pub ChecksLookAtTheOwn : Type 0
ChecksLookAtTheOwn =
    (c : Id) (R S : Register) → SameOwn c R S → (k : Known) (by : List ℕ) (at : ℕ) (kind : Kind)
    → named_clearance kind ≡ Some c → is_order kind ≡ false → is_instruct kind ≡ false
    → checks k R by at kind ≡ checks k S by at kind

-- the edits of a command that names a clearance are made by what the register has of it
abbrev pub EditsAreOfTheOwn : Type 0
EditsAreOfTheOwn = (c : Id) (R S : Register) → ListsAreInOrder R → ListsAreInOrder S → SameOwn c R S
    → (greatest : ℕ) (by : List ℕ) (at : ℕ) (kind : Kind) → named_clearance kind ≡ Some c
    → edits_of greatest R by at kind ≡ edits_of greatest S by at kind

-- and both registers have the same of it after the same edits
abbrev pub SameEditsKeepTheOwn : Type 0
SameEditsKeepTheOwn =
    (c : Id) (R S : Register) → ListsAreInOrder R → ListsAreInOrder S → SameOwn c R S
    → (edits : List Edit) → SameOwn c (after_edits edits R) (after_edits edits S)

-- WHAT IS NEAR IS ENOUGH: in a register that is good as said, and where only switch orders switch,
-- a command is answered from its near part as from the whole register
abbrev pub NearIsEnough : Type 0
NearIsEnough =
    (R : Register) (q : Command) → IsGoodAsSaid R → OnlySwitchOrdersSwitch R
    → answer R q ≡ answer_with (known_of R q) (near_part R q) q
