-- WHAT IS OPEN OF A REGISTER: the way back of an open record needs no closed record and no step of
-- one. A register that lacks these, and is all else of a good one, answers the commands of the way
-- back as that one does.
use Rattle.std.specs.Prelude.{◌≡◌, Bool, false, List, [], ◌∷◌, Option, None, Some}
use Rattle.clr_rules.specs.Command.{named_clearance}
use Rattle.clr_rules.specs.Good.{IsGood, ListsAreInOrder}
use Rattle.clr_rules.specs.Id.{Id}
use Rattle.clr_rules.specs.Records.{is_closed, record_of}
use Rattle.clr_rules.specs.Register.{Register}
use Rattle.clr_rules.specs.declared.command.Command.{Command}
use Rattle.clr_rules.specs.declared.record.Record.{Record}
use Rattle.clr_rules.specs.laws.ClosedSteps.{AreClosed}
use Rattle.clr_rules.specs.laws.Own.{SameOwn}

-- all of a register but its records and steps
abbrev pub bare_register : Register → Register
bare_register R = record R { records = []; steps = [] }

-- S LACKS OF A GOOD REGISTER R only records that are closed, and steps of these: of every other
-- clearance it has the same
pub record LacksOnly (gone : Id → Bool) (R S : Register) : Type 0 where
  pub good : IsGood R
  pub closed : AreClosed gone R
  pub in_order : ListsAreInOrder S
  pub rest : bare_register S ≡ bare_register R
  pub own : (c : Id) → gone c ≡ false → SameOwn c R S

-- a command names a clearance that is not lacking
abbrev pub NamesAnother : (Id → Bool) → Option Id → Type 0
NamesAnother gone None = ⊥
NamesAnother gone (Some c) = gone c ≡ false

unfoldable pub AllNameAnother : (Id → Bool) → List Command → Type 0
AllNameAnother gone [] = Unit {0}
AllNameAnother gone (q ∷ commands) =
    NamesAnother gone (named_clearance q.kind) × AllNameAnother gone commands

-- the clearances with a closed record
abbrev pub is_over : Option Record → Bool
is_over None = false
is_over (Some r) = is_closed r.phase

abbrev pub over_in : Register → Id → Bool
over_in R c = is_over (record_of R.records c)
