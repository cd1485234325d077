-- LEVEL: a register, its place and a journal belong together.
use Rattle.std.specs.Prelude.{◌≡◌, Bool, true, false, List, ◌++◌, map}
use Rattle.serde_json.specs.Data.{Data}
use Rattle.clr_changes.specs.Deeds.{Deed, after_deeds}
use Rattle.clr_rules.specs.Register.{Register}
use Rattle.clr_journal.specs.Answered.{deed_replies}
use Rattle.clr_journal.specs.Journals.{carried_out, in_turn, turn_after, withdraws}
use Rattle.clr_journal.specs.Laws.{turn_behind}
use Rattle.clr_journal.specs.Line.{Entry}
use Rattle.clr_chain.specs.First.{first_turn_at}
use Rattle.clr_chain.specs.Sums.{sum_after, sum_behind}
use Rattle.clr_rules.specs.declared.place.Place.{Place}

-- deeds and their replies, as JSON values, are a run from one register to another
pub record IsRunOf (R : Register) (pairs : List (Deed × Data)) (S : Register) : Type 0 where
  pub register : S ≡ after_deeds R (map (λ pair. pair.0) pairs)
  pub replied : map (λ pair. pair.1) pairs ≡ deed_replies R (map (λ pair. pair.0) pairs)

-- where a chain with this first line has come to, after these lines
abbrev pub place_after : Place → List Entry → Place
place_after start entries = record {
  id = start.id;
  number = (turn_behind (first_turn_at start) entries).last;
  sum = sum_behind start.sum entries;
}

-- a place on, by a line more
abbrev pub place_with : Place → Entry → Place
place_with place entry = record {
  id = place.id;
  number = (turn_after entry).last;
  sum = sum_after place.sum entry;
}

abbrev pub stepped : Bool → Place → Entry → Place
stepped true place entry = place_with place entry
stepped false place entry = place

-- A REGISTER, ITS PLACE AND A JOURNAL ARE LEVEL: the lines of the journal are in turn. It begins
-- with those that the register has, and the place is the one after these. The register is that of a
-- run of the deeds that they say were carried out, with these replies, from the one that the
-- journal began with. Lines may come after them, of which the first does not withdraw
pub record IsLevel (first : Register) (start : Place) (entries : List Entry) (place : Place)
    (R : Register) : Type 0 where
  pub had : List Entry
  pub more : List Entry
  pub all : entries ≡ had ++ more
  pub turns : in_turn (first_turn_at start) entries ≡ true
  pub is_at : place ≡ place_after start had
  pub kept : withdraws more ≡ false
  pub run : IsRunOf first (carried_out had) R
