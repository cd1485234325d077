-- THE REGISTER, ITS PLACE AND THE JOURNAL ARE LEVEL.
use Rattle.std.specs.Prelude.{◌≡◌, ◌⊎◌, ℕ, Bool, true, List, [], ◌∷◌, ◌++◌}
use Rattle.sqlite.specs.State.{State}
use Rattle.clr_changes.specs.Deeds.{Deed, after_deed}
use Rattle.clr_rules.specs.Good.{IsGood}
use Rattle.clr_rules.specs.Register.{Register}
use Rattle.clr_rules.specs.declared.place.Place.{Place}
use Rattle.clr_journal.specs.Answered.{deed_reply}
use Rattle.clr_journal.specs.Journals.{carried_out}
use Rattle.clr_journal.specs.Line.{Entry, is_accepted}
use Rattle.clr_journal.specs.declared.line.Receipt.{Receipt}
use Rattle.clr_chain.specs.Chain.{chain_text}
use Rattle.clr_chain.specs.Laws.{line_at}
use Rattle.clr_chain.specs.Level.{IsLevel, IsRunOf, place_after}
use Rattle.clr_desk.specs.Given.{AreGiven, Given}
use Rattle.clr_desk.specs.Taking.{Taking}
use Rattle.clr_chain.specs.Opening.{new_text}
use Rattle.clr_level.specs.Forward.{CanBeOpened}
use Rattle.clr_level.specs.Journaling.{IsSound, Journals}
use Rattle.clr_desk.specs.Placing.{Placing}
use Rattle.clr_level.specs.Placing.{IsAt}
use Rattle.clr_level.specs.declared.keeper.Keeper.{Keeper}
use Rattle.clr_level.specs.declared.last.Last.{Last}
use Rattle.clr_level.specs.declared.last.Last.TheVariants.{Doubtful, Owed, Settled}

-- ONE DEED IS DUE: these lines end with that of a deed that the register accepts, and it has carried
-- out all before it
pub record IsDue (R : Register) (more : List Entry) : Type 0 where
  pub idle : List Entry
  pub receipt : Receipt
  pub deed : Deed
  pub is : more ≡ idle ++ line_at R receipt deed ∷ []
  pub none : carried_out idle ≡ []
  pub accepted : is_accepted (deed_reply R deed) ≡ true

-- what the lines after the register's place leave to be done
abbrev pub IsLeft : Last → Register → List Entry → Type 0
IsLeft Settled R more = carried_out more ≡ []
IsLeft Owed R more = IsDue R more
IsLeft Doubtful R more = (carried_out more ≡ []) ⊎ IsDue R more

-- A KEEPER AND A REGISTER ARE LEVEL: its journal has these lines, with which the register is level
-- at a place; the keeper below is at that place, where its disk is clean. Of the lines after it no
-- deed is left to be carried out; but for one that is to be withdrawn, or is in doubt
pub record IsKeptLevel {K J C : Type 0} (kept : K → State) (has_place : Placing)
    (text : J → List ℕ) (first : Register) (start : Place) (R : Register) (it : Keeper K J C)
    : Type 0 where
  pub entries : List Entry
  pub place : Place
  pub level : IsLevel first start entries place R
  pub text_is : text it.journal ≡ chain_text start entries
  pub end_is : it.at ≡ place_after start entries
  pub placed : IsAt has_place (kept it.keeper) place
  pub left : IsLeft it.last R (IsLevel.more level)

-- LEVEL IS KEPT over any number of commands and faults; `Renewing` says it over updates and archives
abbrev pub LevelIsKept : (K J C : Type 0) → Taking K → (K → State) → Placing → (C → ℕ → Type 0)
    → (J → List ℕ) → (J → List ℕ) → (J → List ℕ → Type 0) → (J → Bool) → Type 0
LevelIsKept K J C takes kept has_place shows text found may_leave is_usable =
    (first R S : Register) (start : Place) (old new : Keeper K J C) (given : List Given)
    → IsGood first → IsKeptLevel kept has_place text first start R old
    → AreGiven (Journals takes kept has_place shows text found may_leave is_usable)
    R old given S new
    → IsKeptLevel kept has_place text first start S new

-- WHAT A KEEPER HOLDS OF ITS JOURNAL STAYS TRUE over them
abbrev pub SoundIsKept : (K J C : Type 0) → Taking K → (K → State) → Placing → (C → ℕ → Type 0)
    → (J → List ℕ) → (J → List ℕ) → (J → List ℕ → Type 0) → (J → Bool) → Type 0
SoundIsKept K J C takes kept has_place shows text found may_leave is_usable =
    (R S : Register) (old new : Keeper K J C) (given : List Given)
    → IsSound text found may_leave old
    → AreGiven (Journals takes kept has_place shows text found may_leave is_usable)
    R old given S new
    → IsSound text found may_leave new

-- THE REGISTER IS WHAT ITS JOURNAL SAYS, where nothing is owed or in doubt: that of a run of the
-- deeds that its lines say were carried out, with these replies
abbrev pub SettledIsWhatItSays : (K J C : Type 0) → (K → State) → Placing → (J → List ℕ) → Type 0
SettledIsWhatItSays K J C kept has_place text = (first R : Register) (start : Place)
    (it : Keeper K J C) (level : IsKeptLevel kept has_place text first start R it)
    → it.last ≡ Settled → IsRunOf first (carried_out (IsKeptLevel.entries level)) R

-- WHERE A DEED IS DUE, the register with it carried out is level too, at its line. So where it is
-- not known whether it was, or where a crash left it, both are level
abbrev pub EitherIsLevel : Type 0
EitherIsLevel = (first R : Register) (start place : Place) (entries : List Entry)
    (level : IsLevel first start entries place R) (due : IsDue R (IsLevel.more level))
    → IsLevel first start entries (place_after start entries) (after_deed R (IsDue.deed due))

-- A REGISTER AND THE JOURNAL THAT IT BEGINS WITH are level: the register is at the first line, which
-- is all that the journal has, so that both can be opened
abbrev pub BegunIsLevel : Placing → State → Type 0
BegunIsLevel has_place s = (R : Register) (start : Place) → IsAt has_place s start
    → CanBeOpened has_place R start start R s (new_text start) []
