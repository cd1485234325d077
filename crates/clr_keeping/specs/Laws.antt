-- THE PARTS OF A JOURNAL ARE ONE, and an opening that stops leaves the register level.
use Rattle.std.specs.Prelude.{◌++◌, List}
use Rattle.sqlite.specs.State.{State}
use Rattle.clr_rules.specs.Register.{Register}
use Rattle.clr_rules.specs.declared.place.Place.{Place}
use Rattle.clr_journal.specs.Line.{Entry}
use Rattle.clr_chain.specs.Level.{IsLevel, place_after}
use Rattle.clr_desk.specs.Placing.{Placing}
use Rattle.clr_level.specs.Forward.{HasStopped}
use Rattle.clr_level.specs.Placing.{IsAt}
use Rattle.clr_level.specs.Restarting.{HasLines}

-- PARTS ARE ONE JOURNAL: a register that had all lines of a part went to the next, which begins where
-- that part ended. Where it is level with the lines of that, it is with the lines of both
abbrev pub PartsAreOne : Type 0
PartsAreOne = (first middle R : Register) (start place : Place) (part next : List Entry)
    → HasLines first start part middle
    → IsLevel middle (place_after start part) next place R
    → IsLevel first start (part ++ next) place R

-- AN OPENING THAT STOPS HALF-WAY leaves the register level, at the place that it came to
abbrev pub StoppedIsLevel : Placing → State → Type 0
StoppedIsLevel has_place s = (first R S : Register) (start place : Place) (entries : List Entry)
    (level : IsLevel first start entries place R)
    → HasStopped has_place R place (IsLevel.more level) S s
    → (at : Place) × IsLevel first start entries at S × IsAt has_place s at
