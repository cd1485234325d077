-- WHICH CLEARANCE A LINE IS ABOUT: the one that its command names; where it names none, the one that
-- its reply's card names, as that of a request and a switch order does. An update or an archive is
-- about none.
use Rattle.std.specs.Prelude.{Bool, true, false, List, [], ◌∷◌, Option, None, Some, codes}
use Rattle.std.specs.Prelude.{option_and_then}
use Rattle.serde_json.specs.Data.{Data}
use Rattle.serde_json.specs.Find.{as_str, get}
use Rattle.clr_changes.specs.Deeds.{Deed, archive, command, update}
use Rattle.clr_rules.specs.Command.{named_clearance}
use Rattle.clr_rules.specs.Id.{Id, same_id}
use Rattle.clr_rules.specs.IdText.{read_id}
use Rattle.clr_journal.specs.Line.{Entry, carried, withdrawn}

-- the clearance that a reply's card names
abbrev pub card_clearance : Data → Option Id
card_clearance reply =
    option_and_then read_id
    (option_and_then as_str
    (option_and_then (get (codes "clearance")) (get (codes "card") reply)))

abbrev pub named_or : Option Id → Option Id → Option Id
named_or None other = other
named_or (Some c) other = Some c

abbrev pub clearance_of : Deed → Data → Option Id
clearance_of (command q) reply = named_or (named_clearance q.kind) (card_clearance reply)
clearance_of (update of) reply = None
clearance_of (archive before) reply = None

-- the clearance of the line before, of which the newest lines come first
abbrev pub last_clearance : List Entry → Option Id
last_clearance [] = None
last_clearance (carried receipt deed reply ∷ older) = clearance_of deed reply
last_clearance (withdrawn n ∷ older) = None

-- THE CLEARANCE OF A LINE; one that withdraws is about that of the line before
abbrev pub line_clearance : List Entry → Entry → Option Id
line_clearance older (carried receipt deed reply) = clearance_of deed reply
line_clearance older (withdrawn n) = last_clearance older

-- a line about this clearance is wanted; where no clearance is asked for, each is
abbrev pub is_wanted : Option Id → Option Id → Bool
is_wanted None found = true
is_wanted (Some c) None = false
is_wanted (Some c) (Some found) = same_id c found
