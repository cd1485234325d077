-- THE DEEDS OF A JOURNAL THAT WERE CARRIED OUT, each with the number and the reply of its line.
use Rattle.std.specs.Prelude.{◌≡◌, ℕ, true, ◌&&◌, not, List, [], ◌∷◌, Option, None, Some}
use Rattle.std.specs.Prelude.{if◌then◌else◌}
use Rattle.serde_json.specs.Data.{Data}
use Rattle.serde_json.specs.View.{view}
use Rattle.clr_changes.specs.Deeds.{Deed, deed_of}
use Rattle.clr_journal.specs.Journals.{onto_some, withdraws}
use Rattle.clr_journal.specs.Line.{Entry, carried, withdrawn, is_accepted}
use Rattle.clr_journal.specs.declared.line.Carried.{Carried}

-- a line's number, its deed and its reply
pub record Answered : Type 0 where
  pub number : ℕ
  pub deed : Deed
  pub reply : Data

-- a line that was accepted and is not withdrawn
abbrev pub own_answered : Entry → List Entry → Option Answered
own_answered (withdrawn n) rest = None
own_answered (carried receipt deed reply) rest = if is_accepted reply && not (withdraws rest)
    then Some (record { number = receipt.number; deed = deed; reply = reply }) else None

unfoldable pub answered_in : List Entry → List Answered
answered_in [] = []
answered_in (entry ∷ rest) = onto_some (own_answered entry rest) (answered_in rest)

-- what a line says of a reply: the number of its deed, and the reply
abbrev pub due_answered : Answered → ℕ × Data
due_answered answered = (answered.number, answered.reply)

-- ---- a deed that was accepted, before it is known whether the next line withdraws it

abbrev pub IsAccepted : Carried → Type 0
IsAccepted one = is_accepted (view one.reply) ≡ true

abbrev pub open_entries : Option Carried → List Entry
open_entries None = []
open_entries (Some one) = carried one.receipt (deed_of one.deed) (view one.reply) ∷ []

abbrev pub answered_of : Option Carried → List Answered
answered_of None = []
answered_of (Some one) = record {
  number = one.receipt.number;
  deed = deed_of one.deed;
  reply = view one.reply;
} ∷ []

abbrev pub if_accepted : Carried → Option Carried
if_accepted one = if is_accepted (view one.reply) then Some one else None
