-- WHAT A RUN SHOWS A CLEARANCE: its own commands, and the marks that others leave in its fence.
use Rattle.std.specs.Prelude.{ℕ, Bool, false, ◌&&◌, if◌then◌else◌, List, [], ◌∷◌, ◌++◌, filter}
use Rattle.std.specs.Prelude.{find, Option, None, Some}
use Rattle.clr_rules.specs.Prelude.{list_all, touches, Grid, same_name, has_name, SectionRow, Edit}
use Rattle.clr_rules.specs.Prelude.{SetPosition, SetHand, PutHold, TakeHold, PutRecord, PutStep}
use Rattle.clr_rules.specs.Prelude.{AddSection, AddPoint, Command, Kind, Record, Id, same_id}
use Rattle.clr_rules.specs.Prelude.{Register, record_of, Request, Order}
use Rattle.clr_rules.specs.Answer.{Answer, answer}
use Rattle.clr_rules.specs.Command.{named_clearance}
use Rattle.clr_rules.specs.Fences.{clearance_fence, order_fence, touching_names}
use Rattle.clr_rules.specs.Holds.{is_near_hold}
use Rattle.clr_rules.specs.Records.{is_requested}
use Rattle.clr_rules.specs.Run.{after}

-- whether a command that names no clearance is a request of this requester
abbrev pub is_request_of : List ℕ → List ℕ → Kind → Bool
is_request_of requester caller (Request section) = same_name requester caller
is_request_of requester caller kind = false

abbrev pub is_own_kind : Id → List ℕ → Kind → Option Id → Bool
is_own_kind c caller kind (Some d) = same_id c d
is_own_kind c caller kind None = is_request_of c.requester caller kind

-- the own commands of a clearance: those that name it, and each request of its requester
abbrev pub is_own_command : Id → Command → Bool
is_own_command c q = is_own_kind c q.caller q.kind (named_clearance q.kind)

-- an edit is a mark where it concerns a section inside, or a point with an end inside, which an
-- added point has by its own row. A record, a step and a crew are none
abbrev pub is_mark : Grid → (List ℕ → Bool) → Edit → Bool
is_mark g inside (SetPosition point position) = has_name (touching_names g inside) point
is_mark g inside (SetHand point hand) = has_name (touching_names g inside) point
is_mark g inside (PutHold h) = is_near_hold inside (has_name (touching_names g inside)) None h
is_mark g inside (TakeHold h) = is_near_hold inside (has_name (touching_names g inside)) None h
is_mark g inside (PutRecord r) = false
is_mark g inside (PutStep row) = false
is_mark g inside (AddSection row) = inside row.name
is_mark g inside (AddPoint p) = touches inside p

abbrev pub marks_of : Grid → (List ℕ → Bool) → List Edit → List Edit
marks_of g inside edits = filter (is_mark g inside) edits

-- the row of the section that a request asks for, if there is one
abbrev pub asked_row : Register → Kind → Option SectionRow
asked_row R (Request section) = find (λ row. same_name section row.name) (Grid.sections R.net)
asked_row R kind = None

-- the sections that a clearance's own requests ask for
abbrev pub asked_of : Kind → List (List ℕ)
asked_of (Request section) = section ∷ []
asked_of kind = []

unfoldable pub asked_sections : Id → List Command → List (List ℕ)
asked_sections c [] = []
asked_sections c (q ∷ commands) =
    if is_own_command c q then asked_of q.kind ++ asked_sections c commands
    else asked_sections c commands

-- the sections that edits add, and those that a run adds
abbrev pub section_of : Edit → List (List ℕ)
section_of (AddSection row) = row.name ∷ []
section_of edit = []

unfoldable pub sections_of : List Edit → List (List ℕ)
sections_of [] = []
sections_of (edit ∷ edits) = section_of edit ++ sections_of edits

unfoldable pub added_sections : Register → List Command → List (List ℕ)
added_sections R [] = []
added_sections R (q ∷ commands) =
    sections_of (Answer.edits (answer R q)) ++ added_sections (after R q) commands

-- what is shown: an own command, with the row that it asks for; or the marks of another command, at
-- least one
pub data Item : Type 0 where
  own : Command → Option SectionRow → Item
  marks : Edit → List Edit → Item

-- marks come into the list where there are any
abbrev pub with_marks : List Edit → List Item → List Item
with_marks [] items = items
with_marks (edit ∷ edits) items = marks edit edits ∷ items

abbrev pub shown_first : Id → (List ℕ → Bool) → Register → Command → List Item → List Item
shown_first c inside R q items =
    if is_own_command c q then own q (asked_row R q.kind) ∷ items
    else with_marks (marks_of R.net inside (Answer.edits (answer R q))) items

-- WHAT A RUN SHOWS
unfoldable pub items_shown : Id → (List ℕ → Bool) → Register → List Command → List Item
items_shown c inside R [] = []
items_shown c inside R (q ∷ commands) =
    shown_first c inside R q (items_shown c inside (after R q) commands)

-- the answers to its own commands
unfoldable pub own_answers : Id → Register → List Command → List Answer
own_answers c R [] = []
own_answers c R (q ∷ commands) =
    if is_own_command c q then answer R q ∷ own_answers c (after R q) commands
    else own_answers c (after R q) commands

abbrev pub found_phase_requested : Option Record → Bool
found_phase_requested None = false
found_phase_requested (Some r) = is_requested r.phase

-- the fence that a command would make for a clearance: that of an order of it while it is Requested
abbrev pub fence_to_come : Id → Register → Kind → List (List ℕ)
fence_to_come c R (Order d points tasks) =
    if same_id c d && found_phase_requested (record_of R.records c) then order_fence R c points
    else []
fence_to_come c R kind = []

abbrev pub includes : (List ℕ → Bool) → List (List ℕ) → Bool
includes inside names = list_all inside names

-- A SET COVERS A RUN: at each place it includes the clearance's fence, and the fence that an order
-- of it would make
unfoldable pub covers : Id → (List ℕ → Bool) → Register → List Command → Bool
covers c inside R [] = includes inside (clearance_fence R c)
covers c inside R (q ∷ commands) =
    (includes inside (clearance_fence R c) && includes inside (fence_to_come c R q.kind))
    && covers c inside (after R q) commands
