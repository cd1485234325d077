-- What agreement near a clearance is kept by, as laws: edits change what is near it exactly by
-- those of them that concern it.
use Rattle.std.specs.Prelude.{◌≡◌, ℕ, Bool, true, false, not, ◌&&◌, List, [], ◌∷◌, filter, All}
use Rattle.std.specs.Prelude.{Some}
use Rattle.clr_rules.specs.Prelude.{touches, Grid, same_name, has_name, Edit, SetPosition, SetHand}
use Rattle.clr_rules.specs.Prelude.{PutHold, TakeHold, PutRecord, PutStep, AddSection, AddPoint}
use Rattle.clr_rules.specs.Prelude.{Record, Id, same_id, Register, after_edit, after_edits}
use Rattle.clr_rules.specs.Agreement.{Agree, part_near}
use Rattle.clr_rules.specs.laws.Edits.{adds_nothing}
use Rattle.clr_rules.specs.Fences.{touching_names}
use Rattle.clr_rules.specs.Good.{ListsAreInOrder, has_record}
use Rattle.clr_rules.specs.Holds.{is_near_hold}
use Rattle.clr_rules.specs.Shown.{is_mark, marks_of}

-- agreement is reflexive, symmetric and transitive
abbrev pub EachAgreesWithItself : Type 0
EachAgreesWithItself = (c : Id) (inside : List ℕ → Bool) (R : Register) → Agree c inside R R

abbrev pub AgreementGoesBothWays : Type 0
AgreementGoesBothWays =
    (c : Id) (inside : List ℕ → Bool) (R S : Register) → Agree c inside R S → Agree c inside S R

abbrev pub AgreementIsHandedOn : Type 0
AgreementIsHandedOn =
    (c : Id) (inside : List ℕ → Bool) (R S T : Register) → Agree c inside R S → Agree c inside S T
    → Agree c inside R T

-- ---- which edits concern a clearance

-- whether an edit is about a clearance: its record, a step of it, or a hold of it
abbrev pub is_about : Id → Edit → Bool
is_about c (SetPosition point position) = false
is_about c (SetHand point hand) = false
is_about c (PutHold h) = same_id c h.id
is_about c (TakeHold h) = same_id c h.id
is_about c (PutRecord r) = same_id c r.id
is_about c (PutStep row) = same_id c row.id
is_about c (AddSection row) = false
is_about c (AddPoint p) = false

-- whether an edit concerns what is near a clearance: a mark, or the clearance's record, a step
-- or a crew of it
abbrev pub concerns : Id → (List ℕ → Bool) → (List ℕ → Bool) → Edit → Bool
concerns c inside beside (SetPosition point position) = beside point
concerns c inside beside (SetHand point hand) = beside point
concerns c inside beside (PutHold h) = is_near_hold inside beside (Some c) h
concerns c inside beside (TakeHold h) = is_near_hold inside beside (Some c) h
concerns c inside beside (PutRecord r) = same_id c r.id
concerns c inside beside (PutStep row) = same_id c row.id
concerns c inside beside (AddSection row) = inside row.name
concerns c inside beside (AddPoint p) = touches inside p

abbrev pub concerning : Grid → Id → (List ℕ → Bool) → List Edit → List Edit
concerning g c inside edits = filter (concerns c inside (has_name (touching_names g inside))) edits

-- whether an edit gives a requester a clearance that has no record yet
abbrev pub is_new_of : List Record → List ℕ → Edit → Bool
is_new_of records requester (PutRecord r) =
    same_name requester r.id.requester && not (has_record records r.id)
is_new_of records requester edit = false

-- an edit that leaves a clearance alone: it is not about it, no mark on the set, and gives its
-- requester no new clearance
pub record LeavesAlone (c : Id) (inside : List ℕ → Bool) (R : Register) (edit : Edit) : Type 0 where
  pub of_others : is_about c edit ≡ false
  pub no_mark : is_mark R.net inside edit ≡ false
  pub no_new_number : is_new_of R.records c.requester edit ≡ false

-- ---- what edits do to what is near a clearance, and to agreement

-- edits change what is near a clearance exactly by those of them that concern it
abbrev pub EditsChangeWhatTheyConcern : Type 0
EditsChangeWhatTheyConcern =
    (R : Register) → ListsAreInOrder R → (c : Id) (inside : List ℕ → Bool) (edits : List Edit)
    → adds_nothing edits ≡ true
    → part_near (after_edits edits R) c inside
    ≡ after_edits (concerning R.net c inside edits) (part_near R c inside)

-- edits that are not about a clearance change what is near it exactly by their marks
abbrev pub OthersChangeByMarks : Type 0
OthersChangeByMarks =
    (R : Register) → ListsAreInOrder R → (c : Id) (inside : List ℕ → Bool) (edits : List Edit)
    → adds_nothing edits ≡ true
    → All (λ edit. is_about c edit ≡ false) edits
    → part_near (after_edits edits R) c inside
    ≡ after_edits (marks_of R.net inside edits) (part_near R c inside)

-- some edits change what is near a clearance exactly by their marks
abbrev pub ChangesByMarks : Register → Id → (List ℕ → Bool) → List Edit → Type 0
ChangesByMarks R c inside edits =
    part_near (after_edits edits R) c inside
    ≡ after_edits (marks_of R.net inside edits) (part_near R c inside)

-- an edit that leaves a clearance alone keeps agreement, and so does a list of such edits
abbrev pub AnEditOfOthersKeepsAgreement : Type 0
AnEditOfOthersKeepsAgreement =
    (R : Register) → ListsAreInOrder R → (c : Id) (inside : List ℕ → Bool) (edit : Edit)
    → ChangesByMarks R c inside (edit ∷ []) → LeavesAlone c inside R edit
    → Agree c inside R (after_edit edit R)

abbrev pub EditsOfOthersKeepAgreement : Type 0
EditsOfOthersKeepAgreement =
    (R : Register) → ListsAreInOrder R → (c : Id) (inside : List ℕ → Bool) (edits : List Edit)
    → ChangesByMarks R c inside edits → All (LeavesAlone c inside R) edits
    → Agree c inside R (after_edits edits R)

-- registers that agree take the same edits for marks
abbrev pub AgreeingRegistersMarkAlike : Type 0
AgreeingRegistersMarkAlike = (R S : Register) (c : Id) (inside : List ℕ → Bool) → Agree c inside R S
    → (edits : List Edit) → marks_of R.net inside edits ≡ marks_of S.net inside edits

-- registers that agree still do after edits of others that leave the same marks in both
abbrev pub SameMarksKeepAgreement : Type 0
SameMarksKeepAgreement =
    (R S : Register) → ListsAreInOrder R → ListsAreInOrder S
    → (c : Id) (inside : List ℕ → Bool) (left right : List Edit)
    → All (λ edit. is_about c edit ≡ false) left
    → All (λ edit. is_new_of R.records c.requester edit ≡ false) left
    → All (λ edit. is_about c edit ≡ false) right
    → All (λ edit. is_new_of S.records c.requester edit ≡ false) right
    → ChangesByMarks R c inside left → ChangesByMarks S c inside right
    → marks_of R.net inside left ≡ marks_of S.net inside right
    → Agree c inside R S → Agree c inside (after_edits left R) (after_edits right S)

-- and after the same edits, whatever these are about
abbrev pub SameEditsKeepAgreement : Type 0
SameEditsKeepAgreement =
    (R S : Register) → ListsAreInOrder R → ListsAreInOrder S
    → (c : Id) (inside : List ℕ → Bool) (edits : List Edit) → adds_nothing edits ≡ true
    → Agree c inside R S → Agree c inside (after_edits edits R) (after_edits edits S)
