-- What is read after edits was read before them, or is one of the rows that they put; and what no edit takes stays.
use Rattle.std.proofs.Common.{◌≡◌, ℕ, Bool, true, false, cond, ◌||◌, List, [], ◌∷◌, ◌++◌, map, Option, Some, None, refl, sym, ◌∙◌, ap, subst, ◌⊎◌, inl, inr, ⊎_elim}
use Rattle.clr_rules.proofs.Common.{AllByRecursion, same_Some, Grid, section_names, has_name, PointRow, Action, Edit, PutHold, TakeHold, PutRecord, PutStep, AddSection, AddPoint, HoldKind, Tested}
use Rattle.clr_rules.proofs.Common.{Record, StepRow, Id, same_id, Register, record_of, present_steps, step_at, has_hold, hold_of, after_edit, after_edits}
use Rattle.std.proofs.Math.Bool.{or-true}
use Rattle.clr_rules.specs.Changes.{added_edits, edits_by, new_section, point_edits, put_steps, with_record, with_step}
use Rattle.clr_rules.specs.laws.Edits.{is_hold}
use Rattle.clr_rules.proofs.edits.EditReading.{has_hold-put, has_hold-taken, record_of-put}
use Rattle.clr_order.specs.declared.action.Action.TheVariants as actions

-- edits of a record that is found, and of its step
pub by_record : (T : List Edit → Type 0) → T [] → (R : Register) (c : Id) (edits : Record → List Edit)
    → ((r : Record) → record_of R.records c ≡ Some r → T (edits r)) → T (with_record R c edits)
by_record T none R c edits each = at (record_of R.records c) refl
  where
    at : (found : Option Record) → record_of R.records c ≡ found → T (edits_by found edits)
    at None is = none
    at (Some r) is = each r is

pub by_step : (T : List Edit → Type 0) → T [] → (R : Register) (c : Id) (n : ℕ) (edits : Record → StepRow → List Edit)
    → ((r : Record) (row : StepRow) → record_of R.records c ≡ Some r → step_at (present_steps R.steps c) n ≡ Some row → T (edits r row)) → T (with_step R c n edits)
by_step T none R c n edits each = by_record T none R c (λ r. edits_by (step_at (present_steps R.steps c) n) (edits r)) (λ r found. at r found (step_at (present_steps R.steps c) n) refl)
  where
    at : (r : Record) → record_of R.records c ≡ Some r → (step : Option StepRow) → step_at (present_steps R.steps c) n ≡ step → T (edits_by step (edits r))
    at r found None is = none
    at r found (Some row) is = each r row found is

-- edits that add a point, and the section before it where that is new
pub by_added : (T : List Edit → Type 0) → (R : Register) (p : PointRow) → T (AddPoint p ∷ []) → T (AddSection (new_section p.to_end) ∷ AddPoint p ∷ []) → T (added_edits R p)
by_added T R p known new = at (has_name (section_names (Grid.sections R.net)) p.to_end)
  where
    at : (b : Bool) → T (cond b (AddPoint p ∷ []) (AddSection (new_section p.to_end) ∷ AddPoint p ∷ []))
    at true = known
    at false = new

-- ---- what is put

-- each record that is put is such, and so is each step; of other edits nothing is said
abbrev pub AllPutSuch : (Record → Type 0) → (StepRow → Type 0) → List Edit → Type 0
AllPutSuch P Q [] = Unit {0}
AllPutSuch P Q (PutRecord r ∷ edits) = P r × AllPutSuch P Q edits
AllPutSuch P Q (PutStep row ∷ edits) = Q row × AllPutSuch P Q edits
AllPutSuch P Q (_ ∷ edits) = AllPutSuch P Q edits

-- any row is such
abbrev pub AnyStep : StepRow → Type 0
AnyStep row = Unit {0}

module _ (P : Record → Type 0) (Q : StepRow → Type 0) where
  pub steps_put : (rows : List StepRow) → AllByRecursion Q rows → AllPutSuch P Q (put_steps rows)
  steps_put [] h = tt
  steps_put (row ∷ rows) h = (h.0, steps_put rows h.1)

  pub takes_put : (d : Id) (places : List (List ℕ)) (rest : List Edit) → AllPutSuch P Q rest
      → AllPutSuch P Q (map (λ place. TakeHold (hold_of d Tested place)) places ++ rest)
  takes_put d [] rest h = h
  takes_put d (place ∷ places) rest h = takes_put d places rest h

  -- the edits of a step that is reported done put one record and one step
  pub done_put : (switching : Bool) (d : Id) (a : Action) (p : List ℕ) (s : Record) (row : StepRow) → P s → Q row
      → AllPutSuch P Q (point_edits switching d a p ++ PutRecord s ∷ PutStep row ∷ [])
  done_put true d actions.Open p s row h k = (h, (k, tt))
  done_put false d actions.Open p s row h k = (h, (k, tt))
  done_put switching d _ p s row h k = (h, (k, tt))

  -- a record that is read after edits was read before them, or is such as they put
  pub record_after : (edits : List Edit) (R : Register) (c : Id) (s : Record) → AllPutSuch P Q edits → record_of (Register.records (after_edits edits R)) c ≡ Some s
      → (record_of R.records c ≡ Some s) ⊎ P s
  unfolding after_edits
  record_after [] R c s such read = inl read
  record_after (PutRecord r ∷ edits) R c s such read = ⊎_elim at (λ h. inr h) (record_after edits (after_edit (PutRecord r) R) c s such.1 read)
    where
      at : record_of (Register.records (after_edit (PutRecord r) R)) c ≡ Some s → (record_of R.records c ≡ Some s) ⊎ P s
      at read = by_id (same_id r.id c) (sym (record_of-put r c R.records) ∙ read)
        where
          by_id : (b : Bool) → cond b (Some r) (record_of R.records c) ≡ Some s → (record_of R.records c ≡ Some s) ⊎ P s
          by_id true is = inr (subst P (same_Some r s is) such.0)
          by_id false is = inl is
  record_after (PutStep row ∷ edits) R c s such read = record_after edits (after_edit (PutStep row) R) c s such.1 read
  record_after (edit ∷ edits) R c s such read = record_after edits (after_edit edit R) c s such read

-- ---- holds that stay

-- an edit does not take a hold
abbrev pub Leaves : Id → HoldKind → List ℕ → Edit → Type 0
Leaves c kind place (TakeHold h) = is_hold h c kind place ≡ false
Leaves c kind place _ = Unit {0}

abbrev pub AllLeave : Id → HoldKind → List ℕ → List Edit → Type 0
AllLeave c kind place edits = AllByRecursion (Leaves c kind place) edits

module _ (c : Id) (kind : HoldKind) (place : List ℕ) where
  left_by : (edit : Edit) (R : Register) → Leaves c kind place edit → has_hold R.holds c kind place ≡ true → has_hold (Register.holds (after_edit edit R)) c kind place ≡ true
  left_by (TakeHold h) R leaves has = has_hold-taken h R.holds c kind place ∙ rw (leaves, has) refl
  left_by (PutHold h) R leaves has = has_hold-put h R.holds c kind place ∙ ap (λ b. is_hold h c kind place || b) has ∙ or-true (is_hold h c kind place)
  left_by _ R leaves has = has

  pub left_by_all : (edits : List Edit) (R : Register) → AllLeave c kind place edits → has_hold R.holds c kind place ≡ true
      → has_hold (Register.holds (after_edits edits R)) c kind place ≡ true
  unfolding after_edits
  left_by_all [] R leave has = has
  left_by_all (edit ∷ edits) R leave has = left_by_all edits (after_edit edit R) leave.1 (left_by edit R leave.0 has)
