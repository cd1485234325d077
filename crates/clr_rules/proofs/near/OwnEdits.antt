-- Registers that have the same of a clearance: its commands make the same edits, and both have the same of it after any edits.
use Rattle.std.proofs.Common.{◌≡◌, ◌∙◌, ℕ, Bool, true, false, ◌&&◌, cond, List, [], ◌∷◌, ◌++◌, map, Option, Some, None, refl, sym, ap, subst, if◌then◌else◌}
use Rattle.clr_rules.proofs.Common.{Done, filter-with_far, filter-with_inside, equal, in_key_order, with_row, edits_of, named_clearance, ListsAreInOrder, SameOwn, record_id}
use Rattle.clr_rules.specs.Changes.{cancelled_phase, done_edits, edits_by, step_moved, phase_after, point_edits, undone_edits, with_record, with_step}
use Rattle.clr_rules.specs.Prelude.{Edit, PutHold, TakeHold, PutRecord, PutStep, Kind, Tested, Phase, Released, Closed, Record, StepRow, Id, same_id, Register, record_of, is_ordered, step_key}
use Rattle.clr_rules.specs.Prelude.{step_key_cmp, step_key_cmp_total, all_done, present_steps, step_at, steps_of, has_any_hold, hold_of, holds_of, after_edit, after_edits}
use Rattle.clr_rules.specs.Records.{ends_with_steps, is_switch_order}
use Rattle.clr_rules.specs.StepKey.{same_step_key}
use Rattle.clr_rules.proofs.isolation.Agreement.{holds_of-edited, own_after}
use Rattle.clr_rules.proofs.edits.EditReading.{record_of-put}
use Rattle.clr_rules.proofs.edits.EditedLists.{edited-in_order}
use Rattle.clr_rules.proofs.near.OwnChecks.{SameOfNamed}
use Rattle.clr_rules.proofs.near.OwnQuestions.{same_any_hold, same_places, same_present}
use Rattle.clr_rules.specs.declared.command.Kind.TheVariants as kinds

-- ---- after an edit

put_step_tested : (c : Id) (row : StepRow) (steps : List StepRow) → in_key_order step_key_cmp step_key steps ≡ true → (b : Bool) → same_id c row.id ≡ b
    → steps_of (with_row step_key_cmp step_key row steps) c ≡ cond b (with_row step_key_cmp step_key row (steps_of steps c)) (steps_of steps c)
unfolding steps_of
put_step_tested c row steps ordered true is = filter-with_inside step_key_cmp step_key step_key_cmp_total (λ other. same_id c other.id) row steps is
put_step_tested c row steps ordered false is = filter-with_far step_key_cmp step_key step_key_cmp_total (λ other. same_id c other.id) row steps ordered
    (λ other tied. ap (λ key. same_id c key.id) (same_step_key (step_key other) (step_key row) (equal (step_key_cmp (step_key other) (step_key row)) tied)) ∙ is)

-- the steps of a clearance after one is put
steps_of-put : (c : Id) (row : StepRow) (steps : List StepRow) → in_key_order step_key_cmp step_key steps ≡ true
    → steps_of (with_row step_key_cmp step_key row steps) c ≡ cond (same_id c row.id) (with_row step_key_cmp step_key row (steps_of steps c)) (steps_of steps c)
steps_of-put c row steps ordered = put_step_tested c row steps ordered (same_id c row.id) refl

module _ (c : Id) where
  same_holds_after : (R S : Register) → ListsAreInOrder R → ListsAreInOrder S → SameOwn c R S → (edit : Edit)
      → holds_of (Register.holds (after_edit edit R)) c ≡ holds_of (Register.holds (after_edit edit S)) c
  same_holds_after R S R_order S_order same edit =
      holds_of-edited R R_order c edit ∙ ap (own_after c edit) same.own_holds ∙ sym (holds_of-edited S S_order c edit)

  pub same_own_edited : (R S : Register) → ListsAreInOrder R → ListsAreInOrder S → SameOwn c R S → (edit : Edit) → SameOwn c (after_edit edit R) (after_edit edit S)
  same_own_edited R S R_order S_order same (PutHold h) = record {
    staff = same.staff;
    own_record = same.own_record;
    own_steps = same.own_steps;
    own_holds = same_holds_after R S R_order S_order same (PutHold h);
  }
  same_own_edited R S R_order S_order same (TakeHold h) = record {
    staff = same.staff;
    own_record = same.own_record;
    own_steps = same.own_steps;
    own_holds = same_holds_after R S R_order S_order same (TakeHold h);
  }
  same_own_edited R S R_order S_order same (PutRecord r) = record {
    staff = same.staff;
    own_record = record_of-put r c R.records ∙ ap (λ (o : Option Record). if same_id r.id c then Some r else o) same.own_record ∙ sym (record_of-put r c S.records);
    own_steps = same.own_steps;
    own_holds = same.own_holds;
  }
  same_own_edited R S R_order S_order same (PutStep row) = record {
    staff = same.staff;
    own_record = same.own_record;
    own_steps = steps_of-put c row R.steps R_order.steps
        ∙ ap (λ (rows : List StepRow). cond (same_id c row.id) (with_row step_key_cmp step_key row rows) rows) same.own_steps
        ∙ sym (steps_of-put c row S.steps S_order.steps);
    own_holds = same.own_holds;
  }
  same_own_edited R S R_order S_order same _ = record { staff = same.staff; own_record = same.own_record; own_steps = same.own_steps; own_holds = same.own_holds }

  -- both have the same of the clearance after the same edits
  pub same_own_edited_all : (R S : Register) → ListsAreInOrder R → ListsAreInOrder S → SameOwn c R S → (edits : List Edit)
      → SameOwn c (after_edits edits R) (after_edits edits S)
  unfolding after_edits
  same_own_edited_all R S R_order S_order same [] = same
  same_own_edited_all R S R_order S_order same (edit ∷ edits) =
      same_own_edited_all (after_edit edit R) (after_edit edit S) (edited-in_order edit R R_order) (edited-in_order edit S S_order)
      (same_own_edited R S R_order S_order same edit) edits

-- ---- the edits of its commands

module _ (c : Id) (R S : Register) (R_order : ListsAreInOrder R) (S_order : ListsAreInOrder S) (same : SameOwn c R S) where
  by_record : (f g : Record → List Edit) → ((r : Record) → r.id ≡ c → f r ≡ g r) → with_record R c f ≡ with_record S c g
  by_record f g alike = at (record_of R.records c) refl ∙ ap (λ (o : Option Record). edits_by o g) same.own_record
    where
      at : (o : Option Record) → record_of R.records c ≡ o → edits_by o f ≡ edits_by o g
      at None read = refl
      at (Some r) read = alike r (record_id R.records c r read)

  only_record : (f : Record → List Edit) → with_record R c f ≡ with_record S c f
  only_record f = by_record f f (λ r own. refl)

  by_step : (n : ℕ) (f g : Record → StepRow → List Edit) → ((r : Record) (row : StepRow) → r.id ≡ c → f r row ≡ g r row) → with_step R c n f ≡ with_step S c n g
  by_step n f g alike = by_record (λ r. edits_by (step_at (present_steps R.steps c) n) (f r)) (λ r. edits_by (step_at (present_steps S.steps c) n) (g r))
      (λ r own. at r own (step_at (present_steps R.steps c) n) ∙ ap (λ (rows : List StepRow). edits_by (step_at rows n) (g r)) (same_present c R S same))
    where
      at : (r : Record) → r.id ≡ c → (o : Option StepRow) → edits_by o (f r) ≡ edits_by o (g r)
      at r own None = refl
      at r own (Some row) = alike r row own

  only_step : (n : ℕ) (f : Record → StepRow → List Edit) → with_step R c n f ≡ with_step S c n f
  only_step n f = by_step n f f (λ r row own. refl)

  same_phase_after : (r : Record) (row : StepRow) → r.id ≡ c → phase_after R.steps r row ≡ phase_after S.steps r row
  same_phase_after r row own =
      let put = same_present c (after_edit (PutStep row) R) (after_edit (PutStep row) S) (same_own_edited c R S R_order S_order same (PutStep row)) in
      let rows : present_steps (with_row step_key_cmp step_key row R.steps) r.id ≡ present_steps (with_row step_key_cmp step_key row S.steps) r.id =
      ap (present_steps (with_row step_key_cmp step_key row R.steps)) own ∙ put ∙ ap (present_steps (with_row step_key_cmp step_key row S.steps)) (sym own) in
      ap (λ (rows : List StepRow). if ends_with_steps r.phase && all_done rows then Closed else r.phase) rows

  same_done : (at : ℕ) (r : Record) (row : StepRow) → r.id ≡ c → done_edits R at r row ≡ done_edits S at r row
  same_done at r row own =
      ap (λ (phase : Phase). point_edits (is_switch_order r) r.id row.step.action row.step.point
      ++ PutRecord (record r { phase = phase; last = at }) ∷ PutStep (step_moved Done row.step.reader row) ∷ [])
      (same_phase_after r (step_moved Done row.step.reader row) own)

  same_cancelled : (r : Record) → r.id ≡ c → cancelled_phase R r ≡ cancelled_phase S r
  same_cancelled r own = ap (λ (b : Bool). if is_ordered r.phase && b then Released else Closed)
      (ap (has_any_hold R.holds) own ∙ same_any_hold c R S same ∙ ap (has_any_hold S.holds) (sym own))

  reported : (n : ℕ) (at : ℕ) (done : Bool) → with_step R c n (λ r row. if done then done_edits R at r row else undone_edits at r row)
      ≡ with_step S c n (λ r row. if done then done_edits S at r row else undone_edits at r row)
  reported n at true = by_step n (λ r row. done_edits R at r row) (λ r row. done_edits S at r row) (same_done at)
  reported n at false = only_step n (λ r row. undone_edits at r row)

-- a command that names the clearance makes the same edits
pub same_edits : (R S : Register) → ListsAreInOrder R → ListsAreInOrder S → (greatest : ℕ) (by : List ℕ) (at : ℕ) (kind : Kind) → SameOfNamed R S (named_clearance kind)
    → edits_of greatest R by at kind ≡ edits_of greatest S by at kind
same_edits R S R_order S_order greatest by at (kinds.Request section) same = absurd same
same_edits R S R_order S_order greatest by at (kinds.Switch tasks) same = absurd same
same_edits R S R_order S_order greatest by at (kinds.Jumper point from to lockable remote) same = absurd same
same_edits R S R_order S_order greatest by at (kinds.Instruct c n) same = only_step c R S R_order S_order same n _
same_edits R S R_order S_order greatest by at (kinds.Repeat c n text) same = only_step c R S R_order S_order same n _
same_edits R S R_order S_order greatest by at (kinds.Report c n done) same = reported c R S R_order S_order same n at done
same_edits R S R_order S_order greatest by at (kinds.Release c notified clear) same = by_record c R S R_order S_order same _ _
    (λ r own. ap (λ (places : List (List ℕ)). map (λ place. TakeHold (hold_of c Tested place)) places ++ PutRecord (record r { phase = Released; last = at }) ∷ []) (same_places c R S same Tested))
same_edits R S R_order S_order greatest by at (kinds.Cancel c) same = by_record c R S R_order S_order same _ _
    (λ r own. ap (λ (phase : Phase). PutRecord (record r { phase = phase; last = at }) ∷ []) (same_cancelled c R S R_order S_order same r own))
same_edits R S R_order S_order greatest by at (kinds.Amend c n) same = only_step c R S R_order S_order same n _
same_edits R S R_order S_order greatest by at (kinds.Show c) same = refl
same_edits R S R_order S_order greatest by at _ same = only_record _ R S R_order S_order same _

pub edits_of_own : (c : Id) (R S : Register) → ListsAreInOrder R → ListsAreInOrder S → SameOwn c R S
    → (greatest : ℕ) (by : List ℕ) (at : ℕ) (kind : Kind) → named_clearance kind ≡ Some c → edits_of greatest R by at kind ≡ edits_of greatest S by at kind
edits_of_own c R S R_order S_order same greatest by at kind named =
    same_edits R S R_order S_order greatest by at kind (subst (SameOfNamed R S) (sym named) same)
