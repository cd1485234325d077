-- What is read of steps and holds after edits, by what each of them puts.
use Rattle.std.proofs.Common.{◌≡◌, ℕ, Bool, true, false, not, ◌||◌, List, [], ◌∷◌, Some, find, is_some, All, Contains, refl, sym, ◌∙◌, ap, subst, arith, inl, inr}
use Rattle.std.specs.List.{AllByRecursion, list_any}
use Rattle.std.specs.Ordering.{is_eq}
use Rattle.std.proofs.lemmas.Bool.{and_parts, both_ways, not-true, false≢true, false_from_ne_true}
use Rattle.std.proofs.lemmas.List.Elements.{All-cons, All-contains, All-nil}
use Rattle.clr_order.proofs.Finds.{found_passes}
use Rattle.clr_rules.specs.Steps.{is_of_round}
use Rattle.clr_net.proofs.Walks.{any_from}
use Rattle.clr_shelf.proofs.Groups.{All-with_row}
use Rattle.clr_shelf.proofs.Keys.{equal}
use Rattle.clr_shelf.specs.Rows.{in_key_order}
use Rattle.clr_rules.specs.laws.Edits.{is_hold}
use Rattle.clr_rules.specs.Good.{ListsAreInOrder}
use Rattle.clr_rules.specs.Hold.{same_hold}
use Rattle.clr_rules.specs.Prelude.{id_cmp, id_cmp_total, record_key}
use Rattle.clr_rules.specs.Prelude.{Edit, PutHold, TakeHold, PutRecord, PutStep, Hold, HoldKind, Record, StepRow, Id, Register}
use Rattle.clr_rules.specs.Prelude.{step_key, step_key_cmp, step_key_cmp_total, all_done, is_done, is_some_step, steps_in, hold_cmp, is_point_kind, has_hold, hold_of, after_edit, after_edits}
use Rattle.clr_rules.specs.StepKey.{same_step_key}
use Rattle.clr_rules.specs.declared.step_row.StepKey.{StepKey}
use Rattle.clr_rules.proofs.edits.EditReading.{has_hold-put, has_hold-taken, has_row_put}
use Rattle.clr_rules.proofs.edits.EditedLists.{edited-in_order}
use Rattle.clr_rules.proofs.edits.PutRows.{AllPutSuch}
use Rattle.clr_rules.proofs.edits.PutSteps.{put_step}
use Rattle.clr_rules.proofs.lists.RoundSteps.{in_own_round, no_step_there, of_the_round}
use Rattle.clr_rules.proofs.good.PutHolds.{found_there, kept_there}

-- ---- lists

-- a search finds something where an element passes
pub found_any : {X : Type 0} (p : X → Bool) (xs : List X) → is_some (find p xs) ≡ list_any p xs
found_any p [] = refl
found_any p (x ∷ xs) = at (p x) refl (found_any p xs)
  where
    at : (b : Bool) → p x ≡ b → is_some (find p xs) ≡ list_any p xs → is_some (find p (x ∷ xs)) ≡ list_any p (x ∷ xs)
    at true e more = rw e refl
    at false e more = rw e more

pub finds : {X : Type 0} (p : X → Bool) (xs : List X) (x : X) → Contains xs x → p x ≡ true → is_some (find p xs) ≡ true
finds p xs x there passes = found_any p xs ∙ any_from p xs x there passes

pub some_there : (steps : List StepRow) (row : StepRow) → Contains steps row → is_some_step steps ≡ true
some_there steps row there = at (is_some_step steps) refl
  where
    at : (b : Bool) → is_some_step steps ≡ b → b ≡ true
    at true e = refl
    at false e =
        let (k, within, is) = subst (λ (rows : List StepRow). Contains rows row) (no_step_there steps e) there in
        absurd (omega arith)

-- ---- steps

module _ (X : Type 0) (P : Record → Type 0) (Q : StepRow → Type 0) (by : (row : StepRow) → Q row → X) where
  -- what each step that is put says holds where there is some step
  pub steps_say : (edits : List Edit) (R : Register) → AllPutSuch P Q edits → (is_some_step R.steps ≡ true → X)
      → is_some_step (Register.steps (after_edits edits R)) ≡ true → X
  unfolding after_edits
  steps_say [] R such before now = before now
  steps_say (PutStep row ∷ edits) R such before now = by row such.0
  steps_say (PutRecord r ∷ edits) R such before now = steps_say edits (after_edit (PutRecord r) R) such.1 before now
  steps_say (edit ∷ edits) R such before now = steps_say edits (after_edit edit R) such before now

module _ (P : Record → Type 0) (Q X : StepRow → Type 0) (by : (row : StepRow) → Q row → X row) where
  -- and what it says of itself holds of all steps, where it held of all before
  pub each_step_says : (edits : List Edit) (R : Register) → AllPutSuch P Q edits → All X R.steps → All X (Register.steps (after_edits edits R))
  unfolding after_edits
  each_step_says [] R such before = before
  each_step_says (PutStep row ∷ edits) R such before = each_step_says edits (after_edit (PutStep row) R) such.1
      (All-with_row step_key_cmp step_key step_key_cmp_total X row R.steps (by row such.0) before)
  each_step_says (PutRecord r ∷ edits) R such before = each_step_says edits (after_edit (PutRecord r) R) such.1 before
  each_step_says (edit ∷ edits) R such before = each_step_says edits (after_edit edit R) such before

module _ (P : Record → Type 0) (Q : StepRow → Type 0) (X : Record → Type 0) (by : (r : Record) → P r → X r) where
  -- so it is of records
  pub each_record_says : (edits : List Edit) (R : Register) → AllPutSuch P Q edits → All X R.records → All X (Register.records (after_edits edits R))
  unfolding after_edits
  each_record_says [] R such before = before
  each_record_says (PutRecord r ∷ edits) R such before = each_record_says edits (after_edit (PutRecord r) R) such.1
      (All-with_row id_cmp record_key id_cmp_total X r R.records (by r such.0) before)
  each_record_says (PutStep row ∷ edits) R such before = each_record_says edits (after_edit (PutStep row) R) such.1 before
  each_record_says (edit ∷ edits) R such before = each_record_says edits (after_edit edit R) such before

-- a step of the second round that is not Done
pub record StepLeft (steps : List StepRow) (c : Id) : Type 0 where
  pub row : StepRow
  pub there : Contains steps row
  pub own : row.id ≡ c
  pub round : row.round ≡ 2
  pub left : is_done row.step.state ≡ false

pub no_step_left : (steps : List StepRow) (c : Id) → StepLeft steps c → all_done (steps_in steps c 2) ≡ false
no_step_left steps c l = false_from_ne_true (all_done (steps_in steps c 2)) (λ all.
    both_ways (is_done l.row.step.state) l.left (all_pass (steps_in steps c 2) l.row all
    (subst (λ (d : Id). Contains (steps_in steps d 2) l.row) l.own (subst (λ n. Contains (steps_in steps l.row.id n) l.row) l.round (in_own_round steps l.row l.there)))))
  where
    all_pass : (rows : List StepRow) (row : StepRow) → all_done rows ≡ true → Contains rows row → is_done row.step.state ≡ true
    all_pass rows row all there = All-contains (λ (row : StepRow). is_done row.step.state ≡ true) rows row (each rows all) there
      where
        each : (rows : List StepRow) → all_done rows ≡ true → All (λ row. is_done row.step.state ≡ true) rows
        each [] all = All-nil (λ (row : StepRow). is_done row.step.state ≡ true)
        each (row ∷ rows) all = let parts = and_parts (is_done row.step.state) (all_done rows) all in
            All-cons (λ (row : StepRow). is_done row.step.state ≡ true) row rows parts.0 (each rows parts.1)

-- the first step that is not Done
pub first_left : (rows : List StepRow) → all_done rows ≡ false → (row : StepRow) × (find (λ row. not (is_done row.step.state)) rows ≡ Some row)
first_left [] h = absurd (false≢true (sym h))
first_left (row ∷ rows) h = at (is_done row.step.state) refl (first_left rows)
  where
    at : (b : Bool) → is_done row.step.state ≡ b → (all_done rows ≡ false → (left : StepRow) × (find (λ row. not (is_done row.step.state)) rows ≡ Some left))
        → (left : StepRow) × (find (λ row. not (is_done row.step.state)) (row ∷ rows) ≡ Some left)
    at false e more = (row, rw e refl)
    at true e more = let (left, found) = more (rw e at h) in (left, rw e found)

pub some_left : (steps : List StepRow) (c : Id) → all_done (steps_in steps c 2) ≡ false → StepLeft steps c
unfolding steps_in
some_left steps c h =
    let (row, found) = first_left (steps_in steps c 2) h in
    let there = found_there (λ (row : StepRow). not (is_done row.step.state)) (steps_in steps c 2) row found in
    let not_done = not-true (is_done row.step.state) (found_passes (λ (row : StepRow). not (is_done row.step.state)) (steps_in steps c 2) row found) in
    let own = All-contains (λ (row : StepRow). (row.id ≡ c) × (row.round ≡ 2)) (steps_in steps c 2) row (of_the_round steps c 2) there in
    record { row = row; there = kept_there (is_of_round c 2) steps row there; own = own.0; round = own.1; left = not_done }

-- a step that is put at another key leaves it
pub left_beside : (steps : List StepRow) (c : Id) (new : StepRow) → in_key_order step_key_cmp step_key steps ≡ true
    → (l : StepLeft steps c) → is_eq (step_key_cmp (step_key new) (step_key l.row)) ≡ false → StepLeft (put_step new steps) c
left_beside steps c new ordered l differs = record {
  row = l.row;
  there = (has_row_put step_key_cmp step_key step_key_cmp_total new steps ordered l.row).1 (inr (l.there, differs));
  own = l.own;
  round = l.round;
  left = l.left;
}

-- it stays, or another comes in its place, where no step that is put is Done
pub left_put : (steps : List StepRow) (c : Id) (new : StepRow) → in_key_order step_key_cmp step_key steps ≡ true → is_done new.step.state ≡ false
    → StepLeft steps c → StepLeft (put_step new steps) c
left_put steps c new ordered not_done l = at (is_eq (step_key_cmp (step_key new) (step_key l.row))) refl
  where
    put : Contains (put_step new steps) new
    put = (has_row_put step_key_cmp step_key step_key_cmp_total new steps ordered new).1 (inl refl)

    at : (b : Bool) → is_eq (step_key_cmp (step_key new) (step_key l.row)) ≡ b → StepLeft (put_step new steps) c
    at true same =
        let key = same_step_key (step_key new) (step_key l.row) (equal (step_key_cmp (step_key new) (step_key l.row)) same) in
        record { row = new; there = put; own = ap (λ (k : StepKey). StepKey.id k) key ∙ l.own; round = ap (λ (k : StepKey). StepKey.round k) key ∙ l.round; left = not_done }
    at false differs = left_beside steps c new ordered l differs

-- through edits
module _ (P : Record → Type 0) (Q : StepRow → Type 0) (not_done : (row : StepRow) → Q row → is_done row.step.state ≡ false) (c : Id) where
  pub left_by_edits : (edits : List Edit) (R : Register) → ListsAreInOrder R → AllPutSuch P Q edits → StepLeft R.steps c → StepLeft (Register.steps (after_edits edits R)) c
  unfolding after_edits
  left_by_edits [] R ordered such l = l
  left_by_edits (PutStep row ∷ edits) R ordered such l = left_by_edits edits (after_edit (PutStep row) R) (edited-in_order (PutStep row) R ordered) such.1
      (left_put R.steps c row ordered.steps (not_done row such.0) l)
  left_by_edits (PutRecord r ∷ edits) R ordered such l = left_by_edits edits (after_edit (PutRecord r) R) (edited-in_order (PutRecord r) R ordered) such.1 l
  left_by_edits (edit ∷ edits) R ordered such l = left_by_edits edits (after_edit edit R) (edited-in_order edit R ordered) such l

-- ---- holds at points

-- a hold that is put is at no point, or says something
abbrev pub PutsBy : Type 0 → Edit → Type 0
PutsBy X (PutHold h) = is_point_kind h.kind ≡ true → X
PutsBy X _ = Unit {0}

abbrev pub AllPutBy : Type 0 → List Edit → Type 0
AllPutBy X edits = AllByRecursion (PutsBy X) edits

module _ (X : Type 0) (c : Id) (kind : HoldKind) (p : List ℕ) (at_point : is_point_kind kind ≡ true) where
  hold_says : (edit : Edit) (R : Register) → PutsBy X edit → (has_hold R.holds c kind p ≡ true → X) → has_hold (Register.holds (after_edit edit R)) c kind p ≡ true → X
  hold_says (PutHold h) R by before now = at (is_hold h c kind p) refl (sym (has_hold-put h R.holds c kind p) ∙ now)
    where
      at : (b : Bool) → is_hold h c kind p ≡ b → (b || has_hold R.holds c kind p) ≡ true → X
      at true same has = by (ap (λ (h : Hold). is_point_kind h.kind) (same_hold h (hold_of c kind p) (equal (hold_cmp h (hold_of c kind p)) same)) ∙ at_point)
      at false other has = before has
  hold_says (TakeHold h) R by before now =
      before (and_parts (not (is_hold h c kind p)) (has_hold R.holds c kind p) (sym (has_hold-taken h R.holds c kind p) ∙ now)).1
  hold_says _ R by before now = before now

  pub holds_say : (edits : List Edit) (R : Register) → AllPutBy X edits → (has_hold R.holds c kind p ≡ true → X) → has_hold (Register.holds (after_edits edits R)) c kind p ≡ true → X
  unfolding after_edits
  holds_say [] R by before now = before now
  holds_say (edit ∷ edits) R by before now = holds_say edits (after_edit edit R) by.1 (hold_says edit R by.0 before) now
