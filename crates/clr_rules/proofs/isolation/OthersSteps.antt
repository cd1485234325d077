-- Registers that agree near a clearance still do after commands of others.
use Rattle.std.proofs.Common.{◌≡◌, ℕ, Bool, true, false, cond, ◌&&◌, not, List, [], ◌∷◌, Option, Some, None, is_some, refl, sym, ◌∙◌, ap, subst, Contains}
use Rattle.std.proofs.lemmas.Bool.{and_parts, both_ways, false≢true, false_from_ne_true, not-true, not-false, not_from_false, or_left, or_parts, or_right}
use Rattle.std.proofs.lemmas.List.Elements.{All-contains_itself, All-nil, All-weaker}
use Rattle.clr_net.specs.Additions.{fits_point, fits_section, with_section}
use Rattle.clr_rules.proofs.Common.{Grid, section_names, same_name, has_name, PointRow, one_name, StaffRow, Task, list_all-contains, Agree, Answer, answer, first_refusal, known_of, answer_by_checks}
use Rattle.clr_rules.proofs.Common.{Known, checks, is_jumper, named_clearance, refusal_of, fit, after, Jumper, Request, Switch, one_id, own_id}
use Rattle.clr_rules.proofs.edits.AddedEdits.{added_edits_fit, jumper_can}
use Rattle.clr_rules.proofs.edits.PlainEdits.{answers_plain}
use Rattle.clr_rules.proofs.good.Keeping.{asked}
use Rattle.clr_rules.proofs.isolation.Additions.{added_points_are_free, additions_change_by_marks}
use Rattle.clr_rules.proofs.isolation.Agreement.{no_marks, agrees_on, agrees_with_itself, same_edits_agree, same_marks_agree}
use Rattle.clr_rules.proofs.isolation.PartEdits.{others_change_by_marks}
use Rattle.clr_rules.specs.laws.Agreement.{ChangesByMarks, is_about, is_new_of}
use Rattle.clr_rules.specs.laws.Additions.{IsFree}
use Rattle.clr_rules.specs.Changes.{new_jumper, new_section}
use Rattle.clr_rules.specs.Checks.{employee, has_role, is_operator, refuse, where_some}
use Rattle.clr_rules.specs.Prelude.{Edit, SetPosition, SetHand, PutHold, TakeHold, PutRecord, PutStep, AddSection, AddPoint, Command, Kind, Record, Refusal, Id, same_id, Register, after_edits}
use Rattle.clr_rules.specs.Prelude.{UnknownCaller, WrongRole}
use Rattle.clr_rules.specs.Footprint.{spares}
use Rattle.clr_rules.specs.laws.Frame.{HandsMatchToReport}
use Rattle.clr_rules.specs.Good.{IsGoodAsSaid, ListsAreInOrder, PointsAreKnown, has_record, is_operators}
use Rattle.clr_rules.specs.Isolation.{AreAlike, PointsAreKnownToJumper, is_about_another, is_others}
use Rattle.clr_rules.specs.Shown.{is_own_command, is_own_kind, marks_of}
use Rattle.clr_rules.specs.laws.Steps.{AreOfOthers}
use Rattle.clr_rules.proofs.isolation.OthersEdits.{others_edits_spare}
use Rattle.clr_rules.proofs.edits.Passing.{all_pass, named_recorded, not_refused_true}

-- ---- who gives a command of others

-- a caller who is known and has the role has it in the staff
has_role_from : (found : Option StaffRow) → refuse (not (is_some found)) UnknownCaller ≡ None
    → where_some found (λ row. refuse (not (is_operator row.role)) WrongRole) ≡ None → has_role is_operator found ≡ true
has_role_from None known fit = absurd (false≢true (not_refused_true false UnknownCaller known))
has_role_from (Some row) known fit = not_refused_true (is_operator row.role) WrongRole fit

module _ (c : Id) (R : Register) (no_operator : is_operators R c.requester ≡ false) (k : Known) (by : List ℕ) (at : ℕ) where
  -- an operator is not the requester of the clearance
  operator_is_another : is_operators R by ≡ true → same_name c.requester by ≡ false
  operator_is_another operator = false_from_ne_true (same_name c.requester by) (λ same.
      both_ways (is_operators R c.requester) no_operator (ap (is_operators R) (one_name c.requester by same) ∙ operator))

  -- who gives an accepted switch order is one, and who lays a jumper
  switcher_is_another : (tasks : List Task) → first_refusal (checks k R by at (Switch tasks)) ≡ None → same_name c.requester by ≡ false
  switcher_is_another tasks passed =
      let pass = all_pass (checks k R by at (Switch tasks)) passed in
      operator_is_another (has_role_from (employee R.staff by) (search pass) (search pass))

  -- who gives an accepted command of others that makes a new clearance is another than the requester
  caller_is_another : (kind : Kind) → named_clearance kind ≡ None → is_own_kind c by kind None ≡ false → first_refusal (checks k R by at kind) ≡ None
      → same_name c.requester by ≡ false
  caller_is_another (Request section) none others passed = others
  caller_is_another (Switch tasks) none others passed = switcher_is_another tasks passed
  caller_is_another (Jumper point from to lockable remote) none others passed =
      let pass = all_pass (checks k R by at (Jumper point from to lockable remote)) passed in
      operator_is_another (has_role_from (employee R.staff by) (search pass) (search pass))
  caller_is_another _ none others passed = cc

  -- so an accepted command of others is about another clearance
  about_another : (kind : Kind) (named : Option Id) → named_clearance kind ≡ named → is_own_kind c by kind named ≡ false → first_refusal (checks k R by at kind) ≡ None
      → is_about_another c R by named ≡ true
  about_another kind None is others passed = or_left _ _ (not_from_false _ (caller_is_another kind is others passed))
  about_another kind (Some d) is others passed = not_from_false _ others

  -- and a clearance of the requester that it is about has a record
  has_record_there : (d : Id) → same_name c.requester d.requester ≡ true → (kind : Kind) (named : Option Id) → named_clearance kind ≡ named
      → is_own_kind c by kind named ≡ false → first_refusal (checks k R by at kind) ≡ None → is_about_another d R by named ≡ false → has_record R.records d ≡ true
  has_record_there d own kind None is others passed about =
      let parts = or_parts (not (same_name d.requester by)) (has_record R.records d) about in
      let caller : same_name d.requester by ≡ true = not-false (same_name d.requester by) parts.0 in
      absurd (both_ways (same_name c.requester by) (caller_is_another kind is others passed)
      (ap (λ (n : List ℕ). same_name n by) (one_name c.requester d.requester own) ∙ caller))
  has_record_there d own kind (Some e) is others passed about =
      ap (has_record R.records) (one_id d e (not-false (same_id d e) about)) ∙ named_recorded k R by at kind e passed is

-- ---- the edits of a command of others

spared_is_not_about : (c : Id) (R : Register) (edit : Edit) → spares c R edit ≡ true → is_about c edit ≡ false
spared_is_not_about c R (SetPosition point position) spared = refl
spared_is_not_about c R (SetHand point hand) spared = refl
spared_is_not_about c R (PutHold h) spared = not-true (same_id c h.id) spared
spared_is_not_about c R (TakeHold h) spared = not-true (same_id c h.id) spared
spared_is_not_about c R (PutRecord r) spared = not-true (same_id c r.id) spared
spared_is_not_about c R (PutStep row) spared = not-true (same_id c row.id) spared
spared_is_not_about c R (AddSection row) spared = refl
spared_is_not_about c R (AddPoint p) spared = refl

module _ (c : Id) (R : Register) (q : Command) (matches : HandsMatchToReport R q) (known : PointsAreKnownToJumper R q) (no_operator : is_operators R c.requester ≡ false)
    (others : is_own_command c q ≡ false) (passed : first_refusal (checks (known_of R q) R q.caller q.moment q.kind) ≡ None) where
  -- a record of the requester that is put was there: the command is about it
  put_was_there : (r : Record) → Contains (Answer.edits (answer R q)) (PutRecord r) → same_name c.requester r.id.requester ≡ true → has_record R.records r.id ≡ true
  put_was_there r there own = has_record_there c R no_operator (known_of R q) q.caller q.moment r.id own q.kind (named_clearance q.kind) refl others passed
      (or_parts (is_jumper q.kind) (is_about_another r.id R q.caller (named_clearance q.kind)) (false_from_ne_true (is_others r.id R q) (λ another.
      both_ways (same_id r.id r.id) (not-true (same_id r.id r.id)
      (list_all-contains (spares r.id R) (Answer.edits (answer R q)) (PutRecord r) (others_edits_spare R r.id q matches known another) there)) (own_id r.id)))).1

  known_put : (r : Record) → Contains (Answer.edits (answer R q)) (PutRecord r) → is_new_of R.records c.requester (PutRecord r) ≡ false
  known_put r there = false_from_ne_true (is_new_of R.records c.requester (PutRecord r)) (λ new.
      let parts = and_parts (same_name c.requester r.id.requester) (not (has_record R.records r.id)) new in
      both_ways (has_record R.records r.id) (not-true (has_record R.records r.id) parts.1) (put_was_there r there parts.0))

  not_new : (edit : Edit) → Contains (Answer.edits (answer R q)) edit → is_new_of R.records c.requester edit ≡ false
  not_new (PutRecord r) there = known_put r there
  not_new _ there = refl

  accepted_of_others : AreOfOthers c R q
  accepted_of_others =
      let another = about_another c R no_operator (known_of R q) q.caller q.moment q.kind (named_clearance q.kind) refl others passed in
      let all = others_edits_spare R c q matches known (or_right (is_jumper q.kind) _ another) in
      record {
        of_others = All-weaker (Contains (Answer.edits (answer R q))) (λ edit. is_about c edit ≡ false)
            (λ edit there. spared_is_not_about c R edit (list_all-contains (spares c R) (Answer.edits (answer R q)) edit all there))
            (Answer.edits (answer R q)) (All-contains_itself (Answer.edits (answer R q)));
        no_new_number = All-weaker (Contains (Answer.edits (answer R q))) (λ edit. is_new_of R.records c.requester edit ≡ false) not_new
            (Answer.edits (answer R q)) (All-contains_itself (Answer.edits (answer R q)));
      }

refused_of_others : (c : Id) (R : Register) (q : Command) → Answer.edits (answer R q) ≡ [] → AreOfOthers c R q
refused_of_others c R q none = record {
  of_others = rw none (All-nil (λ edit. is_about c edit ≡ false));
  no_new_number = rw none (All-nil (λ edit. is_new_of R.records c.requester edit ≡ false));
}

pub others_edits : (R : Register) (c : Id) (q : Command) → HandsMatchToReport R q → PointsAreKnownToJumper R q → is_operators R c.requester ≡ false → is_own_command c q ≡ false
    → AreOfOthers c R q
others_edits R c q matches known no_operator others = by (first_refusal (checks (known_of R q) R q.caller q.moment q.kind)) refl
  where
    by : (found : Option Refusal) → first_refusal (checks (known_of R q) R q.caller q.moment q.kind) ≡ found → AreOfOthers c R q
    by None passed = accepted_of_others c R q matches known no_operator others passed
    by (Some refusal) refused = refused_of_others c R q (ap (λ found. Answer.edits (answer_by_checks (known_of R q) R q found)) refused)

-- ---- what they change

-- what an answer adds is marked where it concerns what is near a clearance
module _ (R : Register) (good : IsGoodAsSaid R) (c : Id) (inside : List ℕ → Bool) where
  added_by_marks : (p : PointRow) → IsFree R p.name → (b : Bool)
      → fit R.net (cond b (AddPoint p ∷ []) (AddSection (new_section p.to_end) ∷ AddPoint p ∷ [])) ≡ true
      → ChangesByMarks R c inside (cond b (AddPoint p ∷ []) (AddSection (new_section p.to_end) ∷ AddPoint p ∷ []))
  unfolding fit
  added_by_marks p free true fits = additions_change_by_marks.point R good.network good.in_order p free c inside
  added_by_marks p free false fits =
      let row = new_section p.to_end in
      additions_change_by_marks.both R good.network good.in_order row
      (and_parts (fits_section R.net row) (fits_point (with_section row R.net) p && true) fits).0 p free c inside

  jumper_by_marks : PointsAreKnown R → (point from to : List ℕ) (lockable remote : Bool) (by : List ℕ) (at : ℕ) (found : Option Refusal)
      → refusal_of R (asked by at (Jumper point from to lockable remote)) ≡ found
      → ChangesByMarks R c inside (Answer.edits (answer_by_checks (known_of R (asked by at (Jumper point from to lockable remote))) R
      (asked by at (Jumper point from to lockable remote)) found))
  jumper_by_marks points point from to lockable remote by at None passed =
      let p = new_jumper point from to lockable remote in
      let k = known_of R (asked by at (Jumper point from to lockable remote)) in
      let can = jumper_can k R by at point from to lockable remote (all_pass (checks k R by at (Jumper point from to lockable remote)) passed) in
      added_by_marks p (added_points_are_free R good points p.name can.new) (has_name (section_names (Grid.sections R.net)) to) (added_edits_fit R good.network p can)
  jumper_by_marks points point from to lockable remote by at (Some refusal) is = no_marks R c inside

  jumpers_change_by_marks : PointsAreKnown R → (by : List ℕ) (at : ℕ) (kind : Kind) → is_jumper kind ≡ true → ChangesByMarks R c inside (Answer.edits (answer R (asked by at kind)))
  jumpers_change_by_marks points by at (Jumper point from to lockable remote) is =
      jumper_by_marks points point from to lockable remote by at (refusal_of R (asked by at (Jumper point from to lockable remote))) refl
  jumpers_change_by_marks points by at _ is = cc is

  answers_change_by_marks : (q : Command) → PointsAreKnownToJumper R q → AreOfOthers c R q → ChangesByMarks R c inside (Answer.edits (answer R q))
  answers_change_by_marks q known of = split (is_jumper q.kind) refl
    where
      split : (b : Bool) → is_jumper q.kind ≡ b → ChangesByMarks R c inside (Answer.edits (answer R q))
      split true is = jumpers_change_by_marks (known is) q.caller q.moment q.kind is
      split false is = others_change_by_marks R good.in_order c inside (Answer.edits (answer R q)) (answers_plain R q is) of.of_others

-- ---- the steps

-- the requester is an operator in neither
same_staff : (R S : Register) (c : Id) (inside : List ℕ → Bool) → Agree c inside R S → R.staff ≡ S.staff
same_staff R S c inside agree = ap (λ (P : Register). P.staff) agree.near

module _ (c : Id) (inside : List ℕ → Bool) (R S : Register) (commands : List Command) (alike : AreAlike c inside R S commands) where
  in_first : (q : Command) → PointsAreKnownToJumper R q → is_own_command c q ≡ false → AreOfOthers c R q
  in_first q known others = others_edits R c q (λ _. alike.first_good.hand_matches_step) known alike.no_operator others

  in_second : (q : Command) → PointsAreKnownToJumper S q → is_own_command c q ≡ false → AreOfOthers c S q
  in_second q known others = others_edits S c q (λ _. alike.second_good.hand_matches_step) known
      (ap (λ (staff : List StaffRow). has_role is_operator (employee staff c.requester)) (sym (same_staff R S c inside alike.agree)) ∙ alike.no_operator) others

  -- one command of others on each side, with the same marks
  pub both_step : (q p : Command) → PointsAreKnownToJumper R q → PointsAreKnownToJumper S p → is_own_command c q ≡ false → is_own_command c p ≡ false
      → marks_of R.net inside (Answer.edits (answer R q)) ≡ marks_of S.net inside (Answer.edits (answer S p)) → Agree c inside (after R q) (after S p)
  both_step q p first_known second_known q_others p_others marks =
      let left = in_first q first_known q_others in
      let right = in_second p second_known p_others in
      same_marks_agree R S alike.first_good.in_order alike.second_good.in_order c inside (Answer.edits (answer R q)) (Answer.edits (answer S p))
      left.of_others left.no_new_number right.of_others right.no_new_number
      (answers_change_by_marks R alike.first_good c inside q first_known left)
      (answers_change_by_marks S alike.second_good c inside p second_known right) marks alike.agree

  -- one on one side, without marks
  pub first_step : (q : Command) → PointsAreKnownToJumper R q → is_own_command c q ≡ false → marks_of R.net inside (Answer.edits (answer R q)) ≡ [] → Agree c inside (after R q) S
  unfolding after_edits
  first_step q known others none =
      let left = in_first q known others in
      same_marks_agree R S alike.first_good.in_order alike.second_good.in_order c inside (Answer.edits (answer R q)) []
      left.of_others left.no_new_number (All-nil (λ edit. is_about c edit ≡ false)) (All-nil (λ edit. is_new_of S.records c.requester edit ≡ false))
      (answers_change_by_marks R alike.first_good c inside q known left) (no_marks S c inside) none alike.agree

  pub second_step : (q : Command) → PointsAreKnownToJumper S q → is_own_command c q ≡ false → marks_of S.net inside (Answer.edits (answer S q)) ≡ [] → Agree c inside R (after S q)
  unfolding after_edits
  second_step q known others none =
      let right = in_second q known others in
      same_marks_agree R S alike.first_good.in_order alike.second_good.in_order c inside [] (Answer.edits (answer S q))
      (All-nil (λ edit. is_about c edit ≡ false)) (All-nil (λ edit. is_new_of R.records c.requester edit ≡ false)) right.of_others right.no_new_number
      (no_marks R c inside) (answers_change_by_marks S alike.second_good c inside q known right) (sym none) alike.agree

pub others_step : (c : Id) (inside : List ℕ → Bool) (R S : Register) (q p : Command) → AreAlike c inside R S (q ∷ []) → PointsAreKnownToJumper R q → PointsAreKnownToJumper S p
    → is_own_command c q ≡ false → is_own_command c p ≡ false
    → marks_of R.net inside (Answer.edits (answer R q)) ≡ marks_of S.net inside (Answer.edits (answer S p))
    → Agree c inside (after R q) (after S p)
others_step c inside R S q p alike = both_step c inside R S (q ∷ []) alike q p

pub lone_step : (c : Id) (inside : List ℕ → Bool) (R S : Register) (q : Command) → is_own_command c q ≡ false
    → (AreAlike c inside R S (q ∷ []) → PointsAreKnownToJumper R q → marks_of R.net inside (Answer.edits (answer R q)) ≡ [] → Agree c inside (after R q) S)
    × (AreAlike c inside R S [] → PointsAreKnownToJumper S q → marks_of S.net inside (Answer.edits (answer S q)) ≡ [] → Agree c inside R (after S q))
lone_step c inside R S q others =
    (λ alike known. first_step c inside R S (q ∷ []) alike q known others, λ alike known. second_step c inside R S [] alike q known others)

-- registers that agree and answer alike agree again
pub same_answers_agree : (R S : Register) (c : Id) (inside : List ℕ → Bool) (q : Command) → is_jumper q.kind ≡ false → ListsAreInOrder R → ListsAreInOrder S
    → answer R q ≡ answer S q → Agree c inside R S → Agree c inside (after R q) (after S q)
same_answers_agree R S c inside q plain R_order S_order same agree =
    agrees_on c inside (after R q) (after_edits (Answer.edits (answer R q)) S) (after S q)
    (same_edits_agree R S R_order S_order c inside (Answer.edits (answer R q)) (answers_plain R q plain) agree)
    (subst (λ (edits : List Edit). Agree c inside (after_edits (Answer.edits (answer R q)) S) (after_edits edits S)) (ap (λ a. Answer.edits a) same)
    (agrees_with_itself c inside (after_edits (Answer.edits (answer R q)) S)))
