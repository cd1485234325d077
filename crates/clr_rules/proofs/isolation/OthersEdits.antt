-- The edits of commands about others spare a clearance.
use Rattle.std.proofs.Common.{◌≡◌, ℕ, Bool, true, false, cond, ◌||◌, not, List, [], ◌∷◌, Option, Some, None, is_some, refl, sym, ◌∙◌, ap, subst, if◌then◌else◌, true≢false}
use Rattle.clr_rules.proofs.Common.{Grid, Known, PointRow, Position, after, and_from, both_ways, checks, edits_of, false_from_ne_true, false≢true, hand_in, has_name, is_fenced, is_hand, is_jumper}
use Rattle.clr_rules.proofs.Common.{named_clearance, not-true, not_from_false, of_round, of_round_is, one_id, outlook_of, point_names, record_id, section_names}
use Rattle.clr_net.specs.declared.point.Position.TheVariants.{Closed as Shut}
use Rattle.clr_rules.specs.Answer.{Answer, answer, reply_clearance, first_refusal, known_of, requester_for, answer_by_checks}
use Rattle.clr_rules.specs.Changes.{added_edits, new_jumper, new_section}
use Rattle.clr_rules.specs.Checks.{other_hand, refuse}
use Rattle.clr_rules.specs.Prelude.{Edit, SetPosition, SetHand, AddSection, AddPoint, Command, PointState, state_of, Kind, HeldOpen, Record, Refusal, StepRow, Id}
use Rattle.clr_rules.specs.Prelude.{same_id, Register, hand_of, has_in_hand, greatest_number, record_of, is_running, points_of, present_steps, steps_in, step_at, has_hold}
use Rattle.clr_rules.specs.Fences.{clearance_fence, found_fence, work_fence}
use Rattle.clr_rules.specs.Footprint.{Frame, all_spare, both_or_neither, spares}
use Rattle.clr_rules.specs.laws.Frame.{HandsMatchToReport, is_report, subject_of}
use Rattle.clr_rules.specs.Good.{HandMatchesStep, IsGood, IsGoodAsSaid, ListsAreInOrder, PointsAreKnown}
use Rattle.clr_rules.specs.Id.{same_id_equiv}
use Rattle.clr_rules.specs.Isolation.{HeldStayOpen, LeftAlone, PointsAreKnownToJumper, is_about_another, is_others}
use Rattle.clr_rules.specs.Steps.{is_close, is_repeated}
use Rattle.clr_rules.specs.declared.refusal.Refusal.TheVariants.{InHand, StepState as WrongState}
use Rattle.clr_rules.proofs.lists.FoundSteps.{present_step, step_is_active, step_is_closing}
use Rattle.clr_rules.proofs.lists.NewNumbers.{new_is_another}
use Rattle.clr_rules.proofs.edits.AddedEdits.{jumper_can}
use Rattle.clr_rules.proofs.edits.EditedLists.{edited_all-network}
use Rattle.clr_rules.proofs.edits.Passing.{Pass, all_pass, check_of_found, not_refused_true, role_begun}
use Rattle.clr_rules.proofs.edits.PlainEdits.{answers_plain, point_of_jumper}
use Rattle.clr_rules.proofs.edits.Shapes.{HandSet, IsEditOf, PositionSet, each_passes, edits_of_accepted, subject}
use Rattle.clr_rules.proofs.edits.Shapes.HandSet.{into, out_of}
use Rattle.clr_rules.proofs.edits.Shapes.PositionSet.{closes, opens}
use Rattle.clr_rules.proofs.isolation.Sparing.{has_hold-same, sparing_edits_keep_outlook, sparing_edits_leave_alone}
use Rattle.clr_rules.proofs.keeps.Jumper.{jumpers_keep_fences}
use Rattle.clr_rules.proofs.lists.StateFacts.{state_is_known}
use Rattle.clr_rules.proofs.lists.StepSplits.{repeated_is_active}
use Rattle.clr_rules.specs.declared.command.Kind.TheVariants as kinds

-- ---- hands of another

-- a point in the hand of one clearance is in no other's
hand_of_one : (c d : Id) (hand : Option Id) → same_id c d ≡ false → is_hand d hand ≡ true → is_hand c hand ≡ false
hand_of_one c d None differs had = refl
hand_of_one c d (Some e) differs had = ap (same_id c) (sym (one_id d e had)) ∙ differs

-- a point that is in no other hand than d's is not in c's
no_other_hand : (c d : Id) (hand : Option Id) → same_id c d ≡ false → other_hand d hand ≡ None → is_hand c hand ≡ false
no_other_hand c d None differs passed = refl
no_other_hand c d (Some e) differs passed = hand_of_one c d (Some e) differs (not_refused_true (same_id d e) (InHand e) passed)

-- ---- hands that are set

module _ (c : Id) (R : Register) where
  -- a hand that is cleared or set to another spares c where the point is not in its hand
  spares_hand : (p : List ℕ) (hand : Option Id) → has_in_hand R.states c p ≡ false → is_hand c hand ≡ false → spares c R (SetHand p hand) ≡ true
  spares_hand p hand free others = ap (λ had. both_or_neither had (is_hand c hand)) free ∙ not_from_false _ others

-- ---- reports, where the hands match the steps

module _ (c : Id) (R : Register) (d : Id) (row : StepRow) (n : ℕ) (matches : HandMatchesStep R) (others : not (same_id c d) ≡ true)
    (found : step_at (present_steps R.steps d) n ≡ Some row) (repeated : is_repeated row.step.state ≡ true) where
  reported_hand : has_in_hand R.states c row.step.point ≡ false
  reported_hand =
      let step = present_step R.steps d n row found in
      let active = step_is_active R.steps d row step.there step.own (repeated_is_active row.step.state repeated) in
      hand_of_one c d (hand_of R.states row.step.point) (not-true (same_id c d) others) (matches.hand d row.step.point ∙ active)

  -- no other clearance holds a point that is being closed
  reported_close : is_close row.step.action ≡ true → spares c R (SetPosition row.step.point Shut) ≡ true
  reported_close is =
      let step = present_step R.steps d n row found in
      let closing = step_is_closing R.steps d row step.there step.own (repeated_is_active row.step.state repeated) is in
      not_from_false _ (false_from_ne_true _ (λ held.
      let (same, _) = matches.closing d row.step.point closing c HeldOpen refl held in
      true≢false (sym (same_id_equiv.refl c) ∙ ap (same_id c) same ∙ not-true (same_id c d) others)))

-- ---- a point that is added

module _ (c : Id) (R : Register) (p : PointRow) (known : PointsAreKnown R) (new : has_name (point_names (Grid.points R.net)) p.name ≡ false) where
  -- a name that no point has is in nobody's hand
  new_in_no_hand : has_in_hand R.states c p.name ≡ false
  new_in_no_hand = at (state_of R.states p.name) refl
    where
      unknown : is_some (state_of R.states p.name) ≡ false
      unknown = state_is_known R.states p.name ∙ ap (λ (names : List (List ℕ)). has_name names p.name) known.states ∙ new

      at : (found : Option PointState) → state_of R.states p.name ≡ found → is_hand c (hand_in found) ≡ false
      at None is = refl
      at (Some state) is = absurd (false≢true (sym unknown ∙ ap is_some is))

  added_spare : all_spare c R (added_edits R p) ≡ true
  added_spare = at (has_name (section_names (Grid.sections R.net)) p.to_end)
    where
      at : (b : Bool) → all_spare c R (cond b (AddPoint p ∷ []) (AddSection (new_section p.to_end) ∷ AddPoint p ∷ [])) ≡ true
      at true = and_from _ _ (not_from_false _ new_in_no_hand) refl
      at false = and_from _ _ (not_from_false _ new_in_no_hand) refl

-- ---- each edit

module _ (c : Id) (R : Register) (k : Known) (by : List ℕ) (at : ℕ) where
  -- a step that is reported was repeated
  repeated_before : (d : Id) (n : ℕ) (done : Bool) (row : StepRow) → Pass (checks k R by at (kinds.Report d n done)) → step_at (present_steps R.steps d) n ≡ Some row
      → is_repeated row.step.state ≡ true
  repeated_before d n done row passed found =
      let (_, _, _, rest) = role_begun R d is_running passed in
      not_refused_true (is_repeated row.step.state) WrongState
      (check_of_found (step_at (present_steps R.steps d) n) row (λ row. refuse (not (is_repeated row.step.state)) WrongState) found (search rest))

  hand_spares : (kind : Kind) → (is_report kind ≡ true → HandMatchesStep R) → not (same_id c (subject k by kind)) ≡ true → Pass (checks k R by at kind) → (p : List ℕ) (hand : Option Id)
      → HandSet R kind p hand → spares c R (SetHand p hand) ≡ true
  hand_spares _ matches others passed _ _ (into d n r row found) =
      let (_, _, _, rest) = role_begun R d is_running passed in
      let free : other_hand d (hand_of R.states row.step.point) ≡ None =
      check_of_found (step_at (present_steps R.steps d) n) row (λ row. other_hand d (hand_of R.states row.step.point)) found.step (search rest) in
      spares_hand c R row.step.point (Some d) (no_other_hand c d (hand_of R.states row.step.point) (not-true (same_id c d) others) free) (not-true (same_id c d) others)
  hand_spares _ matches others passed _ _ (out_of d n done r row found) =
      spares_hand c R row.step.point None (reported_hand c R d row n (matches refl) others found.step (repeated_before d n done row passed found.step)) refl

  position_spares : (kind : Kind) → (is_report kind ≡ true → HandMatchesStep R) → not (same_id c (subject k by kind)) ≡ true → Pass (checks k R by at kind) → (p : List ℕ) (position : Position)
      → PositionSet R kind p position → spares c R (SetPosition p position) ≡ true
  position_spares _ matches others passed _ _ (opens d n r row found) = refl
  position_spares _ matches others passed _ _ (closes d n r row found closing) =
      reported_close c R d row n (matches refl) others found.step (repeated_before d n true row passed found.step) closing

  edit_spares : (kind : Kind) → is_jumper kind ≡ false → (is_report kind ≡ true → HandMatchesStep R) → not (same_id c (subject k by kind)) ≡ true → Pass (checks k R by at kind)
      → (edit : Edit) → IsEditOf k R by at kind edit → spares c R edit ≡ true
  edit_spares kind plain matches others passed (SetHand p hand) is = hand_spares kind matches others passed p hand is
  edit_spares kind plain matches others passed (SetPosition p position) is = position_spares kind matches others passed p position is
  edit_spares kind plain matches others passed (AddSection row) is = refl
  edit_spares kind plain matches others passed (AddPoint p) is = absurd (both_ways (is_jumper kind) plain (point_of_jumper kind p is))
  -- a row of the clearance that the command is about
  edit_spares kind plain matches others passed _ is = ap (λ (d : Id). not (same_id c d)) is.0 ∙ others

  -- where no check applies, all but the clearance that the command is about are spared
  edits_spare : (kind : Kind) → is_jumper kind ≡ false → (is_report kind ≡ true → HandMatchesStep R) → not (same_id c (subject k by kind)) ≡ true
      → first_refusal (checks k R by at kind) ≡ None → all_spare c R (edits_of k.greatest R by at kind) ≡ true
  edits_spare kind plain matches others passed =
      let passes = all_pass (checks k R by at kind) passed in
      each_passes k R by at kind (spares c R) (edit_spares kind plain matches others passes) (edits_of k.greatest R by at kind) (edits_of_accepted k R by at kind passes)

  -- a jumper that no check refuses adds a point of a new name, which is in nobody's hand
  jumper_spares : (kind : Kind) → is_jumper kind ≡ true → PointsAreKnown R → first_refusal (checks k R by at kind) ≡ None
      → all_spare c R (edits_of k.greatest R by at kind) ≡ true
  jumper_spares (kinds.Jumper point from to lockable remote) is known passed =
      added_spare c R (new_jumper point from to lockable remote) known
      (jumper_can k R by at point from to lockable remote (all_pass (checks k R by at (kinds.Jumper point from to lockable remote)) passed)).new
  jumper_spares _ is known passed = cc is

  all_edits_spare : (kind : Kind) → (is_report kind ≡ true → HandMatchesStep R) → (is_jumper kind ≡ true → PointsAreKnown R)
      → (is_jumper kind ≡ false → not (same_id c (reply_clearance k.greatest by (named_clearance kind))) ≡ true)
      → first_refusal (checks k R by at kind) ≡ None → all_spare c R (edits_of k.greatest R by at kind) ≡ true
  all_edits_spare kind matches known others passed = split (is_jumper kind) refl
    where
      split : (b : Bool) → is_jumper kind ≡ b → all_spare c R (edits_of k.greatest R by at kind) ≡ true
      split true is = jumper_spares kind is (known is) passed
      split false is = edits_spare kind is matches (others is) passed

-- a command about another is about another
concerned_is_another : (c : Id) (R : Register) (by : List ℕ) (greatest : ℕ) (named : Option Id) → greatest ≡ greatest_number R.records (requester_for by named)
    → is_about_another c R by named ≡ true → not (same_id c (reply_clearance greatest by named)) ≡ true
concerned_is_another c R by greatest None is others = not_from_false _ (new_is_another c R by greatest is others)
concerned_is_another c R by greatest (Some d) is others = others

settled_spares : (c : Id) (R : Register) (q : Command) (found : Option Refusal) → first_refusal (checks (known_of R q) R q.caller q.moment q.kind) ≡ found
    → HandsMatchToReport R q → PointsAreKnownToJumper R q → (is_jumper q.kind ≡ false → not (same_id c (subject_of R q)) ≡ true)
    → all_spare c R (Answer.edits (answer_by_checks (known_of R q) R q found)) ≡ true
settled_spares c R q None passed matches known others = all_edits_spare c R (known_of R q) q.caller q.moment q.kind matches known others passed
settled_spares c R q (Some refusal) passed matches known others = refl

pub answers_spare : (R : Register) (c : Id) (q : Command) → HandsMatchToReport R q → PointsAreKnownToJumper R q
    → (is_jumper q.kind ≡ false → not (same_id c (subject_of R q)) ≡ true)
    → all_spare c R (Answer.edits (answer R q)) ≡ true
answers_spare R c q matches known others =
    settled_spares c R q (first_refusal (checks (known_of R q) R q.caller q.moment q.kind)) refl matches known others

pub others_edits_spare : (R : Register) (c : Id) (q : Command) → HandsMatchToReport R q → PointsAreKnownToJumper R q
    → is_others c R q ≡ true
    → all_spare c R (Answer.edits (answer R q)) ≡ true
others_edits_spare R c q matches known others = answers_spare R c q matches known (λ plain.
    concerned_is_another c R q.caller (Known.greatest (known_of R q)) (named_clearance q.kind) refl
    (subst (λ (b : Bool). (b || is_about_another c R q.caller (named_clearance q.kind)) ≡ true) plain others))

-- ---- what is left alone

pub one_outlook_changes : (R : Register) (c : Id) (q : Command) → ListsAreInOrder R → HandsMatchToReport R q → PointsAreKnownToJumper R q → same_id c (subject_of R q) ≡ false
    → outlook_of (after R q) c ≡ outlook_of R c
one_outlook_changes R c q ordered matches known differs =
    sparing_edits_keep_outlook c R (Answer.edits (answer R q)) ordered (answers_spare R c q matches known (λ _. not_from_false _ differs))

pub others_keep_outlook : (R : Register) (c : Id) (q : Command) → ListsAreInOrder R → HandsMatchToReport R q → PointsAreKnownToJumper R q → is_others c R q ≡ true
    → outlook_of (after R q) c ≡ outlook_of R c
others_keep_outlook R c q ordered matches known others =
    sparing_edits_keep_outlook c R (Answer.edits (answer R q)) ordered (others_edits_spare R c q matches known others)

pub others_spare : (R : Register) (c : Id) (q : Command) → IsGoodAsSaid R → PointsAreKnownToJumper R q → is_others c R q ≡ true → Frame c R (after R q)
others_spare R c q good known others =
    sparing_edits_leave_alone c R (Answer.edits (answer R q)) good.in_order (others_edits_spare R c q (λ _. good.hand_matches_step) known others)

pub others_keep_held_open : (R : Register) (c : Id) (q : Command) → IsGoodAsSaid R → PointsAreKnownToJumper R q → is_others c R q ≡ true → HeldStayOpen c (after R q)
others_keep_held_open R c q good known others p held =
    let frame = others_spare R c q good known others in
    let held_before : has_hold R.holds c HeldOpen p ≡ true =
    sym (has_hold-same R.holds (Register.holds (after R q)) c HeldOpen p frame.same_holds) ∙ held in
    frame.closes_nothing p held_before (good.held_points_are_open.open_there c HeldOpen p refl held_before)

-- ---- its fence

-- where the network stays, what is left alone of a clearance keeps its fence
fence_kept : (c : Id) (R S : Register) → Frame c R S → S.net ≡ R.net → clearance_fence S c ≡ clearance_fence R c
fence_kept c R S frame net = ap (found_fence S.net S.steps) frame.same_record ∙ at (record_of R.records c) refl
  where
    at : (found : Option Record) → record_of R.records c ≡ found → found_fence S.net S.steps found ≡ found_fence R.net R.steps found
    at None is = refl
    at (Some r) is =
        let own = record_id R.records c r is in
        let steps : steps_in S.steps r.id 1 ≡ steps_in R.steps r.id 1 =
        ap (λ (id : Id). steps_in S.steps id 1) own ∙ sym (of_round_is S.steps c 1) ∙ ap (λ rows. of_round rows 1) frame.same_steps
        ∙ of_round_is R.steps c 1 ∙ ap (λ (id : Id). steps_in R.steps id 1) (sym own) in
        λ i. if is_fenced r.phase then work_fence (net i) r.work (points_of (steps i)) else []

-- a command of others leaves a fence as it is: a jumper crosses none, and no other command adds anything
others_keep_fence : (R : Register) (c : Id) (q : Command) → IsGood R → is_others c R q ≡ true → clearance_fence (after R q) c ≡ clearance_fence R c
others_keep_fence R c q good others = at (is_jumper q.kind) refl
  where
    at : (b : Bool) → is_jumper q.kind ≡ b → clearance_fence (after R q) c ≡ clearance_fence R c
    at true is = jumpers_keep_fences R q c good is
    at false is = fence_kept c R (after R q) (others_spare R c q good.said (λ _. good.besides.points_known) others)
        (edited_all-network R (Answer.edits (answer R q)) (answers_plain R q is) good.said.in_order).same_net

pub others_left_alone : (R : Register) (c : Id) (q : Command) → IsGood R → is_others c R q ≡ true → LeftAlone c R (after R q)
others_left_alone R c q good others = record {
  frame = others_spare R c q good.said (λ _. good.besides.points_known) others;
  held_open = others_keep_held_open R c q good.said (λ _. good.besides.points_known) others;
  same_fence = others_keep_fence R c q good others;
}
