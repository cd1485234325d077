-- A good register with a section more is good, and so is one with a point more that crosses no fence, is open and in nobody's hand.
use Rattle.std.proofs.Common.{◌≡◌, ◌∙◌, ℕ, Bool, true, false, cond, List, map, Option, Some, None, IsTrue, refl, sym, ap, subst, is_some, option_map, is_eq}
use Rattle.clr_rules.proofs.Common.{false≢true, or_right, nat_list_cmp_total, All-weaker, Grid, point_names, section_names, unplaced, name_cmp, same_name, has_name, PointRow, Opened, SectionRow}
use Rattle.clr_rules.proofs.Common.{in_key_order-with_row, equal, same_text, row_of-with, is_known_work, IsGoodByPhase, IsInPlace, outlook_of, AddSection, AddPoint, PointState, StepRow, Id}
use Rattle.clr_rules.proofs.Common.{Register, has_in_hand, position_of, state_key, state_of, after_edit, first_state, hand_in, is_hand, steps_of}
use Rattle.clr_net.specs.Additions.{fits_point, fits_section, with_section}
use Rattle.clr_net.proofs.Grown.{point_fits, points_are_added, sections_are_added}
use Rattle.clr_rules.specs.Fences.{CrossesNoFence}
use Rattle.clr_rules.specs.Edits.{net_after, states_after}
use Rattle.clr_rules.proofs.good.GrownPlaces.{kept_in_place, points_keep_fences, sections_keep_fences}
use Rattle.clr_rules.proofs.edits.AddedEdits.{names_with_section}
use Rattle.clr_rules.proofs.edits.Growing.{net_after-unplaced, states_known}
use Rattle.clr_rules.proofs.lists.StateFacts.{state_is_known}

-- ---- a section more

module _ (R : Register) (good : IsGoodByPhase R) (row : SectionRow) (fits : IsTrue (fits_section R.net row)) where
  work_stays : (work : Option (List ℕ)) → is_known_work (section_names (Grid.sections R.net)) work ≡ true → is_known_work (section_names (Grid.sections (with_section row R.net))) work ≡ true
  work_stays None known = refl
  work_stays (Some work) known =
      names_with_section R.net good.network row fits work ∙ or_right (same_name work row.name) (has_name (section_names (Grid.sections R.net)) work) known

  pub good_with_section : IsGoodByPhase (after_edit (AddSection row) R)
  good_with_section = record {
    network = (sections_are_added R.net good.network row fits).network;
    staff = good.staff;
    in_place = kept_in_place R good (with_section row R.net) (sections_keep_fences R good row fits);
    operators = good.operators;
    held_open = good.held_open;
    closing_free = good.closing_free;
    numbered = good.numbered;
    work_known = λ c r found unclosed. work_stays r.work (good.work_known c r found unclosed);
    placed = λ i. record { sections = Grid.sections (with_section row R.net); points = Grid.points (good.placed i) };
    points_known = record { states = good.points_known.states; steps = good.points_known.steps };
    in_order = record { states = good.in_order.states; records = good.in_order.records; steps = good.in_order.steps; holds = good.in_order.holds };
  }

-- ---- a point more

module _ (R : Register) (good : IsGoodByPhase R) (p : PointRow) (fits : IsTrue (fits_point R.net p)) where
  abbrev grown_net : Grid
  grown_net = net_after (AddPoint p) R.net

  abbrev grown_states : List PointState
  grown_states = states_after (AddPoint p) R.states

  state_read : (q : List ℕ) → state_of grown_states q ≡ cond (is_eq (name_cmp p.name q)) (Some (first_state (unplaced p))) (state_of R.states q)
  state_read q = row_of-with name_cmp state_key nat_list_cmp_total q (first_state (unplaced p)) R.states

  -- the new name has no state
  no_state : (q : List ℕ) → is_eq (name_cmp p.name q) ≡ true → state_of R.states q ≡ None
  no_state q tied = at (state_of R.states q) refl
    where
      unknown : is_some (state_of R.states q) ≡ false
      unknown = state_is_known R.states q ∙ ap (λ (names : List (List ℕ)). has_name names q) good.points_known.states
          ∙ ap (has_name (point_names (Grid.points R.net))) (sym (same_text p.name q (equal (name_cmp p.name q) tied))) ∙ (point_fits R.net p fits).new

      at : (found : Option PointState) → state_of R.states q ≡ found → found ≡ None
      at None is = refl
      at (Some state) is = absurd (false≢true (sym unknown ∙ ap is_some is))

  same_hand : (c : Id) (q : List ℕ) → has_in_hand grown_states c q ≡ has_in_hand R.states c q
  same_hand c q = ap (λ found. is_hand c (hand_in found)) (state_read q) ∙ at (is_eq (name_cmp p.name q)) refl
    where
      at : (b : Bool) → is_eq (name_cmp p.name q) ≡ b → is_hand c (hand_in (cond b (Some (first_state (unplaced p))) (state_of R.states q))) ≡ has_in_hand R.states c q
      at true tied = sym (ap (λ found. is_hand c (hand_in found)) (no_state q tied))
      at false differs = refl

  still_open : (q : List ℕ) → position_of R.states q ≡ Some Opened → position_of grown_states q ≡ Some Opened
  still_open q opened = ap (option_map (λ (state : PointState). state.position)) (state_read q) ∙ at (is_eq (name_cmp p.name q))
    where
      at : (b : Bool) → option_map (λ (state : PointState). state.position) (cond b (Some (first_state (unplaced p))) (state_of R.states q)) ≡ Some Opened
      at true = refl
      at false = opened

  same_points : map state_key grown_states ≡ point_names grown_net.points
  same_points = states_known (AddPoint p) R.net R.states refl good.points_known.states

  names_stay : (q : List ℕ) → has_name (point_names (Grid.points R.net)) q ≡ true → has_name (point_names grown_net.points) q ≡ true
  names_stay q known = sym (ap (λ (names : List (List ℕ)). has_name names q) same_points) ∙ sym (state_is_known grown_states q) ∙ ap is_some (state_read q)
      ∙ at (is_eq (name_cmp p.name q))
    where
      there : is_some (state_of R.states q) ≡ true
      there = state_is_known R.states q ∙ ap (λ (names : List (List ℕ)). has_name names q) good.points_known.states ∙ known

      at : (b : Bool) → is_some (cond b (Some (first_state (unplaced p))) (state_of R.states q)) ≡ true
      at true = refl
      at false = there

  pub good_with_point : CrossesNoFence R p.from_end p.to_end → IsGoodByPhase (after_edit (AddPoint p) R)
  good_with_point crosses_none = record {
    network = (points_are_added R.net good.network (unplaced p) fits).network;
    staff = good.staff;
    in_place = λ c. subst (λ v. IsInPlace grown_net v) (λ i. record (outlook_of R c) { hand = λ q. sym (same_hand c q) i })
        (kept_in_place R good grown_net (points_keep_fences R good (unplaced p) fits crosses_none) c);
    operators = good.operators;
    held_open = λ c kind q at_point held. still_open q (good.held_open c kind q at_point held);
    closing_free = good.closing_free;
    numbered = good.numbered;
    work_known = good.work_known;
    placed = net_after-unplaced (AddPoint p) R.net ∙ ap (net_after (AddPoint p)) good.placed;
    points_known = record {
      states = same_points;
      steps = λ c r found unclosed. All-weaker (λ (row : StepRow). IsTrue (has_name (point_names (Grid.points R.net)) row.step.point))
          (λ (row : StepRow). IsTrue (has_name (point_names grown_net.points) row.step.point))
          (λ row known. names_stay row.step.point known) (steps_of R.steps c) (good.points_known.steps c r found unclosed);
    };
    in_order = record {
      states = in_key_order-with_row name_cmp state_key nat_list_cmp_total (first_state (unplaced p)) R.states good.in_order.states;
      records = good.in_order.records;
      steps = good.in_order.steps;
      holds = good.in_order.holds;
    };
  }
