-- The opening register is good.
use Rattle.std.proofs.Common.{◌≡◌, ◌∙◌, ℕ, Bool, true, false, cond, IsTrue, None, Some, List, [], ◌∷◌, map, refl, sym, ap, is_eq, is_lt, Ordering, Less}
use Rattle.clr_rules.proofs.Common.{list_all, AllByRecursion, IsStrictlySortedBy, false≢true, length-map, none-some, name_cmp, PointRow, StaffRow, in_key_order, row_of, Hold, HoldKind}
use Rattle.clr_rules.proofs.Common.{Record, StepRow, Id, has_in_hand, state_key, state_of, record_of, is_waiting, steps_in, steps_of, has_hold, first_state, opening, unplaced_net, hand_in, is_hand}
use Rattle.clr_rules.proofs.Common.{is_in_turn}
use Rattle.std.proofs.lemmas.List.Elements.{All-map, All-nil}
use Rattle.std.proofs.lemmas.Map.Keys.{sorted_head, sorted_tail}
use Rattle.clr_net.specs.Grid.{Grid, IsNetwork, has_ends, has_one_section, point_names, section_names, unplaced}
use Rattle.clr_net.proofs.ListFacts.{map-map}
use Rattle.clr_staff.specs.Staff.{IsStaff}
use Rattle.clr_rules.specs.Good.{IsGood, ListsAreInOrder, has_record, is_active_at}
use Rattle.clr_rules.proofs.lists.StateFacts.{state_of-first, state_of-none}

module _ {Key Row : Type 0} (compare : Key → Key → Ordering) (key_of : Row → Key) where
  all_above : (row : Row) (rest : List Row) → AllByRecursion (λ key. compare (key_of row) key ≡ Less) (map key_of rest)
      → list_all (λ next. is_lt (compare (key_of row) (key_of next))) rest ≡ true
  all_above row [] all = refl
  all_above row (next ∷ rest) all = rw (all.0, all_above row rest all.1) refl

  -- rows whose keys rise are in key order
  pub in_key_order-from_sorted : (rows : List Row) → IsStrictlySortedBy compare (map key_of rows) → in_key_order compare key_of rows ≡ true
  in_key_order-from_sorted [] rising = refl
  in_key_order-from_sorted (row ∷ rows) rising =
      rw (all_above row rows (sorted_head compare (key_of row) (map key_of rows) rising), in_key_order-from_sorted rows (sorted_tail compare (key_of row) (map key_of rows) rising)) refl

pub unplaced_names : (points : List PointRow) → point_names (map unplaced points) ≡ point_names points
unplaced_names [] = refl
unplaced_names (p ∷ points) = ap (λ names. p.name ∷ names) (unplaced_names points)

pub first_keys : (points : List PointRow) → map state_key (map first_state points) ≡ point_names points
first_keys [] = refl
first_keys (p ∷ points) = ap (λ names. p.name ∷ names) (first_keys points)

-- what has no position any more keeps so
pub unplaced_once : (g : Grid) → unplaced_net (unplaced_net g) ≡ unplaced_net g
unplaced_once g = ap (λ points. record { sections = g.sections; points = points }) (map-map unplaced unplaced g.points)

-- a network is one whatever the positions of its points
pub unplaced_is_network : (g : Grid) → IsNetwork g → IsNetwork (unplaced_net g)
unplaced_is_network g net = record {
  some_section = net.some_section;
  sections_fit = net.sections_fit;
  points_fit = rw (length-map g.points unplaced) net.points_fit;
  sections_rise = net.sections_rise;
  points_rise = rw (unplaced_names g.points) net.points_rise;
  ends_known = All-map (λ (p : PointRow). IsTrue (has_ends (section_names g.sections) p)) unplaced g.points net.ends_known;
  ends_differ = All-map (λ (p : PointRow). has_one_section p ≡ false) unplaced g.points net.ends_differ;
}

-- no point is in a hand at first
nobodys : (points : List PointRow) (p : List ℕ) → hand_in (state_of (map first_state points) p) ≡ None
nobodys [] p = ap hand_in (state_of-none p)
nobodys (point ∷ points) p =
    ap hand_in (state_of-first (first_state point) (map first_state points) p) ∙ at (is_eq (name_cmp point.name p)) (nobodys points p)
  where
    at : (b : Bool) → hand_in (state_of (map first_state points) p) ≡ None → hand_in (cond b (Some (first_state point)) (state_of (map first_state points) p)) ≡ None
    at true more = refl
    at false more = more

in_no_hand : (points : List PointRow) (c : Id) (p : List ℕ) → has_in_hand (map first_state points) c p ≡ false
in_no_hand points c p = ap (is_hand c) (nobodys points p)

no_hold : (c : Id) (kind : HoldKind) (place : List ℕ) → has_hold [] c kind place ≡ false
unfolding row_of
no_hold c kind place = refl

pub no_record : (c : Id) (r : Record) → record_of [] c ≡ Some r → ⊥
unfolding row_of
no_record c r found = none-some r found

none_active : (c : Id) (p : List ℕ) → is_active_at [] c p ≡ false
unfolding is_active_at steps_of
none_active c p = refl

held_nowhere : (c : Id) (kind : HoldKind) (place : List ℕ) → has_hold [] c kind place ≡ true → ⊥
held_nowhere c kind place held = false≢true (sym (no_hold c kind place) ∙ held)

pub opening_is_in_order : (g : Grid) (staff : List StaffRow) → IsNetwork g → ListsAreInOrder (opening g staff)
opening_is_in_order g staff net = record {
  states = in_key_order-from_sorted name_cmp state_key (map first_state g.points) (rw (first_keys g.points) net.points_rise);
  records = refl;
  steps = refl;
  holds = refl;
}

pub opening_is_good : (g : Grid) (staff : List StaffRow) → IsNetwork g → IsStaff staff → IsGood (opening g staff)
opening_is_good g staff net is_staff = record {
  said = record {
    network = unplaced_is_network g net;
    staff = is_staff;
    in_order = opening_is_in_order g staff net;
    held_points_are_open = record {
      open_there = λ c kind p at_point held. absurd (held_nowhere c kind p held);
      beside_held_open = λ c kind p at_point held. absurd (held_nowhere c kind p held);
    };
    hand_matches_step = record {
      hand = λ c p. in_no_hand g.points c p ∙ sym (none_active c p);
      closing = λ c p closing d kind at_point held. absurd (held_nowhere d kind p held);
    };
    standing_orders_are_sound = λ c r found standing. absurd (no_record c r found);
    granted_points_are_held = record {
      done = λ c r found granted. absurd (no_record c r found);
      held = λ c r found granted point there named. absurd (no_record c r found);
    };
    granted_fences_are_dead = λ c r found granted s inside. absurd (no_record c r found);
    work_holds_belong = record {
      granted = λ c kind place at_work held. absurd (held_nowhere c kind place held);
      tested_inside = λ c place held. absurd (held_nowhere c _ place held);
      grounded_inside = λ c place held. absurd (held_nowhere c _ place held);
      crews_grounded = λ c crew r held found. absurd (no_record c r found);
    };
    numbers_have_no_gaps = record {
      numbered = λ requester. refl;
      steps_recorded = All-nil (λ (row : StepRow). IsTrue (has_record [] row.id));
      holds_recorded = All-nil (λ (h : Hold). IsTrue (has_record [] h.id));
      hands_recorded = λ c p held. absurd (false≢true (sym (in_no_hand g.points c p) ∙ held));
      work_known = λ c r found unclosed. absurd (no_record c r found);
    };
    steps_go_in_turn = record {
      in_turn = All-nil (λ (row : StepRow). is_waiting row.step.state ≡ false → is_in_turn (steps_in [] row.id row.round) row.ordinal ≡ true);
      active_running = λ c r found. absurd (no_record c r found);
      none_requested = λ c r found requested. absurd (no_record c r found);
      second_round = λ c r found second. absurd (no_record c r found);
      only_switching = λ c r found switching. absurd (no_record c r found);
    };
    holds_are_put = record {
      standing = λ c kind p at_point held. absurd (held_nowhere c kind p held);
      at_points = λ c kind p at_point held. absurd (held_nowhere c kind p held);
      as_put = λ c r found standing restoring kind p at_point. absurd (no_record c r found);
      undone = λ c r found restoring p held. absurd (no_record c r found);
      nowhere_else = λ c r found restoring. absurd (no_record c r found);
    };
  };
  besides = record {
    restoring_rounds = λ c r found restoring. absurd (no_record c r found);
    switch_orders = record {
      without_work = λ c r found unclosed. absurd (no_record c r found);
      phases = λ c r found switch. absurd (no_record c r found);
      switching = λ c r found switch. absurd (no_record c r found);
    };
    placed = unplaced_once g;
    points_known = record {
      states = first_keys g.points ∙ sym (unplaced_names g.points);
      steps = λ c r found unclosed. absurd (no_record c r found);
    };
  };
}
