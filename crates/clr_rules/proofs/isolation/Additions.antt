-- What additions do to what is near a clearance: they change it exactly by their marks.
use Rattle.std.proofs.Common.{◌≡◌, ◌∙◌, ℕ, Bool, true, false, cond, ◌&&◌, ◌||◌, List, [], ◌∷◌, map, Contains, filter, Option, None, Some, is_some, refl, sym, ap, subst, option_map}
use Rattle.clr_rules.proofs.Common.{list_any, nat_list_cmp_total, touches, Grid, IsNetwork, point_names, unplaced, name_cmp, same_name, has_name, PointRow, Opened, SectionRow, one_name, same_itself}
use Rattle.clr_rules.proofs.Common.{some_from, filter-with_far, filter-with_inside, equal, same_text, with_row, touching_names, ListsAreInOrder, is_near_hold, first_state}
use Rattle.std.proofs.lemmas.Bool.{and_parts, false≢true, false_from_ne_true, or_parts}
use Rattle.std.proofs.lemmas.List.Sorted.{IsPermutation-map, list_any-IsPermutation}
use Rattle.clr_net.specs.Additions.{with_named, with_point}
use Rattle.clr_net.proofs.ByName.{filter-with_named, filter-with_named_inside, moved_with_named}
use Rattle.clr_net.proofs.Grown.{section_fits}
use Rattle.clr_rules.specs.laws.Additions.{AddedPointsAreFree, AdditionsChangeByMarks, IsFree}
use Rattle.clr_rules.specs.Agreement.{part_near}
use Rattle.clr_rules.specs.laws.Agreement.{ChangesByMarks}
use Rattle.clr_rules.specs.Edits.{fits_edit}
use Rattle.clr_rules.specs.Near.{part}
use Rattle.clr_rules.specs.Prelude.{Edit, AddSection, AddPoint, Hold, PointState, Id, Register, is_crew, is_point_kind, is_section_kind, position_of, same_id, state_key, state_of, after_edit}
use Rattle.clr_rules.specs.Prelude.{after_edits}
use Rattle.clr_rules.specs.Shown.{marks_of}
use Rattle.clr_rules.proofs.edits.EditedLists.{edited-in_order}
use Rattle.clr_rules.proofs.edits.Growing.{net_after-network}
use Rattle.clr_rules.proofs.lists.Filters.{kept_there, mapped_from, name_says, there_mapped}
use Rattle.clr_rules.proofs.lists.HoldMembers.{hold_had}
use Rattle.clr_rules.proofs.lists.StateFacts.{state_is_known}

-- ---- tests that differ at one name

-- the name is another where the rows do not have it
other_name : (p q : List ℕ) → same_name p q ≡ false → same_name q p ≡ false
other_name p q apart = false_from_ne_true (same_name q p) (λ same. false≢true (sym apart ∙ rw (one_name q p same) (same_itself p)))

module _ (p : List ℕ) (a b : List ℕ → Bool) (alike : (q : List ℕ) → same_name q p ≡ false → a q ≡ b q) where
  filter-alike : {Row : Type 0} (name_of : Row → List ℕ) (rows : List Row) → has_name (map name_of rows) p ≡ false
      → filter (λ row. a (name_of row)) rows ≡ filter (λ row. b (name_of row)) rows
  filter-alike name_of [] free = refl
  filter-alike name_of (row ∷ rows) free =
      let (apart, rest) = or_parts (same_name p (name_of row)) (has_name (map name_of rows) p) free in
      let here = alike (name_of row) (other_name p (name_of row) apart) in
      let more = filter-alike name_of rows rest in
      λ i. cond (here i) (row ∷ more i) (more i)

  at_point : (h : Hold) (b1 : Bool) → is_point_kind h.kind ≡ b1 → (b1 && same_name p h.place) ≡ false → (b1 && a h.place) ≡ (b1 && b h.place)
  at_point h true is apart = alike h.place (other_name p h.place apart)
  at_point h false is apart = refl

  holds-alike : (inside : List ℕ → Bool) (c : Id) (holds : List Hold) → list_any (λ h. is_point_kind h.kind && same_name p h.place) holds ≡ false
      → filter (is_near_hold inside a (Some c)) holds ≡ filter (is_near_hold inside b (Some c)) holds
  holds-alike inside c [] free = refl
  holds-alike inside c (h ∷ holds) free =
      let (apart, rest) = or_parts (is_point_kind h.kind && same_name p h.place) (list_any (λ h. is_point_kind h.kind && same_name p h.place) holds) free in
      let here = at_point h (is_point_kind h.kind) refl apart in
      let more = holds-alike inside c holds rest in
      λ i. cond (here i || ((is_section_kind h.kind && inside h.place) || (is_crew h.kind && same_id c h.id))) (h ∷ more i) (more i)

-- a name that no point has is none of those that touch a set
not_touching : (g : Grid) (inside : List ℕ → Bool) (n : List ℕ) → has_name (point_names g.points) n ≡ false → has_name (touching_names g inside) n ≡ false
unfolding touching_names
not_touching g inside n new = false_from_ne_true (has_name (touching_names g inside) n) (λ is.
    let found = mapped_from (λ (row : PointRow). row.name) (filter (touches inside) g.points) n ((name_says (touching_names g inside) n).0 is) in
    let kept = kept_there (touches inside) g.points found.0 found.1 in
    false≢true (sym new ∙ (name_says (point_names g.points) n).1
    (subst (λ (m : List ℕ). Contains (point_names g.points) m) found.2 (there_mapped (λ (row : PointRow). row.name) g.points found.0 kept.0))))

-- ---- a point

module _ (R : Register) (net : IsNetwork R.net) (ordered : ListsAreInOrder R) (p : PointRow) (free : IsFree R p.name) (c : Id) (inside : List ℕ → Bool) where
  abbrev name : PointRow → List ℕ
  name q = q.name

  abbrev grown : Grid
  grown = with_point (unplaced p) R.net

  abbrev before : List ℕ → Bool
  before = has_name (touching_names R.net inside)

  abbrev later : List ℕ → Bool
  later = has_name (touching_names grown inside)

  not_before : before p.name ≡ false
  not_before = not_touching R.net inside p.name free.no_row

  -- it touches the set
  named_with : touches inside p ≡ true → touching_names grown inside ≡ point_names (with_named name (unplaced p) (filter (touches inside) R.net.points))
  unfolding touching_names
  named_with inside_it = ap point_names (filter-with_named_inside name (unplaced p) (touches inside) R.net.points inside_it)

  one_more : touches inside p ≡ true → (q : List ℕ) → later q ≡ (same_name q p.name || before q)
  unfolding touching_names
  one_more inside_it q =
      let near = filter (touches inside) R.net.points in
      ap (λ (names : List (List ℕ)). has_name names q) (named_with inside_it)
      ∙ sym (list_any-IsPermutation (same_name q) (point_names (unplaced p ∷ near)) (point_names (with_named name (unplaced p) near))
      (IsPermutation-map name (unplaced p ∷ near) (with_named name (unplaced p) near) (moved_with_named name (unplaced p) near not_before)))

  later_there : touches inside p ≡ true → later p.name ≡ true
  later_there inside_it = one_more inside_it p.name ∙ ap (λ b. b || before p.name) (same_itself p.name)

  as_before : touches inside p ≡ true → (q : List ℕ) → same_name q p.name ≡ false → later q ≡ before q
  as_before inside_it q differs = one_more inside_it q ∙ ap (λ b. b || before q) differs

  near_point : touches inside p ≡ true → part_near (after_edit (AddPoint p) R) c inside ≡ after_edit (AddPoint p) (part_near R c inside)
  near_point inside_it =
      let alike = as_before inside_it in
      let rows = filter-with_named_inside name (unplaced p) (λ q. later q.name) R.net.points (later_there inside_it)
      ∙ ap (with_named name (unplaced p)) (filter-alike p.name later before alike name R.net.points free.no_row) in
      let states = filter-with_inside name_cmp state_key nat_list_cmp_total (λ state. later state.point) (first_state (unplaced p)) R.states (later_there inside_it)
      ∙ ap (with_row name_cmp state_key (first_state (unplaced p))) (filter-alike p.name later before alike state_key R.states free.no_state) in
      let holds = holds-alike p.name later before alike inside c R.holds free.no_hold in
      λ i. record (part_near R c inside) {
        net = record (Register.net (part_near R c inside)) { points = rows i };
        states = states i;
        holds = holds i;
      }

  -- it does not
  same_names : touches inside p ≡ false → touching_names grown inside ≡ touching_names R.net inside
  unfolding touching_names
  same_names out = ap point_names (filter-with_named name (unplaced p) (touches inside) R.net.points net.points_rise free.no_row out)

  far_point : touches inside p ≡ false → part_near (after_edit (AddPoint p) R) c inside ≡ part_near R c inside
  far_point out =
      let rows = filter-with_named name (unplaced p) (λ q. before q.name) R.net.points net.points_rise free.no_row not_before in
      let states = filter-with_far name_cmp state_key nat_list_cmp_total (λ state. before state.point) (first_state (unplaced p)) R.states ordered.states
      (λ (other : PointState) tied. rw (same_text other.point p.name (equal (name_cmp other.point p.name) tied)) not_before) in
      ap (λ (names : List (List ℕ)). part (after_edit (AddPoint p) R) (record { sections = inside; holds_at = inside; points = has_name names; clearance = Some c })) (same_names out)
      ∙ (λ i. record (part_near R c inside) {
        net = record (Register.net (part_near R c inside)) { points = rows i };
        states = states i;
      })

  pub point_by_marks : ChangesByMarks R c inside (AddPoint p ∷ [])
  unfolding after_edits
  point_by_marks = at (touches inside p) refl
    where
      at : (b : Bool) → touches inside p ≡ b → ChangesByMarks R c inside (AddPoint p ∷ [])
      at true is = rw is (near_point is)
      at false is = rw is (far_point is)

-- ---- a section

module _ (R : Register) (net : IsNetwork R.net) (row : SectionRow) (fits : fits_edit R.net (AddSection row) ≡ true) (c : Id) (inside : List ℕ → Bool) where
  near_section : inside row.name ≡ true → part_near (after_edit (AddSection row) R) c inside ≡ after_edit (AddSection row) (part_near R c inside)
  unfolding touching_names
  near_section is =
      let rows = filter-with_named_inside (λ (s : SectionRow). s.name) row (λ s. inside s.name) R.net.sections is in
      λ i. record (part_near R c inside) { net = record (Register.net (part_near R c inside)) { sections = rows i } }

  far_section : inside row.name ≡ false → part_near (after_edit (AddSection row) R) c inside ≡ part_near R c inside
  unfolding touching_names
  far_section out =
      let rows = filter-with_named (λ (s : SectionRow). s.name) row (λ s. inside s.name) R.net.sections net.sections_rise (section_fits R.net row fits).0 out in
      λ i. record (part_near R c inside) { net = record (Register.net (part_near R c inside)) { sections = rows i } }

  pub section_by_marks : ChangesByMarks R c inside (AddSection row ∷ [])
  unfolding after_edits
  section_by_marks = at (inside row.name) refl
    where
      at : (b : Bool) → inside row.name ≡ b → ChangesByMarks R c inside (AddSection row ∷ [])
      at true is = rw is (near_section is)
      at false is = rw is (far_section is)

-- ---- a section, and a point after it

first_or_none : (b : Bool) (edit : Edit) (edits : List Edit) (P : Register) → after_edits (cond b (edit ∷ edits) edits) P ≡ after_edits edits (after_edits (cond b (edit ∷ []) []) P)
unfolding after_edits
first_or_none true edit edits P = refl
first_or_none false edit edits P = refl

pub both_by_marks : (R : Register) → IsNetwork R.net → ListsAreInOrder R → (row : SectionRow) → fits_edit R.net (AddSection row) ≡ true
    → (p : PointRow) → IsFree R p.name → (c : Id) (inside : List ℕ → Bool) → ChangesByMarks R c inside (AddSection row ∷ AddPoint p ∷ [])
unfolding after_edits
both_by_marks R net ordered row fits p free c inside =
    point_by_marks (after_edit (AddSection row) R) (net_after-network (AddSection row) R.net net fits) (edited-in_order (AddSection row) R ordered) p
    (record { no_row = free.no_row; no_state = free.no_state; no_hold = free.no_hold }) c inside
    ∙ ap (after_edits (marks_of R.net inside (AddPoint p ∷ []))) (section_by_marks R net row fits c inside)
    ∙ sym (first_or_none (inside row.name) (AddSection row) (marks_of R.net inside (AddPoint p ∷ [])) (part_near R c inside))

pub additions_change_by_marks : AdditionsChangeByMarks
additions_change_by_marks = record {
  section = section_by_marks;
  point = point_by_marks;
  both = both_by_marks;
}

-- ---- the names of a good register

-- where there is no state there is no position
stateless : (R : Register) (p : List ℕ) → has_name (map state_key R.states) p ≡ false → position_of R.states p ≡ Some Opened → ⊥
stateless R p none opened = at (state_of R.states p) refl opened
  where
    at : (found : Option PointState) → state_of R.states p ≡ found → option_map (λ (state : PointState). state.position) found ≡ Some Opened → ⊥
    at None is opened = absurd cc
    at (Some state) is opened = false≢true (sym none ∙ sym (state_is_known R.states p) ∙ ap is_some is)

-- a name that no point of a good register has is free there
pub added_points_are_free : AddedPointsAreFree
added_points_are_free R good points p new =
    let states = ap (λ (names : List (List ℕ)). has_name names p) points.states ∙ new in
    record {
      no_row = new;
      no_state = states;
      no_hold = false_from_ne_true (list_any (λ h. is_point_kind h.kind && same_name p h.place) R.holds) (λ some.
          let found = some_from (λ (h : Hold). is_point_kind h.kind && same_name p h.place) R.holds some in
          let (at_point, same) = and_parts (is_point_kind (Hold.kind found.0)) (same_name p (Hold.place found.0)) found.2 in
          stateless R p states (subst (λ (q : List ℕ). position_of R.states q ≡ Some Opened) (sym (one_name p (Hold.place found.0) same))
          (good.held_points_are_open.open_there (Hold.id found.0) (Hold.kind found.0) (Hold.place found.0) at_point (hold_had R.holds found.0 good.in_order.holds found.1))));
    }
