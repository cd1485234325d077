-- What is open of a register: the part of a book that is made of it lacks closed records and their steps alone.
use Rattle.std.proofs.Common.{◌≡◌, ◌∙◌, Bool, true, false, List, [], ◌∷◌, Option, Some, None, refl, sym, ap, filter, map, Contains, subst, is_some, IsTrue}
use Rattle.std.specs.List.{AllByRecursion, list_all, list_any}
use Rattle.std.specs.List.Sorted.{IsPermutation, IsStrictlySortedBy}
use Rattle.std.specs.Ordering.{is_lt}
use Rattle.std.specs.declared.cmp.Ordering.{Ordering}
use Rattle.std.specs.declared.cmp.Ordering.TheVariants.{Less}
use Rattle.std.proofs.lemmas.Bool.{and_parts}
use Rattle.std.proofs.lemmas.Map.Entries.{option_filter}
use Rattle.std.proofs.lemmas.List.Elements.{All-contains}
use Rattle.clr_book.specs.Book.{open_in}
use Rattle.clr_desk.proofs.Filled.{hands_are, hands_edited, now_is_network, one_list, opening_now, set_hands}
use Rattle.clr_desk.specs.Filling.{grid_now, hand_edit}
use Rattle.clr_net.specs.Grid.{Grid}
use Rattle.clr_net.specs.Network.{IsGridOf}
use Rattle.clr_net.specs.declared.point.PointRow.{PointRow}
use Rattle.clr_net.specs.declared.section.SectionRow.{SectionRow}
use Rattle.clr_shelf.proofs.Groups.{row_of-filter}
use Rattle.clr_shelf.proofs.KeyOrder.{in_key_order-filter}
use Rattle.clr_shelf.proofs.Keys.{less}
use Rattle.clr_shelf.proofs.Lists.{filter-filter_wider}
use Rattle.clr_shelf.proofs.Members.{member-row_of}
use Rattle.clr_shelf.specs.Rows.{in_key_order}
use Rattle.clr_rules.proofs.Common.{Contains-filter, both_ways, false≢true, false_from_ne_true, one_id, record_id}
use Rattle.clr_net.proofs.Walks.{any_from}
use Rattle.clr_rules.proofs.lists.Filters.{filter-no_member, kept_there}
use Rattle.clr_rules.proofs.lists.NamedRows.{list_any-map}
use Rattle.clr_rules.specs.Edits.{after_edits}
use Rattle.clr_rules.specs.Good.{IsGood, has_record}
use Rattle.clr_rules.specs.Id.{Id, id_cmp, id_cmp_total, same_id}
use Rattle.clr_rules.specs.Records.{is_closed, is_open, record_key, record_of}
use Rattle.clr_rules.specs.Register.{Register, opening}
use Rattle.clr_rules.specs.StepKey.{step_key, step_key_cmp, step_key_cmp_total}
use Rattle.clr_rules.specs.Steps.{steps_of}
use Rattle.clr_rules.specs.WayBack.{moves_in, next_moves}
use Rattle.clr_rules.specs.declared.phase.Phase.{Phase}
use Rattle.clr_rules.specs.declared.phase.Phase.TheVariants.{Closed}
use Rattle.clr_rules.specs.declared.point_state.PointState.{PointState}
use Rattle.clr_rules.specs.declared.record.Record.{Record}
use Rattle.clr_rules.specs.declared.step_row.StepRow.{StepRow}
use Rattle.clr_staff.specs.Staff.{IsStaffOf}
use Rattle.clr_staff.specs.declared.employee.StaffRow.{StaffRow}
use Rattle.clr_load.specs.RowsRead.{with_its_position}
use Rattle.clr_wayback.proofs.Walking.{turns_end}
use Rattle.clr_wayback.specs.Answer.{are_accepted, commands_or_no_way, tried, way_back_answer}
use Rattle.clr_wayback.specs.Open.{LacksOnly, bare_register, is_over, over_in}
use Rattle.clr_wayback.specs.declared.answer.WayBack.TheVariants.{Commands}

is_one : (phase : Phase) → is_closed phase ≡ false → is_open phase ≡ true
is_one Closed is = sym is
is_one _ is = refl

-- the keys of rows in order rise
keys_above : {Key Row : Type 0} (compare : Key → Key → Ordering) (key_of : Row → Key) (row : Row) (rows : List Row)
    → list_all (λ next. is_lt (compare (key_of row) (key_of next))) rows ≡ true → AllByRecursion (λ key. compare (key_of row) key ≡ Less) (map key_of rows)
keys_above compare key_of row [] above = tt
keys_above compare key_of row (next ∷ rows) above =
    let parts = and_parts (is_lt (compare (key_of row) (key_of next))) (list_all (λ next. is_lt (compare (key_of row) (key_of next))) rows) above in
    (less (compare (key_of row) (key_of next)) parts.0, keys_above compare key_of row rows parts.1)

pub keys_rise : {Key Row : Type 0} (compare : Key → Key → Ordering) (key_of : Row → Key) (rows : List Row) → in_key_order compare key_of rows ≡ true
    → IsStrictlySortedBy compare (map key_of rows)
unfolding IsStrictlySortedBy
keys_rise compare key_of [] ordered = tt
keys_rise compare key_of (row ∷ rows) ordered =
    let parts = and_parts (list_all (λ next. is_lt (compare (key_of row) (key_of next))) rows) (in_key_order compare key_of rows) ordered in
    (keys_above compare key_of row rows parts.0, keys_rise compare key_of rows parts.1)

-- ---- records and steps

abbrev pub is_of : List Id → StepRow → Bool
is_of ids row = list_any (λ d. same_id d row.id) ids

abbrev pub open_ids : Register → List Id
open_ids R = map (λ (r : Record). r.id) (open_in R.records)

module _ (R : Register) (good : IsGood R) where
  open_record : (c : Id) → over_in R c ≡ false → record_of R.records c ≡ record_of (open_in R.records) c
  open_record c kept =
      at (record_of R.records c) refl
      ∙ sym (row_of-filter id_cmp record_key id_cmp_total (λ (r : Record). is_open r.phase) c R.records good.said.in_order.records)
    where
      at : (o : Option Record) → record_of R.records c ≡ o → record_of R.records c ≡ option_filter (λ (r : Record). is_open r.phase) (record_of R.records c)
      at None read = rw read refl
      at (Some r) read = rw read (rw (is_one r.phase (sym (ap is_over read) ∙ kept)) refl)

  -- a clearance without a record has no step
  no_step : (c : Id) → record_of R.records c ≡ None → (rows : List StepRow) → ((row : StepRow) → Contains rows row → Contains R.steps row) → steps_of rows c ≡ []
  unfolding steps_of
  no_step c none rows among = filter-no_member (λ (row : StepRow). same_id c row.id) rows (λ row there. false_from_ne_true (same_id c row.id) (λ is.
      let known : has_record R.records row.id ≡ true =
      All-contains (λ (row : StepRow). IsTrue (has_record R.records row.id)) R.steps row good.said.numbers_have_no_gaps.steps_recorded (among row there) in
      both_ways (has_record R.records c) (ap is_some none) (ap (has_record R.records) (one_id c row.id is) ∙ known)))

  open_steps : (c : Id) → over_in R c ≡ false → steps_of R.steps c ≡ steps_of (filter (is_of (open_ids R)) R.steps) c
  unfolding steps_of
  open_steps c kept = at (record_of R.records c) refl
    where
      at : (o : Option Record) → record_of R.records c ≡ o → steps_of R.steps c ≡ steps_of (filter (is_of (open_ids R)) R.steps) c
      at None read =
          no_step c read R.steps (λ row there. there)
          ∙ sym (no_step c read (filter (is_of (open_ids R)) R.steps) (λ row there. (kept_there (is_of (open_ids R)) R.steps row there).0))
      at (Some r) read =
          let there : Contains (open_in R.records) r =
          Contains-filter (λ (r : Record). is_open r.phase) R.records r (member-row_of id_cmp record_key id_cmp_total c r R.records read).0
          (is_one r.phase (sym (ap is_over read) ∙ kept)) in
          sym (filter-filter_wider (λ (row : StepRow). same_id c row.id) (is_of (open_ids R))
          (λ row own. list_any-map (λ (d : Id). same_id d row.id) (λ (r : Record). r.id) (open_in R.records)
          ∙ any_from (λ (r : Record). same_id r.id row.id) (open_in R.records) r there (ap (λ (d : Id). same_id d row.id) (record_id R.records c r read) ∙ own)) R.steps)

  pub lacks_closed : (S : Register) → S ≡ record R { records = open_in R.records; steps = filter (is_of (open_ids R)) R.steps } → LacksOnly (over_in R) R S
  lacks_closed S is = subst (LacksOnly (over_in R) R) (sym is) (record {
    good = good;
    closed = λ c over. closed_one c (record_of R.records c) refl over;
    in_order = record {
      states = good.said.in_order.states;
      records = in_key_order-filter id_cmp record_key id_cmp_total (λ (r : Record). is_open r.phase) R.records good.said.in_order.records;
      steps = in_key_order-filter step_key_cmp step_key step_key_cmp_total (is_of (open_ids R)) R.steps good.said.in_order.steps;
      holds = good.said.in_order.holds;
    };
    rest = refl;
    own = λ c kept. record { staff = refl; own_record = open_record c kept; own_steps = open_steps c kept; own_holds = refl };
  })
    where
      closed_one : (c : Id) (o : Option Record) → record_of R.records c ≡ o → is_over o ≡ true → (r : Record) × (record_of R.records c ≡ Some r) × (is_closed r.phase ≡ true)
      closed_one c None read over = absurd (false≢true over)
      closed_one c (Some r) read over = (r, read, over)

  -- ---- network, staff and hands

  pub network_is : (sections : List SectionRow) (points : List PointRow) (g : Grid) → sections ≡ R.net.sections → points ≡ map (with_its_position R.states) R.net.points
      → IsGridOf sections points g → g ≡ grid_now R
  network_is sections points g of_sections of_points built =
      let now = now_is_network R good.said.network in
      let same_sections : Grid.sections g ≡ R.net.sections =
      one_list (λ (row : SectionRow). row.name) R.net.sections g.sections (subst (λ (rows : List SectionRow). IsPermutation rows g.sections) of_sections built.all_sections)
      good.said.network.sections_rise built.network.sections_rise in
      let same_points : Grid.points g ≡ map (with_its_position R.states) R.net.points =
      one_list (λ (row : PointRow). row.name) (map (with_its_position R.states) R.net.points) g.points (subst (λ (rows : List PointRow). IsPermutation rows g.points) of_points built.all_points)
      now.points_rise built.network.points_rise in
      λ i. record { sections = same_sections i; points = same_points i }

  pub staff_is : (rows staff : List StaffRow) → rows ≡ R.staff → IsStaffOf rows staff → staff ≡ R.staff
  staff_is rows staff is built =
      one_list (λ (row : StaffRow). row.name) R.staff staff (subst (λ (of : List StaffRow). IsPermutation of staff) is built.all_rows)
      good.said.staff.names_rise built.is_staff.names_rise

  pub bare_is : after_edits (map hand_edit R.states) (opening (grid_now R) R.staff) ≡ record (bare_register R) { holds = [] }
  bare_is =
      hands_edited R.states (opening (grid_now R) R.staff)
      ∙ ap (λ (T : Register). record T { states = set_hands R.states T.states }) (opening_now R good)
      ∙ ap (λ (states : List PointState). record (bare_register R) { states = states; holds = [] }) (hands_are R.states good.said.in_order.states)

-- ---- the answer of a closed record

pub over_is_done : (R : Register) (c : Id) (r : Record) → record_of R.records c ≡ Some r → is_closed r.phase ≡ true → way_back_answer R c ≡ Commands []
unfolding are_accepted
over_is_done R c r read over =
    let done : next_moves R c ≡ [] = rw read (ends r r.phase over) in
    rw read (ap (λ commands. commands_or_no_way (tried R commands)) (turns_end _ R c done))
  where
    ends : (r : Record) (phase : Phase) → is_closed phase ≡ true → moves_in R r phase ≡ []
    ends r Closed is = refl
    ends r _ is = cc is
