-- The changes of an accepted update can be made, and lead where the update leads.
use Rattle.std.proofs.Common.{◌≡◌, ◌∙◌, ◌⊎◌, inl, inr, ⊎_elim, ℕ, Bool, true, false, ◌&&◌, ◌||◌, not, cond, List, [], ◌∷◌, ◌++◌, map, filter, Contains, IsPermutation, IsTrue, Option, None, Some, refl, sym, ap, subst, arith, is_some, unwrap_or}
use Rattle.std.proofs.lemmas.List.{length-map, map-append}
use Rattle.std.proofs.lemmas.List.Elements.{All-map}
use Rattle.std.proofs.lemmas.List.Sorted.{IsPermutation-map}
use Rattle.std.specs.List.Sorted.{IsStrictlySortedBy}
use Rattle.clr_net.proofs.BuildFacts.{network_has_no_fault}
use Rattle.clr_net.specs.Network.{first_fault as network_fault}
use Rattle.clr_net.proofs.KeptRows.{has_name-filter}
use Rattle.clr_net.specs.Grid.{has_ends, has_one_section}
use Rattle.clr_net.specs.Walk.{joins}
use Rattle.clr_rules.proofs.edits.Growing.{named_is_put}
use Rattle.clr_rules.proofs.good.Opening.{first_keys, in_key_order-from_sorted, unplaced_is_network}
use Rattle.clr_rules.proofs.lists.StateFacts.{state_is_known}
use Rattle.clr_rules.specs.Checks.{is_field, is_operator}
use Rattle.clr_rules.specs.Edits.{after_edit, fit}
use Rattle.clr_rules.specs.Staffed.{has_some_role}
use Rattle.clr_shelf.proofs.KeyOrder.{in_key_order-with_row}
use Rattle.clr_shelf.specs.Rows.{with_row}
use Rattle.clr_staff.proofs.StaffFacts.{staff_has_no_fault}
use Rattle.clr_staff.specs.Staff.{first_fault as staff_fault}
use Rattle.clr_update.proofs.Common.{AddPoint, AddSection, Contains-filter, Contains-here, Contains-later, Edit, Grid, IsNetwork, IsRead, PointRow, PointState, Register, SectionRow, StaffRow, Update}
use Rattle.clr_update.proofs.Common.{All-weaker, after_edits, and_from, and_parts, any_from, both_ways, changes, Changes, false_from_ne_true, filed, first_named, first_needed, first_obstacle, first_state, has_name, has_name-row}
use Rattle.clr_update.proofs.Common.{in_key_order, in_position, in_the_way, is_none, joined, jumpers, kept, kept_state, kept_there, lacking, list_any, mapped_from, member-row_of, member-with_row, name_cmp, name_says}
use Rattle.clr_update.proofs.Common.{nat_list_cmp_total, needs_field, not-true, not_from_false, obstacles, one_name, open_records, opening, or_left, or_right, point_names, same_employee, same_itself, same_name}
use Rattle.clr_update.proofs.Common.{same_point, same_section, section_names, some_from, standing_records, state_key, state_of, staying, there_mapped, touches, unplaced, unplaced_net, updated, where_so, fence_points, fence_sections}
use Rattle.clr_update.proofs.Common.{its_holder, its_readers, its_requester, is_some_step, step_points, work_section}
use Rattle.clr_update.proofs.Fences.{points_rise, sections_rise}
use Rattle.clr_update.proofs.Filed.{IsFiled}
use Rattle.clr_update.proofs.Free.{Free, free_of, named_none}
use Rattle.clr_update.proofs.Passed.{none_pass, ordered_is, passed_is, went_there}
use Rattle.clr_update.proofs.Rows.{employee_itself, employee_same, from_in, lacking_there, map_none, no_member, one_row, point_itself, point_same, same_rows, section_itself, section_same}
use Rattle.clr_update.proofs.Staying.{Reading, filed_is, known_states, reading, same_keys, states_in_order}
use Rattle.clr_update.specs.Delta.{all_there, can_be_made, have_no_fault, jumpers_gone, network_of, passed, points_left, sections_left, staff_left, staff_of, update_of}
use Rattle.clr_update.specs.DeltaLaws.{ChangesSayAll}
use Rattle.clr_update.specs.Laws.{IsAccepted}
use Rattle.clr_update.specs.Update.{is_filed, is_misnamed}
use Rattle.clr_update.specs.declared.obstacle.Obstacle.{Obstacle}
use Rattle.clr_update.specs.declared.obstacle.Obstacle.TheVariants as in_way

-- ---- lists

map_alike : {X Y : Type 0} (f g : X → Y) (xs : List X) → ((x : X) → Contains xs x → f x ≡ g x) → map f xs ≡ map g xs
map_alike f g [] alike = refl
map_alike f g (x ∷ xs) alike =
    let first = alike x (Contains-here x xs) in
    let rest = map_alike f g xs (λ y there. alike y (Contains-later x y xs there)) in
    λ i. first i ∷ rest i

map_same : {X : Type 0} (f : X → X) (xs : List X) → ((x : X) → Contains xs x → f x ≡ x) → map f xs ≡ xs
map_same f [] same = refl
map_same f (x ∷ xs) same =
    let first = same x (Contains-here x xs) in
    let rest = map_same f xs (λ y there. same y (Contains-later x y xs there)) in
    λ i. first i ∷ rest i

-- states with the same keys, one of which has those of the other
same_by_keys : (xs ys : List PointState) → map state_key xs ≡ map state_key ys → in_key_order name_cmp state_key xs ≡ true → in_key_order name_cmp state_key ys ≡ true
    → ((x : PointState) → Contains xs x → Contains ys x) → xs ≡ ys
same_by_keys xs ys keys xs_rise ys_rise fore = same_rows state_key xs ys xs_rise ys_rise fore back
  where
    back : (y : PointState) → Contains ys y → Contains xs y
    back y there =
        let (x, here, same) = mapped_from state_key xs (state_key y) (subst (λ (l : List (List ℕ)). Contains l (state_key y)) (sym keys) (there_mapped state_key ys y there)) in
        subst (λ (z : PointState). Contains xs z) (one_row state_key ys ys_rise x y (fore x here) there same) here

-- ---- whatever changes are said, nothing stays beside the network that they lead to

module _ (R : Register) (of : Changes) where
  abbrev g : Grid
  g = network_of R of

  abbrev v : Update
  v = update_of R of

  reached : (p : PointRow) → Contains (jumpers R) p → (is_filed v p.name || has_name (jumpers_gone R g) p.name) ≡ true
  reached p there = at (is_filed v p.name) refl
    where
      at : (b : Bool) → is_filed v p.name ≡ b → (is_filed v p.name || has_name (jumpers_gone R g) p.name) ≡ true
      at true filed = or_left (is_filed v p.name) (has_name (jumpers_gone R g) p.name) filed
      at false lost = or_right (is_filed v p.name) (has_name (jumpers_gone R g) p.name)
          (has_name-filter (λ n. not (has_name (point_names g.points) n)) (point_names (jumpers R)) p.name
          ∙ and_from (not (has_name (point_names g.points) p.name)) (has_name (point_names (jumpers R)) p.name)
          (not_from_false (has_name (point_names g.points) p.name) lost) (has_name-row (λ (q : PointRow). q.name) (jumpers R) p there))

  none_stay : staying R v ≡ []
  none_stay = none_pass (λ p. not (is_filed v p.name || has_name (jumpers_gone R g) p.name)) (jumpers R)
      (λ p there is. both_ways (is_filed v p.name || has_name (jumpers_gone R g) p.name) (not-true _ is) (reached p there))

  none_joined : joined R v ≡ []
  none_joined = none_pass (λ row. not (has_name (section_names g.sections) row.name) && list_any (touches (same_name row.name)) (staying R v)) (Grid.sections R.net)
      (λ row there is. both_ways (list_any (touches (same_name row.name)) (staying R v)) (ap (list_any (touches (same_name row.name))) none_stay)
      (and_parts (not (has_name (section_names g.sections) row.name)) (list_any (touches (same_name row.name)) (staying R v)) is).1)

  pub none_kept : kept R (update_of R of) ≡ []
  none_kept = λ i. map AddSection (none_joined i) ++ map AddPoint (none_stay i)

  filed_is_opening : filed R v ≡ opening g (staff_of R of)
  unfolding filed after_edits
  filed_is_opening = ap (λ (edits : List Edit). after_edits edits (opening g (staff_of R of))) none_kept

  -- the register after them
  pub updated_is : updated R (update_of R of)
      ≡ record R { net = unplaced_net (network_of R of); staff = staff_of R of; states = map (kept_state R.states) (map first_state (Grid.points (network_of R of))) }
  updated_is = ap (λ (F : Register). record R { net = F.net; staff = staff_of R of; states = map (kept_state R.states) F.states }) filed_is_opening

-- ---- the points of the register of the files

From : List PointRow → List PointRow → PointRow → Type 0
From net more q = Contains net q ⊎ ((t : PointRow) × Contains more t × (unplaced t ≡ q))

points_from : (more : List PointRow) (O : Register) → in_key_order name_cmp (λ (p : PointRow). p.name) (Grid.points O.net) ≡ true
    → (q : PointRow) → Contains (Grid.points (Register.net (after_edits (map AddPoint more) O))) q
    → Contains (Grid.points O.net) q ⊎ ((t : PointRow) × Contains more t × (unplaced t ≡ q))
unfolding after_edits
points_from [] O rises q there = inl there
points_from (p ∷ more) O rises q there = at (points_from more (after_edit (AddPoint p) O) grown q there)
  where
    put : Grid.points (Register.net (after_edit (AddPoint p) O)) ≡ with_row name_cmp (λ (q : PointRow). q.name) (unplaced p) (Grid.points O.net)
    put = named_is_put (λ (p : PointRow). p.name) (unplaced p) (Grid.points O.net)

    grown : in_key_order name_cmp (λ (p : PointRow). p.name) (Grid.points (Register.net (after_edit (AddPoint p) O))) ≡ true
    grown = subst (λ (l : List PointRow). in_key_order name_cmp (λ (p : PointRow). p.name) l ≡ true) (sym put)
        (in_key_order-with_row name_cmp (λ (p : PointRow). p.name) nat_list_cmp_total (unplaced p) (Grid.points O.net) rises)

    at : Contains (Grid.points (Register.net (after_edit (AddPoint p) O))) q ⊎ ((t : PointRow) × Contains more t × (unplaced t ≡ q))
        → Contains (Grid.points O.net) q ⊎ ((t : PointRow) × Contains (p ∷ more) t × (unplaced t ≡ q))
    at (inl now) = ⊎_elim (λ same. inr (p, Contains-here p more, same)) (λ before. inl before)
        (member-with_row name_cmp (λ (p : PointRow). p.name) nat_list_cmp_total (unplaced p) q (Grid.points O.net) rises
        (subst (λ (l : List PointRow). Contains l q) put now))
    at (inr (t, later, same)) = inr (t, Contains-later p t more later, same)

kept_from : (sections : List SectionRow) (more : List PointRow) (O : Register) → in_key_order name_cmp (λ (p : PointRow). p.name) (Grid.points O.net) ≡ true
    → (q : PointRow) → Contains (Grid.points (Register.net (after_edits (map AddSection sections ++ map AddPoint more) O))) q
    → Contains (Grid.points O.net) q ⊎ ((t : PointRow) × Contains more t × (unplaced t ≡ q))
unfolding after_edits
kept_from [] more O rises q there = points_from more O rises q there
kept_from (row ∷ sections) more O rises q there = kept_from sections more (after_edit (AddSection row) O) rises q there

filed_from : (R : Register) (u : Update) → IsRead u → (q : PointRow) → Contains (Grid.points (Register.net (filed R u))) q
    → ((z : PointRow) × Contains (Grid.points u.net) z × (unplaced z ≡ q)) ⊎ ((t : PointRow) × Contains (staying R u) t × (unplaced t ≡ q))
unfolding filed
filed_from R u read q there = ⊎_elim
    (λ filed. inl (mapped_from unplaced (Grid.points u.net) q filed)) (λ more. inr more)
    (kept_from (joined R u) (staying R u) (opening u.net u.staff) (points_rise (unplaced_net u.net) (unplaced_is_network u.net read.network)) q there)

-- ---- the obstacles

-- those that are of rows that records need, and of roles
abbrev rest_of : Register → Register → List (Option Obstacle)
rest_of R S =
    first_needed in_way.Section (fence_sections R S) (standing_records R)
    ∷ first_needed in_way.Point (fence_points R S) (standing_records R)
    ∷ first_needed in_way.Step (step_points R S) (open_records R)
    ∷ first_needed in_way.Work (work_section R S) (open_records R)
    ∷ first_needed in_way.Holder (its_holder R S) (open_records R)
    ∷ first_needed in_way.Reader (its_readers R S) (open_records R)
    ∷ first_needed in_way.Requester (its_requester R S) (open_records R)
    ∷ where_so (is_some_step R.steps && not (has_some_role S.staff is_operator)) in_way.NoOperator
    ∷ where_so (needs_field R && not (has_some_role S.staff is_field)) in_way.NoField
    ∷ []

-- the first three
abbrev lost_jumper : Register → Update → Option Obstacle
lost_jumper R u = first_named in_way.NoJumper (filter (λ p. is_filed u p || not (has_name (point_names (jumpers R)) p)) u.without) None

abbrev misnamed_jumper : Register → Update → Option Obstacle
misnamed_jumper R u = first_named in_way.JumperName (point_names (filter (is_misnamed u) (jumpers R))) None

abbrev too_large : Register → Update → Option Obstacle
too_large R u = where_so (not (fit u.net (kept R u))) in_way.TooLarge

first_none : (o : Option Obstacle) (rest : List (Option Obstacle)) → first_obstacle (o ∷ rest) ≡ None → (o ≡ None) × (first_obstacle rest ≡ None)
first_none None rest none = (refl, none)
first_none (Some obstacle) rest none = absurd cc

all_first : (a b c : Option Obstacle) (rest : List (Option Obstacle)) → a ≡ None → b ≡ None → c ≡ None → first_obstacle rest ≡ None → first_obstacle (a ∷ b ∷ c ∷ rest) ≡ None
all_first a b c rest a_none b_none c_none none = rw (a_none, b_none, c_none) none

joins_itself : (p : PointRow) → joins p p.from_end p.to_end ≡ true
joins_itself p = or_left (same_name p.from_end p.from_end && same_name p.to_end p.to_end) (same_name p.to_end p.from_end && same_name p.from_end p.to_end)
    (and_from (same_name p.from_end p.from_end) (same_name p.to_end p.to_end) (same_itself p.from_end) (same_itself p.to_end))

-- ---- an accepted update

module _ (R : Register) (u : Update) (it : IsAccepted R u) where
  abbrev S : Register
  S = updated R u

  abbrev of : Changes
  of = changes R S

  abbrev was : List PointRow
  was = Grid.points R.net

  abbrev is : List PointRow
  is = Grid.points S.net

  free : Free R u (updated R u)
  free = free_of R u it.free

  filed_so : IsFiled (filed R u)
  filed_so = filed_is R it.good u free it.read

  old_network : IsNetwork R.net
  old_network = it.good.said.network

  sections_moved : IsPermutation (sections_left R of) (Grid.sections S.net)
  sections_moved = passed_is same_section section_same section_itself (λ (row : SectionRow). row.name) (Grid.sections R.net) (Grid.sections S.net)
      (sections_rise R.net old_network) (sections_rise S.net filed_so.network)

  staff_rises : (rows : List StaffRow) → IsStrictlySortedBy name_cmp (map (λ (row : StaffRow). row.name) rows) → in_key_order name_cmp (λ (row : StaffRow). row.name) rows ≡ true
  staff_rises rows rise = in_key_order-from_sorted name_cmp (λ (row : StaffRow). row.name) rows rise

  staff_moved : IsPermutation (staff_left R of) u.staff
  staff_moved = passed_is same_employee employee_same employee_itself (λ (row : StaffRow). row.name) R.staff u.staff
      (staff_rises R.staff it.good.said.staff.names_rise) (staff_rises u.staff it.read.staff.names_rise)

  -- ---- points, each that is new in its position

  abbrev stayed : PointRow → Bool
  stayed p = list_any (same_point p) was

  abbrev place : PointRow → PointRow
  place p = cond (stayed p) p (in_position S.states p)

  -- what does not look at positions
  placed_same : {X : Type 0} (see : PointRow → X) → ((p : PointRow) → see (in_position S.states p) ≡ see p) → (p : PointRow) → see (place p) ≡ see p
  placed_same see blind p = at (stayed p)
    where
      at : (b : Bool) → see (cond b p (in_position S.states p)) ≡ see p
      at true = refl
      at false = blind p

  abbrev points : List PointRow
  points = map place is

  abbrev go : List PointRow
  go = lacking same_point is was

  abbrev come : List PointRow
  come = lacking same_point was is

  points_moved : IsPermutation (points_left R of) points
  points_moved = subst (λ (l : List PointRow). IsPermutation l points) same
      (IsPermutation-map place (passed same_point go come was) is
      (passed_is same_point point_same point_itself (λ (p : PointRow). p.name) was is (points_rise R.net old_network) (points_rise S.net filed_so.network)))
    where
      left_same : map place (lacking same_point go was) ≡ lacking same_point go was
      left_same = map_same place (lacking same_point go was)
          (λ p there. ap (λ b. cond b p (in_position S.states p)) (any_from (same_point p) was p (lacking_there same_point point_same point_itself go was p there) (point_itself p)))

      come_same : map place come ≡ map (in_position S.states) come
      come_same = map_alike place (in_position S.states) come
          (λ p there. ap (λ b. cond b p (in_position S.states p)) (not-true (stayed p) (kept_there (λ q. not (list_any (same_point q) was)) is p there).1))

      same : map place (passed same_point go come was) ≡ points_left R of
      same = map-append place (lacking same_point go was) come ∙ (λ i. left_same i ++ come_same i)

  names_same : (rows : List PointRow) → point_names (map place rows) ≡ point_names rows
  names_same [] = refl
  names_same (p ∷ rows) = λ i. placed_same (λ (q : PointRow). q.name) (λ q. refl) p i ∷ names_same rows i

  unplaced_same : (rows : List PointRow) → map unplaced (map place rows) ≡ map unplaced rows
  unplaced_same [] = refl
  unplaced_same (p ∷ rows) = λ i. placed_same unplaced (λ q. refl) p i ∷ unplaced_same rows i

  abbrev new : Grid
  new = record { sections = Grid.sections S.net; points = points }

  new_network : IsNetwork new
  new_network =
      let net = filed_so.network in
      let size = length-map is place in
      let fit = net.points_fit in
      record {
        some_section = net.some_section;
        sections_fit = net.sections_fit;
        points_fit = omega arith;
        sections_rise = net.sections_rise;
        points_rise = rw (names_same is) net.points_rise;
        ends_known = All-map (λ p. IsTrue (has_ends (section_names (Grid.sections S.net)) p)) place is
            (All-weaker (λ p. IsTrue (has_ends (section_names (Grid.sections S.net)) p)) (λ p. IsTrue (has_ends (section_names (Grid.sections S.net)) (place p)))
            (λ p known. placed_same (has_ends (section_names (Grid.sections S.net))) (λ q. refl) p ∙ known) is net.ends_known);
        ends_differ = All-map (λ p. has_one_section p ≡ false) place is
            (All-weaker (λ p. has_one_section p ≡ false) (λ p. has_one_section (place p) ≡ false)
            (λ p differ. placed_same has_one_section (λ q. refl) p ∙ differ) is net.ends_differ);
      }

  no_network_fault : network_fault (sections_left R of) (points_left R of) ≡ None
  no_network_fault = network_has_no_fault (sections_left R of) (points_left R of) new
      (record { all_sections = sections_moved; all_points = points_moved; network = new_network })

  no_staff_fault : staff_fault (staff_left R of) ≡ None
  no_staff_fault = staff_has_no_fault (staff_left R of) u.staff (record { all_rows = staff_moved; is_staff = it.read.staff })

  network_is : network_of R of ≡ new
  network_is =
      let sections = ordered_is (λ (row : SectionRow). row.name) (sections_left R of) (Grid.sections S.net) sections_moved (sections_rise S.net filed_so.network) in
      let rows = ordered_is (λ (p : PointRow). p.name) (points_left R of) points points_moved (points_rise new new_network) in
      λ i. record { sections = sections i; points = rows i }

  staff_is : staff_of R of ≡ u.staff
  staff_is = ordered_is (λ (row : StaffRow). row.name) (staff_left R of) u.staff staff_moved (staff_rises u.staff it.read.staff.names_rise)

  -- ---- states

  abbrev kept_of : PointRow → PointState
  kept_of p = kept_state R.states (first_state p)

  -- a new point's state is that of its row
  new_state : (p : PointRow) → Contains is p → state_of R.states p.name ≡ None → (first : PointState) → Contains (Register.states (filed R u)) first → first.point ≡ p.name
      → state_of S.states p.name ≡ Some first → first_state (place p) ≡ first
  new_state p there none first in_files at_p state =
      let gone : stayed p ≡ false = false_from_ne_true (stayed p) (λ stays.
      both_ways (is_some (state_of R.states p.name)) (ap is_some none)
      (state_is_known R.states p.name ∙ ap (λ (names : List (List ℕ)). has_name names p.name) it.good.besides.points_known.states
      ∙ has_name-row (λ (q : PointRow). q.name) was p (from_in same_point point_same point_itself was p stays))) in
      let hand = filed_so.free first in_files in
      ap (λ b. first_state (cond b p (in_position S.states p))) gone
      ∙ (λ i. record {
        point = sym at_p i;
        position = unwrap_or (ap (λ o. elim o as (λ _. Option _) [
          | None ↦ None
          | Some s ↦ Some (PointState.position s)
        ]) state i) p.position;
        hand = sym hand i;
      })

  there_after : (p : PointRow) → Contains is p → Contains S.states (kept_of (place p))
  there_after p there =
      let named = has_name-row (λ (q : PointRow). q.name) is p there in
      let read = reading R it.good u free it.read p.name named in
      subst (λ (s : PointState). Contains S.states s) (same read (state_of R.states p.name) refl)
      (member-row_of name_cmp state_key nat_list_cmp_total p.name (unwrap_or (state_of R.states p.name) read.new) S.states read.state).0
    where
      name_is : PointState.point (first_state (place p)) ≡ p.name
      name_is = placed_same (λ (q : PointRow). q.name) (λ q. refl) p

      same : (read : Reading R it.good u free it.read p.name) → (o : Option PointState) → state_of R.states p.name ≡ o → unwrap_or (state_of R.states p.name) read.new ≡ kept_of (place p)
      same read None none = rw none (sym (new_state p there none read.new read.there read.at_p (read.state ∙ ap (λ o. Some (unwrap_or o read.new)) none))
          ∙ sym (ap (λ o. unwrap_or o (first_state (place p))) (ap (state_of R.states) name_is ∙ none)))
      same read (Some state) some = ap (λ o. unwrap_or o read.new) some
          ∙ sym (ap (λ o. unwrap_or o (first_state (place p))) (ap (state_of R.states) name_is ∙ some))

  states_are : map (kept_state R.states) (map first_state points) ≡ S.states
  states_are = same_by_keys (map (kept_state R.states) (map first_state points)) S.states keys
      (in_key_order-from_sorted name_cmp state_key (map (kept_state R.states) (map first_state points)) (rw own_keys new_network.points_rise))
      (states_in_order R it.good u free it.read) fore
    where
      own_keys : map state_key (map (kept_state R.states) (map first_state points)) ≡ point_names points
      own_keys = same_keys R it.good u free it.read R.states (map first_state points) ∙ first_keys points

      keys : map state_key (map (kept_state R.states) (map first_state points)) ≡ map state_key S.states
      keys = own_keys ∙ names_same is ∙ sym (known_states R it.good u free it.read)

      fore : (s : PointState) → Contains (map (kept_state R.states) (map first_state points)) s → Contains S.states s
      fore s there =
          let (first, in_firsts, is_s) = mapped_from (kept_state R.states) (map first_state points) s there in
          let (q, in_points, is_first) = mapped_from first_state points first in_firsts in
          let (p, in_is, is_q) = mapped_from place is q in_points in
          subst (λ (x : PointState). Contains S.states x) (ap kept_of is_q ∙ ap (kept_state R.states) is_first ∙ is_s) (there_after p in_is)

  -- ---- the register

  pub leads_there : updated R (update_of R (changes R (updated R u))) ≡ updated R u
  leads_there = updated_is R of
      ∙ (λ i. record R { net = unplaced_net (network_is i); staff = staff_is i; states = map (kept_state R.states) (map first_state (Grid.points (network_is i))) })
      ∙ (λ i. record R { net = record { sections = Grid.sections S.net; points = placed i }; staff = u.staff; states = states_are i })
    where
      placed : map unplaced points ≡ is
      placed = unplaced_same is ∙ ap Grid.points filed_so.placed

  -- ---- nothing is in its way

  abbrev w : Update
  w = update_of R of

  none_lost : filter (λ p. is_filed w p || not (has_name (point_names (jumpers R)) p)) (Update.without w) ≡ []
  none_lost = none_pass (λ p. is_filed w p || not (has_name (point_names (jumpers R)) p)) (Update.without w)
      (λ p there test. let both = kept_there (λ n. not (has_name (point_names (Grid.points (network_of R of))) n)) (point_names (jumpers R)) p there in
      both_ways (is_filed w p || not (has_name (point_names (jumpers R)) p))
      (rw (not-true (is_filed w p) both.1, (name_says (point_names (jumpers R)) p).1 both.0) refl) test)

  abbrev is_apart : PointRow → PointRow → Bool
  is_apart p q = same_name q.name p.name && not (joins q p.from_end p.to_end)

  module _ (named : filter (is_misnamed u) (jumpers R) ≡ []) where
    none_apart : (p : PointRow) → Contains (jumpers R) p → (q : PointRow) → Contains is q → is_apart p q ≡ true → ⊥
    none_apart p jumper q there apart = at (filed_from R u it.read q there)
      where
        at : ((z : PointRow) × Contains (Grid.points u.net) z × (unplaced z ≡ q)) ⊎ ((t : PointRow) × Contains (staying R u) t × (unplaced t ≡ q)) → ⊥
        at (inl (z, filed, same)) = no_member p (subst (λ (l : List PointRow). Contains l p) named
            (Contains-filter (is_misnamed u) (jumpers R) p jumper
            (any_from (is_apart p) (Grid.points u.net) z filed (subst (λ (x : PointRow). is_apart p x ≡ true) (sym same) apart))))
        at (inr (t, stays, same)) =
            let own = (kept_there (λ p. p.jumper) was t (kept_there (λ p. not (is_filed u p.name || has_name u.without p.name)) (jumpers R) t stays).0).0 in
            let before = (kept_there (λ p. p.jumper) was p jumper).0 in
            let both = and_parts (same_name t.name p.name) (not (joins t p.from_end p.to_end)) (subst (λ (x : PointRow). is_apart p x ≡ true) (sym same) apart) in
            let one : t ≡ p = one_row (λ (p : PointRow). p.name) was (points_rise R.net old_network) t p own before (one_name t.name p.name both.0) in
            both_ways (joins t p.from_end p.to_end) (not-true (joins t p.from_end p.to_end) both.1) (ap (λ (x : PointRow). joins x p.from_end p.to_end) one ∙ joins_itself p)

    none_misnamed : filter (is_misnamed w) (jumpers R) ≡ []
    none_misnamed = none_pass (is_misnamed w) (jumpers R) (λ p jumper misnamed.
        let (q, there, apart) = some_from (is_apart p) points (ap (λ (h : Grid). list_any (is_apart p) h.points) (sym network_is) ∙ misnamed) in
        let (y, in_is, placed) = mapped_from place is q there in
        none_apart p jumper y in_is (sym (placed_same (is_apart p) (λ x. refl) y) ∙ ap (is_apart p) placed ∙ apart))

  fits : where_so (not (fit (Update.net w) (kept R w))) in_way.TooLarge ≡ None
  unfolding fit
  fits = ap (λ (edits : List Edit). where_so (not (fit (Update.net w) edits)) in_way.TooLarge) (none_kept R of)

  nothing : in_the_way R (update_of R (changes R (updated R u))) ≡ None
  unfolding obstacles
  nothing =
      let (_, named_rest) = first_none (lost_jumper R u) (misnamed_jumper R u ∷ too_large R u ∷ rest_of R S) it.free in
      let (named, large_rest) = first_none (misnamed_jumper R u) (too_large R u ∷ rest_of R S) named_rest in
      let (_, rest) = first_none (too_large R u) (rest_of R S) large_rest in
      let misnamed = map_none (λ (p : PointRow). p.name) (filter (is_misnamed u) (jumpers R)) (named_none in_way.JumperName (point_names (filter (is_misnamed u) (jumpers R))) None named).0 in
      all_first (lost_jumper R w) (misnamed_jumper R w) (too_large R w) (rest_of R (updated R w))
      (ap (λ (names : List (List ℕ)). first_named in_way.NoJumper names None) none_lost)
      (ap (λ (rows : List PointRow). first_named in_way.JumperName (point_names rows) None) (none_misnamed misnamed))
      fits
      (subst (λ (T : Register). first_obstacle (rest_of R T) ≡ None) (sym leads_there) rest)

  pub are_made : can_be_made R (changes R (updated R u)) ≡ true
  unfolding can_be_made
  are_made = and_from (all_there R of) _
      (and_from _ _ (ap is_none (went_there same_section section_same section_itself (λ (row : SectionRow). row.name) (Grid.sections R.net) (Grid.sections S.net) (sections_rise R.net old_network) (sections_rise S.net filed_so.network)))
      (and_from _ _ (ap is_none (went_there same_point point_same point_itself (λ (p : PointRow). p.name) was is (points_rise R.net old_network) (points_rise S.net filed_so.network)))
      (ap is_none (went_there same_employee employee_same employee_itself (λ (row : StaffRow). row.name) R.staff u.staff (staff_rises R.staff it.good.said.staff.names_rise) (staff_rises u.staff it.read.staff.names_rise)))))
      (and_from (have_no_fault R of) _
      (and_from _ _ (ap (λ o. not (is_some o)) no_network_fault) (ap (λ o. not (is_some o)) no_staff_fault))
      (ap (λ o. not (is_some o)) nothing))

pub changes_say_all : ChangesSayAll
changes_say_all = record {
  made = are_made;
  same = λ R u it. ap (λ b. cond b (updated R (update_of R (changes R (updated R u)))) R) (are_made R u it) ∙ leads_there R u it;
}
