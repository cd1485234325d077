-- Changes that can be made are an update that is accepted; so a good register is good after any.
use Rattle.std.proofs.Common.{◌≡◌, ◌∙◌, ◌<◌, ◌≤◌, ℕ, Bool, true, false, ◌||◌, ◌==◌, not, nat_lt, cond, List, map, length, All, Contains, IsTrue, Option, None, Some, refl, sym, subst, arith, is_some, position}
use Rattle.std.proofs.lemmas.Bool.{eqb-false, ltb-false, or_parts}
use Rattle.std.proofs.lemmas.List.Elements.{All-contains_itself}
use Rattle.clr_net.proofs.Places.{all_fail}
use Rattle.clr_net.specs.Names.{repeat_place}
use Rattle.clr_net.specs.Network.{end_fault, first_fault as network_fault, row_fault, size_fault, twice_fault}
use Rattle.clr_net.specs.Grid.{has_ends, has_one_section}
use Rattle.clr_net.specs.declared.net_fault.NetFault.{NetFault}
use Rattle.clr_net.specs.declared.net_fault.NetFault.TheVariants.{PointTwice, SameEnds, SectionTwice, UnknownEnd}
use Rattle.clr_rules.specs.Staffed.{IsStaffed}
use Rattle.clr_staff.specs.Staff.{IsStaff, first_fault as staff_fault, has_known_supervisor, is_known, is_own_supervisor, staff_names}
use Rattle.clr_staff.specs.Staff.{row_fault as staff_row_fault, size_fault as staff_size_fault}
use Rattle.clr_staff.specs.declared.staff_fault.StaffFault.{StaffFault}
use Rattle.clr_staff.specs.declared.staff_fault.StaffFault.TheVariants.{OwnSupervisor, Twice, UnknownSupervisor}
use Rattle.clr_update.proofs.Common.{All-contains, All-weaker, Changes, IsGood, IsNetwork, PointRow, Register, SectionRow, StaffRow, and_from, and_parts, false≢true}
use Rattle.clr_update.proofs.Common.{has_name, has_name-row, in_the_way, point_names, row_named, section_names, updated}
use Rattle.clr_update.proofs.Free.{free_of, not_so}
use Rattle.clr_update.proofs.Good.{good_after, staffed_after}
use Rattle.clr_update.proofs.Left.{all_left, left_after}
use Rattle.clr_update.proofs.Passed.{fewer, from_ordered, name_ordered, ordered, rising, some_left}
use Rattle.clr_update.specs.Delta.{after_changes, all_there, can_be_made, have_no_fault, in_name_order, points_left, sections_left, staff_left, update_of}
use Rattle.clr_update.specs.DeltaLaws.{ChangesKeepGood, MadeChangesAreUpdates}
use Rattle.clr_update.specs.Laws.{IsAccepted, IsAllLeft}

-- ---- rows without a fault

none_of : {X : Type 0} (o : Option X) → not (is_some o) ≡ true → o ≡ None
none_of None is = refl
none_of (Some x) is = absurd (false≢true is)

row_none : (fault : ℕ → NetFault) (place : Option ℕ) (rest : Option NetFault) → row_fault fault place rest ≡ None → (place ≡ None) × (rest ≡ None)
row_none fault None rest none = (refl, none)
row_none fault (Some place) rest none = absurd cc

staff_none : (fault : ℕ → StaffFault) (place : Option ℕ) (rest : Option StaffFault) → staff_row_fault fault place rest ≡ None → (place ≡ None) × (rest ≡ None)
staff_none fault None rest none = (refl, none)
staff_none fault (Some place) rest none = absurd cc

-- sizes within the limits
record Sized (sections : List SectionRow) (points : List PointRow) (rest : Option NetFault) : Type 0 where
  some : 0 < length sections
  sections_fit : length sections ≤ 5000
  points_fit : length points ≤ 10000
  rest_none : rest ≡ None

sized : (sections : List SectionRow) (points : List PointRow) (rest : Option NetFault) → size_fault sections points rest ≡ None → Sized sections points rest
sized sections points rest none = at (length sections == 0) (nat_lt 5000 (length sections) || nat_lt 10000 (length points)) refl refl
  where
    at : (a b : Bool) → (length sections == 0) ≡ a → (nat_lt 5000 (length sections) || nat_lt 10000 (length points)) ≡ b → Sized sections points rest
    at true b first second = absurd (cc (rw first at none))
    at false true first second = absurd (cc (rw (first, second) at none))
    at false false first second =
        let (sections_few, points_few) = or_parts (nat_lt 5000 (length sections)) (nat_lt 10000 (length points)) second in
        let apart = eqb-false (length sections) 0 first in
        let sections_fit = ltb-false 5000 (length sections) sections_few in
        let points_fit = ltb-false 10000 (length points) points_few in
        record { some = omega arith; sections_fit = sections_fit; points_fit = points_fit; rest_none = rw (first, second) at none }

-- each member of a list has what is asked
each : {X : Type 0} (P : X → Type 0) (xs : List X) → ((x : X) → Contains xs x → P x) → All P xs
each P xs has = All-weaker (Contains xs) P has xs (All-contains_itself xs)

-- names among rows are among them in the order of names
still_named : {Row : Type 0} (name_of : Row → List ℕ) (rows : List Row) (name : List ℕ) → has_name (map name_of rows) name ≡ true
    → has_name (map name_of (in_name_order name_of rows)) name ≡ true
still_named name_of rows name known =
    let (row, there, same) = row_named name_of rows name known in
    let it = name_ordered name_of rows row there in
    subst (λ (n : List ℕ). has_name (map name_of (in_name_order name_of rows)) n ≡ true) (sym (same ∙ it.named))
    (has_name-row name_of (in_name_order name_of rows) it.row it.there)

pub network_from_rows : (sections : List SectionRow) (points : List PointRow) → network_fault sections points ≡ None
    → IsNetwork (record { sections = in_name_order (λ (row : SectionRow). row.name) sections; points = in_name_order (λ (p : PointRow). p.name) points })
network_from_rows sections points none =
    let names = section_names sections in
    let size = sized sections points (twice_fault sections points (end_fault names points None)) none in
    let (_, points_twice) = row_none SectionTwice (repeat_place names) _ size.rest_none in
    let (_, ends) = row_none PointTwice (repeat_place (point_names points)) _ points_twice in
    let (unknown, same_ends) = row_none UnknownEnd (position (λ p. not (has_ends names p)) points) _ ends in
    let (one, _) = row_none SameEnds (position has_one_section points) None same_ends in
    let known = all_fail (λ p. not (has_ends names p)) points unknown in
    let differ = all_fail has_one_section points one in
    let fewer_sections = fewer (λ (row : SectionRow). row.name) sections in
    let fewer_points = fewer (λ (p : PointRow). p.name) points in
    let sections_fit = size.sections_fit in
    let points_fit = size.points_fit in
    let sorted = in_name_order (λ (row : SectionRow). row.name) sections in
    let sorted_points = in_name_order (λ (p : PointRow). p.name) points in
    record {
      some_section = some_left (λ (row : SectionRow). row.name) sections size.some;
      sections_fit = omega arith;
      points_fit = omega arith;
      sections_rise = rising (λ (row : SectionRow). row.name) sorted (ordered (λ (row : SectionRow). row.name) sections);
      points_rise = rising (λ (p : PointRow). p.name) sorted_points (ordered (λ (p : PointRow). p.name) points);
      ends_known = each (λ p. IsTrue (has_ends (section_names sorted) p)) sorted_points (λ p there.
          let both = and_parts (has_name names p.from_end) (has_name names p.to_end)
          (not_so (has_ends names p) (All-contains (λ q. not (has_ends names q) ≡ false) points p known (from_ordered (λ (p : PointRow). p.name) points p there))) in
          and_from (has_name (section_names sorted) p.from_end) (has_name (section_names sorted) p.to_end)
          (still_named (λ (row : SectionRow). row.name) sections p.from_end both.0) (still_named (λ (row : SectionRow). row.name) sections p.to_end both.1));
      ends_differ = each (λ p. has_one_section p ≡ false) sorted_points
          (λ p there. All-contains (λ q. has_one_section q ≡ false) points p differ (from_ordered (λ (p : PointRow). p.name) points p there));
    }

still_known : (rows : List StaffRow) (supervisor : Option (List ℕ)) → is_known (staff_names rows) supervisor ≡ true
    → is_known (staff_names (in_name_order (λ (row : StaffRow). row.name) rows)) supervisor ≡ true
still_known rows None known = refl
still_known rows (Some name) known = still_named (λ (row : StaffRow). row.name) rows name known

few : (rows : List StaffRow) → staff_size_fault rows None ≡ None → length rows ≤ 2000
few rows none = at (nat_lt 2000 (length rows)) refl
  where
    at : (b : Bool) → nat_lt 2000 (length rows) ≡ b → length rows ≤ 2000
    at true many = absurd (cc (rw many at none))
    at false is = ltb-false 2000 (length rows) is

pub staff_from_rows : (rows : List StaffRow) → staff_fault rows ≡ None → IsStaff (in_name_order (λ (row : StaffRow). row.name) rows)
staff_from_rows rows none =
    let names = staff_names rows in
    let (_, supervisors) = staff_none Twice (repeat_place names) _ none in
    let (unknown, own_rest) = staff_none UnknownSupervisor (position (λ row. not (has_known_supervisor names row)) rows) _ supervisors in
    let (own, size) = staff_none OwnSupervisor (position is_own_supervisor rows) _ own_rest in
    let known = all_fail (λ row. not (has_known_supervisor names row)) rows unknown in
    let differ = all_fail is_own_supervisor rows own in
    let fit = few rows size in
    let less = fewer (λ (row : StaffRow). row.name) rows in
    let sorted = in_name_order (λ (row : StaffRow). row.name) rows in
    record {
      rows_fit = omega arith;
      names_rise = rising (λ (row : StaffRow). row.name) sorted (ordered (λ (row : StaffRow). row.name) rows);
      supervisors_known = each (λ row. IsTrue (has_known_supervisor (staff_names sorted) row)) sorted (λ row there.
          still_known rows row.supervisor (not_so (has_known_supervisor names row)
          (All-contains (λ (x : StaffRow). not (has_known_supervisor names x) ≡ false) rows row known (from_ordered (λ (row : StaffRow). row.name) rows row there))));
      supervisors_differ = each (λ row. is_own_supervisor row ≡ false) sorted
          (λ row there. All-contains (λ x. is_own_supervisor x ≡ false) rows row differ (from_ordered (λ (row : StaffRow). row.name) rows row there));
    }

-- ---- changes that can be made

pub made_changes_are_updates : MadeChangesAreUpdates
unfolding can_be_made
made_changes_are_updates R of good made =
    let (_, rest) = and_parts (all_there R of) _ made in
    let (no_fault, free) = and_parts (have_no_fault R of) _ rest in
    let (network, staff) = and_parts (not (is_some (network_fault (sections_left R of) (points_left R of)))) _ no_fault in
    record {
      good = good;
      read = record {
        network = network_from_rows (sections_left R of) (points_left R of) (none_of (network_fault (sections_left R of) (points_left R of)) network);
        staff = staff_from_rows (staff_left R of) (none_of (staff_fault (staff_left R of)) staff);
      };
      free = none_of (in_the_way R (update_of R of)) free;
    }

-- what holds before changes, and after such as can be made, holds after any
module _ (R : Register) (of : Changes) (good : IsGood R) (P : Register → Type 0) (before : P R) (after : IsAccepted R (update_of R of) → P (updated R (update_of R of))) where
  settled : (b : Bool) → can_be_made R of ≡ b → P (cond b (updated R (update_of R of)) R)
  settled true made = after (made_changes_are_updates R of good made)
  settled false is = before

  after_any : P (after_changes R of)
  after_any = settled (can_be_made R of) refl

pub changes_keep_good : ChangesKeepGood
changes_keep_good = record {
  good = λ R of good. after_any R of good IsGood good (λ it. good_after R good (update_of R of) it.read (free_of R (update_of R of) it.free));
  staffed = λ R of good staffed. after_any R of good IsStaffed staffed (λ it. staffed_after R good (update_of R of) it.read (free_of R (update_of R of) it.free) staffed);
  nothing = λ R of good. after_any R of good (IsAllLeft R) (all_left R good) (λ it. left_after R good (update_of R of) it.read (free_of R (update_of R of) it.free));
}
