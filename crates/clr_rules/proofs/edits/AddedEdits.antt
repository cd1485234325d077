-- What a jumper that no check refuses adds can be added: its edits fit the network.
use Rattle.std.proofs.Common.{◌≡◌, ◌∙◌, ℕ, Bool, true, false, cond, ◌||◌, nat_lt, length, List, [], ◌∷◌, refl, sym, IsTrue}
use Rattle.clr_rules.proofs.Common.{and_from, and_parts, not_from_false, or_left, or_right, Grid, IsNetwork, point_names, section_names, same_name, has_name, PointRow, SectionRow, same_itself, Known}
use Rattle.clr_rules.proofs.Common.{checks, fit, Jumper}
use Rattle.std.proofs.lemmas.List.Sorted.{list_any-IsPermutation}
use Rattle.clr_net.specs.Additions.{fits_point, fits_section, with_section}
use Rattle.clr_net.proofs.BuildFacts.{names_permuted}
use Rattle.clr_net.proofs.Grown.{sections_are_added}
use Rattle.clr_rules.specs.Changes.{added_edits, new_jumper, new_section}
use Rattle.clr_rules.specs.Checks.{has_room}
use Rattle.clr_rules.specs.Prelude.{AddSection, AddPoint, Register, NetworkFull, PointExists, SameEnds, UnknownSection}
use Rattle.clr_rules.proofs.edits.Passing.{Pass, not_refused, not_refused_true}

-- the names of the sections with one more
pub names_with_section : (g : Grid) → IsNetwork g → (row : SectionRow) → IsTrue (fits_section g row) → (s : List ℕ)
    → has_name (section_names (Grid.sections (with_section row g))) s ≡ (same_name s row.name || has_name (section_names g.sections) s)
names_with_section g net row fits s =
    sym (list_any-IsPermutation (same_name s) (section_names (row ∷ g.sections)) (section_names (Grid.sections (with_section row g)))
    (names_permuted (row ∷ g.sections) (Grid.sections (with_section row g)) (sections_are_added g net row fits).all_sections))

-- what the checks say of the point
pub record CanBeAdded (g : Grid) (p : PointRow) : Type 0 where
  pub known : has_name (section_names g.sections) p.from_end ≡ true
  pub new : has_name (point_names g.points) p.name ≡ false
  pub room : has_room g p.to_end ≡ true
  pub differ : same_name p.from_end p.to_end ≡ false

point_fits_in : (g : Grid) (p : PointRow) → has_name (point_names g.points) p.name ≡ false → nat_lt (length g.points) 10000 ≡ true
    → has_name (section_names g.sections) p.from_end ≡ true → has_name (section_names g.sections) p.to_end ≡ true → same_name p.from_end p.to_end ≡ false → fits_point g p ≡ true
point_fits_in g p new room from to differ =
    and_from _ _ (not_from_false _ new) (and_from _ _ room (and_from _ _ (and_from _ _ from to) (not_from_false _ differ)))

pub added_edits_fit : (R : Register) → IsNetwork R.net → (p : PointRow) → CanBeAdded R.net p → fit R.net (added_edits R p) ≡ true
unfolding fit
added_edits_fit R net p can =
    let (room, sections) = and_parts (nat_lt (length (Grid.points R.net)) 10000)
    (has_name (section_names (Grid.sections R.net)) p.to_end || nat_lt (length (Grid.sections R.net)) 5000) can.room in
    at room (has_name (section_names (Grid.sections R.net)) p.to_end) refl sections
  where
    row : SectionRow
    row = new_section p.to_end

    at : nat_lt (length (Grid.points R.net)) 10000 ≡ true → (b : Bool) → has_name (section_names (Grid.sections R.net)) p.to_end ≡ b
        → (b || nat_lt (length (Grid.sections R.net)) 5000) ≡ true → fit R.net (cond b (AddPoint p ∷ []) (AddSection row ∷ AddPoint p ∷ [])) ≡ true
    at room true to _ = and_from _ true (point_fits_in R.net p can.new room can.known to can.differ) refl
    at room false unknown section_room =
        let fits : fits_section R.net row ≡ true = and_from _ _ (not_from_false _ unknown) section_room in
        let named = names_with_section R.net net row fits in
        and_from _ _ fits (and_from _ true (point_fits_in (with_section row R.net) p can.new room
        (named p.from_end ∙ or_right (same_name p.from_end p.to_end) _ can.known)
        (named p.to_end ∙ or_left (same_name p.to_end p.to_end) _ (same_itself p.to_end)) can.differ) refl)

-- a jumper that no check refuses
pub jumper_can : (k : Known) (R : Register) (by : List ℕ) (at : ℕ) (point from to : List ℕ) (lockable remote : Bool)
    → Pass (checks k R by at (Jumper point from to lockable remote)) → CanBeAdded R.net (new_jumper point from to lockable remote)
jumper_can k R by at point from to lockable remote passed =
    record {
      known = not_refused_true (has_name (section_names (Grid.sections R.net)) from) UnknownSection (search passed);
      new = not_refused (has_name (point_names (Grid.points R.net)) point) PointExists (search passed);
      room = not_refused_true (has_room R.net to) NetworkFull (search passed);
      differ = not_refused (same_name from to) SameEnds (search passed);
    }
