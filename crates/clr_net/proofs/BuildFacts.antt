-- How the stages of the checks make up the first fault, and what a sort leaves as it was.
use Rattle.std.proofs.Common.{◌≡◌, ◌∙◌, ◌<◌, ◌≤◌, ℕ, Bool, false, not, arith, Option, None, List, length, position, refl, sym, ap, All, IsTrue}
use Rattle.std.specs.List.Sorted.{IsPermutation, IsStrictlySortedBy}
use Rattle.std.proofs.lemmas.List.Sorted.{All-permutation, IsPermutation-map, length_permutation, list_any-IsPermutation, IsPermutation-sym}
use Rattle.clr_net.specs.Prelude.{name_cmp, same_name, PointRow, SectionRow}
use Rattle.clr_net.specs.Grid.{Grid, IsNetwork, has_ends, has_one_section, point_names, section_names}
use Rattle.std.proofs.lemmas.Bool.{le-ltb, ne_eqb, not_from_true}
use Rattle.std.proofs.lemmas.List.Elements.{All-weaker}
use Rattle.std.proofs.lemmas.Cmp.{nat_list_eq_equiv}
use Rattle.std.proofs.lemmas.Map.Keys.{IsDistinct-IsPermutation}
use Rattle.clr_net.proofs.Places.{all_none, distinct_from_rising, no_repeat}
use Rattle.clr_net.specs.Network.{IsGridOf, end_fault, first_fault, row_fault, size_fault, twice_fault}
use Rattle.clr_net.specs.declared.net_fault.NetFault.{NetFault}
use Rattle.clr_net.specs.declared.net_fault.NetFault.TheVariants.{SameEnds, UnknownEnd}

-- the names of sections in another order
pub names_permuted : (old new : List SectionRow) → IsPermutation old new → IsPermutation (section_names old) (section_names new)
names_permuted old new moved = IsPermutation-map (λ (row : SectionRow). row.name) old new moved

-- the same sections know the same ends
pub has_ends-IsPermutation : (old new : List (List ℕ)) → IsPermutation old new → (p : PointRow) → has_ends new p ≡ has_ends old p
has_ends-IsPermutation old new moved p =
    rw (list_any-IsPermutation (same_name p.from_end) old new moved, list_any-IsPermutation (same_name p.to_end) old new moved) refl

-- the order of the sections plays no part in the faults of ends
pub end_fault-IsPermutation : (old new : List (List ℕ)) → IsPermutation old new → (points : List PointRow) (rest : Option NetFault) → end_fault new points rest ≡ end_fault old points rest
end_fault-IsPermutation old new moved points rest =
    let same : (λ (p : PointRow). not (has_ends new p)) ≡ (λ (p : PointRow). not (has_ends old p)) = λ i p. not (has_ends-IsPermutation old new moved p i) in
    ap (λ (q : PointRow → Bool). row_fault UnknownEnd (position q points) (row_fault SameEnds (position has_one_section points) rest)) same

-- rows that pass each stage have no fault, and what the last stage finds is the first fault
pub first_fault_is : (sections : List SectionRow) (points : List PointRow) (found : Option NetFault) → ((rest : Option NetFault) → size_fault sections points rest ≡ rest) → ((rest : Option NetFault) → twice_fault sections points rest ≡ rest)
    → end_fault (section_names sections) points None ≡ found → first_fault sections points ≡ found
first_fault_is sections points found size twice ends =
    size (twice_fault sections points (end_fault (section_names sections) points None)) ∙ twice (end_fault (section_names sections) points None) ∙ ends

-- rows that pass each stage are a network, once they are in the order of their names
pub network_from : (sections new_sections : List SectionRow) (points new_points : List PointRow) → IsPermutation sections new_sections → IsPermutation points new_points
    → 0 < length sections → length sections ≤ 5000 → length points ≤ 10000
    → IsStrictlySortedBy name_cmp (section_names new_sections) → IsStrictlySortedBy name_cmp (point_names new_points)
    → All (λ p. IsTrue (has_ends (section_names new_sections) p)) points → All (λ p. has_one_section p ≡ false) points
    → IsNetwork (record { sections = new_sections; points = new_points })
network_from sections new_sections points new_points sections_moved points_moved some sections_fit points_fit sections_rise points_rise known differ =
    let more_sections = length_permutation sections new_sections sections_moved in
    let more_points = length_permutation points new_points points_moved in
    record {
      some_section = omega arith;
      sections_fit = omega arith;
      points_fit = omega arith;
      sections_rise = sections_rise;
      points_rise = points_rise;
      ends_known = All-permutation (λ p. IsTrue (has_ends (section_names new_sections) p)) points new_points points_moved known;
      ends_differ = All-permutation (λ p. has_one_section p ≡ false) points new_points points_moved differ;
    }

-- a size within the limits is no fault
no_size_fault : (sections : List SectionRow) (points : List PointRow) (rest : Option NetFault) → 0 < length sections → length sections ≤ 5000 → length points ≤ 10000 → size_fault sections points rest ≡ rest
no_size_fault sections points rest some sections_fit points_fit =
    rw (ne_eqb (length sections) 0 (λ e. omega arith), le-ltb 5000 (length sections) sections_fit, le-ltb 10000 (length points) points_fit) refl

-- rows of which there is a network have no fault
pub network_has_no_fault : (sections : List SectionRow) (points : List PointRow) (g : Grid) → IsGridOf sections points g → first_fault sections points ≡ None
network_has_no_fault sections points g is =
    let net = is.network in
    let sections_size = length_permutation sections g.sections is.all_sections in
    let points_size = length_permutation points g.points is.all_points in
    let section_fit = net.sections_fit in
    let point_fit = net.points_fit in
    let some = net.some_section in
    let moved = names_permuted sections g.sections is.all_sections in
    let sections_once = no_repeat (section_names sections) (IsDistinct-IsPermutation same_name nat_list_eq_equiv.symm (section_names g.sections) (section_names sections) (IsPermutation-sym (section_names sections) (section_names g.sections) moved) (distinct_from_rising (section_names g.sections) net.sections_rise)) in
    let points_moved = IsPermutation-map (λ (row : PointRow). row.name) points g.points is.all_points in
    let points_once = no_repeat (point_names points) (IsDistinct-IsPermutation same_name nat_list_eq_equiv.symm (point_names g.points) (point_names points) (IsPermutation-sym (point_names points) (point_names g.points) points_moved) (distinct_from_rising (point_names g.points) net.points_rise)) in
    let back = IsPermutation-sym points g.points is.all_points in
    let known : All (λ p. not (has_ends (section_names sections) p) ≡ false) points =
    All-permutation (λ p. not (has_ends (section_names sections) p) ≡ false) g.points points back
    (All-weaker (λ p. IsTrue (has_ends (section_names g.sections) p)) (λ p. not (has_ends (section_names sections) p) ≡ false)
    (λ p e. not_from_true _ (sym (has_ends-IsPermutation (section_names sections) (section_names g.sections) moved p) ∙ e)) g.points net.ends_known) in
    first_fault_is sections points None
    (λ rest. no_size_fault sections points rest (omega arith) (omega arith) (omega arith))
    (λ rest. rw (sections_once, points_once) refl)
    (rw (all_none (λ p. not (has_ends (section_names sections) p)) points known, all_none has_one_section points (All-permutation (λ p. has_one_section p ≡ false) g.points points back net.ends_differ)) refl)
