use Rattle.std.proofs.Common.{◌≡◌, ◌∙◌, None, sym, inl, inr, true}
use Rattle.std.proofs.lemmas.List.Sums.{list_all-from_AllPass}
use Rattle.std.proofs.lemmas.Result.{err_from_is_err_and}
use Rattle.clr_net.specs.Grid.{IsNetwork, has_ends, section_names}
use Rattle.clr_net.proofs.BuildFacts.{end_fault-IsPermutation, first_fault_is, names_permuted, network_from}
use Rattle.clr_net.proofs.Places.{list_all-permuted}
use Rattle.clr_net.proofs.network.Network.build.Goals as goal
use Rattle.clr_net.proofs.network.Network.build.Goals.{In_ok-check_ends}

pub check_ends-requires-clause-all : goal.check_ends-requires-clause-all
check_ends-requires-clause-all c =
    let names = section_names c.in_ok-ordered.ordered.items in
    let moved = rw c.deref-4.ensures.value at c.in_ok-ordered_points.ensures.permutation in
    rw (c.deref-11.ensures.value, c.deref-12.ensures.value)
    ((rw (c.deref-9.ensures.value, c.deref-10.ensures.value) at c.in_ok-all_known.ensures.known)
    ∙ sym (list_all-permuted (has_ends names) c.args.points.items c.in_ok-ordered_points.ordered_points.items moved))

pub returns-in_err-check_ends : goal.returns-in_err-check_ends
returns-in_err-check_ends c =
    let p = err_from_is_err_and c.from_residual-in_err-check_ends.result c.from_residual-in_err-check_ends.ensures.1 in
    let moved = names_permuted c.args.sections.items c.in_ok-ordered.ordered.items (rw c.deref-3.ensures.value at c.in_ok-ordered.ensures.permutation) in
    rw (p.1, p.2) (elim c.in_err-check_ends.ensures.passes [
      | inl memory ↦ inl memory
      | inr found ↦ inr (first_fault_is c.args.sections.items c.args.points.items _
          (rw (c.deref.ensures.value, c.deref-2.ensures.value) at c.in_ok-check_size.ensures.passes)
          (rw (c.deref-5.ensures.value, c.deref-7.ensures.value) at c.in_ok-check_names.ensures.passes)
          (sym (end_fault-IsPermutation _ _ moved c.args.points.items None) ∙ rw (c.deref-11.ensures.value, c.deref-12.ensures.value) at (found None)))
    ])

-- all ends are known, so the index was filled
all_known : (c : In_ok-check_ends) → c.in_ok-all_known.all_known ≡ true
all_known c =
    let names = section_names c.in_ok-ordered.ordered.items in
    let moved = rw c.deref-4.ensures.value at c.in_ok-ordered_points.ensures.permutation in
    (rw (c.deref-9.ensures.value, c.deref-10.ensures.value) at c.in_ok-all_known.ensures.known)
    ∙ sym (list_all-permuted (has_ends names) c.args.points.items c.in_ok-ordered_points.ordered_points.items moved)
    ∙ list_all-from_AllPass (has_ends names) c.args.points.items
    (rw (c.deref-11.ensures.value, c.deref-12.ensures.value) at c.in_ok-check_ends.ensures.known)

network_is : (c : In_ok-check_ends) → IsNetwork (record { sections = c.in_ok-ordered.ordered.items; points = c.in_ok-ordered_points.ordered_points.items })
network_is c = network_from c.args.sections.items c.in_ok-ordered.ordered.items c.args.points.items c.in_ok-ordered_points.ordered_points.items
    (rw c.deref-3.ensures.value at c.in_ok-ordered.ensures.permutation) (rw c.deref-4.ensures.value at c.in_ok-ordered_points.ensures.permutation)
    (rw c.deref.ensures.value at c.in_ok-check_size.ensures.some)
    (rw c.deref.ensures.value at c.in_ok-check_size.ensures.sections_fit)
    (rw c.deref-2.ensures.value at c.in_ok-check_size.ensures.points_fit)
    ((rw c.deref-3.ensures.value at c.in_ok-ordered.ensures.rising) (rw c.deref-5.ensures.value at c.in_ok-check_names.ensures.sections_once))
    ((rw c.deref-4.ensures.value at c.in_ok-ordered_points.ensures.rising) (rw c.deref-7.ensures.value at c.in_ok-check_names.ensures.points_once))
    (rw (c.deref-11.ensures.value, c.deref-12.ensures.value) at c.in_ok-check_ends.ensures.known)
    (rw c.deref-12.ensures.value at c.in_ok-check_ends.ensures.differ)

pub invariant_of-result : goal.invariant_of-result
invariant_of-result c = let d = (goal.at.invariant_of-result c).In_ok-check_ends in (
  network_is d,
  rw (c.deref-9.ensures.value, c.deref-10.ensures.value) at (c.in_ok-all_known.ensures.index (all_known d)),
  c.in_ok-all_known.ensures.room c.in_ok-ways.ensures,
  c.in_ok-ordered.ensures.room,
  c.in_ok-ordered_points.ensures.room,
)

pub returns : goal.returns
returns c =
    let sections_moved = rw c.deref-3.ensures.value at c.in_ok-ordered.ensures.permutation in
    let points_moved = rw c.deref-4.ensures.value at c.in_ok-ordered_points.ensures.permutation in
    let moved = names_permuted c.args.sections.items c.in_ok-ordered.ordered.items sections_moved in (
      first_fault_is c.args.sections.items c.args.points.items None
          (rw (c.deref.ensures.value, c.deref-2.ensures.value) at c.in_ok-check_size.ensures.passes)
          (rw (c.deref-5.ensures.value, c.deref-7.ensures.value) at c.in_ok-check_names.ensures.passes)
          (sym (end_fault-IsPermutation _ _ moved c.args.points.items None) ∙ rw (c.deref-11.ensures.value, c.deref-12.ensures.value) at (c.in_ok-check_ends.ensures.passes None)),
      record {
        all_sections = sections_moved;
        all_points = points_moved;
        network = network_is (goal.at.returns c).In_ok-check_ends;
      },
    )
