-- The registers of the examples of isolation are opening registers of networks and a staff.
use Rattle.std.proofs.Common.{◌≡◌, Bool, true, false, not, List, [], ◌∷◌, All, refl, arith}
use Rattle.clr_rules.proofs.Common.{list_all, IsStrictlySortedBy, and_parts, not-true, IsReached}
use Rattle.std.proofs.lemmas.List.Elements.{All-cons, All-nil}
use Rattle.std.proofs.lemmas.List.Sums.{AllPass-from_list_all}
use Rattle.clr_staff.specs.Staff.{IsStaff, has_known_supervisor, is_own_supervisor, staff_names}
use Rattle.clr_net.specs.Grid.{Grid, IsNetwork, has_ends, has_one_section, section_names}
use Rattle.clr_net.specs.declared.point.Position.TheVariants.{Closed}
use Rattle.clr_examples.specs.Isolation.{register_one, register_two, two_net}
use Rattle.clr_examples.specs.Worked.{worked_net, worked_staff}
use Rattle.clr_rules.proofs.edits.Runs.{opening_is_reached}

pub each_false : {X : Type 0} (p : X → Bool) (xs : List X) → list_all (λ x. not (p x)) xs ≡ true → All (λ x. p x ≡ false) xs
each_false p [] all = All-nil (λ x. p x ≡ false)
each_false p (x ∷ xs) all = let parts = and_parts (not (p x)) (list_all (λ x. not (p x)) xs) all in
    All-cons (λ x. p x ≡ false) x xs (not-true (p x) parts.0) (each_false p xs parts.1)

pub worked_is_network : IsNetwork worked_net
unfolding IsStrictlySortedBy
worked_is_network = record {
  some_section = omega arith;
  sections_fit = omega arith;
  points_fit = omega arith;
  sections_rise = ((refl, (refl, (refl, (refl, tt)))), ((refl, (refl, (refl, tt))), ((refl, (refl, tt)), ((refl, tt), (tt, tt)))));
  points_rise = ((refl, (refl, (refl, (refl, tt)))), ((refl, (refl, (refl, tt))), ((refl, (refl, tt)), ((refl, tt), (tt, tt)))));
  ends_known = AllPass-from_list_all (has_ends (section_names worked_net.sections)) worked_net.points refl;
  ends_differ = each_false has_one_section worked_net.points refl;
}

two_is_network : IsNetwork (two_net true Closed)
unfolding IsStrictlySortedBy
two_is_network = record {
  some_section = omega arith;
  sections_fit = omega arith;
  points_fit = omega arith;
  sections_rise = ((refl, (refl, tt)), ((refl, tt), (tt, tt)));
  points_rise = ((refl, tt), (tt, tt));
  ends_known = AllPass-from_list_all (has_ends (section_names (Grid.sections (two_net true Closed)))) (Grid.points (two_net true Closed)) refl;
  ends_differ = each_false has_one_section (Grid.points (two_net true Closed)) refl;
}

pub worked_is_staff : IsStaff worked_staff
unfolding IsStrictlySortedBy
worked_is_staff = record {
  rows_fit = omega arith;
  names_rise = ((refl, (refl, (refl, (refl, (refl, tt))))), ((refl, (refl, (refl, (refl, tt)))), ((refl, (refl, (refl, tt))), ((refl, (refl, tt)), ((refl, tt), (tt, tt))))));
  supervisors_known = AllPass-from_list_all (has_known_supervisor (staff_names worked_staff)) worked_staff refl;
  supervisors_differ = each_false is_own_supervisor worked_staff refl;
}

pub one_is_reached : IsReached register_one
one_is_reached = opening_is_reached worked_net worked_staff worked_is_network worked_is_staff

pub two_is_reached : IsReached register_two
two_is_reached = opening_is_reached (two_net true Closed) worked_staff two_is_network worked_is_staff
