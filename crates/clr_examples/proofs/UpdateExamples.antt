-- What the laws of updates ask for, in the worked register.
use Rattle.std.proofs.Common.{◌≡◌, ◌∙◌, ℕ, Bool, true, List, [], ◌∷◌, ◌++◌, None, refl, sym, ap, arith}
use Rattle.clr_rules.proofs.Common.{IsStrictlySortedBy, IsReached}
use Rattle.std.proofs.lemmas.List.Sums.{AllPass-from_list_all}
use Rattle.clr_net.specs.Grid.{Grid, IsNetwork, has_ends, has_one_section, section_names}
use Rattle.clr_net.specs.Names.{has_name}
use Rattle.clr_rules.proofs.isolation.Agreement.{agrees_with_itself}
use Rattle.clr_rules.proofs.keeps.EveryKind.{reached_are_good}
use Rattle.clr_rules.proofs.staffed.EveryKind.{reached_are_staffed}
use Rattle.clr_rules.specs.Good.{IsGood}
use Rattle.clr_rules.specs.Prelude.{Register}
use Rattle.clr_rules.specs.Shown.{Item, items_shown}
use Rattle.clr_rules.specs.declared.command.Kind.TheVariants.{Instruct}
use Rattle.clr_staff.specs.Staff.{IsStaff, has_known_supervisor, is_own_supervisor, staff_names}
use Rattle.clr_update.specs.Entries.{AllReadable, Entry, Sight, covers_all, is_never_operators, shown_by, sights}
use Rattle.clr_update.specs.Update.{after_update, in_the_way}
use Rattle.clr_examples.proofs.ReachedExamples.{each_false, worked_is_network, worked_is_staff}
use Rattle.clr_examples.specs.Updates.{at_work, first_step, is_built, l2_in_order, line_alone, update_rules}
use Rattle.clr_examples.specs.Worked.{L2, OPS, c1_is_on, from_moment, jones_1, l2_ordered, said_at, says, worked_net, worked_staff}
use Rattle.clr_update.specs.Laws.{IsAccepted, ShowAlike}
use Rattle.clr_rules.specs.Staffed.{IsStaffed}

built_is_network : IsNetwork is_built.net
unfolding IsStrictlySortedBy
built_is_network = record {
  some_section = omega arith;
  sections_fit = omega arith;
  points_fit = omega arith;
  sections_rise = ((refl, (refl, (refl, (refl, (refl, tt))))), ((refl, (refl, (refl, (refl, tt)))), ((refl, (refl, (refl, tt))), ((refl, (refl, tt)), ((refl, tt), (tt, tt))))));
  points_rise = ((refl, (refl, (refl, (refl, (refl, tt))))), ((refl, (refl, (refl, (refl, tt)))), ((refl, (refl, (refl, tt))), ((refl, (refl, tt)), ((refl, tt), (tt, tt))))));
  ends_known = AllPass-from_list_all (has_ends (section_names (Grid.sections is_built.net))) (Grid.points is_built.net) refl;
  ends_differ = each_false has_one_section (Grid.points is_built.net) refl;
}

built_is_staff : IsStaff is_built.staff
unfolding IsStrictlySortedBy
built_is_staff = record {
  rows_fit = omega arith;
  names_rise = ((refl, (refl, (refl, (refl, (refl, (refl, tt)))))), ((refl, (refl, (refl, (refl, (refl, tt))))), ((refl, (refl, (refl, (refl, tt)))), ((refl, (refl, (refl, tt))), ((refl, (refl, tt)), ((refl, tt), (tt, tt)))))));
  supervisors_known = AllPass-from_list_all (has_known_supervisor (staff_names is_built.staff)) is_built.staff refl;
  supervisors_differ = each_false is_own_supervisor is_built.staff refl;
}

work_is_reached : IsReached at_work
work_is_reached = record {
  net = worked_net;
  staff = worked_staff;
  commands = from_moment 100 c1_is_on;
  is_network = worked_is_network;
  is_staff = worked_is_staff;
  reached = refl;
}

work_is_good : IsGood at_work
work_is_good = reached_are_good at_work work_is_reached

nothing_in_the_way : in_the_way at_work is_built ≡ None
unfolding update_rules
nothing_in_the_way = refl

-- a line is built beside a crew at work: the register is reached, so it is good and staffed
pub is_accepted : IsAccepted at_work is_built × IsStaffed at_work
is_accepted = (
  record { good = work_is_good; read = record { network = built_is_network; staff = built_is_staff }; free = nothing_in_the_way },
  reached_are_staffed at_work work_is_reached,
)

-- ---- two lists that show the same

order_is_reached : IsReached l2_in_order
order_is_reached = record {
  net = worked_net;
  staff = worked_staff;
  commands = from_moment 100 l2_ordered;
  is_network = worked_is_network;
  is_staff = worked_is_staff;
  reached = refl;
}

abbrev in_l2 : List ℕ → Bool
in_l2 = has_name (L2 ∷ [])

abbrev here : List Entry
here = Entry.update line_alone ∷ first_step ∷ []

never : is_never_operators jones_1 l2_in_order here ≡ true
unfolding update_rules sights covers_all is_never_operators
never = refl

covered : covers_all jones_1 in_l2 l2_in_order here ≡ true
unfolding update_rules sights covers_all is_never_operators
covered = refl

-- the line shows nothing on L2
silent : shown_by jones_1 in_l2 l2_in_order (Entry.update line_alone) ≡ []
unfolding update_rules
silent = refl

-- whatever the register, the step is shown as an own command
step_shown : (R : Register) → sights jones_1 in_l2 R (first_step ∷ []) ≡ Sight.item (Item.own (said_at 102 (says OPS (Instruct jones_1 1))) None) ∷ []
unfolding sights items_shown
step_shown R = refl

shown_alike : sights jones_1 in_l2 l2_in_order here ≡ sights jones_1 in_l2 l2_in_order (first_step ∷ [])
unfolding sights
shown_alike =
    ap (λ (first : List Sight). first ++ sights jones_1 in_l2 (after_update l2_in_order line_alone) (first_step ∷ [])) silent
    ∙ step_shown (after_update l2_in_order line_alone) ∙ sym (step_shown l2_in_order)

-- with the line and without it JONES/1 is shown the same
pub both_show : ShowAlike jones_1 in_l2 l2_in_order here l2_in_order (first_step ∷ [])
unfolding AllReadable
both_show = record {
  first_good = reached_are_good l2_in_order order_is_reached;
  second_good = reached_are_good l2_in_order order_is_reached;
  first_read = (record { network = built_is_network; staff = worked_is_staff }, (tt, tt));
  second_read = (tt, tt);
  never_operators = never;
  agree = agrees_with_itself jones_1 in_l2 l2_in_order;
  covered = covered;
  same_shown = shown_alike;
}
