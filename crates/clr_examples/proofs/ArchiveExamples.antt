-- What the laws of archives ask for, in the worked register.
use Rattle.std.proofs.Common.{◌≡◌, inl, inr, true, false, refl, [], ◌∷◌}
use Rattle.clr_rules.proofs.Common.{IsReached}
use Rattle.clr_rules.proofs.keeps.EveryKind.{reached_are_good}
use Rattle.clr_rules.proofs.staffed.EveryKind.{reached_are_staffed}
use Rattle.clr_rules.specs.Checks.{is_operator}
use Rattle.clr_rules.specs.Staffed.{has_some_role, IsStaffed}
use Rattle.clr_update.proofs.Delta.{changes_say_all}
use Rattle.clr_update.specs.Changes.{changes}
use Rattle.clr_update.specs.Delta.{in_name_order, staff_of}
use Rattle.clr_update.specs.Update.{updated}
use Rattle.clr_changes.specs.Unarchived.{AreMade, ShowNoneGone}
use Rattle.clr_examples.proofs.ReachedExamples.{worked_is_network, worked_is_staff}
use Rattle.clr_examples.proofs.UpdateExamples.{is_accepted}
use Rattle.clr_examples.specs.Archives.{beside_kim, one_closed, goes_on}
use Rattle.clr_examples.specs.Updates.{at_work, is_built, update_rules}
use Rattle.clr_examples.specs.Worked.{from_moment, worked_net, worked_staff, the_rules}
use Rattle.clr_rules.specs.Good.{IsGood}
use Rattle.clr_changes.specs.Deeds.{Deed}

beside_is_reached : IsReached beside_kim
beside_is_reached = record {
  net = worked_net;
  staff = worked_staff;
  commands = from_moment 100 one_closed;
  is_network = worked_is_network;
  is_staff = worked_is_staff;
  reached = refl;
}

-- the register is good and staffed
pub beside_is_good : IsGood beside_kim
beside_is_good = reached_are_good beside_kim beside_is_reached

pub beside_is_staffed : IsStaffed beside_kim
beside_is_staffed = reached_are_staffed beside_kim beside_is_reached

-- commands that go on show none that is gone
pub commands_go_on : ShowNoneGone (λ c. false) beside_kim goes_on
unfolding ShowNoneGone the_rules
commands_go_on = (inr refl, (inl refl, (inl refl, (inr refl, tt))))

operator_stays : has_some_role (staff_of at_work (changes at_work (updated at_work is_built))) is_operator ≡ true
unfolding in_name_order update_rules
operator_stays = refl

-- an update among them can be made, and leaves an operator
pub updates_are_made : AreMade at_work (Deed.update (changes at_work (updated at_work is_built)) ∷ Deed.archive 117 ∷ [])
unfolding AreMade
updates_are_made = (changes_say_all.made at_work is_built is_accepted.0, operator_stays, tt)
