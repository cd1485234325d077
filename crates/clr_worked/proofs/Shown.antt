-- The two lists show JONES/1 the same, by computation.
use Rattle.std.proofs.Common.{◌≡◌, true, refl}
use Rattle.clr_rules.specs.Shown.{covers, items_shown}
use Rattle.clr_rules.proofs.isolation.Headline.{reached_show_the_same}
use Rattle.clr_examples.proofs.ReachedExamples.{one_is_reached, two_is_reached}
use Rattle.clr_examples.specs.Isolation.{agree, in_l2, no_operator, register_one, register_two}
use Rattle.clr_examples.specs.Worked.{jones_1, the_rules}
use Rattle.clr_worked.specs.OneClearance.{TheListsShowTheSame, alone, beside}

covered : covers jones_1 in_l2 register_one beside ≡ true
unfolding the_rules
covered = refl

same_shown : items_shown jones_1 in_l2 register_one beside ≡ items_shown jones_1 in_l2 register_two alone
unfolding the_rules
same_shown = refl

pub shown : TheListsShowTheSame
shown = reached_show_the_same jones_1 in_l2 register_one register_two beside alone one_is_reached two_is_reached no_operator agree covered same_shown
