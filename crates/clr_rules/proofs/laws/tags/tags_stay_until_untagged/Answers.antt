use Rattle.clr_rules.proofs.good.Tags.{only_released_are_restored, released_are_given_back, tags_are_untagged}
use Rattle.clr_rules.proofs.laws.tags.tags_stay_until_untagged.Goals as goal

pub returns-clause-untagged : goal.returns-clause-untagged
returns-clause-untagged c = tags_are_untagged

pub returns-clause-restored : goal.returns-clause-restored
returns-clause-restored c = only_released_are_restored

pub returns-clause-released : goal.returns-clause-released
returns-clause-released c = released_are_given_back
