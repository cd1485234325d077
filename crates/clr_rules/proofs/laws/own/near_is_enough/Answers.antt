use Rattle.clr_rules.proofs.near.NewAnswers.{near_is_enough, same_near_same_answer}
use Rattle.clr_rules.proofs.laws.own.near_is_enough.Goals as goal

pub returns-clause-enough : goal.returns-clause-enough
returns-clause-enough c = near_is_enough

pub returns-clause-alike : goal.returns-clause-alike
returns-clause-alike c = same_near_same_answer
