use Rattle.clr_rules.proofs.laws.throughout.throughout_is_more.Goals as goal

pub returns : goal.returns
returns c = record { good = λ R throughout. throughout.good; staffed = λ R throughout. throughout.staffed }
