use Rattle.clr_rules.proofs.isolation.OthersEdits.{others_edits_spare}
use Rattle.clr_rules.proofs.laws.footprint.edits_of_others_spare.Goals as goal

pub returns-clause-matched : goal.returns-clause-matched
returns-clause-matched c = others_edits_spare

pub returns-clause-anywhere : goal.returns-clause-anywhere
returns-clause-anywhere c = λ R id q no_report no_jumper others.
    others_edits_spare R id q (λ report. absurd (cc (no_report, report))) (λ jumper. absurd (cc (no_jumper, jumper))) others
