use Rattle.std.proofs.Common.{◌≡◌, ◌∙◌, ap, rules, subst, sym}
use Rattle.clr_answer.specs.Decision.{answer_of_decision}
use Rattle.clr_rules.specs.Answer.{Answer, answer}
use Rattle.clr_rules.specs.Edits.{after_edits}
use Rattle.clr_rules.specs.laws.WayBack.{is_accepted}
use Rattle.clr_wayback.proofs.Lacking.{answered_alike, lacks_after}
use Rattle.clr_wayback.specs.Open.{LacksOnly}
use Rattle.clr_wayback.proofs.walk.carry_out.Goals as goal

pub returns-clause-accepted : goal.returns-clause-accepted
returns-clause-accepted g c gone R lacks names =
    let S = c.args.book.now.register in
    let q = c.args.command.now in
    let same : answer_of_decision c.in_ok-decision.decision ≡ answer R q = sym c.in_ok-decision.ensures.lent ∙ answered_alike gone R S lacks q names in
    c.is_accepted-accepted.ensures ∙ ap (λ (a : Answer). is_accepted a.reply) same

pub returns-clause-lacks : goal.returns-clause-lacks
returns-clause-lacks g c gone R lacks names =
    let S = c.args.book.now.register in
    let q = c.args.command.now in
    let same : answer_of_decision c.in_ok-decision.decision ≡ answer R q = sym c.in_ok-decision.ensures.lent ∙ answered_alike gone R S lacks q names in
    let next : c.apply.new.self.register ≡ after_edits (Answer.edits (answer_of_decision c.in_ok-decision.decision)) S = search rules in
    subst (LacksOnly gone _) (sym (next ∙ ap (λ (a : Answer). after_edits a.edits S) same)) (lacks_after gone R S lacks q names)
