use Rattle.std.proofs.Common.{◌≡◌, ◌∙◌, false, rules, sym}
use Rattle.clr_rules.specs.declared.reply.Reply.TheVariants.{Shown}
use Rattle.clr_answer.specs.Decision.{has_no_record}
use Rattle.clr_answer.proofs.DecisionFacts.{accepted, asked, laid}
use Rattle.clr_answer.proofs.kinds.decision_of.Goals as goal

pub returns-in-Show-clause-answer : goal.returns-in-Show-clause-answer
returns-in-Show-clause-answer c =
    asked c.args.near.now.known c.args.near.now.rows c.args.command.now c.in-Show.clearance (Shown c.in_ok-view.view) c.in-Show.is
    (sym c.in_ok-refusal.ensures ∙ c.in_default.is) c.in_ok-view.ensures
    ∙ sym c.shown.ensures.answer

pub returns-in-Jumper-clause-answer : goal.returns-in-Jumper-clause-answer
returns-in-Jumper-clause-answer c =
    laid c.args.near.now.known c.args.near.now.rows c.args.command.now c.in-Jumper.point c.in-Jumper.from c.in-Jumper.to c.in-Jumper.lockable c.in-Jumper.remote c.in-Jumper.is
    (sym c.in_ok-refusal.ensures ∙ c.in_default.is)
    ∙ sym c.in_ok-decision.ensures.answer

pub returns-clause-answer : goal.returns-clause-answer
returns-clause-answer c =
    let k = c.args.near.now.known in
    let R = c.args.near.now.rows in
    let q = c.args.command.now in
    let e = c.in_ok-effect.effect in
    let changes : has_no_record q.kind ≡ false = search rules in
    accepted k R q e.lead.items e.clearance e.steps.items (sym c.in_ok-refusal.ensures ∙ c.in_default.is) changes c.in_ok-effect.ensures.edits c.in_ok-effect.ensures.of.own
    ∙ sym c.in_ok-decision-2.ensures.answer
