use Rattle.std.proofs.Common.{◌∙◌, ap, subst, sym}
use Rattle.clr_net.specs.Grid.{IsNetwork}
use Rattle.clr_rules.specs.Answer.{Answer, answer_with}
use Rattle.clr_rules.specs.Edits.{fit}
use Rattle.clr_rules.specs.Near.{Near}
use Rattle.clr_rules.proofs.good.Opening.{unplaced_is_network}
use Rattle.clr_book.proofs.BookEdits.{answers_taken}
use Rattle.clr_tests.proofs.driver.decided.Goals as goal

pub returns : goal.returns
returns g c =
    let R = c.args.book.now.register in
    let net : IsNetwork R.net = subst IsNetwork c.network.ensures.register (unplaced_is_network c.network.result.now c.is_network.ensures) in
    ap (λ (a : Answer). fit R.net a.edits)
    (sym (ap (λ (near : Near). answer_with near.known near.rows c.args.command.now) (sym c.in_ok-near.ensures) ∙ c.in_ok-decision.ensures.lent))
    ∙ answers_taken R net c.args.command.now
