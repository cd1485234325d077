use Rattle.std.proofs.Common.{◌∙◌, ap, subst, sym}
use Rattle.clr_net.specs.Grid.{IsNetwork}
use Rattle.clr_rules.specs.Answer.{Answer}
use Rattle.clr_rules.specs.Edits.{fit}
use Rattle.clr_rules.proofs.good.Opening.{unplaced_is_network}
use Rattle.clr_rules.proofs.near.NewAnswers.{near_is_enough}
use Rattle.clr_book.specs.Book.{Shelved}
use Rattle.clr_book.proofs.BookEdits.{answers_taken}
use Rattle.clr_book.proofs.book.Book.answer.Goals as goal

pub returns-clause-lent : goal.returns-clause-lent
returns-clause-lent g c = sym c.in_ok-near.ensures ∙ c.in_ok-decision.ensures.lent

pub returns-clause-whole : goal.returns-clause-whole
returns-clause-whole g c good =
    near_is_enough c.args.self.now.register c.args.command.now good.said good.besides.switch_orders.switching ∙ returns-clause-lent g c

pub returns-clause-nothing : goal.returns-clause-nothing
returns-clause-nothing g c = c.in_ok-decision.ensures.nothing

pub returns-clause-fits : goal.returns-clause-fits
returns-clause-fits g c =
    let R = c.args.self.now.register in
    let net : IsNetwork R.net = subst (λ (v : Shelved). IsNetwork v.register.net) c.self.view_is (unplaced_is_network c.self.inside.network c.is_network.ensures) in
    ap (λ (a : Answer). fit R.net a.edits) (sym (returns-clause-lent g c)) ∙ answers_taken R net c.args.command.now
