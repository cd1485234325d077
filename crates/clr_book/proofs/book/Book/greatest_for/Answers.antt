use Rattle.std.proofs.Common.{◌∙◌, ap, sym, Some, None}
use Rattle.std.specs.Option.{option_copied}
use Rattle.clr_rules.specs.Answer.{requester_for}
use Rattle.clr_rules.specs.Records.{greatest_number}
use Rattle.clr_book.specs.Book.{Shelved}
use Rattle.clr_book.proofs.LookedUp.{greatest_last}
use Rattle.clr_book.proofs.book.Book.greatest_for.Goals as goal

pub returns-in-Some-clause-value : goal.returns-in-Some-clause-value
returns-in-Some-clause-value g c =
    let requester = c.requester_for-requester.result in
    let R = c.args.self.now.register in
    c.number.ensures.value
    ∙ greatest_last requester (g.C.Shelf.rows c.self.inside.records) (Some c.in-Some.record.now) (g.met.C.Shelf.in_order c.self.inside.records) (sym (ap option_copied c.in-Some.is) ∙ c.last.ensures)
    ∙ ap (λ (v : Shelved). greatest_number v.register.records requester) c.self.view_is
    ∙ ap (greatest_number R.records) (c.requester_for-requester.ensures ∙ ap (requester_for c.args.command.now.caller) c.clearance.ensures)

pub returns-in-None-clause-value : goal.returns-in-None-clause-value
returns-in-None-clause-value g c =
    let requester = c.requester_for-requester.result in
    let R = c.args.self.now.register in
    greatest_last requester (g.C.Shelf.rows c.self.inside.records) None (g.met.C.Shelf.in_order c.self.inside.records) (sym (ap option_copied c.in-None.is) ∙ c.last.ensures)
    ∙ ap (λ (v : Shelved). greatest_number v.register.records requester) c.self.view_is
    ∙ ap (greatest_number R.records) (c.requester_for-requester.ensures ∙ ap (requester_for c.args.command.now.caller) c.clearance.ensures)
