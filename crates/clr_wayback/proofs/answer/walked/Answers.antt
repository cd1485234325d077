use Rattle.std.proofs.Common.{◌≡◌, ◌∙◌, None, Some, ap, rules, sym}
use Rattle.clr_wayback.specs.Answer.{commands_or_no_way, items_of}
use Rattle.clr_wayback.specs.Open.{over_in}
use Rattle.clr_wayback.specs.declared.answer.WayBack.TheVariants.{Commands}
use Rattle.clr_wayback.proofs.answer.walked.Goals as goal

pub returns-in-Some : goal.returns-in-Some
returns-in-Some g c good kept =
    let R = c.args.book.now.register in
    let some : c.in_ok-commands.field-0 ≡ Some c.in-Some.commands = search rules in
    let tried_is = c.in_ok-commands.ensures (over_in R) R (c.in_ok-open.ensures good) kept c.requires in
    ap Commands c.new.ensures ∙ ap commands_or_no_way (ap items_of (sym some) ∙ tried_is)

pub returns : goal.returns
returns g c good kept =
    let R = c.args.book.now.register in
    let none : c.in_ok-commands.field-0 ≡ None = search rules in
    let tried_is = c.in_ok-commands.ensures (over_in R) R (c.in_ok-open.ensures good) kept c.requires in
    ap commands_or_no_way (ap items_of (sym none) ∙ tried_is)
