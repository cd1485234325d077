use Rattle.std.proofs.Common.{◌≡◌, IfOk, string_bytes, rules, sym, subst}
use Rattle.clr_journal.specs.Line.{Entry}
use Rattle.clr_chain.specs.Link.{link_text}
use Rattle.clr_chain.specs.Sums.{sum_after}
use Rattle.clr_chain.specs.declared.print.Link.{Link}
use Rattle.clr_level.proofs.InBrief.{brief_line}
use Rattle.clr_level.proofs.keeper.Keeper.line.Goals as goal

pub returns-in-Some-clause-text : goal.returns-in-Some-clause-text
returns-in-Some-clause-text g c =
    let sum = c.args.self.now.at.sum in
    let same = brief_line sum c.args.receipt.now c.args.command.now c.args.reply.now c.in-Some.brief (string_bytes c.in_ok-link.link.text)
    (search rules) (search rules) (search rules) (search rules) in
    subst (λ (e : Entry). IfOk c.print_carried-in-Some.result (λ (link : Link). string_bytes link.text ≡ link_text e link.sum)) (sym same) c.print_carried-in-Some.ensures.text

pub returns-in-Some-clause-sum : goal.returns-in-Some-clause-sum
returns-in-Some-clause-sum g c =
    let sum = c.args.self.now.at.sum in
    let same = brief_line sum c.args.receipt.now c.args.command.now c.args.reply.now c.in-Some.brief (string_bytes c.in_ok-link.link.text)
    (search rules) (search rules) (search rules) (search rules) in
    subst (λ (e : Entry). IfOk c.print_carried-in-Some.result (λ (link : Link). link.sum ≡ sum_after sum e)) (sym same) c.print_carried-in-Some.ensures.sum
