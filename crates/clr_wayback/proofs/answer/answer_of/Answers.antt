use Rattle.std.proofs.Common.{◌≡◌, ◌∙◌, Some, ap, rules, sym}
use Rattle.clr_rules.specs.Records.{record_of}
use Rattle.clr_wayback.proofs.OpenPart.{over_is_done}
use Rattle.clr_wayback.specs.declared.answer.WayBack.TheVariants.{Commands}
use Rattle.clr_wayback.proofs.answer.answer_of.Goals as goal

pub returns-in-Some : goal.returns-in-Some
returns-in-Some g c good =
    let R = c.args.book.now.register in
    let read : record_of R.records c.args.id.now ≡ Some c.in-Some.record.now = search rules in
    ap Commands (c.new-in-Some.ensures ∙ c.new.ensures.items) ∙ sym (over_is_done R c.args.id.now c.in-Some.record.now read (sym c.if-is_over.ensures))
