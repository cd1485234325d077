use Rattle.std.proofs.Common.{◌≡◌, ◌∙◌, Some, sym, ap, filter, map, true, Bor}
use Rattle.std.specs.Option.{option_copied}
use Rattle.clr_rules.specs.Id.{same_id}
use Rattle.clr_rules.specs.Records.{is_switch_order, record_of}
use Rattle.clr_rules.specs.declared.step_row.StepRow.{StepRow}
use Rattle.clr_book.specs.Book.{Shelved}
use Rattle.clr_book.proofs.NearFacts.{points_shown, switched_found}
use Rattle.clr_book.proofs.book.Book.switched_in.Goals as goal

pub returns : goal.returns
returns g c =
    let R = c.args.self.now.register in
    let id = c.in-Some.id in
    let r = c.in-Some-get.record.now in
    let found : record_of R.records id ≡ Some r = sym (ap (λ (v : Shelved). record_of v.register.records id) c.self.view_is) ∙ sym c.get.ensures ∙ ap option_copied c.in-Some-get.is in
    let switches : is_switch_order r ≡ true = sym c.is_switch_order.ensures ∙ c.if-not-is_switch_order.false in
    let steps = ap (map (λ (row : Bor StepRow). row.now)) c.deref.ensures.value ∙ c.in_ok-steps.ensures ∙ ap (λ (v : Shelved). filter (λ row. same_id id row.id) v.register.steps) c.self.view_is in
    rw c.in-Some.is
    (c.in_ok-points.ensures ∙ points_shown (λ (row : Bor StepRow). row.now) c.deref.result.now ∙ switched_found R id r (map (λ row. row.now) c.deref.result.now) found switches steps)
